use native.Mathlib.Omega.{arith}
use mathlib.Core.Path.{◌≡◌, sym, ◌∙◌}
use Prim.Native.Nat.{ℕ, ◌+◌, ◌*◌, ◌≤◌}
use Rattle.std.proofs.Common.{Some}
use Rattle.words.specs.Words.{words}
use Rattle.monomial.specs.Monomial.{some_words}
use Rattle.monomial.proofs.Canon.{some-told}
use Rattle.fast_compare.specs.Layout.{ratio_words}
use Rattle.fast_compare.proofs.Images.{ratio-within}
use lib.ListN.{length}
use Rattle.label_sound.proofs.Checks.{row_inside}
use Rattle.label_sound.proofs.Tables.row_ok.Goals.{In-Some}
use Rattle.label_sound.proofs.Tables.row_ok.Goals as goal

-- the ratio's words are of the row
few : (c : In-Some) → c.in-Some.n ≤ c.args.self.now.variables + 1
few c =
    let e : Some c.in-Some.n ≡ some_words (ratio_words (words c.args.self.now.map.now) c.args.self.now.variables (c.row_at-at.result + 1)) = sym c.in-Some.is ∙ c.canonical_words.ensures in
    let n = some-told _ _ e in
    let s = (ratio-within (words c.args.self.now.map.now) c.args.self.now.variables (c.row_at-at.result + 1) (omega arith) (λ z. absurd (let y : ◌≡◌ {A = ℕ} 0 1 = let w = rw z at e in cc in omega arith))).0 in
    omega arith

-- and it stands within the map
inside : (c : In-Some) → let t = c.args.self.now in 4 * (c.row_at-at.result + (t.variables + 3)) ≤ length t.map.now
inside c = omega (arith, row_inside c.args.self.now.variables c.args.self.now.capacity c.args.i (omega arith))

pub overflow_add-at-in-Some-2 : goal.overflow_add-at-in-Some-2
overflow_add-at-in-Some-2 c =
    let k = (goal.at.overflow_add-at-in-Some-2 c).In-Some in
    omega (arith, few k, inside k)

pub overflow_sub-m : goal.overflow_sub-m
overflow_sub-m c = few (goal.at.overflow_sub-m c).In-Some

pub is_blank-requires : goal.is_blank-requires
is_blank-requires c =
    let k = (goal.at.is_blank-requires c).In-Some in
    omega (arith, few k, inside k)
