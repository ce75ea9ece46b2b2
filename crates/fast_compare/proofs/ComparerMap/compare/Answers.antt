use native.Mathlib.Omega.{arith}
use Rattle.monomial.proofs.Firsts.{starts-whole, first-whole}
use mathlib.Core.Path.{◌≡◌, sym, ◌∙◌, ap}
use Prim.Native.Nat.{ℕ, ◌+◌, ◌*◌, ◌≤◌, ◌<◌}
use lib.ListN.{length, get_or}
use Rattle.words.specs.Kinds.{payload}
use Rattle.words.specs.Words.{words}
use Rattle.fast_compare.specs.Map.{Value, value_of, cmp}
use Rattle.fast_compare.specs.Layout.{row_at, value_at}
use Rattle.fast_compare.proofs.Exact.{sound-known, count_of}
use Rattle.fast_compare.proofs.Scans.{row_fits, cmp-index, value-index}
use Rattle.fast_compare.proofs.Reading.{HeadOf, head, row-used, value-of, ratio-of, has-ratio}
use Rattle.fast_compare.proofs.ComparerMap.compare.Goals.{Start}
use Rattle.fast_compare.proofs.ComparerMap.compare.Goals as goal

facts : (s : Start) (v : ℕ) → v ≡ get_or (words s.args.self.now.bytes.now) 1 0 → s.args.row * (v + 3) ≤ 274432
facts s v e =
    let h : HeadOf s.args.self.now.bytes.now = head s.args.self.now.bytes.now (sound-known s.args.self.now.sound) in
    let u = row-used (get_or (words s.args.self.now.bytes.now) 1 0) (get_or (words s.args.self.now.bytes.now) 3 0) s.args.row s.requires.row_bound in
    rw e (omega (arith, h.rows, h.used))

fits : (s : Start) (v : ℕ) → v ≡ get_or (words s.args.self.now.bytes.now) 1 0 → 4 * (4 + s.args.row * (v + 3) + 2) ≤ length s.args.self.now.bytes.now
fits s v e = rw e (row_fits s.args.self.now.bytes.now _ (has-ratio s.args.self.now.bytes.now (sound-known s.args.self.now.sound) s.args.row s.requires.row_bound))

pub overflow_mul-at : goal.overflow_mul-at
overflow_mul-at c = omega (arith, facts (goal.at.overflow_mul-at c).Start c.get-variables.result c.get-variables.ensures)

pub overflow_add-at-2 : goal.overflow_add-at-2
overflow_add-at-2 c = omega (arith, facts (goal.at.overflow_add-at-2 c).Start c.get-variables.result c.get-variables.ensures)

pub get-requires : goal.get-requires
get-requires c = omega (arith, fits (goal.at.get-requires c).Start c.get-variables.result c.get-variables.ensures)

pub returns-then-i-index : goal.returns-then-i-index
returns-then-i-index c = λ st i. let l : c.args.row < length st.rows = omega (arith, c.requires.row_bound, count_of c.args.self.now.bytes.now st i) in
    let W = words c.args.self.now.bytes.now in
    let m = get_or W 1 0 in
    let q = value_of c.args.index (words c.args.ratio.now) in
    let x : c.payload-i.result ≡ (value_at W m (row_at m c.args.row)).index = c.payload-i.ensures ∙ ap payload (rw c.get-variables.ensures at c.get.ensures) ∙ sym (value-index W m (row_at m c.args.row)) in
    c.cmp.ensures ∙ rw x (cmp-index (value_at W m (row_at m c.args.row)) q (λ e. c.if-i-index.true (x ∙ e))) ∙ ap (λ (y : Value). cmp y q) (value-of c.args.self.now.bytes.now st i c.args.row l)

pub total_at-s-requires : goal.total_at-s-requires
total_at-s-requires c = rw c.get-variables.ensures (has-ratio c.args.self.now.bytes.now (sound-known c.args.self.now.sound) c.args.row c.requires.row_bound)

pub compare_at-requires : goal.compare_at-requires
compare_at-requires c = record { has_ratio = rw c.get-variables.ensures (has-ratio c.args.self.now.bytes.now (sound-known c.args.self.now.sound) c.args.row c.requires.row_bound); total_at = c.total_at-s.ensures; starts = starts-whole c.requires.canonical; total_of = rw (first-whole c.requires.canonical) c.requires.total_of }

pub returns : goal.returns
returns c = λ st i. let l : c.args.row < length st.rows = omega (arith, c.requires.row_bound, count_of c.args.self.now.bytes.now st i) in
    let z = rw (c.get-variables.ensures, first-whole c.requires.canonical) at c.compare_at.ensures in
    let q = value_of c.args.index (words c.args.ratio.now) in
    z (get_or (words c.args.self.now.bytes.now) 1 0) (ratio-of c.args.self.now.bytes.now st i c.args.row l) ∙ ap (λ (x : Value). cmp x q)
    (value-of c.args.self.now.bytes.now st i c.args.row l)
