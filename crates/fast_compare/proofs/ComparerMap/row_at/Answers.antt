use Rattle.fast_compare.specs.Labels.{sorted}
use Rattle.fast_compare.specs.Map.{cmp, value}
use native.Mathlib.Omega.{arith}
use mathlib.Core.Path.{◌≡◌, ◌∙◌}
use Prim.Native.Nat.{ℕ, ◌+◌, ◌*◌, ◌≤◌, ◌<◌}
use lib.ListN.{length, get_or}
use Rattle.words.specs.Words.{words}
use Rattle.fast_compare.proofs.Exact.{sound-known, count_of}
use Rattle.fast_compare.proofs.Reading.{HeadOf, head, place_at, place_inside}
use Rattle.fast_compare.proofs.ComparerMap.row_at.Goals.{Start}
use Rattle.fast_compare.proofs.ComparerMap.row_at.Goals as goal

facts : (s : Start) (v c : ℕ) → v ≡ get_or (words s.args.self.now.bytes.now) 1 0 → c ≡ get_or (words s.args.self.now.bytes.now) 2 0
    → ((c * (v + 3) ≤ 274432) × (s.args.position < c)) × ((16 + 4 * (c * (v + 3)) + 4 * c ≤ length s.args.self.now.bytes.now) × (c ≤ 4096))
facts s v c e g =
    let h : HeadOf s.args.self.now.bytes.now = head s.args.self.now.bytes.now (sound-known s.args.self.now.sound) in
    rw (e, g) ((h.rows, omega (arith, s.requires.position_bound, h.few)), (h.room, h.cap))

pub overflow_mul-capacity : goal.overflow_mul-capacity
overflow_mul-capacity c = omega (arith, facts (goal.at.overflow_mul-capacity c).Start c.get-variables.result c.get-capacity.result c.get-variables.ensures c.get-capacity.ensures)

pub overflow_add-capacity : goal.overflow_add-capacity
overflow_add-capacity c = omega (arith, facts (goal.at.overflow_add-capacity c).Start c.get-variables.result c.get-capacity.result c.get-variables.ensures c.get-capacity.ensures)

pub overflow_add-capacity-2 : goal.overflow_add-capacity-2
overflow_add-capacity-2 c = omega (arith, facts (goal.at.overflow_add-capacity-2 c).Start c.get-variables.result c.get-capacity.result c.get-variables.ensures c.get-capacity.ensures)

pub get-requires : goal.get-requires
get-requires c = omega (arith, facts (goal.at.get-requires c).Start c.get-variables.result c.get-capacity.result c.get-variables.ensures c.get-capacity.ensures)

pub returns : goal.returns
returns c =
    λ st i. let l : c.args.position < length st.rows = omega (arith, c.requires.position_bound, count_of c.args.self.now.bytes.now st i) in
    let e : c.get.result ≡ get_or (sorted cmp (value st.rows) (length st.rows)) c.args.position 0 = c.get.ensures ∙
    rw (c.get-variables.ensures, c.get-capacity.ensures) (place_at c.args.self.now.bytes.now st i c.args.position l) in
    (rw e (place_inside c.args.self.now.bytes.now st i c.args.position l), e)
