use mathlib.Core.Path.{◌≡◌, ◌∙◌, ap, sym}
use Prim.Native.Nat.{ℕ, ◌+◌}
use lib.ListN.{length}
use Rattle.std.proofs.Common.{Err}
use Rattle.fast_compare.specs.Labels as Labels
use Rattle.fast_compare.specs.Map as Map
use Rattle.fast_compare.specs.Map.{State, Value, value, cmp, place}
use Rattle.fast_compare.specs.Layout.{Is}
use Rattle.fast_compare.proofs.Giving.{before-place, lowest-none, lowest-at, highest-none, highest-at}
use Rattle.label_insert.proofs.free_labels.Goals.{After-count, then-p-eq0, else-p-eq0}
use Rattle.label_insert.proofs.free_labels.Goals as goal

start-is : (c : After-count) (st : State) → Is st c.args.map.now.bytes.now → (q : Value) → Err c.args.p ≡ place st.rows q
    → c.if-p-eq0.start ≡ Labels.lowest cmp (value st.rows) (Map.label st.rows) (length st.rows) q
start-is c st i q e =
    let z = before-place st q c.args.p e in
    elim c.if-p-eq0.branch [
      | then-p-eq0 w ↦ w.start-is ∙ lowest-none st q i.valid (sym w.if-p-eq0.true ∙ z.place_is)
      | else-p-eq0 w ↦ w.start-is ∙ ap (λ (x : ℕ). x + 1) (w.from.ensures ∙ w.label_at.ensures st i) ∙ lowest-at st q i.valid c.args.p z.place_is w.if-p-eq0.false
    ]

pub returns-then-p-count-clause-start : goal.returns-then-p-count-clause-start
returns-then-p-count-clause-start c = start-is (goal.at.returns-then-p-count-clause-start c).After-count

pub returns-then-p-count-clause-end : goal.returns-then-p-count-clause-end
returns-then-p-count-clause-end c = λ st i q e.
    let z = before-place st q c.args.p e in
    highest-none st q i.valid z.is (sym (c.count.ensures.value_2 st i) ∙ sym c.if-p-count.true ∙ z.place_is)

pub returns-else-p-count-clause-start : goal.returns-else-p-count-clause-start
returns-else-p-count-clause-start c = start-is (goal.at.returns-else-p-count-clause-start c).After-count

pub returns-else-p-count-clause-end : goal.returns-else-p-count-clause-end
returns-else-p-count-clause-end c = λ st i q e.
    let z = before-place st q c.args.p e in
    c.from-end.ensures ∙ c.label_at-else-p-count.ensures st i ∙ highest-at st q i.valid z.is c.args.p z.place_is (λ y. c.if-p-count.false (y ∙ sym (c.count.ensures.value_2 st i)))
