use mathlib.Core.Path.{◌≡◌}
use Prim.Native.Nat.{ℕ}
use native.Mathlib.Omega.{arith}
use Rattle.fast_compare.specs.Map.{State}
use Rattle.label_ranges.specs.Ended.{Halved}
use Rattle.label_ranges.proofs.Indexing.{from_is}
use Rattle.label_ranges.proofs.labels_from.Goals as goal

at-row : (l : State) (x p q : ℕ) → Halved l x p p → p ≡ q → Halved l x q q
at-row l x p q h e = rw e at h

pub returns-clause-from : goal.returns-clause-from
returns-clause-from c = λ l i. from_is l i.valid _ _ (at-row _ _ _ _ (c.rows_below.ensures l i) (omega arith)) _ (c.label_at.ensures.value l i)
