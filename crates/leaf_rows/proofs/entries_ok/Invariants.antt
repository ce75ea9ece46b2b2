use Prim.Native.Nat.{ℕ, ◌+◌, ◌<◌, ◌≤◌}
use lib.ListN.{get_or}
use Rattle.words.specs.Words.{words}
use Rattle.leaf_rows.specs.Leaves.{Inside}
use Rattle.leaf_rows.proofs.entries_ok.Given as goal

abbrev pub invariant-loop-i : goal.invariant-loop-i
invariant-loop-i l = (l.i ≤ l.c) × ((k : ℕ) → k < l.i → Inside (words l.image.bytes.now) l.image.shape (words l.hi) l.labels.start l.labels.end (get_or (words l.image.bytes.now) (l.p + k) 0))
