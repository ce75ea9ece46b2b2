use Prim.Native.Nat.{ℕ, ◌<◌}
use Rattle.words.specs.Words.{words}
use Rattle.index_image.specs.Door.{EntryOk}
use Rattle.index_tables.proofs.entries.Judging.all_entries.Given as goal

abbrev pub invariant-loop-i : goal.invariant-loop-i
invariant-loop-i l = (j : ℕ) → j < l.i → EntryOk (words l.self.image.bytes.now) l.self.image.shape j
