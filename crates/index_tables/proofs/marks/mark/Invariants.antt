use mathlib.Core.Path.{◌≡◌}
use lib.ListN.{length}
use Rattle.words.specs.Words.{words}
use Rattle.index_image.specs.Marks.{Marked}
use Rattle.index_tables.proofs.marks.mark.Given as goal

abbrev pub invariant-loop-i : goal.invariant-loop-i
invariant-loop-i l = (length l.seen ≡ length l.initial.seen) × Marked (words l.image) l.at l.w l.i l.seen
