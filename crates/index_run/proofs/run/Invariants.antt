use mathlib.Core.Path.{◌≡◌}
use lib.ListN.{length}
use Rattle.words.specs.Words.{words}
use Rattle.index_theory.specs.Calls.{calls}
use Rattle.word_reader.specs.Reading.{calls_left}
use Rattle.index_run.proofs.Running.{Running}
use Rattle.index_run.proofs.run.Given as goal

abbrev pub invariant-loop-i : goal.invariant-loop-i
invariant-loop-i l =
    (goal.iterator-loop-i).can_next l.i-iterator × (goal.iterator-loop-i).is_finite l.i-iterator
    × Running (calls (words l.list)) l.initial.image l.initial.out l.image l.out (calls_left l.i-iterator.iter) l.i-iterator.count
    × (length l.q ≡ 368)
