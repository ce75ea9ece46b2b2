use Rattle.std.proofs.Common.{◌≤◌}
use Rattle.label_cases.proofs.sound_words.Given as goal

abbrev pub invariant-loop-i : goal.invariant-loop-i
invariant-loop-i l = l.sound ≤ l.i
