use Rattle.std.proofs.Common.{◌≡◌, length}
use Rattle.show_index.proofs.many_inserts.Given as goal

abbrev pub invariant-loop-i : goal.invariant-loop-i
invariant-loop-i l = length l.calls.items ≡ l.i
