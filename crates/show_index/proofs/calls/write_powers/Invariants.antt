use Rattle.std.proofs.Common.{◌≤◌}
use Rattle.show_index.proofs.calls.write_powers.Given as goal

-- No more variables than powers.
abbrev pub invariant-loop-i : goal.invariant-loop-i
invariant-loop-i l = l.n ≤ l.i
