use Prim.Native.Nat.{◌≤◌}
use lib.ListN.{length}
use mathlib.Core.Path.{◌≡◌}
use Rattle.query_writing.proofs.Limiting.{AllPass}
use Rattle.query_writing.proofs.limits.pass_all.Given as goal

abbrev pub invariant-loop-v : goal.invariant-loop-v
invariant-loop-v l = ((l.v ≤ l.s.variables) × (length l.q ≡ length l.initial.q)) × AllPass l.q l.s l.v
