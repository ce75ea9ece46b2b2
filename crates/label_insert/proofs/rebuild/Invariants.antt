use Rattle.label_insert.proofs.Respacing.{Respacing}
use Rattle.label_insert.proofs.rebuild.Given as goal

abbrev pub invariant-loop-k : goal.invariant-loop-k
invariant-loop-k l = Respacing l.initial.map l.map l.k
