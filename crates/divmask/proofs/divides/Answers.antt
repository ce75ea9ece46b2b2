use native.Mathlib.Omega.{arith}
use Rattle.divmask.proofs.Masks.{tested-and, tested-not-and}
use Rattle.divmask.proofs.divides.Goals as goal

pub returns-then-a-b : goal.returns-then-a-b
returns-then-a-b c = tested-and c.args.a c.args.b (omega arith) c.if-a-b.true

pub returns-else-a-b : goal.returns-else-a-b
returns-else-a-b c = tested-not-and c.args.a c.args.b (omega arith) c.if-a-b.false
