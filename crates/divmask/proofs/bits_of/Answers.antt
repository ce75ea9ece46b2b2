use native.Mathlib.Omega.{arith}
use borrow.Author.Tests.{lt-ltb, le-ltb}
use Rattle.divmask.proofs.bits_of.Goals as goal

pub returns-then-v-extra : goal.returns-then-v-extra
returns-then-v-extra c = rw (lt-ltb c.args.v c.args.extra (omega arith))

pub returns-else-v-extra : goal.returns-else-v-extra
returns-else-v-extra c = rw (le-ltb c.args.v c.args.extra (omega arith)) (omega arith)
