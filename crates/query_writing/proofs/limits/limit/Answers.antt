use Rattle.words.specs.Words.{words}
use Rattle.query_writing.proofs.Limiting.{pass_all}
use native.Mathlib.Omega.{arith}
use Rattle.query_writing.proofs.limits.limit.Goals as goal

pub set_powers-requires-clause-in_bounds : goal.set_powers-requires-clause-in_bounds
set_powers-requires-clause-in_bounds c = omega (arith, c.requires.in_bounds, c.pass_all.auto.q)

pub returns-then-lm : goal.returns-then-lm
returns-then-lm c = rw c.if-lm.true c.set_powers.ensures

pub returns-else-lm : goal.returns-else-lm
returns-else-lm c =
    rw c.if-lm.false (pass_all _ (words c.args.m.now) c.args.s c.pass_all.ensures)
