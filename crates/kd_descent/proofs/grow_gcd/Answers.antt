use Rattle.words.specs.Words.{words}
use Rattle.kd_descent.proofs.Writing.{first-gcd, other-gcd}
use Rattle.kd_descent.proofs.grow_gcd.Goals as goal

pub returns-then-c-eq0 : goal.returns-then-c-eq0
returns-then-c-eq0 c = rw (← first-gcd (words c.args.image.now) c.args.s.variables c.args.at c.args.c (words c.args.lm.now.monomial.now) c.if-c-eq0.true) c.write_gcd.ensures

pub returns-else-c-eq0 : goal.returns-else-c-eq0
returns-else-c-eq0 c = rw (← other-gcd (words c.args.image.now) c.args.s.variables c.args.at c.args.c (words c.args.lm.now.monomial.now) c.if-c-eq0.false) c.meet.ensures
