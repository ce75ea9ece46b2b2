use mathlib.Core.Path.{sym, ◌∙◌}
use native.Mathlib.Omega.{arith}
use Rattle.words.specs.Words.{words}
use Rattle.monomial.proofs.Firsts.{starts-wide, first-canonical}
use Rattle.monomial.proofs.Laws.{canonical-more}
use Rattle.kd_descent.proofs.Writing.{gcd-stays}
use Rattle.kd_descent.proofs.meet.Goals as goal

pub divides-requires-clause-starts : goal.divides-requires-clause-starts
divides-requires-clause-starts c = starts-wide c.monomial_from.ensures.starts

pub divides-requires-clause-canonical : goal.divides-requires-clause-canonical
divides-requires-clause-canonical c = canonical-more (omega arith) c.requires.mapped.range.vars-to (first-canonical (omega arith) c.monomial_from.ensures.starts)

pub returns-else-not-divides : goal.returns-else-not-divides
returns-else-not-divides c =
    gcd-stays c.args.image.now c.args.s c.args.at (words c.args.lm.now.monomial.now) (λ j. grind arith) c.requires.mapped c.requires.row c.requires.canonical
    (sym (rw c.monomial_from.ensures.is at (c.divides.ensures (words c.args.lm.now.monomial.now) c.args.lm.now.laid)) ∙ c.if-not-divides.false)
