use native.Mathlib.Omega.{arith}
use mathlib.Core.Path.{sym, ap, ◌∙◌}
use Rattle.monomial.specs.Monomial.{number, pow, power_of}
use Rattle.monomial.proofs.power_of.Goals as goal

pub returns-in_default : goal.returns-in_default
unfolding pow power_of
returns-in_default c = let p = ap (power_of (number c.args.kind)) (sym c.in_default.is ∙ c.find_power.ensures) in omega (arith, p, c.bias.ensures)

pub returns : goal.returns
unfolding pow power_of
returns c = ap (power_of (number c.args.kind)) (sym c.in-Found.is ∙ c.find_power.ensures)
