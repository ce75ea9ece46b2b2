use Rattle.refusals.specs.Numbers.{number}
use Rattle.divisor_index.proofs.Replying.{length-ok, length-err, length-small, length-one, length-is}
use mathlib.Core.Path.{ap, ◌∙◌}
use native.Mathlib.Omega.{arith}
use Rattle.divisor_index.proofs.divisor_index_length.Goals as goal

pub overflow_cast-result : goal.overflow_cast-result
overflow_cast-result c = let q = length-ok _ _ _ _ _ c.in-Ok.ensures in omega (arith, q.0, length-small _ _ _ _ q.1)

pub returns-in-Ok : goal.returns-in-Ok
returns-in-Ok c = let q = length-ok _ _ _ _ _ c.in-Ok.ensures in length-is _ _ _ _ q.1 _ q.0

pub returns-in-Err : goal.returns-in-Err
unfolding number
returns-in-Err c = let q = length-err _ _ _ _ _ c.in-Err.ensures in c.number.ensures ∙ ap number q.0 ∙ length-one _ _ _ _ q.1
