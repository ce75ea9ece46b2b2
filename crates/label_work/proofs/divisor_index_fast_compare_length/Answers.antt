use mathlib.Core.Path.{ap, ◌∙◌}
use native.Mathlib.Omega.{arith}
use Rattle.refusals.specs.Numbers.{number}
use Rattle.label_work.proofs.Replies.{length-ok, length-err, length-refused, length-served, length-small}
use Rattle.label_work.proofs.divisor_index_fast_compare_length.Goals as goal

pub overflow_cast-result : goal.overflow_cast-result
overflow_cast-result c = let q = length-ok _ _ _ c.in-Ok.ensures in omega (arith, q.0, length-small _ _ q.1)

pub returns-in-Ok : goal.returns-in-Ok
returns-in-Ok c = let q = length-ok _ _ _ c.in-Ok.ensures in q.0 ∙ length-served _ _ q.1

pub returns-in-Err : goal.returns-in-Err
unfolding number
returns-in-Err c = let q = length-err _ _ _ c.in-Err.ensures in c.number.ensures ∙ ap number q.0 ∙ length-refused _ _ q.1
