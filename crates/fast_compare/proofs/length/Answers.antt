use native.Mathlib.Omega.{arith}
use Rattle.fast_compare.proofs.Reading.{rows-small}
use Rattle.fast_compare.proofs.length.Goals as goal

pub overflow_mul-result : goal.overflow_mul-result
overflow_mul-result c = omega (arith, rows-small c.args.variables c.args.capacity (omega arith) (omega arith))

pub overflow_add-result-2 : goal.overflow_add-result-2
overflow_add-result-2 c = omega (arith, rows-small c.args.variables c.args.capacity (omega arith) (omega arith))

pub overflow_add-result-3 : goal.overflow_add-result-3
overflow_add-result-3 c = omega (arith, rows-small c.args.variables c.args.capacity (omega arith) (omega arith))

pub overflow_mul-result-2 : goal.overflow_mul-result-2
overflow_mul-result-2 c = omega (arith, rows-small c.args.variables c.args.capacity (omega arith) (omega arith))
