use native.Mathlib.Omega.{arith}
use Rattle.fast_compare.proofs.Rising.{spaced-top}
use Rattle.label_insert.proofs.spaced.Goals as goal

pub overflow_cast-result : goal.overflow_cast-result
overflow_cast-result c = omega (arith, spaced-top c.args.n c.args.k c.requires.0)
