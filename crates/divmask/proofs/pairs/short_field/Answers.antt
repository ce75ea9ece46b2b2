use lib.Pow.{pow_pos}
use native.Mathlib.Omega.{arith}
use Rattle.divmask.proofs.Parts.{ones}
use Rattle.divmask.proofs.Vectors.{short-is}
use Rattle.divmask.proofs.pairs.short_field.Goals as goal

pub overflow_sub-result : goal.overflow_sub-result
overflow_sub-result c = omega (arith, ones c.min.result (omega arith), pow_pos c.min.result)

pub returns : goal.returns
returns c = short-is c.args.bits c.args.power c.min.result c.requires (omega arith)
