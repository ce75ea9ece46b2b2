use native.Mathlib.Omega.{arith}
use Rattle.divmask.proofs.Digits.{both-within}
use Rattle.divmask.proofs.pairs.within.Goals as goal

pub returns : goal.returns
returns c = both-within c.args.a c.args.b (omega arith)
