use native.Mathlib.Omega.{arith}
use Rattle.refusals.proofs.Small.{number_small}
use Rattle.index_run.proofs.word.Goals as goal

pub refusal_word-requires : goal.refusal_word-requires
refusal_word-requires c = omega (arith, c.number.ensures, number_small c.in-Err.e)
