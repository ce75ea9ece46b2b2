use native.Mathlib.Omega.{arith}
use Rattle.words.specs.Words.{word}
use Rattle.words.proofs.Laws.{words-at}
use Rattle.words.proofs.get.Goals as goal

pub returns : goal.returns
unfolding word
returns c =
    omega (arith, words-at c.args.s.now c.args.i (omega arith))
