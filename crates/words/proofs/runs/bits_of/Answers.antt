use native.Mathlib.Omega.{arith}
use Rattle.words.specs.Words.{words}
use Rattle.words.proofs.Laws.{length-words}
use Rattle.words.proofs.Tables.{bits_none, bits-more}
use Rattle.words.proofs.runs.bits_of.Goals as goal

pub loop-i-init : goal.loop-i-init
loop-i-init c = bits_none (words c.args.s.now) c.args.at

pub loop-i-preserved : goal.loop-i-preserved
loop-i-preserved c =
    let loop = c.loop-i in
    bits-more (words c.args.s.now) c.args.at loop.i loop.bits c.get-bits.result (omega (arith, length-words c.args.s.now)) c.get-bits.ensures loop.invariant
