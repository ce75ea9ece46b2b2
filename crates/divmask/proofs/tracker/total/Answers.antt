use native.Mathlib.Omega.{arith}
use Rattle.words.specs.Words.{words}
use Rattle.words.proofs.Laws.{length-words}
use Rattle.divmask.proofs.Growth.{total-step, total-all, total-high}
use Rattle.divmask.proofs.tracker.total.Goals as goal

pub loop-i-init : goal.loop-i-init
loop-i-init c = omega arith

pub get-sum-requires : goal.get-sum-requires
get-sum-requires c = omega (arith, length-words c.args.maxima.now, c.requires.one_each)

pub overflow_add-sum : goal.overflow_add-sum
overflow_add-sum c =
    let loop = c.loop-i in
    omega (
      arith,
      total-step (words c.args.maxima.now) loop.i loop.sum c.get-sum.result loop.invariant
          (omega (arith, length-words c.args.maxima.now, c.requires.one_each)) c.get-sum.ensures,
      total-high c.args.variables (words c.args.maxima.now) c.requires,
    )

pub loop-i-preserved : goal.loop-i-preserved
loop-i-preserved c =
    let loop = c.loop-i in
    total-step (words c.args.maxima.now) loop.i loop.sum c.get-sum.result loop.invariant
    (omega (arith, length-words c.args.maxima.now, c.requires.one_each)) c.get-sum.ensures

pub returns : goal.returns
returns c =
    let loop = c.loop-i in
    total-all (words c.args.maxima.now) loop.i loop.sum loop.invariant (omega (arith, length-words c.args.maxima.now, c.requires.one_each))
