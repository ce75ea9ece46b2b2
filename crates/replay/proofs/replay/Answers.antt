use Rattle.std.proofs.Common.{arith, sym}
use lib.Seq.{length-take-le}
use Rattle.refusals.proofs.Small.{number_small}
use Rattle.replay.proofs.Few.{calls-few}
use Rattle.replay.proofs.replay.Goals as goal

pub refusal_word-word-requires : goal.refusal_word-word-requires
refusal_word-word-requires g c = omega (arith, c.number.ensures, number_small c.in-Err.e)

pub overflow_mul-n : goal.overflow_mul-n
overflow_mul-n g c = omega (arith, c.count-n.ensures, calls-few c.args.list.now c.requires)

pub slice_bounds-answers-end : goal.slice_bounds-answers-end
slice_bounds-answers-end g c =
    omega (arith, c.count-n.ensures, calls-few c.args.list.now c.requires, c.run.auto.answers)

pub slice_bounds-lines-end : goal.slice_bounds-lines-end
slice_bounds-lines-end g c =
    sym (length-take-le _ c.run.new.answers
    (omega (arith, c.count-n.ensures, calls-few c.args.list.now c.requires, c.run.auto.answers)))
