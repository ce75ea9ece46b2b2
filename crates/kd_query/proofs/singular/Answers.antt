use Rattle.words.specs.Words.{words}
use Rattle.kd_query.proofs.Calling.{singular-posed}
use Rattle.kd_query.proofs.singular.Goals as goal

pub returns : goal.returns
returns c =
    singular-posed c.args.image.now.bytes.now c.args.image.now.shape c.args.image.now.head c.args.m.now _ c.requires.kind_value c.args.index (words c.args.lm.now)
    c.ends_of_quotient-ends.result.above c.ends_of_quotient-ends.result.below c.from_of-next.result 0 c.ends_of_quotient-ends.ensures c.from_of-next.ensures c.pose.ensures
