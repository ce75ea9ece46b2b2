use Rattle.words.specs.Words.{words}
use Rattle.fast_compare.specs.Map.{value_of}
use Rattle.kd_query.proofs.Calling.{high-posed}
use Rattle.kd_query.proofs.high.Goals as goal

pub returns : goal.returns
returns c =
    high-posed c.args.image.now.bytes.now c.args.image.now.shape c.args.image.now.head c.args.m.now _ c.requires.kind_value
    (value_of c.args.index (words c.args.ratio.now)) c.ends_of-e.result.above c.ends_of-e.result.below 0 c.ends_of-e.ensures c.pose.ensures
