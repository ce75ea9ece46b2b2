use Rattle.kd_query.proofs.Calling.{low-posed}
use Rattle.kd_query.proofs.low.Goals as goal

pub returns : goal.returns
returns c =
    low-posed c.args.image.now.bytes.now c.args.image.now.shape c.args.image.now.head c.args.m.now _ c.requires.kind_value c.args.index c.from_of-from.result
    c.from_of-to.result 0 c.from_of-from.ensures c.from_of-to.ensures c.pose.ensures
