use Rattle.kd_query.proofs.Calling.{contained-posed}
use Rattle.kd_query.proofs.contained.Goals as goal

pub returns : goal.returns
returns c =
    contained-posed c.args.image.now.bytes.now c.args.image.now.shape c.args.image.now.head c.args.m.now _ c.requires.kind_value c.pose.ensures
