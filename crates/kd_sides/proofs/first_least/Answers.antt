use Rattle.std.proofs.Common.{◌+◌, arith}
use Rattle.index_image.proofs.Places.{place-room}
use Rattle.kd_dimension.proofs.Choosing.{place}
use Rattle.kd_sides.proofs.Parting.{lowest-none, lowest-more}
use Rattle.kd_sides.proofs.first_least.Goals as goal

pub loop-i-init : goal.loop-i-init
loop-i-init c = lowest-none _ _ c.requires.0 _ _

pub get-e-requires : goal.get-e-requires
get-e-requires c =
    omega (arith, place-room c.args.image.now.bytes.now c.args.image.now.shape c.args.image.now.ready (c.args.lo + c.args.c) c.requires.1)

pub lower-best-requires-clause-kind_value : goal.lower-best-requires-clause-kind_value
lower-best-requires-clause-kind_value c = (
  c.requires.0,
  (place _ _ c.args.image.now.ready _ _ _ _ _ c.requires.1 c.loop-i-test.true c.permutation_at.ensures c.get-e.ensures).small,
)

pub loop-i-preserved : goal.loop-i-preserved
loop-i-preserved c =
    lowest-more _ _ c.requires.0 _ _ _ _ _ _ _ _ c.args.image.now.ready c.requires.1 c.loop-i-test.true
    c.permutation_at.ensures c.get-e.ensures c.lower-best.ensures.value c.lower-best.ensures.bound c.loop-i.invariant
