use Rattle.std.proofs.Common.{◌+◌, arith}
use Rattle.index_image.proofs.Places.{place-room}
use Rattle.kd_dimension.proofs.Choosing.{place, extremes-one, extremes-more}
use Rattle.kd_dimension.proofs.extremes.Goals as goal

pub get-requires : goal.get-requires
get-requires c =
    omega (arith, place-room c.args.image.now.bytes.now c.args.image.now.shape c.args.image.now.ready (c.args.lo + c.args.c) c.requires.1.0)

pub loop-i-init : goal.loop-i-init
loop-i-init c =
    extremes-one _ _ c.args.image.now.ready _ _ _ _ c.requires.1.0 c.permutation_at.ensures _ _ c.requires.1.1
    c.get.ensures c.key_in-first.ensures

pub get-requires-in-loop-i : goal.get-requires-in-loop-i
get-requires-in-loop-i c =
    omega (arith, place-room c.args.image.now.bytes.now c.args.image.now.shape c.args.image.now.ready (c.args.lo + c.args.c) c.requires.1.0)

pub key_in-x-requires : goal.key_in-x-requires
key_in-x-requires c = (
  c.requires.0,
  (place _ _ c.args.image.now.ready _ _ _ _ _ c.requires.1.0 c.loop-i-test.true c.permutation_at.ensures c.get-in-loop-i.ensures).small,
)

pub loop-i-preserved : goal.loop-i-preserved
loop-i-preserved c =
    extremes-more _ _ c.args.image.now.ready _ _ _ _ c.requires.1.0 c.permutation_at.ensures _ _ _ _ _ _ _ c.loop-i-test.true
    c.get-in-loop-i.ensures c.key_in-x.ensures c.loop-i.invariant c.min-least.ensures c.max-greatest.ensures
