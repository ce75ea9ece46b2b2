use Rattle.std.proofs.Common.{arith, ◌≡◌, ◌+◌, ◌/◌}
use Rattle.kd_dimension.proofs.Choosing.{tried-none, tried-more, tried-hit, tried-all, extremes-small, key-small}
use Rattle.kd_dimension.proofs.choose.Goals as goal

pub loop-i-init : goal.loop-i-init
loop-i-init c = tried-none _ _ _ _ _

pub overflow_add-least : goal.overflow_add-least
overflow_add-least c =
    omega (arith, extremes-small _ _ _ _ _ _ (key-small c.args.image.now c.args.s (λ j. (c.type_inv.image j).fits)) c.extremes-least.ensures.0 c.extremes-least.ensures.1)

pub overflow_cast-result : goal.overflow_cast-result
overflow_cast-result c =
    omega (arith, extremes-small _ _ _ _ _ _ (key-small c.args.image.now c.args.s (λ j. (c.type_inv.image j).fits)) c.extremes-least.ensures.0 c.extremes-least.ensures.1, c.div_ceil.ensures)

pub returns-then-least-greatest : goal.returns-then-least-greatest
returns-then-least-greatest c =
    let half : c.div_ceil.result ≡ (c.extremes-least.result.0 + c.extremes-least.result.1 + 1) / 2 = omega (arith, c.div_ceil.ensures) in
    rw half (tried-hit _ _ _ _ _ _ _ _ c.loop-i-test.true (omega arith) c.extremes-least.ensures.0 c.extremes-least.ensures.1 c.if-least-greatest.true c.loop-i.invariant)

pub loop-i-preserved : goal.loop-i-preserved
loop-i-preserved c = tried-more _ _ _ _ _ _ _ _ c.loop-i-test.true c.extremes-least.ensures.0 c.extremes-least.ensures.1 c.if-least-greatest.false c.loop-i.invariant

pub returns : goal.returns
returns c = tried-all _ _ _ _ _ _ (omega arith) c.loop-i.invariant
