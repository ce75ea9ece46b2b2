use Rattle.divisor_index.proofs.Replying.{told-one, length-ok, length-err, open-one, open-two, open-served, one-kind, sizes, maxima}
use Rattle.index_image.proofs.Shapes.{empty-range}
use Rattle.refusals.specs.Numbers.{told, number}
use mathlib.Core.Path.{◌∙◌}
use native.Mathlib.Omega.{arith}
use Rattle.divisor_index.proofs.Opening.open.Goals as goal

pub open_tables-requires : goal.open_tables-requires
open_tables-requires c =
    let q = length-ok _ _ _ _ _ c.in_ok-n.ensures in
    let m = maxima _ _ _ _ q.1 in
    record {
      in_range = empty-range _ _ _ (one-kind _ _ _ _ q.1) (sizes _ _ _ _ q.1);
      s_in_bounds = omega (arith, c.if-image-n.false, q.0);
      maxima = m.1;
      maxima_len = m.0;
    }

pub returns-then-image-n : goal.returns-then-image-n
unfolding told number
returns-then-image-n c =
    let q = length-ok _ _ _ _ _ c.in_ok-n.ensures in
    let all = open-two _ _ _ _ q.1 _ (omega (arith, c.if-image-n.true, q.0)) in
    record { value = all.0; image_after = all.1 }

pub returns : goal.returns
unfolding told
returns c =
    let q = length-ok _ _ _ _ _ c.in_ok-n.ensures in
    let all = open-served _ _ _ _ q.1 _ _ (omega (arith, c.if-image-n.false, q.0)) c.open_tables.ensures in
    record { value = all.0; image_after = all.1 }

pub returns-in_err-n-clause-value : goal.returns-in_err-n-clause-value
returns-in_err-n-clause-value c =
    let q = length-err _ _ _ _ _ c.in_err-n.ensures in
    told-one _ _ c.from_residual.ensures.1 q.0 ∙ (open-one _ _ _ _ _ q.1).0

pub returns-in_err-n-clause-image_after : goal.returns-in_err-n-clause-image_after
returns-in_err-n-clause-image_after c = let q = length-err _ _ _ _ _ c.in_err-n.ensures in (open-one _ _ _ _ _ q.1).1
