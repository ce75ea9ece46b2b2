use Rattle.monomial.proofs.Firsts.{begins, seen, first-bytes, first-canonical}
use native.Mathlib.Omega.{arith}
use mathlib.Core.Path.{◌∙◌}
use Rattle.monomial.proofs.Walks.{falls}
use Rattle.monomial.proofs.Sums.{begin, fits, finished, powered, again}
use Rattle.monomial.proofs.ordered_ops.sum.Goals as goal

pub loop-op-init : goal.loop-op-init
loop-op-init c =
    begin c.args.op c.args.out.now (begins (omega arith) c.requires.starts) (begins (omega arith) c.requires.starts_2)

pub get-x-requires : goal.get-x-requires
get-x-requires c =
    omega (arith, fits c.loop-op.invariant c.requires.b_in_bounds, first-bytes 1 c.args.a.now)

pub get-y-requires : goal.get-y-requires
get-y-requires c =
    omega (arith, fits c.loop-op.invariant c.requires.b_in_bounds, first-bytes 1 c.args.b.now)

pub finish-requires : goal.finish-requires
finish-requires c =
    let loop = c.loop-op in
    let f = fits loop.invariant c.requires.b_in_bounds in
    (f.few, omega (arith, f))

pub returns-then-u-eq0 : goal.returns-then-u-eq0
returns-then-u-eq0 c =
    let finish = c.finish in
    let if1 = c.if-u-eq0 in
    let upper = c.upper-u in
    let get2 = c.get-y in
    let loop = c.loop-op in
    let f = finished loop.invariant c.requires.b_in_bounds (seen _ loop.invariant.ra c.get-x.ensures) (seen _ loop.invariant.rb get2.ensures) upper.ensures if1.true in record { r_value = finish.ensures.0 ∙ f.0; out_after = finish.ensures.1 ∙ f.1 }

pub meet-p-requires : goal.meet-p-requires
meet-p-requires c =
    let get2 = c.get-y in
    let get = c.get-x in
    let loop = c.loop-op in
    let p = powered loop.invariant c.requires.b_in_bounds (seen _ loop.invariant.ra get.ensures) (seen _ loop.invariant.rb get2.ensures)
    c.upper-u.ensures c.if-u-eq0.false (first-canonical (omega arith) c.requires.starts)
    (first-canonical (omega arith) c.requires.starts_2) in
    (rw c.power_at.ensures p.a_small, rw c.power_at-in-loop-op.ensures p.b-small)

pub push-n-requires : goal.push-n-requires
push-n-requires c =
    let power-at2 = c.power_at-in-loop-op in
    let power_at = c.power_at in
    let if1 = c.if-u-eq0 in
    let upper = c.upper-u in
    let get2 = c.get-y in
    let get = c.get-x in
    let loop = c.loop-op in
    let kind-of = c.kind_of-kind in
    let p = powered loop.invariant c.requires.b_in_bounds (seen _ loop.invariant.ra get.ensures) (seen _ loop.invariant.rb get2.ensures) upper.ensures
    if1.false (first-canonical (omega arith) c.requires.starts) (first-canonical (omega arith) c.requires.starts_2) in
    let f = fits loop.invariant c.requires.b_in_bounds in
    record {
      fields = (omega (arith, c.upper_id.ensures), rw (c.meet-p.ensures, power_at.ensures, power-at2.ensures) p.p-small);
      n_bound = (f.few, omega (arith, f));
    }

pub step-i-requires : goal.step-i-requires
step-i-requires c =
    omega (arith, fits c.loop-op.invariant c.requires.b_in_bounds, first-bytes 1 c.args.a.now)

pub step-j-requires : goal.step-j-requires
step-j-requires c =
    omega (arith, fits c.loop-op.invariant c.requires.b_in_bounds, first-bytes 1 c.args.b.now)

pub loop-op-smaller : goal.loop-op-smaller
loop-op-smaller c =
    let upper = c.upper-u in
    let get = c.get-x in
    let loop = c.loop-op in
    let f = fits loop.invariant c.requires.b_in_bounds in
    rw (c.step-i.ensures, c.step-j.ensures) (falls get.result c.get-y.result upper.result loop.i loop.j _ _ upper.ensures
    f.ia f.jb)

pub loop-op-preserved : goal.loop-op-preserved
loop-op-preserved c =
    let push = c.push-n in
    let upper-id = c.upper_id in
    let meet = c.meet-p in
    let if1 = c.if-u-eq0 in
    let upper = c.upper-u in
    let get2 = c.get-y in
    let get = c.get-x in
    let loop = c.loop-op in
    let kind-of = c.kind_of-kind in
    let d = rw (c.power_at.ensures, c.power_at-in-loop-op.ensures) at meet.ensures in
    let written = rw (kind-of.ensures, upper-id.ensures) at push.ensures.1 in
    rw (c.step-i.ensures, c.step-j.ensures) (again loop.invariant c.requires.b_in_bounds (seen _ loop.invariant.ra get.ensures)
    (seen _ loop.invariant.rb get2.ensures) upper.ensures if1.false d
    (rw kind-of.ensures at push.ensures.0) written)
