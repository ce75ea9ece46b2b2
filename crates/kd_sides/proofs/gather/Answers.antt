use Rattle.std.proofs.Common.{◌≡◌, ◌+◌, sym, ◌∙◌, arith}
use Rattle.index_image.proofs.Places.{place-room}
use Rattle.kd_dimension.proofs.Choosing.{place}
use Rattle.kd_sides.proofs.Parting.{gather_none, gather-room, gather-taken, gather-left}
use Rattle.kd_sides.proofs.gather.Goals.{After-get-e, then-wanted, else-wanted}
use Rattle.kd_sides.proofs.gather.Goals as goal

pub loop-i-init : goal.loop-i-init
loop-i-init g c = (omega arith, λ p a. gather_none _ _ _ _ _ _)

pub get-e-requires : goal.get-e-requires
get-e-requires g c =
    omega (arith, place-room c.args.image.now.bytes.now c.args.image.now.shape c.args.image.now.ready (c.args.lo + c.args.c) c.requires.lo_bound)

pub wanted-requires : goal.wanted-requires
wanted-requires g c =
    let e = place _ _ c.args.image.now.ready _ _ _ _ _ c.requires.lo_bound c.loop-i-test.true c.permutation_at.ensures c.get-e.ensures in
    c.requires.asked _ e.small

pub put-requires : goal.put-requires
put-requires g c =
    let R = c.args.image.now.ready in
    let e = place _ _ R _ _ _ _ _ c.requires.lo_bound c.loop-i-test.true c.permutation_at.ensures c.get-e.ensures in
    let t = c.requires.taken in
    gather-room _ _ _ _ _ _ _ _ _ _ _ R c.requires.lo_bound c.loop-i-test.true _ c.permutation_at.ensures c.get-e.ensures
    (c.loop-i.invariant.1 t.p t.says) (sym (t.says _ _ e.small c.wanted.ensures) ∙ c.if-wanted.true) t.room

pub loop-i-preserved : goal.loop-i-preserved
loop-i-preserved g c =
    let R = c.args.image.now.ready in
    let e = place _ _ R _ _ _ _ _ c.requires.lo_bound c.loop-i-test.true c.permutation_at.ensures c.get-e.ensures in
    let t = c.requires.taken in
    elim c.if-wanted.branch [
      | then-wanted w ↦ rw (w.out-is, w.n-is) (
        omega (arith, c.loop-i.invariant.0),
        λ p says.
            let room = gather-room _ _ _ _ _ _ _ _ _ _ _ R c.requires.lo_bound c.loop-i-test.true _ c.permutation_at.ensures c.get-e.ensures
            (c.loop-i.invariant.1 t.p t.says) (sym (t.says _ _ e.small c.wanted.ensures) ∙ w.if-wanted.true) t.room in
            gather-taken _ _ _ _ _ _ _ _ _ _ _ R c.requires.lo_bound c.loop-i-test.true _ c.permutation_at.ensures c.get-e.ensures
            (c.loop-i.invariant.1 p says) _ (sym (says _ _ e.small c.wanted.ensures) ∙ w.if-wanted.true) room w.put.auto.s w.put.ensures,
      )
      | else-wanted w ↦ rw (w.out-is, w.n-is) (
        omega (arith, c.loop-i.invariant.0),
        λ p says.
            gather-left _ _ _ _ _ _ _ _ _ _ _ R c.requires.lo_bound c.loop-i-test.true _ c.permutation_at.ensures c.get-e.ensures
            (c.loop-i.invariant.1 p says) (sym (says _ _ e.small c.wanted.ensures) ∙ w.if-wanted.false),
      )
    ]

pub returns : goal.returns
returns g c = λ p says.
    let i = c.loop-i.invariant.1 p says in
    let e : c.loop-i.i ≡ c.args.c = omega arith in
    record { count = rw e at i.count; bytes = rw e at i.bytes }
