use native.Mathlib.Omega.{arith}
use Rattle.kd_slots.proofs.Writing.{masked-written}
use Rattle.monomial.proofs.Firsts.{first-whole}
use Rattle.kd_slots.proofs.write_masked.Goals as goal

pub returns : goal.returns
returns c =
    let x = rw (c.div_map.ensures.0, c.div_map.ensures.1, first-whole c.requires.lent.canonical) at c.map_pair-masks.ensures in
    masked-written c.args.image.now c.args.s c.args.i _ c.args.monomial.now _ _ c.requires.mapped c.requires.lent c.requires.inside (omega (arith, x)) c.write_slot.ensures c.put.ensures
