use Rattle.kd_slots.proofs.Writing.{slot-written}
use Rattle.kd_slots.proofs.write_slot.Goals as goal

pub returns : goal.returns
returns c = slot-written c.args.image.now c.args.i c.args.variables c.args.monomial.now c.paste.new.s _ c.requires.variables_bound c.requires.lent c.requires.inside c.paste.ensures c.clear.ensures
