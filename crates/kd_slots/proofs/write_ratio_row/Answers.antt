use Rattle.words.specs.Words.{words}
use Rattle.kd_slots.proofs.Writing.{lent_short, mapped_between, ratio-row-written}
use Rattle.kd_slots.proofs.write_ratio_row.Goals as goal

pub write_masked-requires-2-clause-mapped : goal.write_masked-requires-2-clause-mapped
write_masked-requires-2-clause-mapped c =
    mapped_between c.args.image.now c.write_masked.new.image c.put.new.s c.args.s c.args.i _ (words c.args.lm.now)
    (record { mapped = c.requires.mapped; behind = c.requires.inside.0; inside = c.requires.inside.1 }) c.write_masked.auto.image c.put.auto.s c.write_masked.ensures c.put.ensures

pub returns : goal.returns
returns c =
    ratio-row-written c.args.image.now c.write_masked.new.image c.put.new.s c.args.s c.args.i _ (words c.args.lm.now)
    (record { mapped = c.requires.mapped; behind = c.requires.inside.0; inside = c.requires.inside.1 }) c.write_masked.auto.image c.put.auto.s c.write_masked.ensures (rw c.index_word.ensures at c.put.ensures)
    c.write_masked-2.new.image _ (words c.args.sign.now) c.args.row
    (lent_short c.args.s.variables c.args.sign.now c.requires.mapped.range.vars-to c.requires.sign_lent) (lent_short c.args.s.variables c.args.lm.now c.requires.mapped.range.vars-to c.requires.lm_lent)
    c.write_masked-2.ensures c.put-2.ensures
