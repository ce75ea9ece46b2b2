use native.Mathlib.Omega.{arith}
use mathlib.Core.Path.{◌∙◌}
use Rattle.words.specs.Words.{words}
use Rattle.index_image.specs.Walk.{map_maxima}
use Rattle.divmask.proofs.Masks.{mask-whole}
use Rattle.kd_slots.proofs.Writing.{gcd-written}
use Rattle.kd_slots.proofs.write_gcd.Goals as goal

pub returns : goal.returns
returns c =
    let x = rw (c.div_map.ensures.0, c.div_map.ensures.1) at c.map-mask.ensures ∙ mask-whole (map_maxima (words c.args.image.now) c.args.s) c.requires.lent.canonical in
    gcd-written c.args.image.now c.args.at c.args.s.variables (map_maxima (words c.args.image.now) c.args.s) (words c.args.gcd.now) c.put.new.s _ c.map-mask.result
    (omega (arith, c.requires.mapped.room, c.requires.inside)) x c.put.ensures c.write_slot.ensures
