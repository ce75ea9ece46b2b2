use native.Mathlib.Omega.{arith}
use Rattle.monomial.proofs.Firsts.{starts-whole, first-whole}
use Rattle.kd_query.proofs.Standing.{number_small, map-good, all-written}
use Rattle.kd_query.proofs.pose.Goals as goal

pub div_map-requires : goal.div_map-requires
div_map-requires c =
    let image = c.args.image.now in
    rw (c.image.ensures.0, c.image.ensures.1) (map-good image.bytes.now image.shape image.head image.sound)

pub map_pair-masks-requires : goal.map_pair-masks-requires
map_pair-masks-requires c = rw (c.div_map.ensures.0, c.image.ensures.1) (starts-whole c.requires.canonical)

pub put_masks-requires : goal.put_masks-requires
put_masks-requires c = record { in_bounds = omega (arith, c.requires.in_bounds, c.limit.auto.q); search_bound = omega (arith, c.number.ensures, number_small c.args.search) }

pub returns : goal.returns
returns c =
    let image = c.args.image.now in
    all-written image.bytes.now c.args.m.now c.limit.new.q c.put_masks.new.q c.put_range.new.q
    c.put_slot.new.q c.lay.new.q image.shape image.head c.requires.canonical c.args.search c.number.result
    c.by_lm-lm.result c.map_pair-masks.result _ _ c.args.floor
    c.put_range.ensures.whole (omega (arith, c.requires.in_bounds, c.limit.auto.q)) c.number.ensures
    c.by_lm-lm.ensures c.limit.ensures (rw (c.div_map.ensures.0, c.div_map.ensures.1, c.image.ensures.0, c.image.ensures.1, first-whole c.requires.canonical) at c.map_pair-masks.ensures) c.put_masks.ensures c.put_range.ensures.q_after c.put_slot.ensures c.lay.ensures
