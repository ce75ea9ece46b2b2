use mathlib.Core.Path.{◌∙◌}
use native.Mathlib.Omega.{arith}
use Rattle.words.specs.Words.{words}
use Rattle.monomial.proofs.Laws.{canonical-more}
use Rattle.index_image.proofs.Bounds.{size_small}
use Rattle.kd_descent.specs.Growing as growing
use Rattle.kd_theory.proofs.PlaceLaws.{place_inside}
use Rattle.kd_insert.proofs.Inserts.{hung-is}
use Rattle.kd_insert.proofs.insertion.hang.Goals as goal

pub lay-requires : goal.lay-requires
lay-requires c = canonical-more (omega arith) c.requires.mapped.range.vars-to c.requires.lent.canonical

pub overflow_add-at : goal.overflow_add-at
overflow_add-at c =
    let h = c.requires.hangs in
    omega (
      arith,
      c.permutation_at-at.ensures,
      (c.descend-p.ensures h.growth).0,
      place_inside (growing.keys h.growth) h.growth.entry h.growth.tree,
      h.all,
      size_small c.args.s c.requires.mapped.range,
      c.requires.entries_lt_capacity,
    )

pub insert-requires-clause-at_le_end : goal.insert-requires-clause-at_le_end
insert-requires-clause-at_le_end c =
    let h = c.requires.hangs in
    omega (arith, (c.descend-p.ensures h.growth).0, place_inside (growing.keys h.growth) h.growth.entry h.growth.tree, h.all)

pub returns : goal.returns
returns c =
    λ h. hung-is c.args.image.now c.descend-p.new.image c.insert.new.s _ c.args.s (words c.args.lm.now) c.args.label c.permutation_at-at.result c.descend-p.result h.growth
    c.requires.mapped h.all c.requires.entries_lt_capacity c.permutation_at-at.ensures (c.descend-p.ensures h.growth).0 (c.descend-p.ensures h.growth).1 c.insert.ensures c.put.ensures
    (c.insert.auto.s ∙ c.descend-p.auto.image)
