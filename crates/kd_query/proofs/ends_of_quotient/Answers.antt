use native.Mathlib.Omega.{arith}
use mathlib.Core.Path.{sym}
use Rattle.monomial.specs.Operations.{result_words}
use Rattle.monomial.specs.declared.ordered_ops.Op.{Op}
use Rattle.index_image.proofs.Slots.{MadeAside}
use Rattle.words.specs.Words.{words}
use Rattle.kd_query.proofs.Calling.{ratio-fits, ratio-canonical, ratio-made, quotient-ends}
use Rattle.kd_query.proofs.ends_of_quotient.Goals.{After-fraction_division-n}
use Rattle.kd_query.proofs.ends_of_quotient.Goals as goal

-- the ratio in the scratch
made : (c : After-fraction_division-n) → MadeAside c.fraction_division-n.new.out
    (result_words Op.Ratio (words c.args.m.now) (words c.args.lm.now))
    c.fraction_division-n.result
made c =
    let f = c.fraction_division-n in
    ratio-made c.args.image.now.shape.variables c.args.image.now.head.range.vars-to (words c.args.m.now) (words c.args.lm.now) c.requires.canonical c.requires.canonical_2
    _ f.new.out f.result (omega (arith, c.args.image.now.head.range.vars-to)) f.ensures.value f.ensures.out_after

pub fraction_division-n-requires : goal.fraction_division-n-requires
fraction_division-n-requires c =
    let few = c.args.image.now.head.range.vars-to in
    let f = ratio-fits c.args.image.now.shape.variables few (words c.args.m.now) (words c.args.lm.now) c.requires.canonical c.requires.canonical_2 in record { starts = f.0; starts_2 = f.1.0; b_in_bounds = omega (arith, f.1.1, few) }

pub overflow_mul-e : goal.overflow_mul-e
overflow_mul-e c = omega (arith, (made (goal.at.overflow_mul-e c).After-fraction_division-n).room, c.fraction_division-n.auto.out)

pub slice_bounds-scratch-end : goal.slice_bounds-scratch-end
slice_bounds-scratch-end c = omega (arith, (made (goal.at.slice_bounds-scratch-end c).After-fraction_division-n).room)

pub slice_bounds-ends_of-end : goal.slice_bounds-ends_of-end
slice_bounds-ends_of-end c = sym (made (goal.at.slice_bounds-ends_of-end c).After-fraction_division-n).size

pub ends_of-requires : goal.ends_of-requires
ends_of-requires c =
    let a = words c.args.m.now in
    let l = words c.args.lm.now in record { kind_value = c.requires.kind_value; canonical = ratio-canonical c.args.image.now.shape.variables c.args.image.now.head.range.vars-to a l c.requires.canonical c.requires.canonical_2 _ (made (goal.at.ends_of-requires c).After-fraction_division-n).are }

pub returns : goal.returns
returns c =
    quotient-ends c.args.image.now.bytes.now c.args.index (words c.args.m.now) (words c.args.lm.now) _ c.ends_of.result.above c.ends_of.result.below (made (goal.at.returns c).After-fraction_division-n).are
    c.ends_of.ensures
