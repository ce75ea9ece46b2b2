use mathlib.Core.Path.{refl, sym}
use native.Mathlib.Omega.{arith}
use Rattle.words.specs.Words.{words}
use Rattle.monomial.specs.Operations.{result_words}
use Rattle.monomial.specs.declared.ordered_ops.Op.{Op}
use Rattle.monomial.proofs.Firsts.{starts-wide, starts-whole, first-whole}
use Rattle.monomial.proofs.Laws.{canonical-more, length-result}
use Rattle.index_image.proofs.Slots.{MadeAside, made-aside}
use Rattle.kd_labelling.proofs.Parts.{ratio-good, as-quotient}
use Rattle.kd_labelling.proofs.label_entry.Goals.{After-fraction_division-n}
use Rattle.kd_labelling.proofs.label_entry.Goals as goal

-- the ratio in the array
ratio : (c : After-fraction_division-n) → MadeAside c.fraction_division-n.new.out (result_words Op.Ratio (words c.args.sign.now) (words c.args.lm.now)) c.fraction_division-n.result
ratio c =
    let r = c.requires in
    let f = c.fraction_division-n in
    made-aside Op.Ratio _ _ _ f.new.out f.result (canonical-more (omega arith) r.in_range.vars-to r.canonical) (canonical-more (omega arith) r.in_range.vars-to r.canonical_2) refl
    (rw (first-whole r.canonical, first-whole r.canonical_2) at f.ensures.value) (rw (first-whole r.canonical, first-whole r.canonical_2) at f.ensures.out_after)

pub fraction_division-n-requires : goal.fraction_division-n-requires
fraction_division-n-requires c =
    let r = c.requires in record {
      starts = starts-wide (starts-whole r.canonical);
      starts_2 = starts-wide (starts-whole r.canonical_2);
      b_in_bounds = rw (first-whole r.canonical, first-whole r.canonical_2)
          (omega (
            arith,
            length-result 64 (words c.args.sign.now) (words c.args.lm.now)
                (canonical-more (omega arith) r.in_range.vars-to r.canonical) (canonical-more (omega arith) r.in_range.vars-to r.canonical_2) Op.Ratio (omega arith),
          ));
    }

pub overflow_mul-made : goal.overflow_mul-made
overflow_mul-made c = omega (arith, (ratio (goal.at.overflow_mul-made c).After-fraction_division-n).room, c.fraction_division-n.auto.out)

pub slice_bounds-made-end : goal.slice_bounds-made-end
slice_bounds-made-end c = (ratio (goal.at.slice_bounds-made-end c).After-fraction_division-n).room

pub slice_bounds-label_ratio-end : goal.slice_bounds-label_ratio-end
slice_bounds-label_ratio-end c = sym (ratio (goal.at.slice_bounds-label_ratio-end c).After-fraction_division-n).size

pub label_ratio-requires-clause-good : goal.label_ratio-requires-clause-good
label_ratio-requires-clause-good c =
    let r = c.requires in
    rw (ratio (goal.at.label_ratio-requires-clause-good c).After-fraction_division-n).are
    (ratio-good c.args.s.variables c.args.index (words c.args.sign.now) (words c.args.lm.now) r.in_range.vars-to r.index_bound r.canonical r.canonical_2)

pub returns : goal.returns
returns c = λ l m.
    as-quotient c.args.s l c.args.index c.label_ratio.result (words c.args.sign.now) (words c.args.lm.now) _ c.args.image.now _
    (ratio (goal.at.returns c).After-fraction_division-n).are (c.label_ratio.ensures l m)
