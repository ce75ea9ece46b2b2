use native.Mathlib.Omega.{arith}
use Rattle.words.specs.Words.{words}
use Rattle.fast_compare.specs.Map.{value_of}
use Rattle.monomial.proofs.Laws.{canonical-more}
use Rattle.index_image.proofs.Labels.{map_of}
use Rattle.kd_labelling.specs.Labelling.{settled}
use Rattle.kd_labelling.proofs.Parts.{lent-good, is-l, read_again, labels-are}
use Rattle.kd_labelling.proofs.label_ratio.Goals as goal

pub settle-requires-clause-good : goal.settle-requires-clause-good
settle-requires-clause-good c = let r = c.requires in lent-good c.args.image.now c.args.s r.in_range r.s_in_bounds r.kind_value _ _ c.labels.ensures _ r.good r.sound_for

pub invariant_of-settled_row : goal.invariant_of-settled_row
invariant_of-settled_row c =
    let r = c.requires in
    let v = value_of c.args.index (words c.args.ratio.now) in
    let m = map_of c.args.image.now c.args.s r.in_range r.s_in_bounds r.kind_value r.sound_for in record {
      sound = ∣ record {
        state = settled r.sound_for.state v;
        is = read_again c.args.image.now c.args.s r.in_range r.s_in_bounds r.kind_value _ _ c.labels.ensures v r.good c.settle.new.labels c.settle.ensures r.sound_for.state m;
      } ∣₁;
    }

pub settled_row-requires : goal.settled_row-requires
settled_row-requires c = canonical-more (omega arith) (omega (arith, c.requires.in_range.vars-to)) c.requires.good.canonical

pub returns : goal.returns
returns c = λ l m.
    let r = c.requires in
    let v = value_of c.args.index (words c.args.ratio.now) in
    let here = is-l c.args.image.now c.args.s r.in_range r.s_in_bounds r.kind_value _ _ c.labels.ensures v r.good c.settle.new.labels c.settle.ensures l m in
    let after = read_again c.args.image.now c.args.s r.in_range r.s_in_bounds r.kind_value _ _ c.labels.ensures v r.good c.settle.new.labels c.settle.ensures l m in
    labels-are c.args.image.now c.args.s r.in_range r.s_in_bounds r.kind_value _ _ c.labels.ensures v r.good c.settle.new.labels c.settle.ensures l m
    c.settled_row.result (c.settled_row.ensures l m.valid (c.count-n.ensures.value_2 l here) after)
