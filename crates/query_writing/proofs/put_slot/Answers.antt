use native.Mathlib.Omega.{arith}
use mathlib.Core.Path.{refl, ◌∙◌}
use Rattle.words.proofs.Tables.{small-cons, small-nil}
use Rattle.query_writing.specs.Written.{slot_words}
use Rattle.query_writing.proofs.Posing.{slot_small}
use Rattle.query_writing.proofs.put_slot.Goals as goal

pub overflow_add-slot : goal.overflow_add-slot
overflow_add-slot c =
    omega (arith, c.slot_of-slot.ensures, slot_small c.args.s c.requires.in_range c.args.lm, c.requires.in_range.vars-to)

pub put_all-requires-clause-small : goal.put_all-requires-clause-small
put_all-requires-clause-small c =
    let few = slot_small c.args.s c.requires.in_range c.args.lm in
    (small-cons (omega (arith, c.slot_of-slot.ensures, few)) (small-cons (omega (arith, c.slot_of-slot.ensures, few, c.requires.in_range.vars-to)) small-nil)).each

pub returns : goal.returns
unfolding slot_words
returns c = c.put_all.ensures ∙ rw c.slot_of-slot.ensures refl
