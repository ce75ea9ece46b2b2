use native.Mathlib.Omega.{arith}
use Rattle.words.specs.Words.{words}
use Rattle.words.proofs.Laws.{words_small}
use Rattle.index_image.proofs.Slots.{FoundSlot, found-slot, masked-iff}
use Rattle.index_tables.proofs.entries.masked_slot.Goals.{In-Some}
use Rattle.index_tables.proofs.entries.masked_slot.Goals as goal

found : (c : In-Some) → FoundSlot c.args.image.now c.args.masks.now.map.variables c.args.i c.in-Some.found.words
found c = found-slot c.args.image.now c.args.masks.now.map.variables c.args.i c.in-Some.found.words c.args.masks.now.map.lent.few c.in-Some.ensures.words c.in-Some.ensures.some

pub overflow_add-i : goal.overflow_add-i
overflow_add-i c = omega (arith, (found (goal.at.overflow_add-i c).In-Some).inside)

pub overflow_sub-m : goal.overflow_sub-m
overflow_sub-m c = (found (goal.at.overflow_sub-m c).In-Some).short

pub is_blank-requires : goal.is_blank-requires
is_blank-requires c = omega (arith, (found (goal.at.is_blank-requires c).In-Some).short)

pub returns-then-is_blank : goal.returns-then-is_blank
returns-then-is_blank c =
    let k = c.in-Some.ensures in
    masked-iff (words c.args.image.now) c.args.masks.now.map.variables (words c.args.masks.now.map.maxima.now) c.args.i c.in-Some.found.words c.get.result c.in-Some.found.masks
    k.words k.some (c.is_blank.ensures.0 c.if-is_blank.true)
    (words_small c.args.image.now (λ j. (c.type_inv.image j).fits) _) c.get.ensures k.masks
