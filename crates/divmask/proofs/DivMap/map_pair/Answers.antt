use Rattle.std.proofs.Common.{◌≡◌, ◌∷◌, [], length, length-append, get_or, refl, ap, ◌∙◌, arith}
use Rattle.words.specs.Kinds.{kind}
use Rattle.words.specs.Words.{words}
use Rattle.monomial.specs.Monomial.{first}
use Rattle.monomial.specs.Walk.{words_left}
use Rattle.monomial.proofs.Firsts.{starts-wide, first-canonical}
use Rattle.monomial.proofs.VariableWords.{item-read, rest-read}
use Rattle.divmask.proofs.Sums.{adding, added, more}
use Rattle.divmask.proofs.DivMap.map_pair.Goals.{In-Some}
use Rattle.divmask.proofs.DivMap.map_pair.Goals as goal

item : (c : In-Some) → (c.in-Some.w ≡ get_or (first 1 (words c.args.monomial.now)) (length c.loop-w.yielded) 0) × (kind c.in-Some.w ≡ 0 → ⊥)
item c = item-read (starts-wide c.requires) _ _ _ _ _ (ap words_left c.into_iter-w-iterator.ensures.into_iter_gives ∙ c.variables_of-w-items.ensures) c.loop-w.yielded_by c.next.ensures.steps c.in-Some.is

pub loop-w-init : goal.loop-w-init
loop-w-init c = adding (words c.args.self.now.maxima.now) c.args.self.now.lent.few (first-canonical (omega arith) c.requires)

pub bits_in-masks-requires : goal.bits_in-masks-requires
bits_in-masks-requires c =
    let e = item (goal.at.bits_in-masks-requires c).In-Some in
    let m = more c.loop-w.invariant e.0 e.1 0 in
    record {
      shared = (refl, refl);
      known = (omega (arith, c.id.ensures, m.known), (omega (arith, c.power.ensures, m.from), omega (arith, c.power.ensures, m.to)));
    }

pub overflow_add-masks : goal.overflow_add-masks
overflow_add-masks c =
    let e = item (goal.at.overflow_add-masks c).In-Some in
    omega (arith, (more c.loop-w.invariant e.0 e.1 c.bits_in-masks.result).fits (rw (c.id.ensures, c.power.ensures) at c.bits_in-masks.ensures))

pub loop-w-preserved : goal.loop-w-preserved
loop-w-preserved c =
    let e = item (goal.at.loop-w-preserved c).In-Some in
    rw (length-append c.loop-w.yielded (c.in-Some.w ∷ []))
    ((more c.loop-w.invariant e.0 e.1 c.bits_in-masks.result).rest (rw (c.id.ensures, c.power.ensures) at c.bits_in-masks.ensures))

pub returns : goal.returns
returns c =
    added c.loop-w.invariant refl (rest-read (starts-wide c.requires) _ _ _ _ _ (ap words_left c.into_iter-w-iterator.ensures.into_iter_gives ∙ c.variables_of-w-items.ensures) c.loop-w.yielded_by c.next.ensures.steps c.in-None.is)
