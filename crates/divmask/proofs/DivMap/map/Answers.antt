use Rattle.monomial.proofs.Firsts.{starts-wide, first-canonical}
use Rattle.monomial.specs.Walk.{words_left}
use Rattle.monomial.proofs.VariableWords.{item-read, rest-read, rest-more}
use native.Mathlib.Omega.{arith}
use native.Mathlib.Nat.{div-le_self}
use lib.ListN.{length}
use mathlib.Core.Path.{refl, ap, ◌∙◌}
use Rattle.words.specs.Words.{words}
use Rattle.words.proofs.Laws.{length-words}
use Rattle.monomial.specs.Monomial.{pow, first}
use Rattle.divmask.proofs.Masks.{mask-small, begin, mapped, step, bits_are, stepped, Step, Stepped}
use Rattle.divmask.proofs.DivMap.map.Goals.{In-Some, After-first_bit}
use Rattle.divmask.proofs.DivMap.map.Goals as goal

variable : (c : In-Some) → (Step c.args.self.now.variables (words c.args.self.now.maxima.now) (first 1 (words c.args.monomial.now)) (length c.loop-w.yielded) c.loop-w.mask c.in-Some.w)
variable c =
    let e = item-read (starts-wide c.requires) _ _ _ _ _ (ap words_left c.into_iter-w-iterator.ensures.into_iter_gives ∙ c.variables_of-w-items.ensures) c.loop-w.yielded_by c.next.ensures.steps c.in-Some.is in
    step c.loop-w.invariant e.0 e.1

stepped-at : (c : After-first_bit) → (Stepped c.args.self.now.variables (words c.args.self.now.maxima.now) (first 1 (words c.args.monomial.now)) (length c.loop-w.yielded) c.loop-w.mask c.first_bit.result c.field-f.result)
stepped-at c =
    let e = item-read (starts-wide c.requires) _ _ _ _ _ (ap words_left c.into_iter-w-iterator.ensures.into_iter_gives ∙ c.variables_of-w-items.ensures) c.loop-w.yielded_by c.next.ensures.steps c.in-Some.is in
    stepped c.loop-w.invariant e.0 e.1 c.id-v.ensures c.power.ensures c.get-x.ensures c.bits_of.ensures c.field-f.ensures c.first_bit.ensures

pub nonzero_div-whole : goal.nonzero_div-whole
nonzero_div-whole c = omega (arith, c.args.self.now.lent.some)

pub nonzero_rem-extra : goal.nonzero_rem-extra
nonzero_rem-extra c = omega (arith, c.args.self.now.lent.some)

pub loop-w-init : goal.loop-w-init
loop-w-init c = begin (words c.args.self.now.maxima.now) c.args.self.now.lent.few (first-canonical (omega arith) c.requires)

pub get-x-requires : goal.get-x-requires
get-x-requires c =
    let k = variable (goal.at.get-x-requires c).In-Some in
    omega (arith, c.id-v.ensures, k.known, length-words c.args.self.now.maxima.now, c.args.self.now.lent.one_each)

pub bits_of-requires : goal.bits_of-requires
bits_of-requires c = div-le_self 32 c.args.self.now.variables

pub field-f-requires : goal.field-f-requires
field-f-requires c =
    let k = variable (goal.at.field-f-requires c).In-Some in
    let v = c.id-v.result in
    let e = bits_are c.args.self.now.variables v c.bits_of.result c.bits_of.ensures in
    let p = c.args.self.now.lent in record {
      bits_bound = (
        omega (arith, rw c.id-v.ensures at e, k.few),
        (
          omega (arith, c.get-x.ensures, p.low v (omega (arith, k.known, c.id-v.ensures))),
          omega (arith, c.get-x.ensures, p.high v (omega (arith, k.known, c.id-v.ensures))),
        ),
      );
      le_power = (omega (arith, c.power.ensures, k.low), omega (arith, c.power.ensures, k.high));
    }

pub first_bit-requires : goal.first_bit-requires
first_bit-requires c =
    let k = variable (goal.at.first_bit-requires c).In-Some in
    (div-le_self 32 c.args.self.now.variables, omega (arith, c.id-v.ensures, k.known, c.args.self.now.lent.few))

pub overflow_shl-mask : goal.overflow_shl-mask
overflow_shl-mask c = omega (arith, (stepped-at (goal.at.overflow_shl-mask c).After-first_bit).shift)

pub overflow_add-mask : goal.overflow_add-mask
overflow_add-mask c = omega (arith, (stepped-at (goal.at.overflow_add-mask c).After-first_bit).fits)

pub loop-w-preserved : goal.loop-w-preserved
loop-w-preserved c =
    let r = (stepped-at (goal.at.loop-w-preserved c).After-first_bit).rest in
    record { b = r.b; below = r.below; ra = rest-more c.in-Some.w c.loop-w.yielded r.ra; split = r.split }

pub overflow_cast-result : goal.overflow_cast-result
overflow_cast-result c =
    let e = mapped c.loop-w.invariant refl (rest-read (starts-wide c.requires) _ _ _ _ _ (ap words_left c.into_iter-w-iterator.ensures.into_iter_gives ∙ c.variables_of-w-items.ensures) c.loop-w.yielded_by c.next.ensures.steps c.in-None.is) in
    omega (arith, mask-small c.args.self.now.variables (words c.args.self.now.maxima.now) (pow 1 (first 1 (words c.args.monomial.now))))

pub returns : goal.returns
returns c = mapped c.loop-w.invariant refl (rest-read (starts-wide c.requires) _ _ _ _ _ (ap words_left c.into_iter-w-iterator.ensures.into_iter_gives ∙ c.variables_of-w-items.ensures) c.loop-w.yielded_by c.next.ensures.steps c.in-None.is)
