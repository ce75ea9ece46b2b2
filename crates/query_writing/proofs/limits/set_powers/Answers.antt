use native.Mathlib.Omega.{arith}
use mathlib.Core.Path.{◌≡◌, refl, ap, ◌∙◌}
use mathlib.Core.List.{[], ◌∷◌}
use lib.ListN.{length, get_or, length-append}
use Rattle.words.specs.Kinds.{kind}
use Rattle.monomial.specs.Walk.{words_left}
use Rattle.monomial.proofs.Firsts.{starts-wide, starts-whole, first-whole}
use Rattle.monomial.proofs.VariableWords.{item-read, rest-read}
use Rattle.words.specs.Words.{words}
use Rattle.words.proofs.Laws.{length-words}
use Rattle.query_writing.proofs.Limiting.{top-few, set-start, set-end, set_more, Step}
use Rattle.query_writing.proofs.limits.set_powers.Goals.{In-Some}
use Rattle.query_writing.proofs.limits.set_powers.Goals as goal

pub get-requires : goal.get-requires
get-requires c = omega (arith, length-words c.args.m.now, c.requires.canonical.some)

pub clear-requires : goal.clear-requires
clear-requires c =
    omega (
      arith,
      c.id-top.ensures,
      top-few c.args.s c.requires.in_range (words c.args.m.now) c.requires.canonical c.get.result c.get.ensures,
      c.requires.in_range.kind-to,
      c.requires.in_range.vars-to,
      c.requires.in_bounds,
    )

pub loop-w-init : goal.loop-w-init
loop-w-init c = (
  refl,
  set-start c.args.s c.requires.in_range (words c.args.m.now) c.requires.canonical c.args.q.now _ c.get.result c.requires.in_bounds
      c.requires.limited c.get.ensures (rw c.id-top.ensures at c.clear.ensures),
)

-- what is known of a variable's word
item : (c : In-Some) → (c.in-Some.w ≡ get_or (words c.args.m.now) (length c.loop-w.yielded) 0) × (kind c.in-Some.w ≡ 0 → ⊥)
item c =
    rw (first-whole c.requires.canonical) at
    (item-read (starts-wide (starts-whole c.requires.canonical)) _ _ _ _ _ (ap words_left c.into_iter-w-iterator.ensures.into_iter_gives ∙ c.variables_of-w-items.ensures)
    c.loop-w.yielded_by c.next.ensures.steps c.in-Some.is)

variable : (c : In-Some) → Step c.args.s c.requires.in_range (words c.args.m.now) c.requires.canonical c.loop-w.q (length c.loop-w.yielded) c.in-Some.w c.loop-w.invariant.1 (item c).0
variable c =
    set_more c.args.s c.requires.in_range (words c.args.m.now) c.requires.canonical c.loop-w.q (length c.loop-w.yielded) c.in-Some.w c.loop-w.invariant.1 (item c).0 (item c).1

pub put-requires : goal.put-requires
put-requires c =
    omega (
      arith,
      (variable (goal.at.put-requires c).In-Some).known,
      c.id.ensures,
      c.requires.in_range.kind-to,
      c.requires.in_range.vars-to,
      c.requires.in_bounds,
      c.loop-w.invariant.0,
      c.clear.auto.s,
    )

pub loop-w-preserved : goal.loop-w-preserved
loop-w-preserved c = (
  omega (arith, c.put.auto.s, c.loop-w.invariant.0),
  rw (length-append c.loop-w.yielded (c.in-Some.w ∷ [])) ((variable (goal.at.loop-w-preserved c).In-Some).next _
      (omega (arith, c.requires.in_bounds, c.loop-w.invariant.0, c.clear.auto.s)) (c.put.ensures ∙ rw (c.id.ensures, c.power.ensures) refl)),
)

pub returns : goal.returns
returns c =
    let h = rest-read (starts-wide (starts-whole c.requires.canonical)) _ _ _ _ _ (ap words_left c.into_iter-w-iterator.ensures.into_iter_gives ∙ c.variables_of-w-items.ensures)
    c.loop-w.yielded_by c.next.ensures.steps c.in-None.is in
    set-end c.args.s c.requires.in_range (words c.args.m.now) c.requires.canonical c.loop-w.q (length c.loop-w.yielded)
    (get_or (words c.args.m.now) (length c.loop-w.yielded) 0) c.loop-w.invariant.1 refl (rw (first-whole c.requires.canonical) at h)
