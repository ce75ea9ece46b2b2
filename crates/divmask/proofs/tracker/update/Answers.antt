use lib.ListN.{length-append}
use mathlib.Core.List.{[], ◌∷◌}
use Rattle.monomial.proofs.Firsts.{starts-wide, first-canonical}
use Rattle.monomial.specs.Walk.{words_left}
use Rattle.monomial.proofs.VariableWords.{item-read, rest-read, rest-more}
use native.Mathlib.Omega.{arith}
use mathlib.Core.Path.{refl, ap, ◌∙◌}
use Rattle.divmask.proofs.Growth.{begin, at-end, variable, not-above, raises}
use Rattle.divmask.proofs.tracker.update.Goals as goal

pub loop-w-init : goal.loop-w-init
loop-w-init c =
    begin c.args.maxima.now (first-canonical (omega arith) c.requires.starts) c.requires.maxima c.requires.maxima_len
    (λ k. omega (arith, c.type_inv.maxima k))

pub get-requires : goal.get-requires
get-requires c =
    let e = item-read (starts-wide c.requires.starts) _ _ _ _ _ (ap words_left c.into_iter-w-iterator.ensures.into_iter_gives ∙ c.variables_of-w-items.ensures) c.loop-w.yielded_by c.next.ensures.steps c.in-Some.is in
    let u = c.loop-w.invariant in
    omega (arith, (variable u e.0 e.1).known, c.id-v.ensures, u.kept, u.whole)

pub shape_of-maxima-then-p-get : goal.shape_of-maxima-then-p-get
shape_of-maxima-then-p-get c = c.loop-w.invariant.kept

pub returns-then-p-get : goal.returns-then-p-get
returns-then-p-get c =
    let e = item-read (starts-wide c.requires.starts) _ _ _ _ _ (ap words_left c.into_iter-w-iterator.ensures.into_iter_gives ∙ c.variables_of-w-items.ensures) c.loop-w.yielded_by c.next.ensures.steps c.in-Some.is in
    not-above c.loop-w.invariant e.0 e.1 (omega (arith, rw c.id-v.ensures at c.get.ensures, c.power-p.ensures))

pub put-requires : goal.put-requires
put-requires c =
    let e = item-read (starts-wide c.requires.starts) _ _ _ _ _ (ap words_left c.into_iter-w-iterator.ensures.into_iter_gives ∙ c.variables_of-w-items.ensures) c.loop-w.yielded_by c.next.ensures.steps c.in-Some.is in
    let u = c.loop-w.invariant in
    omega (arith, (variable u e.0 e.1).known, c.id-v.ensures, u.kept, u.whole)

pub loop-w-preserved : goal.loop-w-preserved
loop-w-preserved c =
    let e = item-read (starts-wide c.requires.starts) _ _ _ _ _ (ap words_left c.into_iter-w-iterator.ensures.into_iter_gives ∙ c.variables_of-w-items.ensures) c.loop-w.yielded_by c.next.ensures.steps c.in-Some.is in
    let r = raises c.loop-w.invariant e.0 e.1 (omega (arith, rw c.id-v.ensures at c.get.ensures, c.power-p.ensures)) (rw (c.id-v.ensures, c.power-p.ensures) at c.put.ensures)
    (λ k. omega (arith, c.type_inv.maxima k)) in
    record {
      b = r.b;
      ra = rest-more c.in-Some.w c.loop-w.yielded r.ra;
      below = r.below;
      good = r.good;
      kept = r.kept;
      whole = r.whole;
      small = r.small;
      same = rw (length-append c.loop-w.yielded (c.in-Some.w ∷ [])) r.same;
    }

pub shape_of-maxima : goal.shape_of-maxima
shape_of-maxima c = c.loop-w.invariant.kept

pub returns : goal.returns
returns c = at-end c.loop-w.invariant refl (rest-read (starts-wide c.requires.starts) _ _ _ _ _ (ap words_left c.into_iter-w-iterator.ensures.into_iter_gives ∙ c.variables_of-w-items.ensures) c.loop-w.yielded_by c.next.ensures.steps c.in-None.is)
