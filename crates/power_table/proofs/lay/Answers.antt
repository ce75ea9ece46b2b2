use native.Mathlib.Omega.{arith}
use mathlib.Core.List.{[], ◌∷◌}
use mathlib.Core.Path.{refl, ap, ◌∙◌}
use lib.ListN.{length-append}
use Rattle.words.specs.Words.{words}
use Rattle.monomial.specs.Walk.{words_left}
use Rattle.monomial.proofs.Firsts.{starts-wide, starts-whole, first-whole}
use Rattle.monomial.proofs.VariableWords.{item-read, rest-read}
use Rattle.power_table.proofs.Tabling.{lay-start, lay-end, lay-more}
use borrow.Author.Rules.{rules}
use Rattle.power_table.proofs.lay.Goals as goal

pub loop-w-init : goal.loop-w-init
loop-w-init c = (search rules, lay-start c.args.table.now _ (words c.args.m.now) c.requires (search rules) c.clear.ensures)

pub put-requires : goal.put-requires
put-requires c =
    let e = rw (first-whole c.requires) at (item-read (starts-wide (starts-whole c.requires)) _ _ _ _ _ (ap words_left c.into_iter-w-iterator.ensures.into_iter_gives ∙ c.variables_of-w-items.ensures) c.loop-w.yielded_by c.next.ensures.steps c.in-Some.is) in
    let step = lay-more _ _ _ _ c.loop-w.invariant.1 e.0 e.1 in
    omega (arith, c.id.ensures, c.loop-w.invariant.0, step.known)

pub loop-w-preserved : goal.loop-w-preserved
loop-w-preserved c =
    let e = rw (first-whole c.requires) at (item-read (starts-wide (starts-whole c.requires)) _ _ _ _ _ (ap words_left c.into_iter-w-iterator.ensures.into_iter_gives ∙ c.variables_of-w-items.ensures) c.loop-w.yielded_by c.next.ensures.steps c.in-Some.is) in
    let step = lay-more _ _ _ _ c.loop-w.invariant.1 e.0 e.1 in (
      c.put.auto.s ∙ c.loop-w.invariant.0,
      rw (length-append c.loop-w.yielded (c.in-Some.w ∷ []))
          (step.next _ (omega (arith, c.loop-w.invariant.0)) (c.put.ensures ∙ rw (c.id.ensures, c.power.ensures) refl)),
    )

pub returns : goal.returns
returns c =
    let z = rw (first-whole c.requires) at (rest-read (starts-wide (starts-whole c.requires)) _ _ _ _ _ (ap words_left c.into_iter-w-iterator.ensures.into_iter_gives ∙ c.variables_of-w-items.ensures) c.loop-w.yielded_by c.next.ensures.steps c.in-None.is) in
    (c.loop-w.invariant.0, lay-end _ _ _ _ c.loop-w.invariant.1 refl z)
