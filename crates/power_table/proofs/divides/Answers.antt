use Rattle.monomial.specs.Monomial.{first}
use native.Mathlib.Omega.{arith}
use mathlib.Core.List.{[], ◌∷◌}
use mathlib.Core.Path.{refl, ap, ◌∙◌}
use lib.ListN.{length-append}
use Rattle.words.specs.Words.{words}
use Rattle.monomial.specs.Walk.{words_left}
use Rattle.monomial.proofs.VariableWords.{item-read, rest-read}
use Rattle.power_table.proofs.Tabling.{pass-start, pass-end, pass-more}
use Rattle.power_table.proofs.divides.Goals as goal

pub loop-w-init : goal.loop-w-init
loop-w-init c = pass-start (words c.args.table.now) (first 1 (words c.args.a.now)) c.requires.canonical

pub get-requires : goal.get-requires
get-requires c =
    let e = item-read c.requires.starts _ _ _ _ _ (ap words_left c.into_iter-w-iterator.ensures.into_iter_gives ∙ c.variables_of-w-items.ensures) c.loop-w.yielded_by c.next.ensures.steps c.in-Some.is in
    let step = pass-more _ _ _ _ c.loop-w.invariant e.0 e.1 in
    omega (arith, c.id.ensures, c.requires.in_bounds, step.known)

pub returns-then-get-power : goal.returns-then-get-power
returns-then-get-power c =
    let e = item-read c.requires.starts _ _ _ _ _ (ap words_left c.into_iter-w-iterator.ensures.into_iter_gives ∙ c.variables_of-w-items.ensures) c.loop-w.yielded_by c.next.ensures.steps c.in-Some.is in
    let step = pass-more _ _ _ _ c.loop-w.invariant e.0 e.1 in
    step.fails (rw (c.get.ensures, c.id.ensures, c.power.ensures) at c.if-get-power.true)

pub loop-w-preserved : goal.loop-w-preserved
loop-w-preserved c =
    let e = item-read c.requires.starts _ _ _ _ _ (ap words_left c.into_iter-w-iterator.ensures.into_iter_gives ∙ c.variables_of-w-items.ensures) c.loop-w.yielded_by c.next.ensures.steps c.in-Some.is in
    let step = pass-more _ _ _ _ c.loop-w.invariant e.0 e.1 in
    rw (length-append c.loop-w.yielded (c.in-Some.w ∷ [])) (step.next (rw (c.get.ensures, c.id.ensures, c.power.ensures) at c.if-get-power.false))

pub returns : goal.returns
returns c = pass-end _ _ _ _ c.loop-w.invariant refl c.requires.canonical (rest-read c.requires.starts _ _ _ _ _ (ap words_left c.into_iter-w-iterator.ensures.into_iter_gives ∙ c.variables_of-w-items.ensures) c.loop-w.yielded_by c.next.ensures.steps c.in-None.is)
