use native.Mathlib.Omega.{arith}
use mathlib.Core.Path.{refl, sym, ap, ◌∙◌}
use Prim.Native.Nat.{ℕ}
use Rattle.std.proofs.lemmas.Result.{err_from_is_err_and}
use Rattle.refusals.specs.Numbers.{told}
use Rattle.monomial.proofs.Firsts.{first-whole}
use Rattle.monomial_work.specs.Served.{answer, small, one_answer, yes, number, lent_kind}
use Rattle.monomial_work.specs.Steps.{refusal}
use Rattle.monomial_work.specs.declared.Work.TheVariants.{Divides, Eq, Cmp, RatioEq, RatioCmp}
use Rattle.monomial_work.proofs.Laws.{starts, yes-byte}
use Rattle.monomial_work.proofs.Questions.{asked-no, passed, ready-words, told-word}
use Rattle.monomial_work.proofs.try_serve.Goals as goal

pub returns-in_err-ask : goal.returns-in_err-ask
unfolding told
returns-in_err-ask c =
    let p = err_from_is_err_and c.from_residual.result c.from_residual.ensures.1 in
    rw (p.1, p.2) (asked-no c.args.w c.args.variables c.args.a.now c.args.b.now c.args.out.now
    (sym c.in_err-ask.was ∙ c.ask.ensures ∙ ap (λ (i : ℕ). refusal i c.args.variables c.args.a.now c.args.b.now) c.kind.ensures))

pub divides-requires : goal.divides-requires
divides-requires c =
    let f = passed Divides c.args.variables c.args.a.now c.args.b.now (c.kind.ensures ∙ ap lent_kind c.in-Divides.is) c.ask.ensures c.in_ok-ask.was in
    let d = ready-words (omega arith) f in
    record { starts = starts d.0; starts_2 = starts d.1 }

pub ord-requires : goal.ord-requires
ord-requires c =
    let f = passed Cmp c.args.variables c.args.a.now c.args.b.now (c.kind.ensures ∙ ap lent_kind c.in-Cmp.is) c.ask.ensures c.in_ok-ask.was in
    let d = ready-words (omega arith) f in
    record { starts = starts d.0; starts_2 = starts d.1 }

pub ord-requires-in-RatioCmp : goal.ord-requires-in-RatioCmp
ord-requires-in-RatioCmp c =
    let f = passed RatioCmp c.args.variables c.args.a.now c.args.b.now (c.kind.ensures ∙ ap lent_kind c.in-RatioCmp.is) c.ask.ensures c.in_ok-ask.was in
    let d = ready-words (omega arith) f in
    record { starts = starts d.0; starts_2 = starts d.1 }

pub returns-in-Divides : goal.returns-in-Divides
unfolding answer small
returns-in-Divides c =
    let f = passed Divides c.args.variables c.args.a.now c.args.b.now (c.kind.ensures ∙ ap lent_kind c.in-Divides.is) c.ask.ensures c.in_ok-ask.was in
    let d = ready-words (omega arith) f in
    let e = rw (first-whole d.0, first-whole d.1) at c.divides.ensures in
    rw c.in-Divides.is (told-word Divides c.args.variables c.args.a.now c.args.b.now c.args.out.now f refl (ap one_answer (ap yes (sym e) ∙ sym (yes-byte c.divides.result) ∙ sym c.from.ensures)) c.tell.ensures)

pub returns-in-Eq : goal.returns-in-Eq
unfolding answer small
returns-in-Eq c =
    let f = passed Eq c.args.variables c.args.a.now c.args.b.now (c.kind.ensures ∙ ap lent_kind c.in-Eq.is) c.ask.ensures c.in_ok-ask.was in
    let e = c.eq.ensures in
    rw c.in-Eq.is (told-word Eq c.args.variables c.args.a.now c.args.b.now c.args.out.now f refl (ap one_answer (ap yes (sym e) ∙ sym (yes-byte c.eq.result) ∙ sym c.from-in-Eq.ensures)) c.tell-in-Eq.ensures)

pub returns-in-RatioEq : goal.returns-in-RatioEq
unfolding answer small
returns-in-RatioEq c =
    let f = passed RatioEq c.args.variables c.args.a.now c.args.b.now (c.kind.ensures ∙ ap lent_kind c.in-RatioEq.is) c.ask.ensures c.in_ok-ask.was in
    let e = c.eq-in-RatioEq.ensures in
    rw c.in-RatioEq.is (told-word RatioEq c.args.variables c.args.a.now c.args.b.now c.args.out.now f refl (ap one_answer (ap yes (sym e) ∙ sym (yes-byte c.eq-in-RatioEq.result) ∙ sym c.from-in-RatioEq.ensures)) c.tell-in-RatioEq.ensures)

pub returns-in-Cmp : goal.returns-in-Cmp
unfolding answer small
returns-in-Cmp c =
    let f = passed Cmp c.args.variables c.args.a.now c.args.b.now (c.kind.ensures ∙ ap lent_kind c.in-Cmp.is) c.ask.ensures c.in_ok-ask.was in
    let d = ready-words (omega arith) f in
    let e = rw (first-whole d.0, first-whole d.1) at c.ord.ensures in
    rw c.in-Cmp.is (told-word Cmp c.args.variables c.args.a.now c.args.b.now c.args.out.now f refl (ap one_answer (ap number (sym e) ∙ sym c.number.ensures)) c.tell-in-Cmp.ensures)

pub returns-in-RatioCmp : goal.returns-in-RatioCmp
unfolding answer small
returns-in-RatioCmp c =
    let f = passed RatioCmp c.args.variables c.args.a.now c.args.b.now (c.kind.ensures ∙ ap lent_kind c.in-RatioCmp.is) c.ask.ensures c.in_ok-ask.was in
    let d = ready-words (omega arith) f in
    let e = rw (first-whole d.0, first-whole d.1) at c.ord-in-RatioCmp.ensures in
    rw c.in-RatioCmp.is (told-word RatioCmp c.args.variables c.args.a.now c.args.b.now c.args.out.now f refl (ap one_answer (ap number (sym e) ∙ sym c.number-in-RatioCmp.ensures)) c.tell-in-RatioCmp.ensures)
