use native.Mathlib.Omega.{arith}
use mathlib.Core.Path.{refl, sym, ◌∙◌}
use lib.Seq.{length-take-le}
use Rattle.words.specs.Words.{words}
use Rattle.refusals.specs.Numbers.{told, number}
use Rattle.monomial_work.proofs.Laws.{answer-length}
use Rattle.monomial_work.proofs.Questions.{fine, canonical-64, power-too-large, no_room, answered, made-fits, Made}
use Rattle.monomial_work.proofs.make.Goals.{After-answer-e}
use Rattle.monomial_work.proofs.make.Goals as goal

-- the answer is made
made_at : (c : After-answer-e) → Made c.answer-e.new.out c.answer-e.result
made_at c =
    let s = c.args in
    let f = fine 1 _ _ _ c.requires in
    let ca = canonical-64 1 s.variables s.a.now (omega arith) f.few f.la in
    let cb = canonical-64 1 s.variables s.b.now (omega arith) f.few f.lb in
    made-fits _ _ _ _ c.answer-e.ensures.1 refl c.answer-e.ensures.0 (answer-length s.op (words s.a.now) (words s.b.now) ca cb)

pub answer-e-requires : goal.answer-e-requires
answer-e-requires c = let s = c.args in
    let f = fine 1 _ _ _ c.requires in record { canonical = canonical-64 1 s.variables s.a.now (omega arith) f.few f.la; canonical_2 = canonical-64 1 s.variables s.b.now (omega arith) f.few f.lb; in_bounds = omega arith }

pub overflow_mul-e : goal.overflow_mul-e
overflow_mul-e c = omega (arith, (made_at (goal.at.overflow_mul-e c).After-answer-e).few)

pub slice_bounds-made-end : goal.slice_bounds-made-end
slice_bounds-made-end c = (made_at (goal.at.slice_bounds-made-end c).After-answer-e).room

pub slice_bounds-too_large-end : goal.slice_bounds-too_large-end
slice_bounds-too_large-end c = sym (made_at (goal.at.slice_bounds-too_large-end c).After-answer-e).size

pub returns-then-too_large : goal.returns-then-too_large
unfolding told number
returns-then-too_large c =
    let answer = c.answer-e in
    let s = c.args in
    power-too-large s.op s.variables s.a.now s.b.now s.out.now (fine 1 _ _ _ c.requires) _ answer.new.out answer.result
    answer.ensures.0 answer.ensures.1 (sym c.too_large.ensures ∙ c.if-too_large.true)

pub returns-then-out-e : goal.returns-then-out-e
unfolding told number
returns-then-out-e c =
    let answer = c.answer-e in
    let s = c.args in
    no_room s.op s.variables s.a.now s.b.now s.out.now (fine 1 _ _ _ c.requires) _ answer.new.out answer.result answer.ensures.0
    answer.ensures.1 (sym c.too_large.ensures ∙ c.if-too_large.false) c.if-out-e.true

pub slice_bounds-made-end-2 : goal.slice_bounds-made-end-2
slice_bounds-made-end-2 c = (made_at (goal.at.slice_bounds-made-end-2 c).After-answer-e).room

pub slice_bounds-copy_from_slice-end-3 : goal.slice_bounds-copy_from_slice-end-3
slice_bounds-copy_from_slice-end-3 c = sym (made_at (goal.at.slice_bounds-copy_from_slice-end-3 c).After-answer-e).size

pub copy_from_slice-requires : goal.copy_from_slice-requires
copy_from_slice-requires c =
    length-take-le _ c.args.out.now c.if-out-e.false ∙ sym (made_at (goal.at.copy_from_slice-requires c).After-answer-e).size

pub returns : goal.returns
unfolding told number
returns c =
    let if3 = c.if-out-e in
    let if2 = c.if-too_large in
    let answer = c.answer-e in
    let s = c.args in
    answered s.op s.variables s.a.now s.b.now s.out.now (fine 1 _ _ _ c.requires) _ answer.new.out answer.result answer.ensures.0
    answer.ensures.1 (sym c.too_large.ensures ∙ if2.false) if3.false _ (rw c.copy_from_slice.ensures.after refl)
