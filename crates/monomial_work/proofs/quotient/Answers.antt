use mathlib.Core.List.{List, [], ◌∷◌}
use Prim.Native.Nat.{ℕ}
use mathlib.Core.Path.{sym, ap, ◌∙◌}
use Rattle.words.specs.Words.{words, paste_w}
use Rattle.monomial.specs.Monomial.{first}
use Rattle.monomial_work.specs.Served.{answer}
use Rattle.monomial_work.proofs.Laws.{not-whole, whole, division-words}
use Rattle.monomial_work.proofs.quotient.Goals as goal

pub returns-in-None : goal.returns-in-None
unfolding answer
returns-in-None c =
    let put-answer = c.put_answer in
    let a = first 1 (words c.args.a.now) in
    let b = first 1 (words c.args.b.now) in
    let e = not-whole a b (sym c.in-None.ensures.value) in
    rw (division-words a b, e) (put-answer.ensures.0, put-answer.ensures.1 ∙ ap (λ (l : List ℕ). paste_w l 0 (1073741824 ∷ [])) (c.whole_division.ensures.out_after ∙ rw e))

pub returns-in-Some : goal.returns-in-Some
unfolding answer
returns-in-Some c =
    let a = first 1 (words c.args.a.now) in
    let b = first 1 (words c.args.b.now) in
    let e = whole a b c.in-Some.n (sym c.in-Some.ensures.value) in
    rw (division-words a b, e.0) (e.1, c.whole_division.ensures.out_after ∙ rw e.0)
