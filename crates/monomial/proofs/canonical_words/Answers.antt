use native.Mathlib.Omega.{arith}
use mathlib.Core.Path.{sym, ◌∙◌}
use lib.ListN.{drop_of_length-le}
use Rattle.words.specs.Words.{words}
use Rattle.words.proofs.Fields.{is-end-true, is-end-false}
use Rattle.words.proofs.Laws.{length-words, word-and-rest}
use Rattle.monomial.proofs.Canon.{told-some, told-none, is-var, front-none, front-end, front-bad-end, front-var, front-bad-var}
use Rattle.monomial.proofs.canonical_words.Goals as goal

pub returns-then-payload-n : goal.returns-then-payload-n
returns-then-payload-n c =
    let loop = c.loop-i in
    told-some _ _ (loop.invariant.1
    ∙ rw (word-and-rest (words c.args.s.now) loop.i c.get-w.result (omega (arith, length-words c.args.s.now)) c.get-w.ensures)
    (front-end _ _ _ _ _ (is-end-true _ c.is_end.ensures c.if-is_end.true) (sym c.payload.ensures ∙ c.if-payload-n.true)))

pub returns-then-is_end : goal.returns-then-is_end
returns-then-is_end c =
    let loop = c.loop-i in
    told-none _ (loop.invariant.1
    ∙ rw (word-and-rest (words c.args.s.now) loop.i c.get-w.result (omega (arith, length-words c.args.s.now)) c.get-w.ensures)
    (front-bad-end _ _ _ _ _ (is-end-true _ c.is_end.ensures c.if-is_end.true) (λ q. c.if-payload-n.false (c.payload.ensures ∙ q))))

pub returns-then-not-is_variable : goal.returns-then-not-is_variable
returns-then-not-is_variable c =
    let loop = c.loop-i in
    told-none _ (loop.invariant.1
    ∙ rw (word-and-rest (words c.args.s.now) loop.i c.get-w.result (omega (arith, length-words c.args.s.now)) c.get-w.ensures)
    (front-bad-var _ _ _ _ _ (is-end-false _ c.is_end.ensures c.if-is_end.false) (sym c.is_variable.ensures ∙ c.if-not-is_variable.true)))

pub loop-i-preserved : goal.loop-i-preserved
loop-i-preserved c =
    let loop = c.loop-i in
    let v = sym c.is_variable.ensures ∙ c.if-not-is_variable.false in (
      omega (arith, (is-var _ _ _ v).below, c.id-bound.ensures),
      rw c.id-bound.ensures
          (loop.invariant.1 ∙ rw (word-and-rest (words c.args.s.now) loop.i c.get-w.result (omega (arith, length-words c.args.s.now))
          c.get-w.ensures) (front-var _ _ _ _ _ (is-end-false _ c.is_end.ensures c.if-is_end.false) v)),
    )

pub returns : goal.returns
returns c =
    told-none _ (c.loop-i.invariant.1
    ∙ rw (drop_of_length-le (words c.args.s.now) {i = c.loop-i.i} (omega (arith, length-words c.args.s.now))) (front-none _ _ _))
