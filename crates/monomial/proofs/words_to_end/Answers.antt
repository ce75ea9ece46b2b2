use native.Mathlib.Omega.{arith}
use mathlib.Core.Path.{◌≡◌, ap, ◌∙◌}
use Prim.Native.Nat.{ℕ, ◌+◌, ◌-◌}
use lib.ListN.{drop, drop_of_length-le}
use Rattle.words.specs.Words.{words}
use Rattle.words.proofs.Fields.{is-end-true, is-end-false}
use Rattle.words.proofs.Laws.{length-words, word-and-rest}
use Rattle.monomial.specs.Monomial.{to_end}
use Rattle.monomial.proofs.Canon.{told-some, told-none}
use Rattle.monomial.proofs.Ends.{end_none, end-here, end-past}
use Rattle.monomial.proofs.words_to_end.Goals as goal

pub returns-then-is_end : goal.returns-then-is_end
returns-then-is_end c =
    let loop = c.loop-i in
    told-some _ _ (loop.invariant.1
    ∙ rw (word-and-rest (words c.args.s.now) loop.i c.get.result (omega (arith, length-words c.args.s.now)) c.get.ensures)
    (end-here _ _ _ (is-end-true _ c.is_end.ensures c.if-is_end.true)))

pub loop-i-preserved : goal.loop-i-preserved
loop-i-preserved c =
    let get = c.get in
    let loop = c.loop-i in (
      omega (arith, loop.invariant.0),
      let z : loop.i - c.args.at + 1 ≡ loop.i + 1 - c.args.at = omega (arith, loop.invariant.0) in loop.invariant.1
          ∙ rw (word-and-rest (words c.args.s.now) loop.i get.result (omega (arith, length-words c.args.s.now)) get.ensures)
          (end-past _ _ _ (is-end-false _ c.is_end.ensures c.if-is_end.false)) ∙ ap (λ (n : ℕ). to_end n (drop (loop.i + 1) (words c.args.s.now))) z,
    )

pub returns : goal.returns
returns c =
    told-none _ (c.loop-i.invariant.1
    ∙ rw (drop_of_length-le (words c.args.s.now) {i = c.loop-i.i} (omega (arith, length-words c.args.s.now))) (end_none _))
