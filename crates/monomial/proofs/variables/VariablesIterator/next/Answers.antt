use mathlib.Core.Path.{ap}
use native.Mathlib.Omega.{arith}
use lib.ListN.{length}
use Rattle.words.proofs.Fields.{is-end-true, is-end-false}
use Rattle.monomial.specs.Walk.{words_left}
use Rattle.monomial.proofs.VariableWords.{bytes-none, bytes-stop, bytes-more}
use Rattle.monomial.proofs.variables.VariablesIterator.next.Goals as goal

pub returns-then-self-lt4-clause-steps : goal.returns-then-self-lt4-clause-steps
unfolding words_left
returns-then-self-lt4-clause-steps c = let e = bytes-none c.args.self.now.rest.now c.if-self-lt4.true in (e, e)

pub returns-then-is_end-clause-steps : goal.returns-then-is_end-clause-steps
unfolding words_left
returns-then-is_end-clause-steps c =
    let e = bytes-stop c.args.self.now.rest.now (omega arith) c.get-w.ensures (is-end-true _ c.is_end.ensures c.if-is_end.true) in
    (e, e)

pub returns-clause-steps : goal.returns-clause-steps
unfolding words_left
returns-clause-steps c = bytes-more c.args.self.now.rest.now (omega arith) c.get-w.ensures (is-end-false _ c.is_end.ensures c.if-is_end.false)

pub returns-clause-goes : goal.returns-clause-goes
unfolding words_left
returns-clause-goes c =
    let e = bytes-more c.args.self.now.rest.now (omega arith) c.get-w.ensures (is-end-false _ c.is_end.ensures c.if-is_end.false) in
    record { on = λ h. (tt, tt, omega (arith, ap length e)); keeps = tt; rests = λ h. tt }
