use native.Mathlib.Omega.{arith}
use mathlib.Core.List.{List}
use mathlib.Core.Path.{ap}
use Prim.Native.Nat.{ℕ}
use lib.ListN.{length}
use Rattle.words.specs.Words.{words}
use Rattle.words.proofs.Laws.{length-words}
use Rattle.index_theory.specs.Calls.{body_of}
use Rattle.call_list.proofs.Parting.{past_end, body-stops, body-goes, body-nil}
use Rattle.call_list.proofs.body_words.Goals as goal

pub returns-then-is_call : goal.returns-then-is_call
returns-then-is_call c =
    omega (arith, c.loop-i.invariant, body-stops (words c.args.list.now) c.loop-i.i _ (omega (arith, length-words c.args.list.now, c.loop-i-test.true)) (omega (arith, c.get.ensures)) c.if-is_call.ensures)

pub loop-i-preserved : goal.loop-i-preserved
loop-i-preserved c =
    omega (arith, c.loop-i.invariant, body-goes (words c.args.list.now) c.loop-i.i _ (omega (arith, length-words c.args.list.now, c.loop-i-test.true)) (omega (arith, c.get.ensures)) c.if-is_call.ensures)

pub returns : goal.returns
returns c =
    omega (
      arith,
      c.loop-i.invariant,
      ap (λ (l : List ℕ). length (body_of l)) (past_end (words c.args.list.now) c.loop-i.i (omega (arith, length-words c.args.list.now, c.loop-i-test.false))),
      ap length body-nil,
    )
