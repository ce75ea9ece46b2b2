use native.Mathlib.Omega.{arith}
use mathlib.Core.List.{List}
use mathlib.Core.Path.{ap}
use Prim.Native.Nat.{ℕ}
use lib.ListN.{length}
use Rattle.words.specs.Words.{words}
use Rattle.words.proofs.Laws.{length-words}
use Rattle.index_theory.specs.Calls.{calls}
use Rattle.call_list.proofs.Parting.{past_end, counted, calls-nil}
use Rattle.call_list.proofs.count.Goals as goal

pub loop-i-preserved : goal.loop-i-preserved
loop-i-preserved c =
    let q = counted (words c.args.list.now) c.loop-i.i _ (omega (arith, length-words c.args.list.now, c.loop-i-test.true)) c.get.ensures _ _ c.is_call.ensures c.from-n.ensures in
    (omega (arith, c.loop-i.invariant.0, q.0), omega (arith, c.loop-i.invariant.1, q.1))

pub returns : goal.returns
returns c =
    omega (
      arith,
      c.loop-i.invariant.1,
      ap (λ (l : List ℕ). length (calls l)) (past_end (words c.args.list.now) c.loop-i.i (omega (arith, length-words c.args.list.now, c.loop-i-test.false))),
      ap length calls-nil,
    )
