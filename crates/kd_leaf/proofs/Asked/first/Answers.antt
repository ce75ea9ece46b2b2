use native.Mathlib.Omega.{arith}
use Rattle.kd_leaf.proofs.Counting.{facts}
use Rattle.kd_leaf.proofs.Scanning.{entry-next, entries-end, first-hit, first-miss, first-end}
use Rattle.kd_leaf.proofs.Asked.first.Goals as goal

pub returns-then-test : goal.returns-then-test
returns-then-test g c =
    first-hit _ _ _ c.loop-i.invariant _ (entry-next _ _ _ _ c.args.self.now.inside (facts _ _ _ c.args.self.now.known).ready _ _ c.loop-i-test.true c.entry-e.ensures.0)
    (c.entry-e.ensures.1.0, rw c.if-test.true at c.test.ensures)

pub loop-i-preserved : goal.loop-i-preserved
loop-i-preserved g c =
    first-miss _ _ _ c.loop-i.invariant _ (entry-next _ _ _ _ c.args.self.now.inside (facts _ _ _ c.args.self.now.known).ready _ _ c.loop-i-test.true c.entry-e.ensures.0)
    (c.entry-e.ensures.1.0, rw c.if-test.false at c.test.ensures)

pub returns : goal.returns
returns g c = first-end _ _ _ c.loop-i.invariant (entries-end _ _ _ _ c.args.self.now.inside (facts _ _ _ c.args.self.now.known).ready c.loop-i.i (omega arith))
