use Rattle.std.proofs.Common.{◌∙◌, arith}
use Rattle.kd_leaf.proofs.Counting.{facts}
use Rattle.kd_leaf.proofs.Scanning.{least_first, least-next}
use Rattle.kd_leaf.proofs.Asked.least_above.Goals as goal

pub returns-then-found-eq0 : goal.returns-then-found-eq0
returns-then-found-eq0 c = c.pair-from.ensures ∙ least_first _ _ _ c.if-found-eq0.true

pub label-requires-clause-ready : goal.label-requires-clause-ready
label-requires-clause-ready c = (facts _ _ _ c.args.self.now.known).ready

pub returns : goal.returns
returns c = least-next _ _ _ _ _ c.if-found-eq0.false c.label.ensures.0 (omega (arith, c.max.ensures, c.pair-from.ensures))
