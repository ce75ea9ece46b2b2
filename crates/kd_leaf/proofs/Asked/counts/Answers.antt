use Rattle.std.proofs.Common.{sym, ◌∙◌, ◌<◌, ◌≤◌, arith}
use borrow.Author.Tests.{ltb-true, ltb-false, leb-true}
use Rattle.kd_leaf.proofs.Counting.{facts, count_masked, count-below, count_past, count-divides}
use Rattle.kd_leaf.proofs.Asked.counts.Goals.{then-least-l, else-least-l}
use Rattle.kd_leaf.proofs.Asked.counts.Goals as goal

pub returns-then-not-may : goal.returns-then-not-may
returns-then-not-may c =
    count_masked _ _ _ _ _ _ ((facts _ _ _ c.args.self.now.known).out c.args.e c.requires.inside (sym c.may.ensures ∙ c.if-not-may.true))

pub label-l-requires-clause-ready : goal.label-l-requires-clause-ready
label-l-requires-clause-ready c = (facts _ _ _ c.args.self.now.known).ready

pub returns-then-l-pair : goal.returns-then-l-pair
returns-then-l-pair c = elim c.if-least-l.branch [
  | then-least-l w ↦
      let below : c.label-l.result < w.pair.result = ltb-true _ _ (sym w.value-is ∙ c.if-l-pair.true) in
      count-divides _ _ _ _ _ _ _ _ c.label-l.ensures.0 w.if-least-l.true (omega (arith, w.pair.ensures, below)) c.divides.ensures
  | else-least-l w ↦
      let above : c.args.least ≤ c.label-l.result = leb-true _ _ (sym w.value-is ∙ c.if-l-pair.true) in absurd (omega (arith, above, w.if-least-l.false))
]

pub returns-else-l-pair : goal.returns-else-l-pair
returns-else-l-pair c = elim c.if-least-l.branch [
  | then-least-l w ↦
      let past : w.pair.result ≤ c.label-l.result = ltb-false _ _ (sym w.value-is ∙ c.if-l-pair.false) in
      c.if-l-pair.false ∙ count_past _ _ _ _ _ _ _ c.label-l.ensures.0 (omega (arith, w.pair.ensures, past))
  | else-least-l w ↦ c.if-l-pair.false ∙ count-below _ _ _ _ _ _ _ c.label-l.ensures.0 w.if-least-l.false
]
