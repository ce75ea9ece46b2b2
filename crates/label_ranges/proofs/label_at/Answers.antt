use native.Mathlib.Omega.{arith}
use mathlib.Core.Path.{sym, ◌∙◌}
use Rattle.label_ranges.proofs.Ending.{label-known, label-none}
use Rattle.label_ranges.proofs.label_at.Goals as goal

pub returns-then-p-count-clause-value : goal.returns-then-p-count-clause-value
returns-then-p-count-clause-value c =
    λ l i. c.from.ensures ∙ c.label_at.ensures l i ∙ sym (label-known l c.args.p (omega (arith, c.if-p-count.true, c.count.ensures.value_2 l i)))

pub returns-else-p-count-clause-value : goal.returns-else-p-count-clause-value
returns-else-p-count-clause-value c = λ l i. sym (label-none l c.args.p (omega (arith, c.if-p-count.false, c.count.ensures.value_2 l i)))
