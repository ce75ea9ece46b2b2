use Rattle.std.proofs.Common.{rules}
use Rattle.label_ranges.proofs.Indexing.{halved-rank}
use Rattle.label_ranges.proofs.rows_below.Goals as goal

pub returns-in-Ok-2 : goal.returns-in-Ok-2
returns-in-Ok-2 c = λ l i. halved-rank l i.valid c.args.index c.count-n.result (c.count-n.ensures.value_2 l i) _ c.halve.result c.halve.ensures (λ p o e. search rules)
    c.in-Ok.p c.in-Ok.is
