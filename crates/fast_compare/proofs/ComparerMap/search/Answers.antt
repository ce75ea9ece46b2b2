use Rattle.std.proofs.Common.{rules}
use Rattle.words.specs.Words.{words}
use Rattle.monomial.proofs.Firsts.{first-whole}
use Rattle.monomial_ordering.specs.Order.{TotalOf}
use Rattle.fast_compare.specs.Map.{value_of}
use Rattle.fast_compare.proofs.Reading.{halved-place}
use Rattle.fast_compare.proofs.ComparerMap.search.Goals as goal

pub halve-requires : goal.halve-requires
halve-requires c =
    let t : TotalOf 2 (words c.args.ratio.now) c.total_of-t.result = rw (first-whole c.requires.canonical) at c.total_of-t.ensures in
    search (rules, t)

pub returns : goal.returns
returns c = λ st i. halved-place st i.valid (value_of c.args.index (words c.args.ratio.now)) _ c.count.result (c.count.ensures.value_2 st i)
    c.halve.result c.halve.ensures (λ p r e. search rules)
