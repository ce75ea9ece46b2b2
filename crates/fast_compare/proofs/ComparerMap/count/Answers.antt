use mathlib.Core.Path.{◌∙◌}
use Rattle.fast_compare.proofs.Exact.{count_of}
use Rattle.fast_compare.proofs.ComparerMap.count.Goals as goal

pub returns : goal.returns
returns c = record { value = c.get.ensures; value_2 = λ st i. c.get.ensures ∙ count_of c.args.self.now.bytes.now st i }
