use native.Mathlib.Omega.{arith}
use mathlib.Core.Path.{◌∙◌}
use Rattle.words.specs.Words.{words}
use Rattle.fast_compare.specs.Map.{value_of}
use Rattle.kd_labelling.specs.Labelling.{settled}
use Rattle.kd_labelling.proofs.Settling.{settled-last}
use Rattle.kd_labelling.proofs.settled_row.Goals as goal

pub returns-then-n-count : goal.returns-then-n-count
returns-then-n-count c = let v = value_of c.args.index (words c.args.ratio.now) in
    λ l ok e I. e ∙ settled-last l v ok I.valid (omega (arith, e, c.count.ensures.value_2 (settled l v) I))
