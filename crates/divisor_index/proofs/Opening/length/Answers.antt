use Rattle.divisor_index.proofs.Replying.{length-refused, length-good, one-kind, sizes}
use mathlib.Core.Path.{sym, ◌∙◌}
use Rattle.divisor_index.proofs.Opening.length.Goals as goal

pub returns-then-not-is_good : goal.returns-then-not-is_good
returns-then-not-is_good c = length-refused _ _ _ _ (sym c.is_good.ensures ∙ c.if-not-is_good.true)

pub length-requires : goal.length-requires
length-requires c = (one-kind _ _ _ _ (sym c.is_good.ensures ∙ c.if-not-is_good.false), sizes _ _ _ _ (sym c.is_good.ensures ∙ c.if-not-is_good.false))

pub returns : goal.returns
returns c = length-good _ _ _ _ (sym c.is_good.ensures ∙ c.if-not-is_good.false) _ c.length.ensures.0
