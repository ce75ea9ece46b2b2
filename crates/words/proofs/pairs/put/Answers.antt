use Rattle.std.proofs.Common.{◌∙◌}
use Rattle.words.proofs.pairs.put.Goals as goal

pub returns : goal.returns
returns c = c.put-2.ensures ∙ rw c.put.ensures
