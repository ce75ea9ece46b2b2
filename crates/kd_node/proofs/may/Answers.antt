use Rattle.std.proofs.Common.{sym}
use Rattle.kd_node.proofs.Choosing.{not_within, is_within}
use Rattle.kd_node.proofs.may.Goals as goal

pub returns-in-Unsure : goal.returns-in-Unsure
returns-in-Unsure c = sym (rw (c.get.ensures, c.word.ensures) at (is_within _ _ c.in-Unsure.ensures))

pub returns-in_default : goal.returns-in_default
returns-in_default c = sym (rw (c.get.ensures, c.word.ensures) at (not_within _ _ c.in_default.ensures))
