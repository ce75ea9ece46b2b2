use Rattle.std.proofs.Common.{sym, ◌∙◌}
use Rattle.kd_leaf.proofs.Counting.{facts}
use Rattle.kd_leaf.proofs.Asked.is_divisor.Goals as goal

pub returns-else-may : goal.returns-else-may
returns-else-may c =
    c.if-may.false ∙ sym ((facts _ _ _ c.args.self.now.known).out c.args.e c.requires (sym c.may.ensures ∙ c.if-may.false))
