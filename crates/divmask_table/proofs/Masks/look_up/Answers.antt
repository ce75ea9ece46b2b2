use Rattle.std.proofs.Common.{◌∙◌, arith}
use Rattle.divmask_table.proofs.Masks.look_up.Goals as goal

pub returns : goal.returns
returns c =
    c.get.ensures
    ∙ c.args.self.now.tabled.has c.args.v c.args.power c.requires.0 c.requires.1.0 (omega arith)
