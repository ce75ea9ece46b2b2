use native.Mathlib.Omega.{arith}
use Rattle.words.proofs.Copies.{moved-up}
use Rattle.words.proofs.runs.move_up.Goals as goal

pub returns : goal.returns
returns c =
    moved-up c.args.s.now c.copy_within.new.self c.args.at c.args.end c.args.by (λ k. omega (arith, c.type_inv.s k)) c.requires.at_le_end c.requires.by_in_bounds c.copy_within.ensures.after
