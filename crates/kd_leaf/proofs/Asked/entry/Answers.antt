use native.Mathlib.Omega.{arith}
use Rattle.kd_leaf.proofs.Counting.{facts}
use Rattle.kd_leaf.proofs.Asked.entry.Goals as goal

pub overflow_add-self : goal.overflow_add-self
overflow_add-self c = omega (arith, c.requires, c.args.self.now.inside, (facts _ _ _ c.args.self.now.known).few)

pub entry_at-requires : goal.entry_at-requires
entry_at-requires c = record { ready = (facts _ _ _ c.args.self.now.known).ready; p_bound = omega (arith, c.requires, c.args.self.now.inside) }

pub returns : goal.returns
returns c = (c.entry_at.ensures.0, (c.entry_at.ensures.1, omega (arith, c.entry_at.ensures.1, (facts _ _ _ c.args.self.now.known).few)))
