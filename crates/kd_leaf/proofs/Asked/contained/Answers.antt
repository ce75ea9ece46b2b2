use native.Mathlib.Omega.{arith}
use Rattle.std.proofs.Common.{rules, ◌<◌}
use Rattle.kd_leaf.proofs.Counting.{facts}
use Rattle.kd_leaf.proofs.Scanning.{first-passes, first-visited, contained-decides}
use Rattle.kd_leaf.proofs.Asked.contained.Goals as goal

pub after-requires : goal.after-requires
after-requires c = first-passes _ (λ e. e < 4096) (λ e p. omega (arith, p.0, (facts _ _ _ c.args.self.now.known).few)) _ _ c.first.ensures

pub returns : goal.returns
returns c = (
  first-visited _ _ _ _ _ _ _ _ (λ e p. p.0) (λ e b p. contained-decides _ _ _ _ e _ p.0 b c.requires.searched (search rules)) _ c.first.ensures c.requires.acc_value.0 _ _
      (rw c.requires.acc_value.1 at c.after.ensures.1),
  c.after.ensures.0,
)
