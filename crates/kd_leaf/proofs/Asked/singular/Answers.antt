use native.Mathlib.Omega.{arith}
use mathlib.Core.Path.{◌≡◌}
use Rattle.std.proofs.Common.{rules, ◌<◌}
use Rattle.words.specs.Words.{words}
use Rattle.query_words.specs.Asked.{shape_in}
use Rattle.kd_leaf.proofs.Counting.{facts}
use Rattle.kd_leaf.proofs.Scanning.{first-passes, first-visited, singular-decides}
use Rattle.kd_leaf.proofs.Asked.singular.Goals as goal

pub first-requires : goal.first-requires
first-requires c =
    let k : (shape_in (words c.args.self.now.query.bytes.now)).kind ≡ 1 = (facts _ _ _ c.args.self.now.known).labelled (λ z. omega (arith, c.requires.searched)) in
    search (rules, k)

pub after-requires : goal.after-requires
after-requires c = first-passes _ (λ e. e < 4096) (λ e p. omega (arith, p.0, (facts _ _ _ c.args.self.now.known).few)) _ _ c.first.ensures

pub returns : goal.returns
returns c = (
  first-visited _ _ _ _ _ _ _ _ (λ e p. p.0) (λ e b p. singular-decides _ _ _ _ e _ p.0 b c.requires.searched (search rules)) _ c.first.ensures c.requires.acc_value.0 _ _
      (rw c.requires.acc_value.1 at c.after.ensures.1),
  c.after.ensures.0,
)
