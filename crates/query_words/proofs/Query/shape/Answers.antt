use native.Mathlib.Omega.{arith}
use Rattle.query_words.proofs.Laying.{query-long}
use Rattle.query_words.proofs.Query.shape.Goals as goal

pub shape-requires : goal.shape-requires
shape-requires c = omega (arith, query-long _ _ c.args.self.laid)
