use native.Mathlib.Omega.{arith}
use Rattle.query_words.proofs.Laying.{query-long}
use Rattle.query_words.proofs.Query.num.Goals as goal

pub num-requires : goal.num-requires
num-requires c = omega (arith, c.requires, query-long _ _ c.args.self.laid)
