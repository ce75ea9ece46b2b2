use native.Mathlib.Omega.{arith}
use Rattle.query_words.proofs.Laying.{query-long}
use Rattle.query_words.proofs.Query.pair.Goals as goal

pub get-requires : goal.get-requires
get-requires c = omega (arith, c.requires, query-long _ _ c.args.self.laid)
