use native.Mathlib.Omega.{arith}
use Rattle.query_words.proofs.Laying.{query-long}
use Rattle.query_words.proofs.Query.search.Goals as goal

pub search_in-requires-clause-in_bounds : goal.search_in-requires-clause-in_bounds
search_in-requires-clause-in_bounds c = omega (arith, query-long _ _ c.args.self.laid)
