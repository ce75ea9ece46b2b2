use Rattle.index_replies.proofs.Queries.{two-kinds}
use Rattle.indices.proofs.call.Goals as goal

pub call-requires-else-s-eq0-clause-kind_value : goal.call-requires-else-s-eq0-clause-kind_value
call-requires-else-s-eq0-clause-kind_value c = two-kinds _ _ c.shape-s.ensures c.if-s-eq0.false
