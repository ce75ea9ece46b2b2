use Rattle.index_opening.proofs.Openings.{head-written}
use Rattle.index_opening.proofs.open_head.Goals as goal

pub returns : goal.returns
returns c =
    head-written _ _ _ _ _ _ _ _ _ _ _ c.requires.in_bounds c.put.ensures c.put-2.ensures c.put-3.ensures c.put-4.ensures c.put-5.ensures c.put-6.ensures c.clear.ensures
