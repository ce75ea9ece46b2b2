use Rattle.index_opening.proofs.Openings.{labels-none, labels-written}
use Rattle.index_opening.proofs.open_labels.Goals as goal

pub returns-then-s-ne0 : goal.returns-then-s-ne0
returns-then-s-ne0 c = labels-written _ _ c.requires.in_range c.requires.s_in_bounds c.if-s-ne0.true _ _ c.labels.ensures _ c.«open».ensures

pub returns-else-s-ne0 : goal.returns-else-s-ne0
returns-else-s-ne0 c = labels-none _ _ _ _ c.if-s-ne0.false
