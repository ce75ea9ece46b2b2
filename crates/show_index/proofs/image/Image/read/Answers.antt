use Rattle.index_image.specs.Head.{HeadIs}
use Rattle.show_index.proofs.image.Image.read.Goals as goal

pub invariant_of-result : goal.invariant_of-result
unfolding HeadIs
invariant_of-result c = record { in_range = (rw c.in_ok-shape.was at c.read.ensures).range }
