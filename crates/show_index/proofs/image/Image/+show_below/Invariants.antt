use Rattle.std.proofs.Common.{◌-◌}
use Rattle.show_index.proofs.image.Image.+show_below.Given as goal

abbrev pub decreases-show_below : goal.decreases-show_below
decreases-show_below g l = l.self.now.shape.nodes - l.k
