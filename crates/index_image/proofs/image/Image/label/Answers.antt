use mathlib.Core.Path.{refl}
use Rattle.index_image.specs.Walk.{label}
use Rattle.index_image.proofs.image.Image.label.Goals as goal

pub returns : goal.returns
unfolding label
returns c = rw (c.row_label.ensures, c.get.ensures, c.entry_at.ensures) refl
