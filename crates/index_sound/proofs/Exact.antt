-- The checks pass exactly on the images of valid states. Assumes nothing.
use mathlib.Core.List.{List}
use mathlib.Core.Logic.{◌↔◌}
use Prim.Native.Nat.{ℕ}
use lib.ListN.{length}
use Rattle.words.specs.Words.{words}
use Rattle.index_image.specs.Layout.{shape_of, Sound}
use Rattle.index_image.specs.Head.{HeadOk, HeadIs}
use Rattle.index_image.specs.declared.Shape.{Shape}
use Rattle.std.specs.Prelude.{None}
use Rattle.index_image.proofs.Heads.{same_shape}
use Rattle.index_sound.specs.Checks.{TablesOk}
use Rattle.index_sound.proofs.Decoding.{decode}
use Rattle.index_image.proofs.Images.{head_ok}
use Rattle.index_sound.proofs.Checking.{tables-ok}

pub tables-sound : (bs : List ℕ) (s : Shape) → HeadOk (words bs) (length bs) s → TablesOk bs s ↔ Sound bs
tables-sound bs s h = (
  decode bs s h,
  λ x.
      let e = same_shape (words bs) (length bs) (shape_of x.state) s (head_ok bs x.state x.is) h in
      rw e at (tables-ok bs x.state x.is),
)

pub no-image : (bs : List ℕ) → HeadIs (words bs) (length bs) None → Sound bs → ⊥
unfolding HeadIs
no-image bs h x = h (shape_of x.state) (head_ok bs x.state x.is)
