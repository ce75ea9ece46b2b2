-- The marks of named places, one word at a time. Assumes nothing.
use mathlib.Core.Path.{◌≡◌, refl}
use mathlib.Core.List.{List}
use Prim.Native.Nat.{ℕ, zero, suc}
use lib.ListN.{get_or, replicate}
use Rattle.index_image.specs.Marks.{Named, Marked}

pub blank-array : (n j : ℕ) → ◌≡◌ {A = ℕ} (get_or (replicate n 0) j 0) 0
blank-array zero j = refl
blank-array (suc n) zero = refl
blank-array (suc n) (suc j) = blank-array n j

-- every place is named exactly where every place is marked
pub named-marked : (W : List ℕ) (at w n : ℕ) (seen : List ℕ) → Marked W at w n seen → (j : ℕ) → Named W at w n j → get_or seen j 0 ≡ 1
named-marked W at w n seen m j o = rw o.is at (m.named o.i o.below)
