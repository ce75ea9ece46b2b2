-- What stands in the image's rows, by its words. Assumes nothing.
use Rattle.std.specs.Prelude.{◌≡◌, List, ℕ, ◌+◌, ◌*◌, length, get_or, drop}
use Rattle.words.specs.Words.{words}
use Rattle.words.specs.Tables.{part}
use Rattle.monomial.specs.Monomial.{front, Starts, first, pow}
use Rattle.divmask.specs.Mask.{mask}
use Rattle.index_image.specs.Layout.{slot}
use Rattle.index_image.specs.Shape as at
use Rattle.index_image.specs.Walk.{map_maxima}
use Rattle.index_image.specs.declared.Shape.{Shape}

-- the words of the canonical monomial that starts at word g; none where there is no such
unfoldable pub monomial_in : List ℕ → ℕ → ℕ → List ℕ
monomial_in W m g = part W g (front 1 m 0 (drop g W))

-- the bytes are exactly the words ws
pub record Taken (bs ws : List ℕ) : Type 0 where
  pub is : words bs ≡ ws
  pub long : length bs ≡ 4 * length ws

-- the bytes begin with the words ws of a canonical monomial in m variables
pub record Begins (m : ℕ) (bs ws : List ℕ) : Type 0 where
  pub starts : Starts 1 m (words bs)
  pub is : first 1 (words bs) ≡ ws

-- the entries at places lo up to lo + c of the permutation
abbrev pub entries_from : List ℕ → Shape → ℕ → ℕ → List ℕ
entries_from W s lo c = part W (at.permutation_at s + lo) c

-- the row at word `i` has the gcd ws and its mask
pub record NodeIs (W : List ℕ) (m : ℕ) (xs : List ℕ) (i : ℕ) (ws : List ℕ) : Type 0 where
  pub masked : get_or W (at.node_mask_at i) 0 ≡ mask m xs (pow 1 ws)
  pub gcd : part W (at.gcd_at i) (at.slot_width m) ≡ slot m ws

abbrev pub NodeOk : List ℕ → Shape → ℕ → List ℕ → Type 0
NodeOk W s i ws = NodeIs W s.variables (map_maxima W s) i ws
