-- What the writers of slots are given, and the words that the slots get: the gcd of a node, and the row of an entry of a ratio index.
-- Assumes nothing.
use Rattle.std.specs.Prelude.{◌≡◌, List, [], ◌∷◌, ℕ, ◌+◌, ◌*◌, ◌%◌, ◌≤◌, length}
use Rattle.words.specs.Words.{words}
use Rattle.words.specs.Kinds.{index_word}
use Rattle.monomial.specs.Monomial.{Canonical, pow}
use Rattle.divmask.specs.Mask.{mask}
use Rattle.divmask.specs.Tracker.{Maxima}
use Rattle.index_image.specs.Layout.{slot, masked}
use Rattle.index_image.specs.Shape as at
use Rattle.index_image.specs.Walk.{map_maxima}
use Rattle.index_image.specs.declared.Shape.{Shape}

-- an image whose numbers are in range, with room for their tables, and a map to make masks by
pub record Mapped (bs : List ℕ) (s : Shape) : Type 0 where
  pub range : at.InRange s
  pub room : 4 * at.size s ≤ length bs
  pub map : Maxima s.variables (map_maxima (words bs) s)

-- the bytes are the words of a canonical monomial, and no more
pub record Lent (m : ℕ) (bs : List ℕ) : Type 0 where
  pub canonical : Canonical 1 m (words bs)
  pub whole : length bs % 4 ≡ 0

-- the mask and the slot of a row
abbrev pub gcd_width : ℕ → ℕ
gcd_width m = m + 2

unfoldable pub gcd_words : ℕ → List ℕ → List ℕ → List ℕ
gcd_words m xs ws = mask m xs (pow 1 ws) ∷ slot m ws

-- the words of an entry of a ratio index
abbrev pub ratio_row : ℕ → List ℕ → ℕ → List ℕ → List ℕ → ℕ → List ℕ
ratio_row m xs i sign lm row = masked m xs lm (index_word i ∷ masked m xs sign (row ∷ []))
