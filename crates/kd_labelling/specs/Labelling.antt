-- A ratio gets a row and a label in the label map of an image. Assumes nothing.
use Rattle.std.specs.Prelude.{◌≡◌, List, ℕ}
use Rattle.words.specs.Words.{paste_w}
use Rattle.fast_compare.specs.Map as map
use Rattle.fast_compare.specs.Layout as labels
use Rattle.index_theory.specs.Calls.{relabel}
use Rattle.index_theory.specs.State.{row_of}
use Rattle.index_image.specs.Shape as at
use Rattle.index_image.specs.declared.Shape.{Shape}

-- the map with a label for v, if need be after one rebuild
abbrev pub settled : map.State → map.Value → map.State
settled l v = relabel (map.answer l v) l v

-- what is left of an image whose label map is l, and the row that v has
pub record Labels (s : Shape) (l : map.State) (v : map.Value) (r : ℕ) (entry exit : List ℕ) : Type 0 where
  pub row : r ≡ row_of (settled l v) v
  pub bytes : exit ≡ paste_w entry (at.labels_at s) (labels.encode (settled l v))
