-- The row of a leaf, over the words of an image. Assumes nothing.
use Rattle.std.specs.Prelude.{List, ℕ}
use Rattle.index_image.specs.Walk.{power, map_maxima}
use Rattle.index_image.specs.Rows.{entries_from}
use Rattle.index_image.specs.Layout.{node_words}
use Rattle.index_image.specs.declared.Shape.{Shape}

-- the words of a leaf's row
abbrev pub leaf_words : List ℕ → Shape → ℕ → ℕ → List ℕ
leaf_words W s lo c = node_words s.variables (map_maxima W s) (power W s) 0 0 0 (entries_from W s lo c)
