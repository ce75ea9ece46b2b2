-- The header of an image. Assumes nothing.
use Rattle.std.specs.Prelude.{◌≡◌, List, ℕ, ◌*◌, ◌≤◌, get_or, Option, Some, None}
use Rattle.words.specs.Tables.{part, zeros}
use Rattle.index_image.specs.Shape as at
use Rattle.index_image.specs.declared.Shape.{Shape}

-- layout 1, numbers in range that `len` bytes have room for, and zeros in the words kept for later use
pub record HeadOk (W : List ℕ) (len : ℕ) (s : Shape) : Type 0 where
  pub layout : get_or W at.layout_at 0 ≡ 1
  pub kind : get_or W at.kind_at 0 ≡ s.kind
  pub variables : get_or W at.variables_at 0 ≡ s.variables
  pub capacity : get_or W at.capacity_at 0 ≡ s.capacity
  pub entries : get_or W at.length_at 0 ≡ s.entries
  pub nodes : get_or W at.nodes_count_at 0 ≡ s.nodes
  pub kept : part W at.kept_at at.kept ≡ zeros at.kept
  pub range : at.InRange s
  pub room : 4 * at.size s ≤ len

-- the shape of the image, or that there is none
unfoldable pub HeadIs : List ℕ → ℕ → Option Shape → Type 0
HeadIs W len (Some s) = HeadOk W len s
HeadIs W len None = (s : Shape) → HeadOk W len s → ⊥
