-- The header of an image gives one shape. Assumes nothing.
use mathlib.Core.Path.{◌≡◌, sym, ◌∙◌}
use mathlib.Core.List.{List, ◌∷◌}
use Prim.Native.Nat.{ℕ, ◌*◌, ◌≤◌}
use native.Mathlib.Omega.{arith}
use lib.ListN.{length, get_or}
use Rattle.words.specs.Tables.{part}
use Rattle.words.proofs.Tables.{part-cons}
use Rattle.index_image.specs.Shape as at
use Rattle.index_image.specs.Head.{HeadOk}
use Rattle.index_image.specs.declared.Shape.{Shape}
use Rattle.index_image.proofs.Bounds.{inside}

-- a header has one shape
pub same_shape : (W : List ℕ) (len : ℕ) (s t : Shape) → HeadOk W len s → HeadOk W len t → s ≡ t
same_shape W len s t h k = λ i. record {
  kind = (sym h.kind ∙ k.kind) i;
  variables = (sym h.variables ∙ k.variables) i;
  capacity = (sym h.capacity ∙ k.capacity) i;
  entries = (sym h.entries ∙ k.entries) i;
  nodes = (sym h.nodes ∙ k.nodes) i;
}

-- an image is longer than its header
pub long_enough : (W : List ℕ) (len : ℕ) (s : Shape) → HeadOk W len s → 4 * at.header_width ≤ len
long_enough W len s h = omega (arith, h.room, (inside s h.range 0 h.range.cap-from).entry)

-- the first words one by one
pub words-of-head : (W : List ℕ) → at.header_width ≤ length W
    → part W 0 at.header_width
    ≡ get_or W at.layout_at 0 ∷ get_or W at.kind_at 0 ∷ get_or W at.variables_at 0 ∷ get_or W at.capacity_at 0 ∷ get_or W at.length_at 0 ∷ get_or W at.nodes_count_at 0 ∷ part W at.kept_at at.kept
words-of-head W h =
    rw (
      part-cons W at.layout_at 23 (omega arith),
      part-cons W at.kind_at 22 (omega arith),
      part-cons W at.variables_at 21 (omega arith),
      part-cons W at.capacity_at 20 (omega arith),
      part-cons W at.length_at 19 (omega arith),
      part-cons W at.nodes_count_at 18 (omega arith),
    )
