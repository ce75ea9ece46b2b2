-- What the walk over the node rows decides. Assumes nothing.
use Rattle.std.specs.Prelude.{◌≡◌, List, ℕ, ◌+◌, ◌≤◌, length, Option, Some}
use Rattle.kd_theory.specs.Tree.{Tree, inorder, nodes}
use Rattle.index_image.specs.Walk.{TreeAt}
use Rattle.index_image.specs.declared.Shape.{Shape}
use Rattle.leaf_rows.specs.Leaves.{Bounded}

-- a tree at row k of at most `avail` entries, within the rows and the bounds
pub record Found (W : List ℕ) (s : Shape) (H : List ℕ) (ll lh k lo avail : ℕ) (t : Tree) : Type 0 where
  pub is : TreeAt W s k lo t
  pub inside : k + nodes t ≤ s.nodes
  pub few : length (inorder t) ≤ avail
  pub bounded : Bounded W s H ll lh (inorder t)

-- r is the number of rows of that tree, or that there is none
pub record Walked (W : List ℕ) (s : Shape) (H : List ℕ) (ll lh k lo avail : ℕ) (r : Option ℕ) : Type 0 where
  pub only : (t : Tree) → Found W s H ll lh k lo avail t → r ≡ Some (nodes t)
  pub made : (n : ℕ) → r ≡ Some n → (t : Tree) × Found W s H ll lh k lo avail t
