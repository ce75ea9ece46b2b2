-- What the listing asks of the image, and what it writes. Assumes nothing.
use Rattle.std.specs.Prelude.{◌≡◌, List, ℕ, ◌+◌, ◌*◌, ◌≤◌, length}
use Rattle.words.specs.Words.{paste_w}
use Rattle.kd_theory.specs.Tree.{Tree, inorder, nodes, count}
use Rattle.index_theory.specs.State.{State}
use Rattle.index_theory.specs.Listing.{monomials_at}
use Rattle.index_image.specs.Layout.{shape_of, Is}
use Rattle.index_image.specs.Walk.{lm_in, TreeAt}
use Rattle.index_image.specs.declared.Shape.{Shape}

-- the words of the monomials at some places
abbrev pub lms : List ℕ → Shape → List ℕ → List ℕ
lms W s es = monomials_at (lm_in W s) es

-- a tree stands at row k, its entries from place lo on, and `room` bytes have room for its monomials
pub record Here (W : List ℕ) (s : Shape) (k lo room : ℕ) : Type 0 where
  pub tree : Tree
  pub is : TreeAt W s k lo tree
  pub inside : k + nodes tree ≤ s.nodes
  pub few : lo + count tree ≤ s.entries
  pub fits : 4 * length (lms W s (inorder tree)) ≤ room

-- r words are written at the front: the monomials of the tree
pub record Below (W : List ℕ) (s : Shape) (k lo : ℕ) (out out' : List ℕ) (r : ℕ) (h : Here W s k lo (length out)) : Type 0 where
  pub long : r ≡ length (lms W s (inorder h.tree))
  pub bytes : out' ≡ paste_w out 0 (lms W s (inorder h.tree))

-- ---- a whole image
-- the bytes are the image of some state, and s has the numbers of its header
pub record Root (bs : List ℕ) (s : Shape) : Type 0 where
  pub state : State
  pub is : Is state bs
  pub shape : s ≡ shape_of state

-- what holds of every state with that image and shape
abbrev pub Each : List ℕ → Shape → (State → Type 0) → Type 0
Each bs s Q = (st : State) → Is st bs → s ≡ shape_of st → Q st
