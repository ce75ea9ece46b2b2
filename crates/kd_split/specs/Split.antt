-- What the functions that split a leaf ask and promise. Assumes nothing.
use Rattle.std.specs.Prelude.{◌≡◌, true, false, Option, Some, None, List, ℕ, ◌+◌, ◌<◌, length}
use Rattle.words.specs.Words.{words}
use Rattle.index_image.specs.Walk.{dims}
use Rattle.index_image.specs.declared.Shape.{Shape}
use Rattle.kd_theory.specs.Bag.{keep}
use Rattle.kd_theory.specs.Tree.{Tree, leaf, branch, split_root}
use Rattle.index_theory.specs.State.{State}
use Rattle.index_theory.specs.Searches.{split}
use Rattle.kd_dimension.specs.Choice.{key_in, mark_in}
use Rattle.kd_sides.specs.Sides.{on_side}
use Rattle.kd_image.specs.HasTree.{HasTree, Became}

-- some tree of some state stands there
pub record Standing (bs : List ℕ) (s : Shape) (k lo rows : ℕ) : Type 0 where
  pub state : State
  pub tree : Tree
  pub has : HasTree state (words bs) s k lo rows tree

-- a leaf of more than 64 entries stands there
pub record Splittable (bs : List ℕ) (s : Shape) (k lo rows c d : ℕ) : Type 0 where
  pub state : State
  pub es : List ℕ
  pub has : HasTree state (words bs) s k lo rows (leaf es)
  pub count : c ≡ length es
  pub many : 64 < c
  pub dim : d < dims s

-- it is split in dimension d at x
unfoldable pub SplitAt : (bs bs' : List ℕ) (s : Shape) (k lo rows d x : ℕ) → Type 0
SplitAt bs bs' s k lo rows d x =
    (st : State) (es : List ℕ) → HasTree st (words bs) s k lo rows (leaf es)
    → Became st bs bs' s k lo rows (rows + 2) (leaf es)
    (branch d (mark_in (words bs) s d x (keep (on_side (key_in (words bs) s) d x false) es)) (leaf (keep (on_side (key_in (words bs) s) d x true) es))
    (leaf (keep (on_side (key_in (words bs) s) d x false) es)))

-- a node is opened: n is none where it is a leaf that stays, else the number of rows then in use
pub record Stays (st : State) (bs bs' : List ℕ) (dim : ℕ) (t : Tree) : Type 0 where
  pub es : List ℕ
  pub is : t ≡ leaf es
  pub split_root-is : split_root (split st) dim t ≡ leaf es
  pub bytes : bs' ≡ bs

pub record RootBranch (st : State) (bs bs' : List ℕ) (s : Shape) (dim k lo rows : ℕ) (t : Tree) (n : ℕ) : Type 0 where
  pub d : ℕ
  pub key : ℕ
  pub less : Tree
  pub other : Tree
  pub split_root-is : split_root (split st) dim t ≡ branch d key less other
  pub became : Became st bs bs' s k lo rows n t (branch d key less other)

unfoldable pub RootSplitAs : (st : State) (bs bs' : List ℕ) (s : Shape) (dim k lo rows : ℕ) (t : Tree) → Option ℕ → Type 0
RootSplitAs st bs bs' s dim k lo rows t None = Stays st bs bs' dim t
RootSplitAs st bs bs' s dim k lo rows t (Some n) = RootBranch st bs bs' s dim k lo rows t n

unfoldable pub RootSplit : (bs bs' : List ℕ) (s : Shape) (dim k lo rows : ℕ) → Option ℕ → Type 0
RootSplit bs bs' s dim k lo rows n = (st : State) (t : Tree) → HasTree st (words bs) s k lo rows t → RootSplitAs st bs bs' s dim k lo rows t n
