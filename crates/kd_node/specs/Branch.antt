-- What is asked of the branch at a row, and what is promised of it. Assumes nothing.
use Rattle.std.specs.Prelude.{◌≡◌, Bool, List, ◌++◌, ℕ, suc, ◌+◌, ◌≤◌, get_or}
use Rattle.words.specs.Words.{words, put_w}
use Rattle.kd_theory.specs.Tree.{Tree, branch, inorder, goes_less, goes_other}
use Rattle.index_theory.specs.State.{State}
use Rattle.index_theory.specs.Searches.{Query, path}
use Rattle.index_image.specs.Shape as at
use Rattle.index_image.specs.declared.Shape.{Shape}
use Rattle.kd_image.specs.HasTree.{HasTree}
use Rattle.query_words.specs.Asked.{Asks}

-- some branch of some state stands there
pub record ReadyBranch (bs ms : List ℕ) (s : Shape) (Q : List ℕ) (k lo rows best : ℕ) : Type 0 where
  pub state : State
  pub request : Query
  pub dim : ℕ
  pub key : ℕ
  pub less : Tree
  pub other : Tree
  pub asks : Asks state request ms s Q
  pub has : HasTree state (words bs) s k lo rows (branch dim key less other)
  pub small : best ≤ s.entries

-- which sides of a branch are visited, and the dimension that is tried first there
pub record SidesAre (st : State) (r : Query) (d key : ℕ) (es : List ℕ) (less other : Bool) (next : ℕ) : Type 0 where
  pub less-is : less ≡ goes_less (path st r d key es)
  pub other-is : other ≡ goes_other (path st r d key es)
  pub next-is : next ≡ suc d
  pub next-to : next ≤ 65

unfoldable pub Chosen : (bs ms : List ℕ) (s : Shape) (Q : List ℕ) (k lo rows : ℕ) (less other : Bool) (next : ℕ) → Type 0
Chosen bs ms s Q k lo rows less other next =
    (st : State) (r : Query) (d key : ℕ) (a b : Tree) → Asks st r ms s Q → HasTree st (words bs) s k lo rows (branch d key a b)
    → SidesAre st r d key (inorder a ++ inorder b) less other next

-- the skip of the branch at row k has grown, and where its other side is
pub record Grew (bs bs' : List ℕ) (s : Shape) (k added row less : ℕ) : Type 0 where
  pub bytes : bs' ≡ put_w bs (at.skip_at (at.node_at s k)) (get_or (words bs) (at.skip_at (at.node_at s k)) 0 + added)
  pub row_is : row ≡ k + 1 + (get_or (words bs) (at.skip_at (at.node_at s k)) 0 + added)
  pub less-is : less ≡ get_or (words bs) (at.count_at (at.node_at s (k + 1))) 0
