-- What the members of the search cycle ask and promise. Assumes nothing.
use Rattle.std.specs.Prelude.{◌≡◌, Bool, List, ℕ, ◌≤◌}
use Rattle.std.proofs.Math.Option.{Option}
use Rattle.words.specs.Words.{words}
use Rattle.kd_theory.specs.Tree.{Tree, leaf, branch, visit, search_at}
use Rattle.kd_theory.specs.Tree as tree
use Rattle.index_theory.specs.State.{State}
use Rattle.index_theory.specs.Searches.{Query, path, process, split}
use Rattle.index_image.specs.declared.Shape.{Shape}
use Rattle.kd_image.specs.HasTree.{HasTree, Became}
use Rattle.query_words.specs.Asked.{option_of, Asks}
use Rattle.kd_leaf.specs.Visited.{Stepped}

-- ---- the theory's search at a node, and of a branch
abbrev pub search_from : State → Query → ℕ → Tree → Option ℕ → tree.Out (Option ℕ)
search_from st r = search_at (split st) (path st r) (process st.entries r)

abbrev pub visit_of : State → Query → Tree → Option ℕ → tree.Out (Option ℕ)
visit_of st r = visit (path st r) (process st.entries r) (search_from st r)

-- ---- what is asked: some tree of some state stands there
pub record Ready (bs ms : List ℕ) (s : Shape) (Q : List ℕ) (k lo rows best : ℕ) : Type 0 where
  pub state : State
  pub request : Query
  pub tree : Tree
  pub asks : Asks state request ms s Q
  pub has : HasTree state (words bs) s k lo rows tree
  pub small : best ≤ s.entries

pub record ReadyLeaf (bs ms : List ℕ) (s : Shape) (Q : List ℕ) (k lo rows best : ℕ) : Type 0 where
  pub state : State
  pub request : Query
  pub es : List ℕ
  pub asks : Asks state request ms s Q
  pub has : HasTree state (words bs) s k lo rows (leaf es)
  pub small : best ≤ s.entries

-- ---- what is promised, for whatever tree stood there
pub record Found (st : State) (bs bs' : List ℕ) (s : Shape) (k lo rows : ℕ) (t : Tree) (o : tree.Out (Option ℕ)) (best : ℕ) (on : Bool) (rows' : ℕ) : Type 0 where
  pub became : Became st bs bs' s k lo rows rows' t o.tree
  pub best-is : option_of best ≡ o.acc
  pub on-is : on ≡ o.on
  pub small : best ≤ s.entries

unfoldable pub Searched : (bs bs' ms : List ℕ) (s : Shape) (Q : List ℕ) (dim k lo rows best best' : ℕ) (on : Bool) (rows' : ℕ) → Type 0
Searched bs bs' ms s Q dim k lo rows best best' on rows' =
    (st : State) (r : Query) (t : Tree) → Asks st r ms s Q → HasTree st (words bs) s k lo rows t
    → Found st bs bs' s k lo rows t (search_from st r dim t (option_of best)) best' on rows'

unfoldable pub Branched : (bs bs' ms : List ℕ) (s : Shape) (Q : List ℕ) (k lo rows best best' : ℕ) (on : Bool) (rows' : ℕ) → Type 0
Branched bs bs' ms s Q k lo rows best best' on rows' =
    (st : State) (r : Query) (d key : ℕ) (a b : Tree) → Asks st r ms s Q → HasTree st (words bs) s k lo rows (branch d key a b)
    → Found st bs bs' s k lo rows (branch d key a b) (visit_of st r (branch d key a b) (option_of best)) best' on rows'

-- those of a leaf
unfoldable pub Scanned : (bs ms : List ℕ) (s : Shape) (Q : List ℕ) (k lo rows best best' : ℕ) (on : Bool) → Type 0
Scanned bs ms s Q k lo rows best best' on = (st : State) (r : Query) (es : List ℕ) → Asks st r ms s Q → HasTree st (words bs) s k lo rows (leaf es) → Stepped st r s es best best' on
