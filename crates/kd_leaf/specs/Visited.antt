-- What a visit of entries asks and promises. Assumes nothing.
use Rattle.std.specs.Prelude.{◌≡◌, Bool, true, false, Option, None, Some, List, [], ◌∷◌, ℕ, ◌+◌, ◌≤◌}
use Rattle.words.specs.Words.{words}
use Rattle.kd_theory.specs.Bag.{fold_until}
use Rattle.kd_theory.specs.Tree.{start}
use Rattle.index_theory.specs.State.{State}
use Rattle.index_theory.specs.Searches.{Query, process}
use Rattle.index_image.specs.Rows.{entries_from}
use Rattle.index_image.specs.declared.Shape.{Shape}
use Rattle.kd_image.specs.HasTree.{Holds}
use Rattle.query_words.specs.Asked.{option_of, Asks}

-- some state stands in the image, and some request in the query's words and the monomial
pub record Known (bs ms : List ℕ) (s : Shape) (Q : List ℕ) : Type 0 where
  pub state : State
  pub request : Query
  pub asks : Asks state request ms s Q
  pub holds : Holds state (words bs) s

-- the tables stand, and c entries from place lo on
pub record ReadyEntries (bs ms : List ℕ) (s : Shape) (Q : List ℕ) (lo c best : ℕ) : Type 0 where
  pub state : State
  pub request : Query
  pub asks : Asks state request ms s Q
  pub holds : Holds state (words bs) s
  pub inside : lo + c ≤ s.entries
  pub small : best ≤ s.entries

-- the first of some entries that passes a test
pub data First (answers : ℕ → Bool → Type 0) : List ℕ → Option ℕ → Type 0 where
  absent : First answers [] None
  here : (e : ℕ) (es : List ℕ) → answers e true → First answers (e ∷ es) (Some e)
  later : (e : ℕ) (es : List ℕ) (found : Option ℕ) → answers e false → First answers es found → First answers (e ∷ es) found

-- entries are visited, one after the other
pub record Stepped (st : State) (r : Query) (s : Shape) (es : List ℕ) (best best' : ℕ) (on : Bool) : Type 0 where
  pub is : record { acc = option_of best'; on = on } ≡ fold_until (process st.entries r) (start (option_of best)) es
  pub small : best' ≤ s.entries

-- the c entries from place lo on
unfoldable pub Visited : (bs ms : List ℕ) (s : Shape) (Q : List ℕ) (lo c best best' : ℕ) (on : Bool) → Type 0
Visited bs ms s Q lo c best best' on = (st : State) (r : Query) → Asks st r ms s Q → Holds st (words bs) s → Stepped st r s (entries_from (words bs) s lo c) best best' on
