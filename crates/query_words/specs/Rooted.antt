-- A search of a whole image. Assumes nothing.
use Rattle.std.specs.Prelude.{◌≡◌, Option, Some, None, IfSome, List, ℕ, ◌<◌, length}
use Rattle.std.proofs.Math.Option as math
use Rattle.words.specs.Words.{paste_w}
use Rattle.index_theory.specs.State.{State}
use Rattle.index_theory.specs.Calls.{with_tree}
use Rattle.index_theory.specs.Searches.{Query, find}
use Rattle.index_image.specs.Layout.{shape_of, encode, Is}
use Rattle.query_words.specs.Asked.{shape_in, Asks}

-- the bytes hold st, and the query's words stand for the request r
pub record Rooted (st : State) (r : Query) (bs ms Q : List ℕ) : Type 0 where
  pub is : Is st bs
  pub shape : shape_in Q ≡ shape_of st
  pub asks : Asks st r ms (shape_in Q) Q

pub record RootReady (bs ms Q : List ℕ) : Type 0 where
  pub state : State
  pub request : Query
  pub root : Rooted state request bs ms Q

-- what the code found, as the theory has it
abbrev pub theory_option : Option ℕ → math.Option ℕ
theory_option None = math.none
theory_option (Some e) = math.some e

-- what the theory's search answers, and the bytes of the state that it leaves
pub record Answer (st : State) (r : Query) (bs bs' : List ℕ) (place : Option ℕ) : Type 0 where
  pub found : theory_option place ≡ (find st r).acc
  pub small : IfSome place (λ e. e < length st.entries)
  pub bytes : bs' ≡ paste_w bs 0 (encode (with_tree st (find st r).tree))
  pub after : Is (with_tree st (find st r).tree) bs'

unfoldable pub Answered : (bs bs' ms Q : List ℕ) (place : Option ℕ) → Type 0
Answered bs bs' ms Q place = (st : State) (r : Query) → Rooted st r bs ms Q → Answer st r bs bs' place
