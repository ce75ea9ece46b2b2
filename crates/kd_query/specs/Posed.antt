-- What the words of a query stand for. Assumes nothing.
use Rattle.std.specs.Prelude.{◌≡◌, Bool, true, false, List, ℕ}
use Rattle.words.specs.Words.{words}
use Rattle.index_theory.specs.Ranges.{dividend}
use Rattle.index_theory.specs.Searches.{Query, kind_for}
use Rattle.index_theory.specs.State.{ratioed, State}
use Rattle.index_image.specs.Layout.{Is}
use Rattle.query_words.specs.Asked.{search_of, Range}
use Rattle.query_words.specs.Rooted.{Rooted}
use Rattle.query_words.specs.declared.Search.{Search}
use Rattle.query_words.specs.declared.Search.TheVariants.{Contained, Reducer, High, Low, Singular}

-- ---- what is searched for
-- lms are to divide, or else signature monomials
unfoldable pub lm_divides : Search → Bool
lm_divides Contained = true
lm_divides Reducer = true
lm_divides High = true
lm_divides Low = false
lm_divides Singular = false

-- ---- what the words are made for
-- with the image bs and the monomial ms, the words Q stand for every request of the search's number that has this range of labels
unfoldable pub Poses : (bs ms : List ℕ) (search from to floor : ℕ) (Q : List ℕ) → Type 0
Poses bs ms search from to floor Q =
    (st : State) (r : Query) → Is st bs → st.kind ≡ kind_for r → search_of r ≡ search → words ms ≡ dividend r
    → (st.kind ≡ ratioed → Range st r from to floor) → Rooted st r bs ms Q

-- they stand for the request r, whatever state the image holds
unfoldable pub PosedFor : (bs ms : List ℕ) (r : Query) (Q : List ℕ) → Type 0
PosedFor bs ms r Q = (st : State) → Is st bs → Rooted st r bs ms Q
