-- The words of a query: what the walk needs of what is asked, and of the image's shape. src/lib.rt has the same places. Assumes nothing.
use Rattle.std.specs.Prelude.{◌≡◌, Bool, true, cond, List, ℕ, zero, suc, ◌+◌, ◌*◌, ◌≤◌, ◌<◌, leb, ltb, length, get_or}
use Rattle.std.proofs.Math.Option.{Option, none, some}
use Rattle.words.specs.Words.{words}
use Rattle.monomial.specs.Monomial.{Canonical, pow}
use Rattle.divmask.specs.Mask.{mask, vector}
use Rattle.index_theory.specs.Entries.{entry_at, ratio_of}
use Rattle.index_theory.specs.State.{ratioed, State, label_of}
use Rattle.index_theory.specs.Searches.{Query, containment, reducing, high, low, singular, kind_for, is_regular}
use Rattle.index_theory.specs.Ranges.{dividend, by_lm, not_below, not_past, limit_of}
use Rattle.index_image.specs.Shape as at
use Rattle.index_image.specs.declared.Shape.{Shape}
use Rattle.query_words.specs.declared.Search.{Search}
use Rattle.query_words.specs.declared.Search.TheVariants.{Contained, Reducer, High, Low, Singular}

-- how many words a query has
abbrev pub query_size : ℕ
query_size = 92

-- ---- what is asked
-- by the tag of a branch, 1 to 65: the largest key whose other side may have a divisor
abbrev pub limit_in : List ℕ → ℕ → ℕ
limit_in Q tag = get_or Q tag 0

abbrev pub search_in : List ℕ → ℕ
search_in Q = get_or Q 66 0

-- the mask of the monomial to be divided, and its short exponent vector
abbrev pub mask_in : List ℕ → ℕ
mask_in Q = get_or Q 68 0

abbrev pub vector_in : List ℕ → ℕ
vector_in Q = get_or Q 69 0

-- that for nodes: all bits are set in searches that leave out none by mask
abbrev pub node_mask_in : List ℕ → ℕ
node_mask_in Q = get_or Q 70 0

-- labels count from `from` on and below `to`; a reducer's below `floor` is regular
abbrev pub from_in : List ℕ → ℕ
from_in Q = get_or Q 72 0 + 4294967296 * get_or Q 73 0

abbrev pub to_in : List ℕ → ℕ
to_in Q = get_or Q 74 0 + 4294967296 * get_or Q 75 0

abbrev pub floor_in : List ℕ → ℕ
floor_in Q = get_or Q 76 0 + 4294967296 * get_or Q 77 0

-- where the divisor of entry 0 and its mask stand
abbrev pub slot_in : List ℕ → ℕ
slot_in Q = get_or Q 78 0

abbrev pub mask_at_in : List ℕ → ℕ
mask_at_in Q = get_or Q 79 0

abbrev pub entry_width_in : List ℕ → ℕ
entry_width_in Q = get_or Q 83 0

-- ---- the image's shape
unfoldable pub shape_in : List ℕ → Shape
shape_in Q = record { kind = get_or Q 87 0; variables = get_or Q 88 0; capacity = get_or Q 89 0; entries = get_or Q 90 0; nodes = get_or Q 91 0 }

-- what follows from it
pub record Laid (Q : List ℕ) (s : Shape) : Type 0 where
  pub long : query_size ≤ length Q
  pub shape : s ≡ shape_in Q
  pub range : at.InRange s
  pub node : get_or Q 80 0 ≡ at.node_at s 0
  pub node-width : get_or Q 81 0 ≡ at.node_width s.variables
  pub permutation : get_or Q 82 0 ≡ at.permutation_at s
  pub entry-width : entry_width_in Q ≡ at.entry_width s
  pub row : get_or Q 84 0 ≡ at.row_at s 0
  pub row-width : get_or Q 85 0 ≡ s.variables + 3
  pub label : get_or Q 86 0 ≡ at.label_at s 0

-- ---- what has been found: 0 for nothing, else the place of an entry + 1
unfoldable pub option_of : ℕ → Option ℕ
option_of zero = none
option_of (suc e) = some e

-- the searches by number
unfoldable pub search_number : Search → ℕ
search_number Contained = 0
search_number Reducer = 1
search_number High = 2
search_number Low = 3
search_number Singular = 4

-- the number of a request's search
abbrev pub search_of : Query → ℕ
search_of (containment q) = 0
search_of (reducing v q) = 1
search_of (high v q) = 2
search_of (low i s) = 3
search_of (singular i s l) = 4

abbrev pub label_at : State → ℕ → ℕ
label_at st e = label_of st.labels (ratio_of (entry_at st.entries e))

-- where the monomial of entry e stands that is to divide: lm or signature monomial
unfoldable pub slot_at : Shape → Bool → ℕ → ℕ
slot_at s lm e = cond lm (at.lm_at s e) (at.sign_at s e)

-- a reducer is strictly lower than what is asked
unfoldable pub lowered : State → Query → ℕ → Bool
lowered st (containment q) e = true
lowered st (reducing v q) e = is_regular st.entries v e
lowered st (high v q) e = true
lowered st (low i s) e = true
lowered st (singular i s l) e = true

-- the ratios asked for are those with labels in a range; a regular reducer's label lies below `floor`
pub record Range (st : State) (r : Query) (from to floor : ℕ) : Type 0 where
  pub from_is : (e : ℕ) → e < length st.entries → not_below st.entries r e ≡ leb from (label_at st e)
  pub to_is : (e : ℕ) → e < length st.entries → not_past st.entries r e ≡ ltb (label_at st e) to
  pub floor-is : search_of r ≡ 1 → (e : ℕ) → e < length st.entries → lowered st r e ≡ ltb (label_at st e) floor

-- the words Q and the bytes ms, a monomial, stand for the request r in an image of st, whose shape is s
pub record Asks (st : State) (r : Query) (ms : List ℕ) (s : Shape) (Q : List ℕ) : Type 0 where
  pub laid : Laid Q s
  pub home : st.kind ≡ kind_for r
  pub search : search_in Q ≡ search_of r
  pub monomial : words ms ≡ dividend r
  pub canonical : Canonical 1 st.variables (dividend r)
  pub masked : mask_in Q ≡ mask st.variables st.map_maxima (pow 1 (dividend r))
  pub vectored : vector_in Q ≡ vector st.variables (pow 1 (dividend r))
  pub node-masked : node_mask_in Q ≡ cond (by_lm r) (mask_in Q) 4294967295
  pub slot : slot_in Q ≡ slot_at s (by_lm r) 0
  pub mask_at : mask_at_in Q ≡ at.mask_at s.variables (slot_at s (by_lm r) 0)
  pub limits : (v : ℕ) → v < s.variables → limit_in Q (1 + s.kind + v) ≡ limit_of r v
  pub range : st.kind ≡ ratioed → Range st r (from_in Q) (to_in Q) (floor_in Q)
