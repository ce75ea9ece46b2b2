-- What the doors answer and leave, for all bytes lent, question by question as document 01 has them. Assumes nothing.
use Rattle.std.specs.Prelude.{◌≡◌, Result, Ok, Err, Bool, cond, ◌&&◌, List, ℕ, ◌*◌, ◌≤◌, ◌<◌, leb, ltb, length}
use Rattle.refusals.specs.declared.Refusal.{Refusal}
use Rattle.refusals.specs.declared.Refusal.TheVariants.{Sizes}
use Rattle.words.specs.Words.{words, paste_w}
use Rattle.monomial.specs.Sizes.{sizes_fit}
use Rattle.divmask.specs.Tracker.{maxima_lent}
use Rattle.index_theory.specs.State.{monomials, ratioed, State, opened}
use Rattle.index_theory.specs.Listing.{listing}
use Rattle.index_image.specs.Layout.{encode, Is, Sound}
use Rattle.index_image.specs.Size.{bytes}
use Rattle.call_list.specs.Bodies.{IsList}
use Rattle.index_opening.specs.Kinds.{index_kind}
use Rattle.index_run.specs.Ran.{Ran}

-- ---- opening
-- question 1: index kind 0 or 1, variables 1 to 64, capacity 1 to 4,096, one maximum a variable, each 1 to 32,767
unfoldable pub opening_good : (kind variables capacity : ℕ) (maxima : List ℕ) → Bool
opening_good k m c xs = leb k 1 && (sizes_fit m c && maxima_lent m xs)

-- the length call has it alone
unfoldable pub length_of : (kind variables capacity : ℕ) (maxima : List ℕ) → Result ℕ Refusal
length_of k m c xs = cond (opening_good k m c xs) (Ok (bytes k m c)) (Err Sizes)

-- as C is told
unfoldable pub length_number : (kind variables capacity : ℕ) (maxima : List ℕ) → ℕ
length_number k m c xs = cond (opening_good k m c xs) (bytes k m c) 1

-- question 2: the buffer is at least so long
unfoldable pub open_number : (kind variables capacity : ℕ) (maxima image : List ℕ) → ℕ
open_number k m c xs bs = cond (opening_good k m c xs) (cond (ltb (length bs) (bytes k m c)) 2 0) 1

unfoldable pub open_bytes : (kind variables capacity : ℕ) (maxima image : List ℕ) → List ℕ
open_bytes k m c xs bs = cond (opening_good k m c xs && leb (bytes k m c) (length bs)) (paste_w bs 0 (encode (opened (index_kind k) m c (words xs)))) bs

-- ---- a list of calls
pub record RunIs (bs list out bs' out' : List ℕ) (r : ℕ) : Type 0 where
  pub three : (Sound bs → ⊥) → r ≡ 3
  pub four : Sound bs → (IsList list → ⊥) → r ≡ 4
  pub five : Sound bs → (l : IsList list) → length out < 4 * length l.calls → r ≡ 5
  pub served : Sound bs → (l : IsList list) → 4 * length l.calls ≤ length out → r ≡ 0
  -- a refusal changes nothing; else the calls are run
  pub refused : (r ≡ 0 → ⊥) → (bs' ≡ bs) × (out' ≡ out)
  pub ran : r ≡ 0 → (l : IsList list) → Ran l.calls bs bs' out out'

-- ---- the listing of a monomial index
pub record ListingIs (bs out out' : List ℕ) (r : ℕ) : Type 0 where
  pub three : (Sound bs → ⊥) → r ≡ 3
  pub six : (st : State) → Is st bs → st.kind ≡ ratioed → r ≡ 6
  pub five : (st : State) → Is st bs → st.kind ≡ monomials → length out < 4 * length (listing st) → r ≡ 5
  pub served : (st : State) → Is st bs → st.kind ≡ monomials → 4 * length (listing st) ≤ length out → r ≡ 0
  pub refused : (r ≡ 0 → ⊥) → out' ≡ out
  pub written : r ≡ 0 → (st : State) → Is st bs → out' ≡ paste_w out 0 (listing st)
