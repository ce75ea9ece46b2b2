-- What the doors of the label map answer, from document 01, and what they leave. Assumes nothing.
use Rattle.std.specs.Prelude.{◌≡◌, Result, Ok, Err, Bool, cond, ◌&&◌, List, ℕ, ◌*◌, ◌≤◌, leb, ltb, eqb, length}
use Rattle.words.specs.Words.{words, paste_w}
use Rattle.monomial.specs.Monomial.{lent}
use Rattle.monomial.specs.Sizes.{sizes_fit}
use Rattle.fast_compare.specs.Map.{value_of, State, answer, after, rebuild, empty}
use Rattle.fast_compare.specs.Layout.{encode, size, Is, Sound}
use Rattle.fast_compare.specs.declared.Comparer.{Comparer}
use Rattle.fast_compare.specs.declared.Comparer.TheVariants.{Known, New}
use Rattle.fast_compare.specs.declared.Unlabelled.{Unlabelled}
use Rattle.fast_compare.specs.Map as map
use Rattle.refusals.specs.Numbers as refusals
use Rattle.refusals.specs.declared.Refusal.{Refusal}
use Rattle.refusals.specs.declared.Refusal.TheVariants.{Unsound, BadWords}

-- a refusal's number where a 64-bit answer stands: in the upper half, so that it is no label and no length
abbrev pub refusal : ℕ → ℕ
refusal n = n * 4294967296

-- ---- opening and length
-- the length in bytes, or 1, for question 1
unfoldable pub length_for : ℕ → ℕ → ℕ
length_for m c = cond (sizes_fit m c) (4 * size m c) 1

-- questions 1 and 2 of a buffer of len bytes; 0 is served
unfoldable pub opening_for : ℕ → ℕ → ℕ → ℕ
opening_for m c len = cond (sizes_fit m c) (cond (leb (4 * size m c) len) 0 2) 1

-- the bytes after
unfoldable pub opened_bytes : ℕ → ℕ → List ℕ → List ℕ
opened_bytes m c bs = cond (eqb (opening_for m c (length bs)) 0) (paste_w bs 0 (encode (empty m c))) bs

-- ---- a label for a lent value
-- document 01's number for each answer: the label, or the refusal 3, 7, 8, 10
unfoldable pub number : Result ℕ Refusal → ℕ
number (Ok x) = x
number (Err r) = refusal (refusals.number r)

unfoldable pub told : Result Comparer Unlabelled → Result ℕ Refusal
told (Ok (Known x)) = Ok x
told (Ok (New x)) = Ok x
told (Err u) = Err (map.refusal u)

-- question 7 of a map in m variables: the index has 28 bits, and the ratio's bytes are exactly one canonical ratio
unfoldable pub value_lent : ℕ → ℕ → List ℕ → Bool
value_lent m i ratio = ltb i 268435456 && lent 2 m ratio

-- what a sound map answers, and what is left of it
unfoldable pub answer_for : State → ℕ → List ℕ → Result ℕ Refusal
answer_for st i ratio = cond (value_lent st.variables i ratio) (told (answer st (value_of i (words ratio)))) (Err BadWords)

unfoldable pub left : State → ℕ → List ℕ → State
left st i ratio = cond (value_lent st.variables i ratio) (after st (value_of i (words ratio))) st

-- the answer and every byte after, for all bytes lent
pub record Asking (i : ℕ) (ratio : List ℕ) (r : Result ℕ Refusal) (entry exit : List ℕ) : Type 0 where
  pub unsound : (Sound entry → ⊥) → r ≡ Err Unsound
  pub sound : (st : State) → Is st entry → (r ≡ answer_for st i ratio) × (exit ≡ paste_w entry 0 (encode (left st i ratio)))
  pub refused : ((x : ℕ) → r ≡ Ok x → ⊥) → exit ≡ entry

-- the same as C gets it
pub record Replied (i : ℕ) (ratio : List ℕ) (r : ℕ) (entry exit : List ℕ) : Type 0 where
  pub unsound : (Sound entry → ⊥) → r ≡ refusal 3
  pub sound : (st : State) → Is st entry → (r ≡ number (answer_for st i ratio)) × (exit ≡ paste_w entry 0 (encode (left st i ratio)))
  pub refused : 4294967296 ≤ r → exit ≡ entry

-- ---- rebuild
pub record Rebuilt (r : ℕ) (entry exit : List ℕ) : Type 0 where
  pub unsound : (Sound entry → ⊥) → (r ≡ 3) × (exit ≡ entry)
  pub sound : (st : State) → Is st entry → (r ≡ 0) × (exit ≡ paste_w entry 0 (encode (rebuild st)))
