-- The words of a query, as they are written. Assumes nothing.
use Rattle.std.specs.Prelude.{◌≡◌, Bool, cond, ◌&&◌, List, [], ◌∷◌, ℕ, ◌+◌, ◌/◌, ◌%◌, ◌<◌, get_or}
use Rattle.monomial.specs.Monomial.{pow}
use Rattle.index_theory.specs.Searches.{dense}
use Rattle.index_image.specs.Shape as at
use Rattle.index_image.specs.declared.Shape.{Shape}
use Rattle.query_words.specs.Asked.{slot_at}

-- ---- limits
-- the largest key of variable v whose other side may have a divisor of q; lms are to divide, or else signature monomials
unfoldable pub limit_for : Bool → List ℕ → ℕ → ℕ
limit_for lm q v = cond (lm && dense q v) (pow 1 q v) 4294967295

-- each variable has its limit at the tag of its branches
pub record Limited (Q : List ℕ) (s : Shape) (limit : ℕ → ℕ) : Type 0 where
  pub each : (v : ℕ) → v < s.variables → get_or Q (1 + s.kind + v) 0 ≡ limit v

-- ---- the other words, in the order of their places
-- the search's number, mask and short exponent vector of the monomial to be divided, and the mask for nodes
unfoldable pub mask_words : ℕ → Bool → ℕ → ℕ → List ℕ
mask_words search lm mask vector = search ∷ 0 ∷ mask ∷ vector ∷ cond lm mask 4294967295 ∷ 0 ∷ []

-- a range of labels, each end in two words
unfoldable pub range_words : ℕ → ℕ → ℕ → List ℕ
range_words from to floor =
    from % 4294967296 ∷ from / 4294967296 ∷ to % 4294967296 ∷ to / 4294967296 ∷ floor % 4294967296 ∷ floor / 4294967296 ∷ []

-- where the divisor of entry 0 and its mask stand
unfoldable pub slot_words : Shape → Bool → List ℕ
slot_words s lm = slot_at s lm 0 ∷ at.mask_at s.variables (slot_at s lm 0) ∷ []

-- by the shape: where tables stand, and the label of row 0 with the shape
unfoldable pub place_words : Shape → List ℕ
place_words s = at.node_at s 0 ∷ at.node_width s.variables ∷ at.permutation_at s ∷ at.entry_width s ∷ at.row_at s 0 ∷ (s.variables + 3) ∷ []

unfoldable pub shape_words : Shape → List ℕ
shape_words s = at.label_at s 0 ∷ s.kind ∷ s.variables ∷ s.capacity ∷ s.entries ∷ s.nodes ∷ []
