-- The maxima of the variables and their growth, from document 01. Assumes nothing.
use Rattle.std.specs.Prelude.{◌≡◌, Bool, true, cond, ◌&&◌, List, [], ◌∷◌, ℕ, ◌+◌, ◌-◌, ◌*◌, ◌/◌, ◌≤◌, ◌<◌, eqb, leb, ltb, length, get_or, set}
use Rattle.words.specs.Kinds.{kind, ident, power}
use Rattle.words.specs.Words.{words}
use Rattle.monomial.specs.Sizes.{variables_fit}

-- question 1: 1 to 64 variables, one maximum a variable, each 1 to 32,767
pub record Maxima (m : ℕ) (xs : List ℕ) : Type 0 where
  pub some : 1 ≤ m
  pub few : m ≤ 64
  pub one_each : length xs ≡ m
  pub low : (v : ℕ) → v < m → 1 ≤ get_or xs v 0
  pub high : (v : ℕ) → v < m → get_or xs v 0 ≤ 32767

-- the same as a test on the bytes lent, which are exactly the maxima's words
unfoldable pub all_in_range : List ℕ → Bool
all_in_range [] = true
all_in_range (x ∷ xs) = leb 1 x && (leb x 32767 && all_in_range xs)

unfoldable pub maxima_lent : ℕ → List ℕ → Bool
maxima_lent m s = variables_fit m && (eqb (length s) (4 * m) && all_in_range (words s))

-- the maxima after `update`, which walks the product and stops at the first variable not above its maximum.
-- The end word is not a variable.
unfoldable pub updated : List ℕ → List ℕ → List ℕ
updated [] xs = xs
updated (w ∷ ws) xs = cond (eqb (kind w) 1 && ltb (get_or xs (ident w) 0) (power w)) (updated ws (set xs (ident w) (power w))) xs

unfoldable pub total : List ℕ → ℕ
total [] = 0
total (x ∷ xs) = x + total xs

-- growth beyond a percentage. The total at the beginning is m, since maxima begin at 1.
unfoldable pub grown : ℕ → List ℕ → ℕ → Bool
grown m xs percentage = ltb percentage ((total xs - m) * 100 / total xs)
