-- What the operations on monomials give, by the powers of each variable. Assumes nothing.
use Rattle.std.specs.Prelude.{Bool, true, false, cond, ◌&&◌, List, [], ◌∷◌, ℕ, zero, suc, min, ◌+◌, ◌-◌, ◌≤◌, eqb, leb, length, Option, Some, None}
use Rattle.monomial.specs.Monomial.{pow, monomial_of}
use Rattle.monomial.specs.declared.ordered_ops.Op.{Op}
use Rattle.monomial.specs.declared.ordered_ops.Op.TheVariants.{Gcd, Product, Quotient, Ratio}

-- the power that two powers meet in; of a ratio, the power + 32,768
abbrev pub met : Op → ℕ → ℕ → ℕ
met Gcd x y = min x y
met Product x y = x + y
met Quotient x y = x - y
met Ratio x y = x + 32768 - y

-- the kind of the words of the result
abbrev pub kind_of : Op → ℕ
kind_of Gcd = 1
kind_of Product = 1
kind_of Quotient = 1
kind_of Ratio = 2

-- the powers of the result
unfoldable pub powers : Op → List ℕ → List ℕ → ℕ → ℕ
powers o a b v = met o (pow 1 a v) (pow 1 b v)

-- the words of the result. The quotient is one where b divides a.
unfoldable pub result_words : Op → List ℕ → List ℕ → List ℕ
result_words o a b = monomial_of (kind_of o) (powers o a b)

-- a divides b: no power of a exceeds b's
unfoldable pub Divides : List ℕ → List ℕ → Type 0
Divides a b = (v : ℕ) → pow 1 a v ≤ pow 1 b v

-- the same as a test. An id has 12 bits.
unfoldable pub all_below : ℕ → (ℕ → Bool) → Bool
all_below zero f = true
all_below (suc n) f = f n && all_below n f

unfoldable pub divides : List ℕ → List ℕ → Bool
divides a b = all_below 4096 (λ v. leb (pow 1 a v) (pow 1 b v))

-- the same words
unfoldable pub equal : List ℕ → List ℕ → Bool
equal [] [] = true
equal [] (y ∷ ys) = false
equal (x ∷ xs) [] = false
equal (x ∷ xs) (y ∷ ys) = eqb x y && equal xs ys

-- whole division: the length of the quotient's words, or none
unfoldable pub divided : List ℕ → List ℕ → Option ℕ
divided a b = cond (divides b a) (Some (length (result_words Quotient a b))) None
