-- The graded reverse lexicographic order of document 01, on monomials and on ratios. Assumes nothing.
use Rattle.std.specs.Prelude.{◌≡◌, List, ℕ, zero, suc, ◌+◌, length}
use Rattle.std.specs.declared.cmp.Ordering.{Ordering}
use Rattle.std.specs.declared.cmp.Ordering.TheVariants.{Equal}
use Rattle.std.specs.Ordering.{nat_cmp, ordering_then, match_ordering}
use Rattle.words.specs.Kinds.{power, upper_half}
use Rattle.monomial.specs.Monomial.{pow}
use Rattle.monomial_ordering.specs.declared.Total.{Total}

-- the sum of the powers of the variables below n. A ratio's powers each have 32,768 added, so totals compare the same.
unfoldable pub total : ℕ → (ℕ → ℕ) → ℕ
total zero p = 0
total (suc n) p = p n + total n p

-- at the smallest id below n where the powers differ, the smaller power is the larger monomial
unfoldable pub revlex : ℕ → (ℕ → ℕ) → (ℕ → ℕ) → Ordering
revlex zero p q = Equal
revlex (suc n) p q = ordering_then (revlex n p q) (nat_cmp (q n) (p n))

-- the larger total is the larger, then the reverse lexicographic order; for the variables below n
unfoldable pub grevlex : ℕ → (ℕ → ℕ) → (ℕ → ℕ) → Ordering
grevlex n p q = ordering_then (nat_cmp (total n p) (total n q)) (revlex n p q)

-- the order on words of kind k. An id has 12 bits.
unfoldable pub order : ℕ → List ℕ → List ℕ → Ordering
order k a b = grevlex 4096 (pow k a) (pow k b)

-- what two words say of their monomials where they differ, and all variables of smaller ids have the same powers
unfoldable pub differing : ℕ → ℕ → ℕ → Ordering
differing x y absent =
    match_ordering (nat_cmp (upper_half x) (upper_half y)) (nat_cmp absent (power x)) (nat_cmp (power y) (power x)) (nat_cmp (power y) absent)

-- the total of the words m of kind k, and their number of variables
pub record TotalOf (k : ℕ) (m : List ℕ) (t : Total) : Type 0 where
  pub sum : t.sum ≡ total 4096 (pow k m)
  pub variables : t.variables + 1 ≡ length m
