-- A query in terms of ranges: which monomial of an entry is to divide which of the query's, and which ratios count. A ratio counts where it is
-- neither below the range nor past it; a program compares labels with its ends. Assumes nothing.
use Rattle.std.specs.Prelude.{Bool, true, false, not, cond, ◌&&◌, List, ℕ, suc, ltb}
use Rattle.std.proofs.Math.Option.{Option, none, some}
use Rattle.monomial.specs.Monomial.{pow}
use Rattle.index_theory.specs.Entries.{Entry, entry_at, quotient_of, ratio_of, above}
use Rattle.index_theory.specs.Searches.{Query, containment, reducing, high, low, singular, dense, may, is_regular, ratio_at}
use Rattle.index_theory.specs.State.{Kind, monomials, ratioed, State}

-- the monomial to be divided
unfoldable pub dividend : Query → List ℕ
dividend (containment q) = q
dividend (reducing v q) = q
dividend (high v q) = q
dividend (low i s) = s
dividend (singular i s l) = s

-- by the lm of an entry, or else by its signature monomial
unfoldable pub by_lm : Query → Bool
by_lm (containment q) = true
by_lm (reducing v q) = true
by_lm (high v q) = true
by_lm (low i s) = false
by_lm (singular i s l) = false

unfoldable pub divisor_of : Query → Entry → List ℕ
divisor_of r e = cond (by_lm r) e.lm e.sign

module _ (es : List Entry) where
  -- the ratio at place e is not below those that are asked for
  unfoldable pub not_below : Query → ℕ → Bool
  not_below (containment q) e = true
  not_below (reducing v q) e = true
  not_below (high v q) e = above (ratio_of (entry_at es e)) v
  not_below (low i s) e = not (ltb (entry_at es e).index i)
  not_below (singular i s l) e = above (ratio_of (entry_at es e)) (quotient_of i s l)

  -- nor past them
  unfoldable pub not_past : Query → ℕ → Bool
  not_past (containment q) e = true
  not_past (reducing v q) e = not (above (ratio_of (entry_at es e)) v)
  not_past (high v q) e = true
  not_past (low i s) e = not (ltb i (entry_at es e).index)
  not_past (singular i s l) e = not (ltb i (entry_at es e).index)

  -- an entry that is asked for takes the place of what was found: of base divisors only one of a larger ratio
  unfoldable pub replaces : Query → Option ℕ → ℕ → Bool
  replaces (containment q) a e = true
  replaces (reducing v q) a e = true
  replaces (high v q) none e = true
  replaces (high v q) (some b) e = above (ratio_at es e) (ratio_at es b)
  replaces (low i s) none e = true
  replaces (low i s) (some b) e = above (ratio_at es e) (ratio_at es b)
  replaces (singular i s l) a e = true

  -- whether the search goes on behind it
  unfoldable pub goes_on : Query → ℕ → Bool
  goes_on (containment q) e = false
  goes_on (reducing v q) e = not (is_regular es v e)
  goes_on (high v q) e = true
  goes_on (low i s) e = true
  goes_on (singular i s l) e = false

-- a node is not ruled out by its mask
unfoldable pub may_go : State → Query → List ℕ → Bool
may_go st r es = cond (by_lm r) (may st (dividend r) es) true

-- the dimension of variable v
abbrev pub dim_of : Kind → ℕ → ℕ
dim_of monomials v = v
dim_of ratioed v = suc v

-- the largest key of variable v whose other side may have a divisor; keys are words
unfoldable pub limit_of : Query → ℕ → ℕ
limit_of r v = cond (by_lm r && dense (dividend r) v) (pow 1 (dividend r) v) 4294967295
