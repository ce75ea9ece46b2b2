-- The bench cases of document 01 that are marked P, as one table of statements about the definitions that the contracts cite.
-- proofs/Theorem.antt proves that every one holds. Assumes nothing.
use Rattle.std.specs.Prelude.{Ok, ◌≡◌, cond, List, [], ◌∷◌, ℕ, ◌≤◌, eqb}
use Rattle.words.specs.Kinds.{var_word, end_word}
use Rattle.monomial.specs.Monomial.{pow, monomial_of}
use Rattle.monomial.specs.Operations.{result_words}
use Rattle.monomial_ordering.specs.Order.{order}
use Rattle.std.specs.declared.cmp.Ordering.TheVariants.{Greater}
use Rattle.monomial.specs.declared.ordered_ops.Op.TheVariants.{Ratio}
use Rattle.fast_compare.specs.Map.{Value, value_of, State, empty, answer, after, label, rebuild}
use Rattle.fast_compare.specs.declared.Comparer.TheVariants.{New}
use Rattle.divmask.specs.Mask.{mask}
use Rattle.divmask.specs.Tracker.{updated}
use Rattle.kd_theory.specs.Bifurcate.{average}

-- every statement of a table
abbrev pub AllHold : List (Type 0) → Type 0
AllHold [] = Unit {0}
AllHold (c ∷ cs) = c × AllHold cs

-- the power p of variable u, and q of variable v
abbrev pub two : ℕ → ℕ → ℕ → ℕ → ℕ → ℕ
two u p v q i = cond (eqb i u) p (cond (eqb i v) q 0)

-- the mask of variable v to the power q
abbrev pub mask_at : ℕ → List ℕ → ℕ → ℕ → ℕ
mask_at m xs v q = mask m xs (pow 1 (var_word 1 v q ∷ end_word 1 ∷ []))

-- a value: one, with signature index i
abbrev pub signed : ℕ → Value
signed i = value_of i (0x00000000 ∷ [])

-- a label map opened for one variable and three values, and the same after values 5 and 3
abbrev pub fresh : State
fresh = empty 1 3

abbrev pub with_one : State
with_one = after fresh (signed 5)

abbrev pub with_two : State
with_two = after with_one (signed 3)

-- the label of row i, in order of arrival, of the map with values 5, 3 and 7 after `rebuild`
abbrev pub rebuilt_at : ℕ → ℕ
rebuilt_at i = label (rebuild (after with_two (signed 7))).rows i

abbrev pub table : List (Type 0)
table =
    -- x1^2 / (x1^2 · x0) is x0^−1
    (result_words Ratio (0x10010002 ∷ 1 ∷ []) (0x10010002 ∷ 0x10000001 ∷ 2 ∷ []) ≡ 0x20007FFF ∷ 1 ∷ []) ∷
    -- x1^2 is above x1 · x0
    (order 1 (0x10010002 ∷ 1 ∷ []) (0x10010001 ∷ 0x10000001 ∷ 2 ∷ []) ≡ Greater) ∷
    -- the words of x3^2 · x0, and of one
    (monomial_of 1 (two 3 2 0 1) ≡ 0x10030002 ∷ 0x10000001 ∷ 0x00000002 ∷ []) ∷
    (monomial_of 1 (two 0 0 0 0) ≡ 0x00000000 ∷ []) ∷
    -- one variable, maximum 33
    (mask_at 1 (33 ∷ []) 0 1 ≡ 0) ∷
    (mask_at 1 (33 ∷ []) 0 2 ≡ 1) ∷
    (mask_at 1 (33 ∷ []) 0 32 ≡ 0x7FFFFFFF) ∷
    (mask_at 1 (33 ∷ []) 0 33 ≡ 0xFFFFFFFF) ∷
    -- three variables, maxima 1, at any power from 1
    ((q : ℕ) → 1 ≤ q → q ≤ 32767 → mask_at 3 (1 ∷ 1 ∷ 1 ∷ []) 0 q ≡ 0x7FF) ∷
    ((q : ℕ) → 1 ≤ q → q ≤ 32767 → mask_at 3 (1 ∷ 1 ∷ 1 ∷ []) 2 q ≡ 0xFFC00000) ∷
    -- 33 variables: id 32 has no bit, whatever its power and the maxima
    ((xs : List ℕ) (q : ℕ) → q ≤ 32767 → mask_at 33 xs 32 q ≡ 0) ∷
    -- labels: the first, then a smaller value, then a larger one
    (answer fresh (signed 5) ≡ Ok (New 2147483647)) ∷
    (answer with_one (signed 3) ≡ Ok (New 1073741823)) ∷
    (answer with_two (signed 7) ≡ Ok (New 3221225471)) ∷
    -- `rebuild` of 3 values: the smallest, the middle one, the largest
    (rebuilt_at 1 ≡ 1073741823) ∷
    (rebuilt_at 0 ≡ 2147483647) ∷
    (rebuilt_at 2 ≡ 3221225471) ∷
    -- averages
    (average 3 6 ≡ 5) ∷
    (average 3 4 ≡ 4) ∷
    -- maxima 1, 1: `update` with x1 · x0^5 leaves both 1
    (updated (0x10010001 ∷ 0x10000005 ∷ 2 ∷ []) (1 ∷ 1 ∷ []) ≡ 1 ∷ 1 ∷ []) ∷
    []
