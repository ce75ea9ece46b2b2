-- The meaning of labels, from document 01: values in order of arrival, each with a number that rises with it. Assumes nothing.
-- Rows are numbered from 0 in order of arrival; f i is the value of row i, l i its label, and n counts the rows.
use Rattle.std.specs.Prelude.{◌≡◌, Bool, true, false, cond, List, [], ◌∷◌, ◌++◌, ℕ, zero, suc, ◌+◌, ◌-◌, ◌*◌, ◌/◌, ◌<◌, ltb, take, drop}
use Rattle.std.proofs.Math.Option.{Option, none, some}
use Rattle.std.specs.declared.cmp.Ordering.{Ordering}
use Rattle.std.specs.declared.cmp.Ordering.TheVariants.{Less, Equal}
use Rattle.std.specs.Ordering.{is_lt, is_eq}

-- 2^32: labels are below it, and it stands for the label above the greatest value
abbrev pub top : ℕ
top = 4294967296

abbrev pub one_if : Bool → ℕ
one_if true = 1
one_if false = 0

-- how many numbers below n pass the test
unfoldable pub count : ℕ → (ℕ → Bool) → ℕ
count zero p = 0
count (suc n) p = one_if (p n) + count n p

-- a number below n that passes the test
unfoldable pub pick : ℕ → (ℕ → Bool) → Option ℕ
pick zero p = none
pick (suc n) p = cond (p n) (some n) (pick n p)

-- the list with x before place p
unfoldable pub insert_at : ℕ → ℕ → List ℕ → List ℕ
insert_at p x o = take p o ++ (x ∷ drop p o)

module _ {A : Type 0} (c : A → A → Ordering) (f : ℕ → A) where
  -- how many values lie below q
  unfoldable pub below : ℕ → A → ℕ
  below n q = count n (λ i. is_lt (c (f i) q))

  -- the row of a value equal to q
  unfoldable pub known : ℕ → A → Option ℕ
  known n q = pick n (λ i. is_eq (c (f i) q))

  -- of row i and the one so far, the one with the greater value
  unfoldable pub greater : ℕ → Option ℕ → Option ℕ
  greater i none = some i
  greater i (some j) = cond (is_lt (c (f j) (f i))) (some i) (some j)

  -- the row of the greatest value below q. Under the reversed order it is the row of the least value above q.
  unfoldable pub nearest : ℕ → A → Option ℕ
  nearest zero q = none
  nearest (suc n) q = cond (is_lt (c (f n) q)) (greater n (nearest n q)) (nearest n q)

  -- the row numbers in rising order of their values: each row goes behind the values below its own
  unfoldable pub sorted : ℕ → List ℕ
  sorted zero = []
  sorted (suc n) = insert_at (below n (f n)) n (sorted n)

-- 1 + the label of a lower neighbour, −1 standing where there is none
unfoldable pub floor : (ℕ → ℕ) → Option ℕ → ℕ
floor l none = 0
floor l (some i) = l i + 1

-- the label of an upper neighbour, 2^32 standing where there is none
unfoldable pub ceiling : (ℕ → ℕ) → Option ℕ → ℕ
ceiling l none = top
ceiling l (some i) = l i

module _ {A : Type 0} (c : A → A → Ordering) (f : ℕ → A) (l : ℕ → ℕ) where
  -- the labels that lie strictly between q's neighbours' are those from `lowest` on and below `highest`
  unfoldable pub lowest : ℕ → A → ℕ
  lowest n q = floor l (nearest c f n q)

  unfoldable pub highest : ℕ → A → ℕ
  highest n q = ceiling l (nearest (λ x y. c y x) f n q)

  -- a label lies free between them
  unfoldable pub free : ℕ → A → Bool
  free n q = ltb (lowest n q) (highest n q)

  -- the half sum of the neighbours' labels, rounded down
  unfoldable pub half : ℕ → A → ℕ
  half n q = (lowest n q + highest n q - 1) / 2

-- the k-th of n values after a rebuild
abbrev pub spaced : ℕ → ℕ → ℕ
spaced n k = k * 4294967295 / (n + 1)

-- the labels of a rebuild: the value with j values below it is the (j + 1)-th
unfoldable pub rebuilt : {A : Type 0} (c : A → A → Ordering) (f : ℕ → A) → ℕ → ℕ → ℕ
rebuilt c f n i = spaced n (below c f n (f i) + 1)

-- labels as they have to be: equal values are one row, labels rise strictly with values and are 32-bit numbers
pub record Labelled {A : Type 0} (c : A → A → Ordering) (f : ℕ → A) (l : ℕ → ℕ) (n : ℕ) : Type 0 where
  pub distinct : (i j : ℕ) → i < n → j < n → c (f i) (f j) ≡ Equal → i ≡ j
  pub rising : (i j : ℕ) → i < n → j < n → c (f i) (f j) ≡ Less → l i < l j
  pub small : (i : ℕ) → i < n → l i < top
