-- n words below n that name every place below n name each once. Assumes nothing.
use mathlib.Core.Path.{◌≡◌, refl, sym, ◌∙◌}
use mathlib.Core.List.{List, [], ◌∷◌}
use Prim.Native.Nat.{ℕ, zero, suc, ◌+◌, ◌≤◌, ◌<◌}
use native.Mathlib.Omega.{arith}
use native.Mathlib.Decide.{dec_le}
use lib.Dec.{eqb}
use lib.ListN.{length, get_or, length-append}
use borrow.Author.Tests.{eq-eqb, ne_eqb}
use Rattle.kd_theory.specs.Bag.{indicator, occurs, ◌∈◌, Same}
use Rattle.kd_theory.proofs.BagLaws.{occurs-nil, here, there, at-cons}
use Rattle.index_theory.specs.State.{up_to}
use Rattle.index_theory.proofs.Places.{up_to-in, in-up_to}

-- ---- membership and places of a list
pub get_in : (xs : List ℕ) (i : ℕ) → i < length xs → get_or xs i 0 ∈ xs
get_in [] i h = absurd (omega arith)
get_in (x ∷ xs) zero h = here x xs
get_in (x ∷ xs) (suc i) h = there (get_or xs i 0) x xs (get_in xs i (omega arith))

pub in-get : (xs : List ℕ) (e : ℕ) → e ∈ xs → (i : ℕ) × (i < length xs) × (get_or xs i 0 ≡ e)
in-get [] e m = absurd (omega (arith, occurs-nil e))
in-get (x ∷ xs) e m =
    at-cons (λ y. (i : ℕ) × (i < suc (length xs)) × (get_or (x ∷ xs) i 0 ≡ y)) x xs (0, omega arith, refl)
    (λ y w. let q = in-get xs y w in (suc q.0, omega (arith, q.1), q.2)) e m

-- ---- sums of numbers below n
sum_to : ℕ → (ℕ → ℕ) → ℕ
sum_to zero f = 0
sum_to (suc n) f = sum_to n f + f n

sum-add : (n : ℕ) (f g : ℕ → ℕ) → sum_to n (λ j. f j + g j) ≡ sum_to n f + sum_to n g
unfolding sum_to
sum-add zero f g = refl
sum-add (suc n) f g = omega (arith, sum-add n f g)

sum-zero : (n : ℕ) (f : ℕ → ℕ) → ((j : ℕ) → j < n → f j ≡ 0) → sum_to n f ≡ 0
unfolding sum_to
sum-zero zero f h = refl
sum-zero (suc n) f h = omega (arith, sum-zero n f (λ j l. h j (omega arith)), h n (omega arith))

sum-from : (n : ℕ) (f : ℕ → ℕ) → ((j : ℕ) → j < n → 1 ≤ f j) → n ≤ sum_to n f
unfolding sum_to
sum-from zero f h = omega arith
sum-from (suc n) f h = omega (arith, sum-from n f (λ j l. h j (omega arith)), h n (omega arith))

-- n numbers, none 0, whose sum is at most n are all 1
sum_ones : (n : ℕ) (f : ℕ → ℕ) → ((j : ℕ) → j < n → 1 ≤ f j) → sum_to n f ≤ n → (j : ℕ) → j < n → f j ≡ 1
unfolding sum_to
sum_ones zero f h k j l = absurd (omega arith)
sum_ones (suc n) f h k j l =
    let few = sum-from n f (λ i b. h i (omega arith)) in
    elim (dec_le n j) [
      | yes y ↦ let z : j ≡ n = omega arith in rw z (omega (arith, h n (omega arith)))
      | no y ↦ sum_ones n f (λ i b. h i (omega arith)) (omega (arith, h n (omega arith))) j (omega arith)
    ]

-- ---- how often the places below n occur, added up
same-one : (j x : ℕ) → j ≡ x → indicator (eqb j x) ≡ 1
same-one j x h = rw (eq-eqb j x h)

other-one : (j x : ℕ) → (j ≡ x → ⊥) → indicator (eqb j x) ≡ 0
other-one j x h = rw (ne_eqb j x h)

total-one : (n x : ℕ) → x < n → sum_to n (λ j. indicator (eqb j x)) ≡ 1
unfolding sum_to
total-one zero x h = absurd (omega arith)
total-one (suc n) x h =
    elim (dec_le n x) [
      | yes y ↦ omega (arith, sum-zero n (λ j. indicator (eqb j x)) (λ j l. other-one j x (λ z. omega arith)), same-one n x (omega arith))
      | no y ↦ omega (arith, total-one n x (omega arith), other-one n x (λ z. omega arith))
    ]

total : (n : ℕ) (p : List ℕ) → ((e : ℕ) → e ∈ p → e < n) → sum_to n (λ j. occurs j p) ≡ length p
unfolding occurs
total n [] h = sum-zero n (λ j. 0) (λ j l. refl)
total n (x ∷ p) h =
    sum-add n (λ j. indicator (eqb j x)) (λ j. occurs j p)
    ∙ omega (arith, total-one n x (h x (here x p)), total n p (λ e m. h e (there e x p m)))

-- n places below n, all of them, are each there once
each-once : (p : List ℕ) (n : ℕ) → length p ≡ n → ((e : ℕ) → e ∈ p → e < n) → ((j : ℕ) → j < n → j ∈ p) → (j : ℕ) → j < n → occurs j p ≡ 1
each-once p n l below all = sum_ones n (λ j. occurs j p) (λ j h. omega (arith, all j h)) (omega (arith, total n p below))

elsewhere : (p : List ℕ) (n : ℕ) → ((e : ℕ) → e ∈ p → e < n) → (e : ℕ) → n ≤ e → occurs e p ≡ 0
elsewhere p n below e h = elim (dec_le (occurs e p) 0) [ yes y ↦ omega arith | no y ↦ absurd (omega (arith, below e (omega arith))) ]

up_to-length : (n : ℕ) → length (up_to n) ≡ n
unfolding up_to
up_to-length zero = refl
up_to-length (suc n) = length-append (up_to n) (n ∷ []) ∙ omega (arith, up_to-length n)

-- ---- permutations of the places below n
pub places-once : (p : List ℕ) (n : ℕ) → length p ≡ n → ((i : ℕ) → i < n → get_or p i 0 < n) → ((j : ℕ) → j < n → j ∈ p) → Same (up_to n) p
places-once p n l small all e =
    elim (dec_le n e) [
      | yes y ↦ elsewhere (up_to n) n (in-up_to n) e y ∙ sym (elsewhere p n below e y)
      | no y ↦ each-once (up_to n) n (up_to-length n) (in-up_to n) (up_to-in n) e (omega arith) ∙ sym (each-once p n l below all e (omega arith))
    ]
  where
    below : (e : ℕ) → e ∈ p → e < n
    below e m = let q = in-get p e m in omega (arith, small q.0 (omega (arith, q.1)), q.2)

pub once-below : (p : List ℕ) (n : ℕ) → Same (up_to n) p → (e : ℕ) → e ∈ p → e < n
once-below p n s e m = in-up_to n e (rw (s e) m)

pub once-all : (p : List ℕ) (n : ℕ) → Same (up_to n) p → (j : ℕ) → j < n → j ∈ p
once-all p n s j h = rw (s j) at (up_to-in n j h)
