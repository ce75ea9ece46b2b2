-- Counting the numbers that pass a test. Assumes nothing.
use mathlib.Core.Path.{◌≡◌, refl, sym, ap, ◌∙◌}
use mathlib.Core.Bool.{Bool, true, false, cond, ◌||◌}
use mathlib.Core.Option.{Option, none, some}
use Prim.Native.Nat.{ℕ, zero, suc, ◌+◌, ◌≤◌, ◌<◌}
use native.Mathlib.Omega.{arith}
use native.Mathlib.Decide.{ℕ_discrete}
use lib.Dec.{eqb}
use borrow.Author.Tests.{eq-eqb, eqb-true}
use Rattle.words.proofs.Tables.{never}
use Rattle.fast_compare.specs.Labels.{one_if, count, pick}

pub count-suc : (n : ℕ) (p : ℕ → Bool) → count (suc n) p ≡ one_if (p n) + count n p
unfolding count
count-suc n p = refl

pub count-ext : (n : ℕ) (p q : ℕ → Bool) → ((i : ℕ) → i < n → p i ≡ q i) → count n p ≡ count n q
unfolding count
count-ext zero p q h = refl
count-ext (suc n) p q h = rw (h n (omega arith), count-ext n p q (λ i l. h i (omega arith)))

pub count_most : (n : ℕ) (p : ℕ → Bool) → count n p ≤ n
unfolding count
count_most zero p = omega arith
count_most (suc n) p = go (p n) (count_most n p)
  where
    go : (b : Bool) → count n p ≤ n → one_if b + count n p ≤ suc n
    go true h = omega arith
    go false h = omega arith

one_if-le : (a b : Bool) → (a ≡ true → b ≡ true) → one_if a ≤ one_if b
one_if-le true b h = rw (h refl) (omega arith)
one_if-le false b h = omega arith

pub count-le : (n : ℕ) (p q : ℕ → Bool) → ((i : ℕ) → i < n → p i ≡ true → q i ≡ true) → count n p ≤ count n q
unfolding count
count-le zero p q h = omega arith
count-le (suc n) p q h =
    omega (arith, one_if-le (p n) (q n) (h n (omega arith)), count-le n p q (λ i l. h i (omega arith)))

-- one more passes
pub count-lt : (n : ℕ) (p q : ℕ → Bool) (j : ℕ) → j < n → ((i : ℕ) → i < n → p i ≡ true → q i ≡ true) → p j ≡ false → q j ≡ true → count n p < count n q
unfolding count
count-lt zero p q j l h a b = absurd (omega arith)
count-lt (suc n) p q j l h a b =
    elim (ℕ_discrete j n) [
      | yes e ↦ rw (rw e at a, rw e at b) (omega (arith, count-le n p q (λ i k. h i (omega arith))))
      | no e ↦ omega (arith, one_if-le (p n) (q n) (h n (omega arith)), count-lt n p q j (omega arith) (λ i k. h i (omega arith)) a b)
    ]

-- two more pass
pub count-two : (n : ℕ) (p q : ℕ → Bool) (i j : ℕ) → i < n → j < n → (i ≡ j → ⊥) → ((k : ℕ) → k < n → p k ≡ true → q k ≡ true)
    → p i ≡ false → p j ≡ false → q i ≡ true → q j ≡ true → count n p + 2 ≤ count n q
count-two n p q i j hi hj d h pi pj qi qj =
    let r : ℕ → Bool = λ k. p k || eqb k i in
    let ri : r i ≡ true = rw (pi) (eq-eqb i i refl) in
    let rj : r j ≡ false = rw (pj) (differ (eqb j i) refl) in
    omega (arith, count-lt n p r i hi (λ k l e. rw e) pi ri, count-lt n r q j hj (λ k l e. either k l (p k) (eqb k i) refl refl e) rj qj)
  where
    differ : (b : Bool) → eqb j i ≡ b → b ≡ false
    differ true e = absurd (d (sym (eqb-true j i e)))
    differ false e = refl

    either : (k : ℕ) → k < n → (a b : Bool) → p k ≡ a → eqb k i ≡ b → (a || b) ≡ true → q k ≡ true
    either k l true b e g t = h k l e
    either k l false true e g t = rw (eqb-true k i g) qi
    either k l false false e g t = never t

-- what is picked
pub Picked : ℕ → (ℕ → Bool) → Option ℕ → Type 0
Picked n p none = (i : ℕ) → i < n → p i ≡ false
Picked n p (some i) = (i < n) × (p i ≡ true)

more : (n : ℕ) (p : ℕ → Bool) (o : Option ℕ) → p n ≡ false → Picked n p o → Picked (suc n) p o
unfolding Picked
more n p none e h = λ i l. elim (ℕ_discrete i n) [ yes z ↦ rw z e | no z ↦ h i (omega arith) ]
more n p (some i) e h = (omega (arith, h.0), h.1)

picked' : (n : ℕ) (p : ℕ → Bool) → Picked n p (pick n p)
unfolding pick Picked
picked' zero p = λ i l. absurd (omega arith)
picked' (suc n) p = go (p n) refl (picked' n p)
  where
    go : (b : Bool) → p n ≡ b → Picked n p (pick n p) → Picked (suc n) p (cond b (some n) (pick n p))
    go true e h = (omega arith, e)
    go false e h = more n p (pick n p) e h

pub pick-none : (n : ℕ) (p : ℕ → Bool) → ((i : ℕ) → i < n → p i ≡ false) → pick n p ≡ none
unfolding Picked
pick-none n p h = go (pick n p) refl (picked' n p)
  where
    go : (o : Option ℕ) → pick n p ≡ o → Picked n p o → o ≡ none
    go none e z = refl
    go (some i) e z = never (sym (h i z.0) ∙ z.1)

pub none-pick : (n : ℕ) (p : ℕ → Bool) → pick n p ≡ none → (i : ℕ) → i < n → p i ≡ false
unfolding Picked
none-pick n p e = go (pick n p) e (picked' n p)
  where
    go : (o : Option ℕ) → o ≡ none → Picked n p o → (i : ℕ) → i < n → p i ≡ false
    go none e z = z
    go (some i) e z = absurd (let z : ◌≡◌ {A = ℕ} 0 1 = cc in omega arith)

pub some-pick : (n : ℕ) (p : ℕ → Bool) (j : ℕ) → pick n p ≡ some j → (j < n) × (p j ≡ true)
unfolding Picked
some-pick n p j e = go (pick n p) e (picked' n p)
  where
    go : (o : Option ℕ) → o ≡ some j → Picked n p o → (j < n) × (p j ≡ true)
    go none e z = absurd (let z : ◌≡◌ {A = ℕ} 0 1 = cc in omega arith)
    go (some i) e z = let q : i ≡ j = cc in (rw q at z.0, rw q at z.1)

-- the only one that passes is picked
pub pick-only : (n : ℕ) (p : ℕ → Bool) (j : ℕ) → j < n → p j ≡ true → ((i : ℕ) → i < n → p i ≡ true → i ≡ j) → pick n p ≡ some j
unfolding Picked
pick-only n p j l t h = go (pick n p) refl (picked' n p)
  where
    go : (o : Option ℕ) → pick n p ≡ o → Picked n p o → o ≡ some j
    go none e z = never (sym (z j l) ∙ t)
    go (some i) e z = ap some (h i z.0 z.1)
