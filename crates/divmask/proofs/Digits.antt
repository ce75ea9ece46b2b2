-- The bits of a number. Assumes nothing.
use mathlib.Core.Path.{◌≡◌, refl, sym, ap, ◌∙◌}
use mathlib.Core.Bool.{Bool, true, false, ◌&&◌}
use mathlib.Core.Logic.{◌↔◌}
use Prim.Native.Nat.{ℕ, zero, suc, min, ◌+◌, ◌-◌, ◌*◌, ◌/◌, ◌%◌, ◌^◌, ◌≤◌, ◌<◌}
use native.Mathlib.Omega.{arith}
use native.Mathlib.Nat.{add_comm, mul_assoc, pow-suc, add-mul-div_right, add-mul-mod_self_right, div-eq_of_lt, div-div-eq-div-mul, div-one, lt_of_lt_of_le}
use native.Mathlib.Decide.{dec_le}
use lib.Arith.{digits_lt, lt-one}
use lib.Bits.{bit_and, and_step, and_shr, and_le_l}
use lib.Dec.{leb, eqb}
use lib.Pow.{pow-add, pow_pos, high, shr-shr, pow_mono}
use borrow.Author.Tests.{le-leb, leb-true, eq-eqb, ne_eqb}
use Rattle.monomial.specs.Operations.{all_below}
use Rattle.monomial.proofs.Divisions.{all_true, all-each}
use Rattle.divmask.specs.Mask.{bit, Within, within}

-- a number below 2 ^ i has no bit i
pub bit-none : (a i : ℕ) → a < 2 ^ i → bit a i ≡ 0
unfolding bit
bit-none a i h = rw (div-eq_of_lt h)

-- a number of one bit
pub bit-one : (d : ℕ) → d < 2 → bit d 0 ≡ d
unfolding bit
bit-one d h = rw (div-one d) (omega arith)

-- two blocks of bits: those of a, below bit k, and those of c from bit k on
pub bit-low : (a c k i : ℕ) → i < k → bit (a + c * 2 ^ k) i ≡ bit a i
unfolding bit
bit-low a c k i h =
    let e : 2 ^ k ≡ 2 ^ (k - suc i) * 2 * 2 ^ i =
    ap (λ (n : ℕ). 2 ^ n) (let q : k ≡ suc (k - suc i) + i = omega arith in q) ∙ pow-add 2 (suc (k - suc i)) i ∙ rw (pow-suc 2 (k - suc i)) in
    rw (e, ← mul_assoc c (2 ^ (k - suc i) * 2) (2 ^ i), ← mul_assoc c (2 ^ (k - suc i)) 2, add-mul-div_right a (c * 2 ^ (k - suc i) * 2) (pow_pos i))
    (add-mul-mod_self_right (a / 2 ^ i) (c * 2 ^ (k - suc i)) 2)

pub bit_high : (a c k j : ℕ) → a < 2 ^ k → bit (a + c * 2 ^ k) (k + j) ≡ bit c j
unfolding bit
bit_high a c k j h =
    let e : (a + c * 2 ^ k) / 2 ^ k ≡ c = rw (add_comm a (c * 2 ^ k)) (high c k h) in
    rw (← shr-shr (a + c * 2 ^ k) k j, e)

pub block-lt : (a c k j : ℕ) → a < 2 ^ k → c < 2 ^ j → a + c * 2 ^ k < 2 ^ (k + j)
block-lt a c k j h l =
    let d : c * 2 ^ k + a < 2 ^ j * 2 ^ k = digits_lt l h in
    let e : 2 ^ (k + j) ≡ 2 ^ j * 2 ^ k = rw (add_comm k j) (pow-add 2 j k) in
    omega arith

half : (a i : ℕ) → bit (a / 2) i ≡ bit a (suc i)
unfolding bit
half a i = rw (div-div-eq-div-mul a 2 (2 ^ i)) (let q : 2 * 2 ^ i ≡ 2 ^ suc i = omega (arith, pow-suc 2 i) in rw q)

lowest : (a : ℕ) → a % 2 ≡ bit a 0
unfolding bit
lowest a = rw (div-one a)

-- numbers of k bits are equal where their bits are
pub bits-equal : (k a b : ℕ) → a < 2 ^ k → b < 2 ^ k → ((i : ℕ) → i < k → bit a i ≡ bit b i) → a ≡ b
bits-equal zero a b h l e = lt-one h ∙ sym (lt-one l)
bits-equal (suc k) a b h l e =
    let q : 2 ^ suc k ≡ 2 ^ k * 2 = pow-suc 2 k in
    let z : a / 2 ≡ b / 2 = bits-equal k (a / 2) (b / 2) (omega arith) (omega arith) (λ i j. half a i ∙ e (suc i) (omega arith) ∙ sym (half b i)) in
    let y : a % 2 ≡ b % 2 = lowest a ∙ e 0 (omega arith) ∙ sym (lowest b) in
    omega arith

true-not : (b : Bool) → b ≡ true → b ≡ false → ⊥
true-not b p q = let z : ◌≡◌ {A = ℕ} 0 1 = cc in omega arith

-- ---- within
pub bit-and : (a b i : ℕ) → bit (bit_and a b) i ≡ min (bit a i) (bit b i)
unfolding bit
bit-and a b i =
    let x = a / 2 ^ i in
    let y = b / 2 ^ i in
    rw (and_shr a b i, and_step x y) (omega arith)

pub within-at : (a b : ℕ) → Within a b → (i : ℕ) → bit a i ≤ bit b i
unfolding Within
within-at a b h = h

pub within_by : (a b : ℕ) → ((i : ℕ) → bit a i ≤ bit b i) → Within a b
unfolding Within
within_by a b h = h

-- the test, for a mask of 32 bits
pub within-iff : (a b : ℕ) → a < 2 ^ 32 → (within a b ≡ true) ↔ Within a b
unfolding within
within-iff a b h = (to, from)
  where
    to : all_below 32 (λ i. leb (bit a i) (bit b i)) ≡ true → Within a b
    to e =
        within_by a b (λ i.
        elim (dec_le 32 i) [
          | yes l ↦ omega (arith, bit-none a i (lt_of_lt_of_le h (pow_mono l)))
          | no l ↦ leb-true (bit a i) (bit b i) (all-each 32 (λ i. leb (bit a i) (bit b i)) e i (omega arith))
        ])

    from : Within a b → all_below 32 (λ i. leb (bit a i) (bit b i)) ≡ true
    from w = all_true 32 (λ i. leb (bit a i) (bit b i)) (λ i l. le-leb (bit a i) (bit b i) (within-at a b w i))

-- as the code tests it: and-ing b takes nothing from a
pub and-within : (a b : ℕ) → bit_and a b ≡ a → Within a b
and-within a b e = within_by a b (λ i. omega (arith, bit-and a b i, ap (λ (n : ℕ). bit n i) e))

pub within-and : (k a b : ℕ) → a < 2 ^ k → Within a b → bit_and a b ≡ a
within-and k a b h w =
    bits-equal k (bit_and a b) a (omega (arith, and_le_l a b)) h (λ i l. bit-and a b i ∙ omega (arith, within-at a b w i))

-- ---- two masks side by side, the first in the lower half
halves : (a : ℕ) → a ≡ a % 4294967296 + a / 4294967296 * 2 ^ 32
halves a = omega arith

low_half : (a i : ℕ) → i < 32 → bit a i ≡ bit (a % 4294967296) i
low_half a i h = ap (λ (n : ℕ). bit n i) (halves a) ∙ bit-low (a % 4294967296) (a / 4294967296) 32 i h

high_half : (a i : ℕ) → bit a (32 + i) ≡ bit (a / 4294967296) i
high_half a i = ap (λ (n : ℕ). bit n (32 + i)) (halves a) ∙ bit_high (a % 4294967296) (a / 4294967296) 32 i (omega arith)

pub within-halves : (a b : ℕ) → Within a b ↔ (Within (a % 4294967296) (b % 4294967296) × Within (a / 4294967296) (b / 4294967296))
within-halves a b = (to, from)
  where
    to : Within a b → Within (a % 4294967296) (b % 4294967296) × Within (a / 4294967296) (b / 4294967296)
    to w = (
      within_by _ _ (λ i.
          elim (dec_le 32 i) [
            | yes l ↦ omega (arith, bit-none (a % 4294967296) i (lt_of_lt_of_le (let z : a % 4294967296 < 2 ^ 32 = omega arith in z) (pow_mono l)))
            | no l ↦ omega (arith, low_half a i (omega arith), low_half b i (omega arith), within-at a b w i)
          ]),
      within_by _ _ (λ i. omega (arith, high_half a i, high_half b i, within-at a b w (32 + i))),
    )

    from : Within (a % 4294967296) (b % 4294967296) × Within (a / 4294967296) (b / 4294967296) → Within a b
    from w =
        within_by a b (λ i.
        elim (dec_le 32 i) [
          | yes l ↦ let e : 32 + (i - 32) ≡ i = omega arith in rw e at
              (let z : bit a (32 + (i - 32)) ≤ bit b (32 + (i - 32)) = omega (arith, high_half a (i - 32), high_half b (i - 32), within-at _ _ w.1 (i - 32)) in z)
          | no l ↦ omega (arith, low_half a i (omega arith), low_half b i (omega arith), within-at _ _ w.0 i)
        ])

-- as the code tests both at once
pub both-within : (a b : ℕ) → a < 2 ^ 64 → eqb (bit_and a b) a ≡ within (a % 4294967296) (b % 4294967296) && within (a / 4294967296) (b / 4294967296)
both-within a b h = go (within (a % 4294967296) (b % 4294967296)) refl (within (a / 4294967296) (b / 4294967296)) refl
  where
    small : a % 4294967296 < 2 ^ 32
    small = omega arith

    small-high : a / 4294967296 < 2 ^ 32
    small-high = omega arith

    apart : (Within a b → ⊥) → eqb (bit_and a b) a ≡ false
    apart n = ne_eqb (bit_and a b) a (λ e. n (and-within a b e))

    go : (x : Bool) → within (a % 4294967296) (b % 4294967296) ≡ x → (y : Bool) → within (a / 4294967296) (b / 4294967296) ≡ y → eqb (bit_and a b) a ≡ x && y
    go true e true d = eq-eqb (bit_and a b) a (within-and 64 a b h ((within-halves a b).1 ((within-iff _ _ small).0 e, (within-iff _ _ small-high).0 d)))
    go true e false d = apart (λ w. true-not _ ((within-iff _ _ small-high).1 ((within-halves a b).0 w).1) d)
    go false e y d = apart (λ w. true-not _ ((within-iff _ _ small).1 ((within-halves a b).0 w).0) e)
