-- Which bits of a mask a variable has, for any number of variables. Assumes nothing.
use mathlib.Core.Path.{◌≡◌, refl, ◌∙◌}
use Prim.Native.Nat.{ℕ, zero, suc, min, ◌+◌, ◌-◌, ◌*◌, ◌/◌, ◌%◌, ◌≤◌, ◌<◌}
use native.Mathlib.Omega.{arith}
use native.Mathlib.Nat.{div-add-mod, mod-lt, suc-mul, div-eq_of_lt, mod-eq_of_lt}
use native.Mathlib.Decide.{ℕ_discrete, dec_le}
use lib.Arith.{lt_of_le-ne}
use borrow.Author.Tests.{lt-ltb, le-ltb}
use Rattle.divmask.specs.Mask.{bits, first_bit}

pub first-zero : (m : ℕ) → first_bit m 0 ≡ 0
unfolding first_bit
first-zero m = refl

pub first-suc : (m v : ℕ) → first_bit m (suc v) ≡ first_bit m v + bits m v
unfolding first_bit
first-suc m v = refl

-- the closed form
pub first-closed : (m v : ℕ) → first_bit m v ≡ v * (32 / m) + min v (32 % m)
unfolding first_bit bits
first-closed m zero = omega arith
first-closed m (suc v) =
    rw (suc-mul v (32 / m)) (elim (dec_le (suc v) (32 % m)) [
      | yes h ↦ rw (lt-ltb v (32 % m) h) (omega (arith, first-closed m v))
      | no h ↦ rw (le-ltb v (32 % m) (omega arith)) (omega (arith, first-closed m v))
    ])

-- all 32 bits are given out
pub first-all : (m : ℕ) → 1 ≤ m → first_bit m m ≡ 32
first-all m h = first-closed m m ∙ omega (arith, div-add-mod 32 m, mod-lt 32 h)

-- a variable's bits end where those of a later one begin, or before
pub apart : (m u v : ℕ) → u < v → first_bit m u + bits m u ≤ first_bit m v
apart m u zero h = absurd (omega arith)
apart m u (suc v) h =
    elim (ℕ_discrete u v) [
      | yes e ↦ rw e (omega (arith, first-suc m v))
      | no e ↦ omega (arith, first-suc m v, apart m u v (omega arith))
    ]

-- so the bits of different variables do not overlap
pub no-overlap : (m u v j k : ℕ) → (u ≡ v → ⊥) → j < bits m u → k < bits m v → first_bit m u + j ≡ first_bit m v + k → ⊥
no-overlap m u v j k n h l e =
    elim (dec_le u v) [
      | yes z ↦ omega (arith, apart m u v (lt_of_le-ne z n))
      | no z ↦ omega (arith, apart m v u (omega arith))
    ]

-- and number at most 32, also of variables that there are none of
pub at-most-32 : (m : ℕ) → first_bit m m ≤ 32
at-most-32 m =
    elim (dec_le 1 m) [
      | yes h ↦ omega (arith, first-all m h)
      | no h ↦ let e : m ≡ 0 = omega arith in rw e (omega (arith, first-zero 0))
    ]

pub in_all : (m v : ℕ) → v < m → first_bit m v + bits m v ≤ 32
in_all m v h = omega (arith, apart m v m h, at-most-32 m)

-- with more than 32 variables, those from 32 on have no bit
pub no-bit : (m v : ℕ) → 32 < m → 32 ≤ v → bits m v ≡ 0
unfolding bits
no-bit m v h l = rw (div-eq_of_lt h, mod-eq_of_lt h, le-ltb v 32 l)

-- the variable that has bit i, and which of its bits that is
pub record Owner (m n i : ℕ) : Type 0 where
  pub v : ℕ
  pub j : ℕ
  pub below : v < n
  pub inside : j < bits m v
  pub is : i ≡ first_bit m v + j

pub owner : (m n i : ℕ) → i < first_bit m n → Owner m n i
owner m zero i h = absurd (omega (arith, first-zero m))
owner m (suc n) i h =
    elim (dec_le (first_bit m n) i) [
      | yes l ↦ record { v = n; j = i - first_bit m n; below = omega arith; inside = omega (arith, first-suc m n); is = omega arith }
      | no l ↦
          let o = owner m n i (omega arith) in
          record { v = o.v; j = o.j; below = omega (arith, o.below); inside = o.inside; is = o.is }
    ]
