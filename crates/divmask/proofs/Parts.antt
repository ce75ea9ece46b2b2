-- The bits that a power sets among those of its variable: which they are, and how many. Assumes nothing.
use mathlib.Core.Path.{◌≡◌, refl, ap, ◌∙◌}
use mathlib.Core.Bool.{Bool, true, false, cond}
use Prim.Native.Nat.{ℕ, zero, suc, min, ◌+◌, ◌-◌, ◌*◌, ◌/◌, ◌%◌, ◌^◌, ◌≤◌, ◌<◌}
use native.Mathlib.Omega.{arith}
use native.Mathlib.Nat.{one-mul, zero-mul, pow-suc, div-lt_iff_lt-mul, le-div_iff_mul-le, add-zero, mul-le-mul, zero-min, mod-eq_of_lt, mul_comm, mul-lt-mul_of_pos_right, mul-div_cancel}
use native.Mathlib.Decide.{ℕ_discrete, dec_le}
use native.Mathlib.Numerals.{add-one}
use lib.Dec.{ltb}
use lib.Pow.{pow-lt}
use borrow.Author.Tests.{lt-ltb, le-ltb}
use Rattle.divmask.specs.Mask.{cutoff, parts, bit}
use Rattle.divmask.proofs.Digits.{bit-one, bit-low, bit_high, block-lt}

-- the bit of a part, 0 or 1
abbrev pub above : ℕ → ℕ → ℕ → ℕ → ℕ
above b x q part = cond (ltb (cutoff b x part) q) 1 0

pub above-small : (b x q part : ℕ) → above b x q part < 2
above-small b x q part = go (ltb (cutoff b x part) q)
  where
    go : (t : Bool) → cond t 1 0 < 2
    go true = omega arith
    go false = omega arith

-- a larger power never clears a bit
pub above_more : (b x p q part : ℕ) → p ≤ q → above b x p part ≤ above b x q part
above_more b x p q part h =
    elim (dec_le (suc (cutoff b x part)) p) [
      | yes l ↦ rw (lt-ltb (cutoff b x part) p l, lt-ltb (cutoff b x part) q (omega arith)) (omega arith)
      | no l ↦ rw (le-ltb (cutoff b x part) p (omega arith)) (omega arith)
    ]

pub parts-zero : (b x q : ℕ) → parts b x q 0 ≡ 0
unfolding parts
parts-zero b x q = refl

pub parts-suc : (b x q n : ℕ) → parts b x q (suc n) ≡ parts b x q n + above b x q (suc n) * 2 ^ n
unfolding parts
parts-suc b x q n = go (ltb (cutoff b x (suc n)) q)
  where
    go : (t : Bool) → parts b x q n + cond t (2 ^ n) 0 ≡ parts b x q n + cond t 1 0 * 2 ^ n
    go true = rw (one-mul (2 ^ n))
    go false = rw (zero-mul (2 ^ n))

pub parts-lt : (b x q n : ℕ) → parts b x q n < 2 ^ n
parts-lt b x q zero = rw (parts-zero b x q) (omega arith)
parts-lt b x q (suc n) =
    rw (parts-suc b x q n) (rw (add-one n) at (block-lt (parts b x q n) (above b x q (suc n)) n 1 (parts-lt b x q n) (above-small b x q (suc n))))

-- bit j is that of part j + 1
pub parts-bit : (b x q n j : ℕ) → j < n → bit (parts b x q n) j ≡ above b x q (suc j)
parts-bit b x q zero j h = absurd (omega arith)
parts-bit b x q (suc n) j h =
    rw (parts-suc b x q n) (elim (ℕ_discrete j n) [
      | yes e ↦ rw e ((rw (add-zero n) at (bit_high (parts b x q n) (above b x q (suc n)) n 0 (parts-lt b x q n))) ∙ bit-one (above b x q (suc n)) (above-small b x q (suc n)))
      | no e ↦ bit-low (parts b x q n) (above b x q (suc n)) n j (omega arith) ∙ parts-bit b x q n j (omega arith)
    ])

-- an absent variable sets no bit
pub parts-absent : (b x n : ℕ) → parts b x 0 n ≡ 0
parts-absent b x zero = parts-zero b x 0
parts-absent b x (suc n) =
    rw (parts-suc b x 0 n, parts-absent b x n, le-ltb (cutoff b x (suc n)) 0 (omega arith)) (rw (zero-mul (2 ^ n)))

-- ---- how many bits a power sets
-- a part's bit is set exactly where the part is at most this
unfoldable pub most : ℕ → ℕ → ℕ → ℕ
most b x q = (q * (b + 1) - 1) / x

module _ (b x q : ℕ) (some : 1 ≤ x) (here : 1 ≤ q) where
  set_below : (part : ℕ) → part ≤ most b x q → cutoff b x part < q
  unfolding cutoff most
  set_below part h =
      let l = (le-div_iff_mul-le {k = x} {x = part} {y = q * (b + 1) - 1} some).0 h in
      let y : 1 ≤ b + 1 = omega arith in
      let z : 1 * 1 ≤ q * (b + 1) = mul-le-mul here y in
      (div-lt_iff_lt-mul {k = b + 1} {x = part * x} {y = q} (omega arith)).1 (omega arith)

  clear_above : (part : ℕ) → most b x q < part → q ≤ cutoff b x part
  unfolding cutoff most
  clear_above part h =
      elim (dec_le q (part * x / (b + 1))) [
        | yes l ↦ l
        | no l ↦
            let y = (div-lt_iff_lt-mul {k = b + 1} {x = part * x} {y = q} (omega arith)).0 (omega arith) in
            let z = (le-div_iff_mul-le {k = x} {x = part} {y = q * (b + 1) - 1} some).1 (omega arith) in
            absurd (omega arith)
      ]

  -- they are the lowest
  pub parts-closed : (n : ℕ) → parts b x q n + 1 ≡ 2 ^ min n (most b x q)
  parts-closed zero = rw (parts-zero b x q, zero-min (most b x q))
  parts-closed (suc n) =
      elim (dec_le (suc n) (most b x q)) [
        | yes h ↦
            let e : min (suc n) (most b x q) ≡ suc n = omega arith in
            let f : min n (most b x q) ≡ n = omega arith in
            let ih : parts b x q n + 1 ≡ 2 ^ n = parts-closed n ∙ ap (λ (k : ℕ). 2 ^ k) f in
            rw (parts-suc b x q n, lt-ltb (cutoff b x (suc n)) q (set_below (suc n) h), e, pow-suc 2 n, one-mul (2 ^ n)) (omega arith)
        | no h ↦
            let e : min (suc n) (most b x q) ≡ min n (most b x q) = omega arith in
            rw (parts-suc b x q n, le-ltb (cutoff b x (suc n)) q (clear_above (suc n) (omega arith)), e, zero-mul (2 ^ n)) (omega (arith, parts-closed n))
      ]

-- the lesser of two numbers, taken before a division
pub least-div : (a b x : ℕ) → 1 ≤ x → min a (b * x) / x ≡ min b (a / x)
least-div a b x some =
    elim (dec_le (b * x) a) [
      | yes h ↦
          let e : min a (b * x) ≡ b * x = omega arith in
          let l = (le-div_iff_mul-le {k = x} {x = b} {y = a} some).1 h in
          let f : min b (a / x) ≡ b = omega arith in
          rw (e, f) (mul-div_cancel b some)
      | no h ↦
          let e : min a (b * x) ≡ a = omega arith in
          let l = (div-lt_iff_lt-mul {k = x} {x = a} {y = b} some).1 (omega arith) in
          let f : min b (a / x) ≡ a / x = omega arith in
          rw (e, f)
    ]

-- as the code makes them: n ones, by a shift in 64 bits
pub ones : (n : ℕ) → n ≤ 32 → 1 * 2 ^ n % 2 ^ 64 ≡ 2 ^ n
ones n h = rw (one-mul (2 ^ n)) (mod-eq_of_lt (pow-lt {i = n} {j = 64} (omega arith)))

pub field_is : (b x q n : ℕ) → b ≤ 32 → 1 ≤ x → 1 ≤ q → n ≡ min b (most b x q) → 1 * 2 ^ n % 2 ^ 64 - 1 ≡ parts b x q b
field_is b x q n h l k e = rw (ones n (omega arith), e) (omega (arith, parts-closed b x q l k b))

-- a power at the maximum or above sets all of them
pub parts-full : (b x q : ℕ) → 1 ≤ x → x ≤ q → (n : ℕ) → n ≤ b → parts b x q n + 1 ≡ 2 ^ n
unfolding cutoff
parts-full b x q h l zero k = rw (parts-zero b x q)
parts-full b x q h l (suc n) k =
    let lt : suc n * x < (b + 1) * x = mul-lt-mul_of_pos_right (omega arith) h in
    let c : suc n * x / (b + 1) < x = (div-lt_iff_lt-mul {k = b + 1} {x = suc n * x} {y = x} (omega arith)).1 (omega (arith, mul_comm x (b + 1))) in
    rw (parts-suc b x q n, lt-ltb (cutoff b x (suc n)) q (omega arith), pow-suc 2 n, one-mul (2 ^ n)) (omega (arith, parts-full b x q h l n (omega arith)))
