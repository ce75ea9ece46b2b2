-- The laws of masks, for any number of variables, and the walk of `map`. Assumes nothing.
use mathlib.Core.Path.{◌≡◌, refl, sym, ap, ◌∙◌}
use mathlib.Core.Bool.{Bool, true, false, cond, ◌&&◌}
use mathlib.Core.List.{List}
use mathlib.Core.Logic.{◌⊎◌, inl, inr, ◌↔◌}
use Prim.Native.Nat.{ℕ, zero, suc, min, ◌+◌, ◌*◌, ◌/◌, ◌%◌, ◌^◌, ◌≤◌, ◌<◌}
use native.Mathlib.Omega.{arith}
use native.Mathlib.Nat.{zero-mul, add-zero, mod-eq_of_lt, lt_of_lt_of_le}
use native.Mathlib.Decide.{ℕ_discrete, dec_le}
use lib.Bits.{bit_and}
use lib.Dec.{leb, ltb}
use lib.ListN.{get_or}
use lib.Pow.{pow_mono}
use borrow.Author.Tests.{leb-false}
use Rattle.words.specs.Kinds.{kind, ident, power}
use Rattle.monomial.specs.Monomial.{Canonical, first, pow}
use Rattle.monomial.specs.Operations.{Divides, all_below}
use Rattle.monomial.proofs.Canon.{canon-of}
use Rattle.monomial.proofs.Divisions.{at_most}
use Rattle.monomial.proofs.Walks.{Rest, Last, Next, word_at}
use Rattle.monomial.proofs.Firsts.{first-whole}
use Rattle.divmask.specs.Mask.{bits, first_bit, cutoff, parts, field, fields, mask, bit, Within, within, tested}
use Rattle.divmask.specs.declared.DivMaskTestResult.{DivMaskTestResult}
use Rattle.divmask.specs.declared.DivMaskTestResult.TheVariants.{NotDivisible, Unsure}
use Rattle.divmask.proofs.Places.{first-zero, first-suc, first-closed, apart, at-most-32, in_all, owner}
use Rattle.divmask.proofs.Digits.{bit-none, bit-low, bit_high, block-lt, within-at, within_by, within-iff, and-within, within-and}
use Rattle.divmask.proofs.Parts.{above, above_more, parts-lt, parts-bit, parts-absent}

-- ---- the bits of the first n variables
module _ (m : ℕ) (xs : List ℕ) where
  pub fields-zero : (p : ℕ → ℕ) → fields m xs p 0 ≡ 0
  unfolding fields
  fields-zero p = refl

  pub fields-suc : (p : ℕ → ℕ) (n : ℕ) → fields m xs p (suc n) ≡ fields m xs p n + parts (bits m n) (get_or xs n 0) (p n) (bits m n) * 2 ^ first_bit m n
  unfolding fields field
  fields-suc p n = refl

  pub fields-lt : (p : ℕ → ℕ) (n : ℕ) → fields m xs p n < 2 ^ first_bit m n
  fields-lt p zero = rw (fields-zero p, first-zero m) (omega arith)
  fields-lt p (suc n) =
      rw (fields-suc p n, first-suc m n) (block-lt (fields m xs p n) (parts (bits m n) (get_or xs n 0) (p n) (bits m n)) (first_bit m n) (bits m n)
      (fields-lt p n) (parts-lt (bits m n) (get_or xs n 0) (p n) (bits m n)))

  pub fields-bit : (p : ℕ → ℕ) (n v j : ℕ) → v < n → j < bits m v → bit (fields m xs p n) (first_bit m v + j) ≡ above (bits m v) (get_or xs v 0) (p v) (suc j)
  fields-bit p zero v j h l = absurd (omega arith)
  fields-bit p (suc n) v j h l =
      rw (fields-suc p n) (elim (ℕ_discrete v n) [
        | yes e ↦
            let k : j < bits m n = rw e at l in
            rw e (bit_high (fields m xs p n) (parts (bits m n) (get_or xs n 0) (p n) (bits m n)) (first_bit m n) j (fields-lt p n)
            ∙ parts-bit (bits m n) (get_or xs n 0) (p n) (bits m n) j k)
        | no e ↦ bit-low (fields m xs p n) (parts (bits m n) (get_or xs n 0) (p n) (bits m n)) (first_bit m n) (first_bit m v + j) (omega (arith, apart m v n (omega arith)))
            ∙ fields-bit p n v j (omega arith) l
      ])

  -- where every power from c to b is 0
  pub fields-skip : (p : ℕ → ℕ) (c b : ℕ) → c ≤ b → ((v : ℕ) → c ≤ v → v < b → p v ≡ 0) → fields m xs p b ≡ fields m xs p c
  fields-skip p c zero h z = let e : c ≡ 0 = omega arith in rw e
  fields-skip p c (suc b) h z =
      elim (dec_le c b) [
        | yes l ↦ fields-suc p b ∙ rw (z b l (omega arith), parts-absent (bits m b) (get_or xs b 0) (bits m b), zero-mul (2 ^ first_bit m b), add-zero (fields m xs p b))
            (fields-skip p c b l (λ v i j. z v i (omega arith)))
        | no l ↦ let e : c ≡ suc b = omega arith in rw e
      ]

  pub fields-ext : (p q : ℕ → ℕ) (n : ℕ) → ((v : ℕ) → v < n → p v ≡ q v) → fields m xs p n ≡ fields m xs q n
  fields-ext p q zero h = fields-zero p ∙ sym (fields-zero q)
  fields-ext p q (suc n) h =
      fields-suc p n ∙ rw (h n (omega arith), fields-ext p q n (λ v l. h v (omega arith))) (sym (fields-suc q n))

-- ---- masks
module _ (m : ℕ) (xs : List ℕ) where
  pub mask-small : (p : ℕ → ℕ) → mask m xs p < 2 ^ 32
  unfolding mask
  mask-small p = lt_of_lt_of_le (fields-lt m xs p m) (pow_mono (at-most-32 m))

  -- each bit, by the cutoff of its part
  pub mask-bit : (p : ℕ → ℕ) (v j : ℕ) → v < m → j < bits m v → bit (mask m xs p) (first_bit m v + j) ≡ cond (ltb (cutoff (bits m v) (get_or xs v 0) (suc j)) (p v)) 1 0
  unfolding mask
  mask-bit p v j = fields-bit m xs p m v j

  -- and there is no other
  pub mask-no-bit : (p : ℕ → ℕ) (i : ℕ) → first_bit m m ≤ i → bit (mask m xs p) i ≡ 0
  unfolding mask
  mask-no-bit p i h = bit-none (fields m xs p m) i (lt_of_lt_of_le (fields-lt m xs p m) (pow_mono h))

  pub mask-ext : (p q : ℕ → ℕ) → ((v : ℕ) → v < m → p v ≡ q v) → mask m xs p ≡ mask m xs q
  unfolding mask
  mask-ext p q = fields-ext m xs p q m

  -- the mask of one variable's power
  pub mask-single : (p : ℕ → ℕ) (u : ℕ) → u < m → ((v : ℕ) → v < m → (v ≡ u → ⊥) → p v ≡ 0) → mask m xs p ≡ field m xs u (p u) * 2 ^ first_bit m u
  unfolding mask field
  mask-single p u h z =
      fields-skip m xs p (suc u) m h (λ v i j. z v j (λ e. omega arith)) ∙ fields-suc m xs p u
      ∙ rw (fields-skip m xs p 0 u (omega arith) (λ v i j. z v (omega arith) (λ e. omega arith)), fields-zero m xs p) (omega arith)

  -- larger powers never clear a bit
  pub mask-more : (p q : ℕ → ℕ) → ((v : ℕ) → v < m → p v ≤ q v) → Within (mask m xs p) (mask m xs q)
  mask-more p q h = within_by (mask m xs p) (mask m xs q) (λ i.
      elim (dec_le (first_bit m m) i) [
        | yes l ↦ omega (arith, mask-no-bit p i l)
        | no l ↦
            let o = owner m m i (omega arith) in
            rw (o.is, mask-bit p o.v o.j o.below o.inside, mask-bit q o.v o.j o.below o.inside)
            (above_more (bits m o.v) (get_or xs o.v 0) (p o.v) (q o.v) (suc o.j) (h o.v o.below))
      ])

  -- a divisor's mask is within, under any maxima
  pub mask-divides : (a b : List ℕ) → Divides a b → Within (mask m xs (pow 1 a)) (mask m xs (pow 1 b))
  mask-divides a b d = mask-more (pow 1 a) (pow 1 b) (λ v l. at_most a b d v)

-- ---- the mask test
record Fails (f : ℕ → Bool) : Type 0 where
  i : ℕ
  is : f i ≡ false

some-false : (n : ℕ) (f : ℕ → Bool) → all_below n f ≡ false → Fails f
unfolding all_below
some-false zero f e = absurd (let z : ◌≡◌ {A = ℕ} 0 1 = cc in omega arith)
some-false (suc n) f e = go (some-false n f) (f n) refl e
  where
    go : (all_below n f ≡ false → Fails f) → (t : Bool) → f n ≡ t → (t && all_below n f) ≡ false → Fails f
    go rec true q e = rec e
    go rec false q e = record { i = n; is = q }

pub tested-unsure : (a b : ℕ) → a < 2 ^ 32 → Within a b → tested a b ≡ Unsure
unfolding tested
tested-unsure a b h w = rw ((within-iff a b h).1 w)

pub unsure-within : (a b : ℕ) → a < 2 ^ 32 → tested a b ≡ Unsure → Within a b
unfolding tested
unsure-within a b h e = (within-iff a b h).0 (go (within a b) e)
  where
    go : (t : Bool) → cond t Unsure NotDivisible ≡ Unsure → t ≡ true
    go true e = refl
    go false e = absurd (let z : ◌≡◌ {A = ℕ} 0 1 = cc in omega arith)

-- "not divisible" says that b lacks a bit of a, and nothing else
pub record Lacks (a b : ℕ) : Type 0 where
  pub i : ℕ
  pub is : bit b i < bit a i

pub not-divisible-iff : (a b : ℕ) → a < 2 ^ 32 → (tested a b ≡ NotDivisible) ↔ Lacks a b
unfolding tested within
not-divisible-iff a b h = (to, from)
  where
    to : cond (all_below 32 (λ i. leb (bit a i) (bit b i))) Unsure NotDivisible ≡ NotDivisible → Lacks a b
    to e = go (all_below 32 (λ i. leb (bit a i) (bit b i))) refl e
      where
        go : (t : Bool) → all_below 32 (λ i. leb (bit a i) (bit b i)) ≡ t → cond t Unsure NotDivisible ≡ NotDivisible → Lacks a b
        go true q e = absurd (let z : ◌≡◌ {A = ℕ} 0 1 = cc in omega arith)
        go false q e = let f = some-false 32 (λ i. leb (bit a i) (bit b i)) q in record { i = f.i; is = leb-false (bit a f.i) (bit b f.i) f.is }

    from : Lacks a b → tested a b ≡ NotDivisible
    from l = go (tested a b) refl
      where
        go : (t : DivMaskTestResult) → tested a b ≡ t → tested a b ≡ NotDivisible
        go NotDivisible e = e
        go Unsure e = absurd (omega (arith, l.is, within-at a b (unsure-within a b h e) l.i))

-- as the code tests it
pub tested-and : (a b : ℕ) → a < 2 ^ 32 → bit_and a b ≡ a → Unsure ≡ tested a b
tested-and a b h e = sym (tested-unsure a b h (and-within a b e))

pub tested-not-and : (a b : ℕ) → a < 2 ^ 32 → (bit_and a b ≡ a → ⊥) → NotDivisible ≡ tested a b
unfolding tested
tested-not-and a b h n = go (within a b) refl
  where
    go : (t : Bool) → within a b ≡ t → NotDivisible ≡ cond t Unsure NotDivisible
    go true e = absurd (n (within-and 32 a b h ((within-iff a b h).0 e)))
    go false e = refl

-- "not divisible" is never wrong
pub never-wrong : (m : ℕ) (xs a b : List ℕ) → tested (mask m xs (pow 1 a)) (mask m xs (pow 1 b)) ≡ NotDivisible → Divides a b → ⊥
never-wrong m xs a b e d =
    let u = tested-unsure (mask m xs (pow 1 a)) (mask m xs (pow 1 b)) (mask-small m xs (pow 1 a)) (mask-divides m xs a b d) in
    let z : ◌≡◌ {A = ℕ} 0 1 = cc in omega arith

-- a monomial lent whole is the one at its front
pub mask-whole : {m : ℕ} (xs : List ℕ) {ws : List ℕ} → Canonical 1 m ws → mask m xs (pow 1 (first 1 ws)) ≡ mask m xs (pow 1 ws)
mask-whole {m} xs c = ap (λ (l : List ℕ). mask m xs (pow 1 l)) (first-whole c)

-- ---- the walk of `map`: what is added up are the bits of the variables from b on
pub record Mapping (m : ℕ) (xs A : List ℕ) (i sum : ℕ) : Type 0 where
  pub b : ℕ
  pub below : b ≤ m
  pub ra : Rest 1 A i b
  pub split : sum + fields m xs (pow 1 A) b ≡ mask m xs (pow 1 A)

pub begin : {m : ℕ} {A : List ℕ} (xs : List ℕ) → m ≤ 64 → Canonical 1 m A → Mapping m xs A 0 0
unfolding mask
begin {m} xs h c = record {
  b = m;
  below = omega arith;
  ra = record { n = 0; few = omega arith; canon = canon-of c; same = λ v l. refl };
  split = omega arith;
}

pub bits_are : (m v b : ℕ) → b ≡ 32 / m + cond (ltb v (32 % m)) 1 0 → b ≡ bits m v
unfolding bits
bits_are m v b e = e

-- a variable's word: what the code needs of it, and the walk after its bits are added
pub record Step (m : ℕ) (xs A : List ℕ) (i sum w : ℕ) : Type 0 where
  pub known : ident w < m
  pub low : 1 ≤ power w
  pub high : power w ≤ 32767
  pub few : bits m (ident w) ≤ 32
  pub first : first_bit m (ident w) ≤ 32
  pub fits : sum + parts (bits m (ident w)) (get_or xs (ident w) 0) (power w) (bits m (ident w)) * 2 ^ first_bit m (ident w) < 2 ^ 32
  pub rest : Mapping m xs A (i + 1) (sum + parts (bits m (ident w)) (get_or xs (ident w) 0) (power w) (bits m (ident w)) * 2 ^ first_bit m (ident w))

-- the walk after the field f, from bit t on, is added
pub record Stepped (m : ℕ) (xs A : List ℕ) (i sum t f : ℕ) : Type 0 where
  pub shift : t ≤ 32
  pub fits : sum + f * 2 ^ t % 2 ^ 64 < 2 ^ 32
  pub rest : Mapping m xs A (i + 1) (sum + f * 2 ^ t % 2 ^ 64)

module _ {m : ℕ} {xs A : List ℕ} {i sum : ℕ} (s : Mapping m xs A i sum) {w : ℕ} (e : w ≡ get_or A i 0) where
  pub mapped : kind w ≡ 0 → sum ≡ mask m xs (pow 1 A)
  mapped h = go (word_at (omega arith) w s.ra e)
    where
      go : Last 1 A s.b w ⊎ Next 1 A i s.b w → sum ≡ mask m xs (pow 1 A)
      go (inl z) = omega (arith, s.split, fields-skip m xs (pow 1 A) 0 s.b (omega arith) (λ v l h. z.none v h), fields-zero m xs (pow 1 A))
      go (inr z) = absurd (omega (arith, z.upper))

  pub step : (kind w ≡ 0 → ⊥) → Step m xs A i sum w
  step h = go (word_at (omega arith) w s.ra e)
    where
      go : Last 1 A s.b w ⊎ Next 1 A i s.b w → Step m xs A i sum w
      go (inl z) = absurd (h (omega (arith, z.upper)))
      go (inr z) =
          let u = ident w in
          let f : fields m xs (pow 1 A) s.b ≡ fields m xs (pow 1 A) u + parts (bits m u) (get_or xs u 0) (power w) (bits m u) * 2 ^ first_bit m u =
          fields-skip m xs (pow 1 A) (suc u) s.b z.var.below (λ v l j. z.gap v l j) ∙ fields-suc m xs (pow 1 A) u ∙ rw z.here in
          let k : u < m = omega (arith, z.var.below, s.below) in
          record {
            known = k;
            low = z.var.low;
            high = z.var.high;
            few = omega (arith, in_all m u k);
            first = omega (arith, in_all m u k);
            fits = omega (arith, s.split, mask-small m xs (pow 1 A));
            rest = record { b = u; below = omega arith; ra = z.rest; split = omega (arith, s.split) };
          }

  -- the same with what the code's helpers gave: v the id, p the power, x the maximum, b the bits, f the field, t the first bit
  module _ (h : kind w ≡ 0 → ⊥) {v p x b f t : ℕ} (ev : v ≡ ident w) (ep : p ≡ power w) (ex : x ≡ get_or xs v 0)
      (eb : b ≡ 32 / m + cond (ltb v (32 % m)) 1 0) (ef : f ≡ parts b x p b) (et : t ≡ v * (32 / m) + min v (32 % m)) where
    pub stepped : Stepped m xs A i sum t f
    stepped =
        let k = step h in
        let is : t ≡ first_bit m (ident w) = et ∙ sym (first-closed m v) ∙ ap (first_bit m) ev in
        let fs : f ≡ parts (bits m (ident w)) (get_or xs (ident w) 0) (power w) (bits m (ident w)) = ef ∙ rw (ex, bits_are m v b eb, ev, ep) in
        let small : f * 2 ^ t < 2 ^ 64 = rw (is, fs) (omega (arith, k.fits)) in
        record {
          shift = omega (arith, k.first);
          fits = rw (mod-eq_of_lt small, is, fs) k.fits;
          rest = rw (mod-eq_of_lt small, is, fs) k.rest;
        }
