-- The short exponent vector: its bits, and how the code makes them. Assumes nothing.
use mathlib.Core.Path.{◌≡◌, refl, sym, ap, ◌∙◌}
use mathlib.Core.Bool.{cond}
use mathlib.Core.List.{List, [], ◌∷◌, ◌++◌}
use Prim.Native.Nat.{ℕ, zero, suc, min, max, ◌+◌, ◌-◌, ◌*◌, ◌%◌, ◌^◌, ◌≤◌, ◌<◌}
use native.Mathlib.Omega.{arith}
use native.Mathlib.Nat.{one-mul, zero-mul, mul-add, pow-suc, zero-min, add-mul-div_right, div-eq_of_lt}
use native.Mathlib.Decide.{ℕ_discrete, dec_le}
use lib.Dec.{ltb}
use lib.ListN.{length, get_or, get_or-append}
use lib.Seq.{get_or-append_seam}
use borrow.Author.Tests.{lt-ltb, le-ltb}
use Rattle.words.specs.Kinds.{kind}
use Rattle.words.specs.Tables.{table}
use Rattle.words.proofs.Tables.{length-table}
use Rattle.monomial.specs.Monomial.{pow}
use Rattle.monomial.specs.Operations.{Divides}
use Rattle.divmask.specs.Mask.{bits, first_bit, cutoff, parts, bit_counts, vector, bit, Within}
use Rattle.divmask.proofs.Parts.{parts-zero, parts-suc, ones}
use Rattle.divmask.proofs.Masks.{mask-bit, mask-small, mask-divides, Mapping, mapped}

-- ---- the fixed maxima
single : (n : ℕ) (f : ℕ → ℕ) (i : ℕ) → i < n → get_or (table n (λ v. f v ∷ [])) i 0 ≡ f i
unfolding table
single zero f i h = absurd (omega arith)
single (suc n) f i h =
    let l : length (table n (λ v. f v ∷ [])) ≡ n = length-table n 1 (λ v. f v ∷ []) (λ i h. refl) ∙ omega arith in
    elim (ℕ_discrete i n) [
      | yes e ↦ rw e (ap (λ (k : ℕ). get_or (table n (λ v. f v ∷ []) ++ (f n ∷ [])) k 0) (sym l) ∙ get_or-append_seam (table n (λ v. f v ∷ [])) (f n) [] 0)
      | no e ↦ get_or-append (table n (λ v. f v ∷ [])) (f n ∷ []) 0 i (omega arith) ∙ single n f i (omega arith)
    ]

pub count_at : (m v : ℕ) → v < m → get_or (bit_counts m) v 0 ≡ max 1 (bits m v)
unfolding bit_counts
count_at m v h = single m (λ u. max 1 (bits m u)) v h

-- by it the cutoffs are 0, 1, 2 ..
cutoff-fixed : (b n : ℕ) → n < b → cutoff b (max 1 b) (suc n) ≡ n
unfolding cutoff
cutoff-fixed b n h =
    let e : max 1 b ≡ b = omega arith in
    let p : suc n * b ≡ (b - n) + n * (b + 1) = omega (arith, mul-add n b 1) in
    rw (e, p, add-mul-div_right (b - n) n (let z : 0 < b + 1 = omega arith in z), div-eq_of_lt (let z : b - n < b + 1 = omega arith in z)) (omega arith)

-- bit j of a variable is set when its power is above j
pub vector-bit : (m : ℕ) (p : ℕ → ℕ) (v j : ℕ) → v < m → j < bits m v → bit (vector m p) (first_bit m v + j) ≡ cond (ltb j (p v)) 1 0
unfolding vector
vector-bit m p v j h l = mask-bit m (bit_counts m) p v j h l ∙ rw (count_at m v h, cutoff-fixed (bits m v) j l)

-- ---- what holds of masks
pub vector-small : (m : ℕ) (p : ℕ → ℕ) → vector m p < 2 ^ 32
unfolding vector
vector-small m p = mask-small m (bit_counts m) p

pub vector-divides : (m : ℕ) (a b : List ℕ) → Divides a b → Within (vector m (pow 1 a)) (vector m (pow 1 b))
unfolding vector
vector-divides m a b d = mask-divides m (bit_counts m) a b d

-- ---- as the code makes it
parts-fixed : (b q n : ℕ) → n ≤ b → parts b (max 1 b) q n + 1 ≡ 2 ^ min n q
parts-fixed b q zero h = rw (parts-zero b (max 1 b) q, zero-min q)
parts-fixed b q (suc n) h =
    elim (dec_le (suc n) q) [
      | yes l ↦
          let e : min (suc n) q ≡ suc n = omega arith in
          let f : min n q ≡ n = omega arith in
          let ih : parts b (max 1 b) q n + 1 ≡ 2 ^ n = parts-fixed b q n (omega arith) ∙ ap (λ (k : ℕ). 2 ^ k) f in
          rw (parts-suc b (max 1 b) q n, cutoff-fixed b n (omega arith), lt-ltb n q (omega arith), e, pow-suc 2 n, one-mul (2 ^ n)) (omega arith)
      | no l ↦
          let e : min (suc n) q ≡ min n q = omega arith in
          rw (parts-suc b (max 1 b) q n, cutoff-fixed b n (omega arith), le-ltb n q (omega arith), e, zero-mul (2 ^ n)) (omega (arith, parts-fixed b q n (omega arith)))
    ]

pub short-is : (b q n : ℕ) → b ≤ 32 → n ≡ min b q → 1 * 2 ^ n % 2 ^ 64 - 1 ≡ parts b (max 1 b) q b
short-is b q n h e = rw (ones n (omega arith), e) (omega (arith, parts-fixed b q b (omega arith)))

-- the walk of `map` for the fixed maxima
module _ {m : ℕ} {A : List ℕ} {i sum : ℕ} (s : Mapping m (bit_counts m) A i sum) {w : ℕ} (e : w ≡ get_or A i 0) where
  pub vector-mapped : kind w ≡ 0 → sum ≡ vector m (pow 1 A)
  unfolding vector
  vector-mapped h = mapped s e h
