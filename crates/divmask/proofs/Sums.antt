-- A mask and a short exponent vector side by side: what one power adds to both, and the walk that adds it up. Assumes nothing.
use Rattle.std.proofs.Common.{◌≡◌, ℕ, suc, ◌+◌, ◌*◌, ◌/◌, ◌%◌, ◌^◌, ◌<◌, ◌≤◌, min, max, cond, ltb, List, get_or, sym, ◌∙◌, lt_of_lt_of_le, mod-eq_of_lt, arith, pow_mono}
use Rattle.words.specs.Kinds.{kind, ident, power}
use Rattle.monomial.specs.Monomial.{Canonical, pow}
use Rattle.divmask.specs.Mask.{bits, first_bit, parts, field, fields, mask, bit_counts, vector, both}
use Rattle.divmask.proofs.Places.{first-suc, first-closed, in_all}
use Rattle.divmask.proofs.Masks.{fields-suc, fields-lt, Mapping, begin, mapped, step, bits_are}
use Rattle.divmask.proofs.Vectors.{count_at, vector-mapped}

-- ---- one variable's bits
one-small : (m : ℕ) (xs : List ℕ) (v q : ℕ) → v < m → parts (bits m v) (get_or xs v 0) q (bits m v) * 2 ^ first_bit m v < 2 ^ 32
one-small m xs v q h =
    let l : first_bit m (suc v) ≤ 32 = omega (arith, first-suc m v, in_all m v h) in
    let a : fields m xs (λ u. q) (suc v) < 2 ^ 32 = lt_of_lt_of_le (fields-lt m xs (λ u. q) (suc v)) (pow_mono l) in
    omega (arith, fields-suc m xs (λ u. q) v)

-- as the code makes them: x the maximum, b the bits, f and g the fields, t the first bit
pub record Made (m : ℕ) (xs : List ℕ) (v q t f g : ℕ) : Type 0 where
  pub few : bits m v ≤ 32
  pub shift : t ≤ 32
  pub low : f * 2 ^ t % 2 ^ 64 < 2 ^ 32
  pub high : g * 2 ^ t % 2 ^ 64 < 2 ^ 32
  pub is : f * 2 ^ t % 2 ^ 64 + 4294967296 * (g * 2 ^ t % 2 ^ 64) ≡ both m xs v q

pub made : (m : ℕ) (xs : List ℕ) (v q : ℕ) {x b f g t : ℕ} → v < m → x ≡ get_or xs v 0 → b ≡ 32 / m + cond (ltb v (32 % m)) 1 0
    → f ≡ parts b x q b → g ≡ parts b (max 1 b) q b → t ≡ v * (32 / m) + min v (32 % m) → Made m xs v q t f g
unfolding both field
made m xs v q {x} {b} {f} {g} {t} h ex eb ef eg et =
    let is : t ≡ first_bit m v = et ∙ sym (first-closed m v) in
    let bs = bits_are m v b eb in
    let fs : f ≡ parts (bits m v) (get_or xs v 0) q (bits m v) = ef ∙ rw (ex, bs) in
    let gs : g ≡ parts (bits m v) (get_or (bit_counts m) v 0) q (bits m v) = eg ∙ rw (bs, count_at m v h) in
    let a = one-small m xs v q h in
    let c = one-small m (bit_counts m) v q h in
    let sf : f * 2 ^ t < 2 ^ 64 = rw (is, fs) (omega arith) in
    let sg : g * 2 ^ t < 2 ^ 64 = rw (is, gs) (omega arith) in
    record {
      few = omega (arith, in_all m v h);
      shift = omega (arith, in_all m v h);
      low = rw (mod-eq_of_lt sf, is, fs) a;
      high = rw (mod-eq_of_lt sg, is, gs) c;
      is = rw (mod-eq_of_lt sf, mod-eq_of_lt sg, is, fs, gs);
    }

-- ---- the walk: masks and vectors are added up side by side
pub record Adding (m : ℕ) (xs A : List ℕ) (i sum : ℕ) : Type 0 where
  pub low : ℕ
  pub high : ℕ
  pub is : sum ≡ low + 4294967296 * high
  pub masks : Mapping m xs A i low
  pub vectors : Mapping m (bit_counts m) A i high

pub adding : {m : ℕ} {A : List ℕ} (xs : List ℕ) → m ≤ 64 → Canonical 1 m A → Adding m xs A 0 0
adding {m} xs h c = record { low = 0; high = 0; is = omega arith; masks = begin xs h c; vectors = begin (bit_counts m) h c }

module _ {m : ℕ} {xs A : List ℕ} {i sum : ℕ} (s : Adding m xs A i sum) {w : ℕ} (e : w ≡ get_or A i 0) where
  pub added : kind w ≡ 0 → sum ≡ mask m xs (pow 1 A) + 4294967296 * vector m (pow 1 A)
  added h = s.is ∙ rw (mapped s.masks e h, vector-mapped s.vectors e h)

  pub record More (x : ℕ) : Type 0 where
    pub known : ident w < m
    pub from : 1 ≤ power w
    pub to : power w ≤ 32767
    pub fits : x ≡ both m xs (ident w) (power w) → sum + x < 2 ^ 64
    pub rest : x ≡ both m xs (ident w) (power w) → Adding m xs A (i + 1) (sum + x)

  pub more : (kind w ≡ 0 → ⊥) → (x : ℕ) → More x
  unfolding both field
  more h x =
      let a = step s.masks e h in
      let b = step s.vectors e h in
      let u = ident w in
      let t = 2 ^ first_bit m u in
      let lo = s.low + parts (bits m u) (get_or xs u 0) (power w) (bits m u) * t in
      let hi = s.high + parts (bits m u) (get_or (bit_counts m) u 0) (power w) (bits m u) * t in
      record {
        known = a.known;
        from = a.low;
        to = a.high;
        fits = λ ex. omega (arith, a.fits, b.fits, s.is);
        rest = λ ex. record { low = lo; high = hi; is = omega (arith, s.is); masks = a.rest; vectors = b.rest };
      }
