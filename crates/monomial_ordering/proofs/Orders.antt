-- The laws of the order, and the walks of `total_of` and `revlex`. Assumes nothing.
use mathlib.Core.Path.{◌≡◌, refl, sym, ap, ◌∙◌}
use mathlib.Core.Bool.{cond}
use mathlib.Core.List.{List, [], ◌∷◌}
use mathlib.Core.Logic.{◌⊎◌, inl, inr}
use Prim.Native.Nat.{ℕ, zero, suc, ◌+◌, ◌-◌, ◌*◌, ◌^◌, ◌≤◌, ◌<◌}
use native.Mathlib.Omega.{arith}
use native.Mathlib.Numerals.{add-one}
use native.Mathlib.Nat.{suc-mul, add-mul, mul-le-mul}
use native.Mathlib.Decide.{ℕ_discrete, dec_le, dec_lt}
use lib.Dec.{eqb}
use lib.ListN.{length, get_or, drop, length-drop, drop_of_length-le}
use borrow.Author.Tests.{eq-eqb, ne_eqb}
use Rattle.words.specs.Kinds.{kind, ident, power, upper_half}
use Rattle.words.proofs.Laws.{word-and-rest}
use Rattle.monomial.specs.Monomial.{bias, Canonical, pow}
use Rattle.std.specs.declared.cmp.Ordering.{Ordering}
use Rattle.std.specs.declared.cmp.Ordering.TheVariants.{Less, Equal, Greater}
use Rattle.std.specs.Ordering.{nat_cmp, ordering_then}
use Rattle.std.specs.Cmp.{nat_cmp_is}
use Rattle.monomial_ordering.specs.Order.{total, revlex, grevlex, order}
use Rattle.monomial_ordering.specs.Order.{differing}
use Rattle.monomial.proofs.Canon.{IsVar, IsEnd, Canon, canon-of}
use Rattle.monomial.proofs.Powers.{pow-here, pow-past, pow-end, pow-above}
use Rattle.monomial.proofs.Walks.{Rest, within, Last, Next, word_at}

-- ---- comparing numbers
pub compare-less : (x y : ℕ) → x < y → nat_cmp x y ≡ Less
compare-less x y h = sym (nat_cmp_is x y Less h)

pub compare-greater : (x y : ℕ) → y < x → nat_cmp x y ≡ Greater
compare-greater x y h = sym (nat_cmp_is x y Greater h)

pub compare-equal : (x y : ℕ) → x ≡ y → nat_cmp x y ≡ Equal
compare-equal x y h = sym (nat_cmp_is x y Equal h)

-- what a comparison says
pub data Trichotomy (x y : ℕ) : Type 0 where
  less : x < y → nat_cmp x y ≡ Less → Trichotomy x y
  equal : x ≡ y → nat_cmp x y ≡ Equal → Trichotomy x y
  greater : y < x → nat_cmp x y ≡ Greater → Trichotomy x y

pub trichotomy : (x y : ℕ) → Trichotomy x y
trichotomy x y =
    elim (dec_lt x y) [
      | yes h ↦ less h (compare-less x y h)
      | no h ↦ elim (ℕ_discrete x y) [
        | yes e ↦ equal e (compare-equal x y e)
        | no e ↦ greater (omega arith) (compare-greater x y (omega arith))
      ]
    ]

pub then_equal : (a : Ordering) → ordering_then a Equal ≡ a
then_equal Less = refl
then_equal Equal = refl
then_equal Greater = refl

-- ---- ranges of variables in which both have the same powers
pub revlex-skip : (c b : ℕ) (p q : ℕ → ℕ) → c ≤ b → ((v : ℕ) → c ≤ v → v < b → p v ≡ q v) → revlex b p q ≡ revlex c p q
unfolding revlex
revlex-skip c zero p q h e = let z : c ≡ 0 = omega arith in rw z
revlex-skip c (suc b) p q h e =
    elim (dec_le c b) [
      | yes l ↦ rw (compare-equal (q b) (p b) (sym (e b l (omega arith)))) (then_equal (revlex b p q) ∙ revlex-skip c b p q l (λ v i j. e v i (omega arith)))
      | no l ↦ let z : c ≡ suc b = omega arith in rw z
    ]

pub revlex-suc : (b : ℕ) (p q : ℕ → ℕ) → revlex (suc b) p q ≡ ordering_then (revlex b p q) (nat_cmp (q b) (p b))
unfolding revlex
revlex-suc b p q = refl

pub revlex-zero : (p q : ℕ → ℕ) → revlex 0 p q ≡ Equal
unfolding revlex
revlex-zero p q = refl

pub total-zero : (p : ℕ → ℕ) → total 0 p ≡ 0
unfolding total
total-zero p = refl

pub total-suc : (b : ℕ) (p : ℕ → ℕ) → total (suc b) p ≡ p b + total b p
unfolding total
total-suc b p = refl

-- ---- totals
pub total_ext : (b : ℕ) (p q : ℕ → ℕ) → ((v : ℕ) → v < b → p v ≡ q v) → total b p ≡ total b q
unfolding total
total_ext zero p q h = refl
total_ext (suc b) p q h = rw (h b (omega arith), total_ext b p q (λ v l. h v (omega arith)))

-- d variables from c on that all have the power z
total-gap : (c d z : ℕ) (p : ℕ → ℕ) → ((v : ℕ) → c ≤ v → v < c + d → p v ≡ z) → total (c + d) p ≡ total c p + d * z
total-gap c zero z p h = let e : c + 0 ≡ c = omega arith in rw e (omega arith)
total-gap c (suc d) z p h =
    let e : c + suc d ≡ suc (c + d) = omega arith in
    rw e (omega (arith, total-suc (c + d) p, total-gap c d z p (λ v l u. h v l (omega arith)), h (c + d) (omega arith) (omega arith), suc-mul d z))

-- the sum of the powers of the words before the end word
unfoldable pub sums : List ℕ → ℕ
sums [] = 0
sums (w ∷ ws) = cond (eqb (kind w) 0) 0 (power w + sums ws)

pub sums-end : (w : ℕ) (ws : List ℕ) → kind w ≡ 0 → sums (w ∷ ws) ≡ 0
unfolding sums
sums-end w ws h = rw (eq-eqb (kind w) 0 h)

pub sums-var : (w : ℕ) (ws : List ℕ) → (kind w ≡ 0 → ⊥) → sums (w ∷ ws) ≡ power w + sums ws
unfolding sums
sums-var w ws h = rw (ne_eqb (kind w) 0 h)

-- the total is that sum, and the power of an absent variable for each of the d others
record Summed (k b : ℕ) (ws : List ℕ) : Type 0 where
  d : ℕ
  others : b + 1 ≡ length ws + d
  is : total b (pow k ws) ≡ sums ws + d * bias k

summed : (k b n : ℕ) (ws : List ℕ) → 0 < k → Canon k b n ws → Summed k b ws
unfolding Canon
summed k b n [] pos c = absurd c
summed k b n (w ∷ ws) pos (inl e) =
    let q : 0 + b ≡ b = omega arith in
    let z : total b (pow k (w ∷ ws)) ≡ total 0 (pow k (w ∷ ws)) + b * bias k =
    rw q at (total-gap 0 b (bias k) (pow k (w ∷ ws)) (λ v l u. pow-end k pos n w ws v e)) in
    record { d = b; others = omega (arith, ap length e.last); is = omega (arith, total-zero (pow k (w ∷ ws)), sums-end w ws e.kinded) }
summed k b n (w ∷ ws) pos (inr (x, c)) =
    let r = summed k (ident w) (suc n) ws pos c in
    let u = ident w in
    let g = b - suc u in
    let p = pow k (w ∷ ws) in
    let eb : suc u + g ≡ b = omega (arith, x.below) in
    let gap = total-gap (suc u) g (bias k) p (λ v l h. pow-past k w ws v (λ q. omega arith) ∙ pow-above k pos u (suc n) ws v c (omega arith)) in
    let low : total u p ≡ total u (pow k ws) = total_ext u p (pow k ws) (λ v l. pow-past k w ws v (λ q. omega arith)) in
    let here : p u ≡ power w = pow-here k w ws u x.kinded refl in
    let many : (r.d + g) * bias k ≡ r.d * bias k + g * bias k = add-mul r.d g (bias k) in
    let all : total b p ≡ total (suc u) p + g * bias k = ap (λ (n : ℕ). total n p) (sym eb) ∙ gap in
    record {
      d = r.d + g;
      others = omega (arith, r.others);
      is = omega (arith, all, total-suc u p, low, here, r.is, many, sums-var w ws (λ z. omega (arith, x.kinded)));
    }

-- ---- the walk of `total_of`
pub record Totalling (k : ℕ) (A : List ℕ) (s i : ℕ) : Type 0 where
  pub b : ℕ
  pub ra : Rest k A i b
  pub sum : s + sums (drop i A) ≡ sums A
  pub small : s + 65535 * b ≤ 268431360

pub total-begin : {k : ℕ} {A : List ℕ} → Rest k A 0 4096 → Totalling k A 0 0
total-begin ra = record { b = 4096; ra = ra; sum = omega arith; small = omega arith }

-- the place of the end word is the last
pub rest_end : {k i b : ℕ} {A : List ℕ} → 0 < k → Rest k A i b → kind (get_or A i 0) ≡ 0 → i + 1 ≡ length A
unfolding Canon
rest_end {k} {i} {b} {A} pos r h = go (rw (word-and-rest A i (get_or A i 0) (within r) refl) at r.canon)
  where
    go : IsEnd r.n (get_or A i 0) (drop (i + 1) A) ⊎ (IsVar k b (get_or A i 0) × Canon k (ident (get_or A i 0)) (suc r.n) (drop (i + 1) A)) → i + 1 ≡ length A
    go (inl z) = omega (arith, within r, length-drop (i + 1) A, ap length z.last)
    go (inr z) = absurd (omega (arith, z.0.kinded))

module _ {k : ℕ} (pos : 0 < k) (two : k ≤ 2) {A : List ℕ} {s i : ℕ} (r : Totalling k A s i) {w : ℕ} (e : w ≡ get_or A i 0) where
  tail : drop i A ≡ w ∷ drop (i + 1) A
  tail = word-and-rest A i w (within r.ra) e

  pub record Totalled : Type 0 where
    pub few : i ≤ 4096
    pub fits : s + (4096 - i) * (32768 * (k - 1)) < 2 ^ 32
    pub is : s + (4096 - i) * (32768 * (k - 1)) ≡ total 4096 (pow k A)
    pub last : i + 1 ≡ length A

  pub totalled : Canonical k 4096 A → kind w ≡ 0 → Totalled
  totalled c h =
      let l = rest_end pos r.ra (ap kind (sym e) ∙ h) in
      let z : s ≡ sums A = omega (arith, r.sum, ap sums tail, sums-end w (drop (i + 1) A) h) in
      let t = summed k 4096 0 A pos (canon-of c) in
      let f : 4096 - i ≡ t.d = omega (arith, t.others) in
      let m = mul-le-mul {n₁ = 4096 - i} {m₁ = 32768 * (k - 1)} {n₂ = 4096} {m₂ = 32768} (omega arith) (omega arith) in
      record {
        few = omega (arith, t.others);
        fits = omega (arith, r.small, m);
        is = rw f (omega (arith, t.is));
        last = l;
      }

  pub record Counted : Type 0 where
    pub small : s + power w < 2 ^ 32
    pub more : Totalling k A (s + power w) (i + 1)

  pub counted : (kind w ≡ 0 → ⊥) → Counted
  counted h = go (word_at pos w r.ra e)
    where
      go : Last k A r.b w ⊎ Next k A i r.b w → Counted
      go (inl z) = absurd (h (omega (arith, z.upper)))
      go (inr z) = record {
        small = omega (arith, r.small);
        more = record {
          b = ident w;
          ra = z.rest;
          sum = omega (arith, r.sum, ap sums tail, sums-var w (drop (i + 1) A) h);
          small = omega (arith, r.small, z.var.below);
        };
      }

-- ---- the walk of `revlex`, from the ends
-- what is left of a canonical list at each place of it
record Place (k : ℕ) (A : List ℕ) (i : ℕ) : Type 0 where
  b : ℕ
  rest : Rest k A i b

place : {k : ℕ} {A : List ℕ} → 0 < k → Rest k A 0 4096 → (i : ℕ) → i < length A → Place k A i
place pos r zero h = record { b = 4096; rest = r }
place {k} {A} pos r (suc i) h = go (place pos r i (omega arith))
  where
    go : Place k A i → Place k A (suc i)
    go p = step (word_at pos (get_or A i 0) p.rest refl)
      where
        step : Last k A p.b (get_or A i 0) ⊎ Next k A i p.b (get_or A i 0) → Place k A (suc i)
        step (inl z) = absurd (omega (arith, rest_end pos p.rest (omega (arith, z.upper))))
        step (inr z) = record { b = ident (get_or A i 0); rest = rw add-one at z.rest }

-- from places i and j on both have the same powers
pub record Matching (k : ℕ) (A B : List ℕ) (i j : ℕ) : Type 0 where
  pub ia : i < length A
  pub jb : j < length B
  pub same : (v : ℕ) → pow k (drop i A) v ≡ pow k (drop j B) v

-- the word before place i
record Before (k : ℕ) (A : List ℕ) (i x : ℕ) : Type 0 where
  kinded : kind x ≡ k
  low : ident x < 4096
  some : power x ≡ bias k → ⊥
  here : pow k A (ident x) ≡ power x
  below : (v : ℕ) → v < ident x → pow k A v ≡ pow k (drop i A) v
  none : (v : ℕ) → ident x ≤ v → pow k (drop i A) v ≡ bias k

module _ {k : ℕ} (pos : 0 < k) {A : List ℕ} (r : Rest k A 0 4096) where
  end_none : (i : ℕ) → i + 1 ≡ length A → (v : ℕ) → pow k (drop i A) v ≡ bias k
  unfolding Canon
  end_none i l v = go (place pos r i (omega arith))
    where
      w : ℕ
      w = get_or A i 0

      nil : drop (i + 1) A ≡ []
      nil = drop_of_length-le A {i = i + 1} (omega arith)

      tail : drop i A ≡ w ∷ []
      tail = word-and-rest A i w (omega arith) refl ∙ rw nil

      go : Place k A i → pow k (drop i A) v ≡ bias k
      go p = rw tail (ends (rw tail at p.rest.canon))
        where
          ends : IsEnd p.rest.n w [] ⊎ (IsVar k p.b w × Canon k (ident w) (suc p.rest.n) []) → pow k (w ∷ []) v ≡ bias k
          ends (inl z) = pow-end k pos p.rest.n w [] v z
          ends (inr z) = absurd z.1

  before : (i x : ℕ) → 0 < i → i < length A → x ≡ get_or A (i - 1) 0 → Before k A i x
  before i x h l e = go (place pos r (i - 1) (omega arith))
    where
      si : i - 1 + 1 ≡ i
      si = omega arith

      go : Place k A (i - 1) → Before k A i x
      go p = step (word_at pos x p.rest e)
        where
          step : Last k A p.b x ⊎ Next k A (i - 1) p.b x → Before k A i x
          step (inl z) = absurd (omega (arith, rest_end pos p.rest (ap kind (sym e) ∙ (omega (arith, z.upper)))))
          step (inr z) =
              let q : Rest k A i (ident x) = rw si at z.rest in
              record {
                kinded = z.var.kinded;
                low = omega arith;
                some = z.var.some;
                here = z.here;
                below = q.same;
                none = λ v m. pow-above k pos (ident x) q.n (drop i A) v q.canon m;
              }

  back : (i x : ℕ) → 0 < i → i < length A → x ≡ get_or A (i - 1) 0 → drop (i - 1) A ≡ x ∷ drop i A
  back i x h l e = let si : i - 1 + 1 ≡ i = omega arith in word-and-rest A (i - 1) x (omega arith) e ∙ rw si

-- the first difference from below decides
decides : (n u : ℕ) (p q : ℕ → ℕ) → u < n → ((v : ℕ) → v < u → p v ≡ q v) → (p u ≡ q u → ⊥) → revlex n p q ≡ nat_cmp (q u) (p u)
decides zero u p q h s d = absurd (omega arith)
decides (suc n) u p q h s d =
    elim (ℕ_discrete u n) [
      | yes e ↦
          let z : revlex n p q ≡ Equal = revlex-skip 0 n p q (omega arith) (λ v i l. s v (omega arith)) ∙ revlex-zero p q in
          revlex-suc n p q ∙ rw (z, e)
      | no e ↦ revlex-suc n p q ∙ rw (decides n u p q (omega arith) s d) (stays (trichotomy (q u) (p u)))
    ]
  where
    stays : Trichotomy (q u) (p u) → ordering_then (nat_cmp (q u) (p u)) (nat_cmp (q n) (p n)) ≡ nat_cmp (q u) (p u)
    stays (less l c) = rw c
    stays (equal l c) = absurd (d (sym l))
    stays (greater l c) = rw c

module _ {k : ℕ} (pos : 0 < k) {A B : List ℕ} (ra : Rest k A 0 4096) (rb : Rest k B 0 4096) where
  pub match-begin : {i j : ℕ} → i + 1 ≡ length A → j + 1 ≡ length B → Matching k A B i j
  match-begin {i} {j} ea eb = record {
    ia = omega arith;
    jb = omega arith;
    same = λ v. end_none pos ra i ea v ∙ sym (end_none pos rb j eb v);
  }

  module _ {i j : ℕ} (s : Matching k A B i j) where
    pub all-equal : i ≡ 0 → j ≡ 0 → Equal ≡ revlex 4096 (pow k A) (pow k B)
    all-equal ei ej =
        let e : (v : ℕ) → pow k A v ≡ pow k B v = rw (ei, ej) at s.same in
        sym (revlex-skip 0 4096 (pow k A) (pow k B) (omega arith) (λ v m n. e v) ∙ revlex-zero (pow k A) (pow k B))

    -- nothing is left of a: b has one more variable
    pub right-alone : i ≡ 0 → {y : ℕ} → 0 < j → y ≡ get_or B (j - 1) 0 → nat_cmp (power y) (bias k) ≡ revlex 4096 (pow k A) (pow k B)
    right-alone ei {y} h e =
        let w = before pos rb j y h s.jb e in
        let t : (v : ℕ) → pow k A v ≡ pow k (drop j B) v = rw ei at s.same in
        let pa : pow k A (ident y) ≡ bias k = t (ident y) ∙ w.none (ident y) (omega arith) in
        sym (decides 4096 (ident y) (pow k A) (pow k B) w.low (λ v l. t v ∙ sym (w.below v l)) (λ q. w.some (sym w.here ∙ sym q ∙ pa)) ∙ rw (pa, w.here))

    pub left_alone : j ≡ 0 → {x : ℕ} → 0 < i → x ≡ get_or A (i - 1) 0 → nat_cmp (bias k) (power x) ≡ revlex 4096 (pow k A) (pow k B)
    left_alone ej {x} h e =
        let w = before pos ra i x h s.ia e in
        let t : (v : ℕ) → pow k (drop i A) v ≡ pow k B v = rw ej at s.same in
        let pb : pow k B (ident x) ≡ bias k = sym (t (ident x)) ∙ w.none (ident x) (omega arith) in
        sym (decides 4096 (ident x) (pow k A) (pow k B) w.low (λ v l. w.below v l ∙ t v) (λ q. w.some (sym w.here ∙ q ∙ pb)) ∙ rw (pb, w.here))

    module _ {x y : ℕ} (hi : 0 < i) (hj : 0 < j) (ex : x ≡ get_or A (i - 1) 0) (ey : y ≡ get_or B (j - 1) 0) where
      va : Before k A i x
      va = before pos ra i x hi s.ia ex

      vb : Before k B j y
      vb = before pos rb j y hj s.jb ey

      pub differs : (x ≡ y → ⊥) → differing x y (bias k) ≡ revlex 4096 (pow k A) (pow k B)
      unfolding differing
      differs d =
          elim (dec_lt (upper_half x) (upper_half y)) [
            | yes l ↦
                let u = ident x in
                let lt : u < ident y = omega (arith, va.kinded, vb.kinded) in
                let pb : pow k B u ≡ bias k = vb.below u lt ∙ sym (s.same u) ∙ va.none u (omega arith) in
                rw (compare-less (upper_half x) (upper_half y) l)
                (sym (decides 4096 u (pow k A) (pow k B) va.low (λ v m. va.below v m ∙ s.same v ∙ sym (vb.below v (omega arith))) (λ q. va.some (sym va.here ∙ q ∙ pb)) ∙ rw (pb, va.here)))
            | no l ↦ elim (dec_lt (upper_half y) (upper_half x)) [
              | yes g ↦
                  let u = ident y in
                  let lt : u < ident x = omega (arith, va.kinded, vb.kinded) in
                  let pa : pow k A u ≡ bias k = va.below u lt ∙ s.same u ∙ vb.none u (omega arith) in
                  rw (compare-greater (upper_half x) (upper_half y) g)
                  (sym (decides 4096 u (pow k A) (pow k B) vb.low (λ v m. va.below v (omega arith) ∙ s.same v ∙ sym (vb.below v m)) (λ q. vb.some (sym vb.here ∙ sym q ∙ pa)) ∙ rw (pa, vb.here)))
              | no g ↦
                  let u = ident x in
                  let same : ident y ≡ u = omega (arith, va.kinded, vb.kinded) in
                  let pb : pow k B u ≡ power y = rw same at vb.here in
                  rw (compare-equal (upper_half x) (upper_half y) (omega arith))
                  (sym (decides 4096 u (pow k A) (pow k B) va.low (λ v m. va.below v m ∙ s.same v ∙ sym (vb.below v (omega arith))) (λ q. d (let z : power x ≡ power y = sym va.here ∙ q ∙ pb in omega arith)) ∙ rw (pb, va.here)))
            ]
          ]

      pub matches : x ≡ y → Matching k A B (i - 1) (j - 1)
      matches e =
          let ta : drop (i - 1) A ≡ x ∷ drop i A = back pos ra i x hi s.ia ex in
          let tb : drop (j - 1) B ≡ x ∷ drop j B = back pos rb j y hj s.jb ey ∙ rw e in
          record {
            ia = omega (arith, s.ia);
            jb = omega (arith, s.jb);
            same = λ v. rw (ta, tb) (elim (ℕ_discrete (ident x) v) [
              | yes q ↦ pow-here k x (drop i A) v va.kinded q ∙ sym (pow-here k x (drop j B) v va.kinded q)
              | no q ↦ pow-past k x (drop i A) v q ∙ s.same v ∙ sym (pow-past k x (drop j B) v q)
            ]);
          }

-- ---- the order by its two passes
module _ (k : ℕ) (A B : List ℕ) {s t : ℕ} (es : s ≡ total 4096 (pow k A)) (et : t ≡ total 4096 (pow k B)) where
  pub by_less : s < t → Less ≡ order k A B
  unfolding order grevlex
  by_less h = rw (compare-less (total 4096 (pow k A)) (total 4096 (pow k B)) (omega arith))

  pub by-greater : t < s → Greater ≡ order k A B
  unfolding order grevlex
  by-greater h = rw (compare-greater (total 4096 (pow k A)) (total 4096 (pow k B)) (omega arith))

  pub by-revlex : s ≡ t → revlex 4096 (pow k A) (pow k B) ≡ order k A B
  unfolding order grevlex
  by-revlex h = rw (compare-equal (total 4096 (pow k A)) (total 4096 (pow k B)) (omega arith))
