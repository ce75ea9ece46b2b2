-- The laws of maxima, and the walks over them. Assumes nothing.
use mathlib.Core.Path.{◌≡◌, refl, sym, ap, ◌∙◌}
use mathlib.Core.Bool.{true, false, ◌&&◌}
use mathlib.Core.List.{List, [], ◌∷◌, append-nil}
use mathlib.Core.Logic.{◌⊎◌, inl, inr, ◌↔◌}
use Prim.Native.Nat.{ℕ, zero, suc, ◌+◌, ◌*◌, ◌≤◌, ◌<◌}
use native.Mathlib.Omega.{arith}
use native.Mathlib.Decide.{ℕ_discrete, dec_le}
use lib.Dec.{eqb, leb}
use lib.ListN.{length, get_or, set, drop, length-set, drop_of_length-le, get_or-eq_default}
use lib.Seq.{get_or-set_same, get_or-set_other}
use borrow.Author.Tests.{eq-eqb, ne_eqb, eqb-true, lt-ltb, le-ltb, le-leb, lt-leb, leb-true}
use Rattle.words.specs.Kinds.{kind, ident, power}
use Rattle.words.specs.Words.{words, bytes, put_w, paste_w}
use Rattle.words.proofs.Laws.{Bytes, Words, length-words, bytes-words, words-put_w, length-put_w, words-paste_w, length-paste_w, word-and-rest}
use Rattle.monomial.specs.Monomial.{Canonical}
use Rattle.monomial.specs.Sizes.{variables_fit}
use Rattle.monomial.proofs.Canon.{Canon, canon-of, both_true}
use Rattle.monomial.proofs.Sizing.{variables-fit}
use Rattle.monomial.proofs.Walks.{Rest, within, Last, Next, word_at}
use Rattle.divmask.specs.Tracker.{Maxima, all_in_range, maxima_lent, updated, total}

-- ---- question 1
pub range-low : (x : ℕ) (xs : List ℕ) → x < 1 → all_in_range (x ∷ xs) ≡ false
unfolding all_in_range
range-low x xs h = rw (lt-leb 1 x h)

pub range-high : (x : ℕ) (xs : List ℕ) → 1 ≤ x → 32767 < x → all_in_range (x ∷ xs) ≡ false
unfolding all_in_range
range-high x xs h l = simp (le-leb 1 x h, lt-leb x 32767 l)

pub range-in : (x : ℕ) (xs : List ℕ) → 1 ≤ x → x ≤ 32767 → all_in_range (x ∷ xs) ≡ all_in_range xs
unfolding all_in_range
range-in x xs h l = simp (le-leb 1 x h, le-leb x 32767 l)

pub range-nil : all_in_range [] ≡ true
unfolding all_in_range
range-nil = refl

range-each : (xs : List ℕ) → all_in_range xs ≡ true → (v : ℕ) → v < length xs → (1 ≤ get_or xs v 0) × (get_or xs v 0 ≤ 32767)
unfolding all_in_range
range-each [] e v h = absurd (omega arith)
range-each (x ∷ xs) e zero h =
    let t = both_true (leb 1 x) _ e in
    (leb-true 1 x t.0, leb-true x 32767 (both_true (leb x 32767) (all_in_range xs) t.1).0)
range-each (x ∷ xs) e (suc v) h =
    range-each xs (both_true (leb x 32767) (all_in_range xs) (both_true (leb 1 x) _ e).1).1 v (omega arith)

each-range : (xs : List ℕ) → ((v : ℕ) → v < length xs → 1 ≤ get_or xs v 0) → ((v : ℕ) → v < length xs → get_or xs v 0 ≤ 32767) → all_in_range xs ≡ true
each-range [] l h = range-nil
each-range (x ∷ xs) l h =
    range-in x xs (l 0 (omega arith)) (h 0 (omega arith)) ∙ each-range xs (λ v k. l (suc v) (omega arith)) (λ v k. h (suc v) (omega arith))

-- the test on bytes says that they are exactly good maxima
pub lent-maxima : (m : ℕ) (s : List ℕ) → (maxima_lent m s ≡ true) ↔ ((length s ≡ 4 * m) × Maxima m (words s))
unfolding maxima_lent
lent-maxima m s = (to, from)
  where
    to : (variables_fit m && (eqb (length s) (4 * m) && all_in_range (words s))) ≡ true → (length s ≡ 4 * m) × Maxima m (words s)
    to e =
        let e1 = both_true (variables_fit m) _ e in
        let v = (variables-fit m).0 e1.0 in
        let e2 = both_true (eqb (length s) (4 * m)) (all_in_range (words s)) e1.1 in
        let l : length s ≡ 4 * m = eqb-true (length s) (4 * m) e2.0 in
        let n : length (words s) ≡ m = length-words s ∙ omega arith in (
          l,
          record {
            some = v.0;
            few = v.1;
            one_each = n;
            low = λ v h. (range-each (words s) e2.1 v (omega arith)).0;
            high = λ v h. (range-each (words s) e2.1 v (omega arith)).1;
          },
        )

    from : (length s ≡ 4 * m) × Maxima m (words s) → (variables_fit m && (eqb (length s) (4 * m) && all_in_range (words s))) ≡ true
    from (l, x) =
        simp ((variables-fit m).1 (x.some, x.few), eq-eqb (length s) (4 * m) l)
        (each-range (words s) (λ v h. x.low v (omega (arith, x.one_each))) (λ v h. x.high v (omega (arith, x.one_each))))

-- ---- `update`
pub updated-up : (w : ℕ) (ws xs : List ℕ) → kind w ≡ 1 → get_or xs (ident w) 0 < power w → updated (w ∷ ws) xs ≡ updated ws (set xs (ident w) (power w))
unfolding updated
updated-up w ws xs h l = simp (eq-eqb (kind w) 1 h, lt-ltb (get_or xs (ident w) 0) (power w) l)

pub updated-end : (w : ℕ) (ws xs : List ℕ) → (kind w ≡ 1 → ⊥) → updated (w ∷ ws) xs ≡ xs
unfolding updated
updated-end w ws xs h = rw (ne_eqb (kind w) 1 h)

pub updated-stop : (w : ℕ) (ws xs : List ℕ) → kind w ≡ 1 → power w ≤ get_or xs (ident w) 0 → updated (w ∷ ws) xs ≡ xs
unfolding updated
updated-stop w ws xs h l = simp (eq-eqb (kind w) 1 h, le-ltb (get_or xs (ident w) 0) (power w) l)

pub updated-nil : (xs : List ℕ) → updated [] xs ≡ xs
unfolding updated
updated-nil xs = refl

-- the three cases of a word
data Case (w : ℕ) (ws xs : List ℕ) : Type 0 where
  stays : updated (w ∷ ws) xs ≡ xs → Case w ws xs
  rises : kind w ≡ 1 → get_or xs (ident w) 0 < power w → updated (w ∷ ws) xs ≡ updated ws (set xs (ident w) (power w)) → Case w ws xs

case : (w : ℕ) (ws xs : List ℕ) → Case w ws xs
case w ws xs =
    elim (ℕ_discrete (kind w) 1) [
      | yes h ↦ elim (dec_le (power w) (get_or xs (ident w) 0)) [
        | yes l ↦ stays (updated-stop w ws xs h l)
        | no l ↦ rises h (omega arith) (updated-up w ws xs h (omega arith))
      ]
      | no h ↦ stays (updated-end w ws xs h)
    ]

-- as many maxima
pub updated-length : (ws xs : List ℕ) → length (updated ws xs) ≡ length xs
updated-length [] xs = rw (updated-nil xs)
updated-length (w ∷ ws) xs = go (updated-length ws (set xs (ident w) (power w))) (case w ws xs)
  where
    go : length (updated ws (set xs (ident w) (power w))) ≡ length (set xs (ident w) (power w)) → Case w ws xs → length (updated (w ∷ ws) xs) ≡ length xs
    go rec (stays e) = rw e
    go rec (rises h l e) = rw e (rec ∙ simp length-set)

-- one maximum raised
raised : (xs : List ℕ) (i x v : ℕ) → get_or xs i 0 < x → get_or xs v 0 ≤ get_or (set xs i x) v 0
raised xs i x v h =
    elim (ℕ_discrete v i) [
      | yes e ↦ rw e (elim (dec_le (length xs) i) [
        | yes l ↦ omega (arith, get_or-eq_default xs 0 {n = i} l)
        | no l ↦ omega (arith, get_or-set_same xs i x 0 (omega arith))
      ])
      | no e ↦ rw (get_or-set_other xs i v x 0 e) (omega arith)
    ]

-- no maximum falls
pub updated-at-least : (ws xs : List ℕ) (v : ℕ) → get_or xs v 0 ≤ get_or (updated ws xs) v 0
updated-at-least [] xs v = rw (updated-nil xs) (omega arith)
updated-at-least (w ∷ ws) xs v = go (updated-at-least ws (set xs (ident w) (power w)) v) (case w ws xs)
  where
    go : get_or (set xs (ident w) (power w)) v 0 ≤ get_or (updated ws (set xs (ident w) (power w))) v 0 → Case w ws xs → get_or xs v 0 ≤ get_or (updated (w ∷ ws) xs) v 0
    go rec (stays e) = rw e (omega arith)
    go rec (rises h l e) = rw e (omega (arith, raised xs (ident w) (power w) v l))

raised-good : (m : ℕ) (xs : List ℕ) (i x : ℕ) → Maxima m xs → get_or xs i 0 < x → x ≤ 32767 → Maxima m (set xs i x)
raised-good m xs i x g h l = record {
  some = g.some;
  few = g.few;
  one_each = length-set xs i x ∙ g.one_each;
  low = λ v k. omega (arith, raised xs i x v h, g.low v k);
  high = λ v k.
      elim (ℕ_discrete v i) [
        | yes e ↦ rw e (omega (arith, get_or-set_same xs i x 0 (omega (arith, g.one_each))))
        | no e ↦ rw (get_or-set_other xs i v x 0 e) (g.high v k)
      ];
}

updated-canon : (m b n : ℕ) (ws xs : List ℕ) → Canon 1 b n ws → Maxima m xs → Maxima m (updated ws xs)
unfolding Canon
updated-canon m b n [] xs c g = absurd c
updated-canon m b n (w ∷ ws) xs (inl z) g = rw (updated-end w ws xs (λ e. omega (arith, z.kinded))) g
updated-canon m b n (w ∷ ws) xs (inr (y, c)) g = go (updated-canon m (ident w) (suc n) ws (set xs (ident w) (power w)) c) (case w ws xs)
  where
    go : (Maxima m (set xs (ident w) (power w)) → Maxima m (updated ws (set xs (ident w) (power w)))) → Case w ws xs → Maxima m (updated (w ∷ ws) xs)
    go rec (stays e) = rw e g
    go rec (rises h l e) = rw e (rec (raised-good m xs (ident w) (power w) g l y.high))

-- the new maxima pass question 1
pub updated-good : (m : ℕ) (ws xs : List ℕ) → Canonical 1 m ws → Maxima m xs → Maxima m (updated ws xs)
updated-good m ws xs c g = updated-canon m m 0 ws xs (canon-of c) g

-- words pasted over all bytes
paste_all : (bs ws : List ℕ) → length bs ≡ 4 * length ws → paste_w bs 0 ws ≡ bytes ws
unfolding paste_w
paste_all bs ws h = rw (drop_of_length-le bs {i = 4 * 0 + 4 * length ws} (omega arith)) (append-nil (bytes ws))

-- the bytes after `update` hold the new maxima, and pass question 1 again
pub updated-words : (m : ℕ) (A bs : List ℕ) → Canonical 1 m A → Maxima m (words bs) → words (paste_w bs 0 (updated A (words bs))) ≡ updated A (words bs)
updated-words m A bs c g =
    let us = updated A (words bs) in
    let h = updated-good m A (words bs) c g in
    let l : length us ≡ length (words bs) = updated-length A (words bs) in
    let small : Words us = λ k. elim (dec_le m k) [
      | yes z ↦ omega
          (arith, get_or-eq_default us 0 {n = k} (omega (arith, h.one_each)))
      | no z ↦ omega (arith, h.high k (omega arith))
    ] in
    words-paste_w bs 0 us small (omega (arith, length-words bs))
    ∙ rw (drop_of_length-le (words bs) {i = 0 + length us} (omega arith)) (append-nil us)

pub updated-lent : (m : ℕ) (A bs : List ℕ) → Canonical 1 m A → maxima_lent m bs ≡ true → maxima_lent m (paste_w bs 0 (updated A (words bs))) ≡ true
updated-lent m A bs c e =
    let g = (lent-maxima m bs).0 e in
    let h = updated-good m A (words bs) c g.1 in
    let k : length (paste_w bs 0 (updated A (words bs))) ≡ 4 * m = length-paste_w bs 0 (updated A (words bs)) (omega (arith, g.0, h.one_each)) ∙ g.0 in
    (lent-maxima m (paste_w bs 0 (updated A (words bs)))).1 (k, rw (updated-words m A bs c g.1) h)

-- the walk of `update`: what is left of the product gives the rest
pub record Updating (m : ℕ) (A bs₀ bs : List ℕ) (i : ℕ) : Type 0 where
  pub b : ℕ
  pub ra : Rest 1 A i b
  pub below : b ≤ m
  pub good : Maxima m (words bs)
  pub kept : length bs ≡ length bs₀
  pub whole : length bs₀ ≡ 4 * m
  pub small : Bytes bs
  pub same : updated A (words bs₀) ≡ updated (drop i A) (words bs)

pub begin : {m : ℕ} {A : List ℕ} (bs : List ℕ) → Canonical 1 m A → Maxima m (words bs) → length bs ≡ 4 * m → Bytes bs → Updating m A bs bs 0
begin {m} bs c g l s = record {
  b = m;
  ra = record { n = 0; few = omega (arith, g.few); canon = canon-of c; same = λ v h. refl };
  below = omega arith;
  good = g;
  kept = refl;
  whole = l;
  small = s;
  same = refl;
}

module _ {m : ℕ} {A bs₀ bs : List ℕ} {i : ℕ} (s : Updating m A bs₀ bs i) {w : ℕ} (e : w ≡ get_or A i 0) where
  left : updated A (words bs₀) ≡ updated (w ∷ drop (i + 1) A) (words bs)
  left = rw (word-and-rest A i w (within s.ra) e) at s.same

  stopped : updated (w ∷ drop (i + 1) A) (words bs) ≡ words bs → bs ≡ paste_w bs₀ 0 (updated A (words bs₀))
  stopped h =
      let n : length bs₀ ≡ 4 * length (words bs) = omega (arith, s.whole, s.good.one_each) in
      rw (left, h) (sym (paste_all bs₀ (words bs) n ∙ bytes-words bs s.small (omega (arith, s.kept, s.whole))))

  pub at-end : kind w ≡ 0 → bs ≡ paste_w bs₀ 0 (updated A (words bs₀))
  at-end h = stopped (updated-end w (drop (i + 1) A) (words bs) (λ k. omega arith))

  pub record Word : Type 0 where
    pub kinded : kind w ≡ 1
    pub known : ident w < m
    pub high : power w ≤ 32767
    pub rest : Rest 1 A (i + 1) (ident w)

  pub variable : (kind w ≡ 0 → ⊥) → Word
  variable h = go (word_at (omega arith) w s.ra e)
    where
      go : Last 1 A s.b w ⊎ Next 1 A i s.b w → Word
      go (inl z) = absurd (h (omega (arith, z.upper)))
      go (inr z) = record { kinded = z.var.kinded; known = omega (arith, z.var.below, s.below); high = z.var.high; rest = z.rest }

  pub not-above : (kind w ≡ 0 → ⊥) → power w ≤ get_or (words bs) (ident w) 0 → bs ≡ paste_w bs₀ 0 (updated A (words bs₀))
  not-above h l = stopped (updated-stop w (drop (i + 1) A) (words bs) (variable h).kinded l)

  pub raises : (kind w ≡ 0 → ⊥) → get_or (words bs) (ident w) 0 < power w → {bs' : List ℕ} → bs' ≡ put_w bs (ident w) (power w) → Bytes bs' → Updating m A bs₀ bs' (i + 1)
  raises h l {bs'} q k =
      let v = variable h in
      let f : words bs' ≡ set (words bs) (ident w) (power w) =
      ap words q ∙ words-put_w bs (ident w) (power w) (omega (arith, v.high)) (omega (arith, v.known, s.kept, s.whole)) in
      record {
        b = ident w;
        ra = v.rest;
        below = omega (arith, v.known);
        good = rw f (raised-good m (words bs) (ident w) (power w) s.good l v.high);
        kept = ap length q ∙ length-put_w bs (ident w) (power w) ∙ s.kept;
        whole = s.whole;
        small = k;
        same = left ∙ updated-up w (drop (i + 1) A) (words bs) v.kinded l ∙ rw f;
      }

-- ---- the total
pub total-cons : (x : ℕ) (xs : List ℕ) → total (x ∷ xs) ≡ x + total xs
unfolding total
total-cons x xs = refl

pub total-nil : total [] ≡ 0
unfolding total
total-nil = refl

total-range : (xs : List ℕ) → ((v : ℕ) → v < length xs → 1 ≤ get_or xs v 0) → ((v : ℕ) → v < length xs → get_or xs v 0 ≤ 32767)
    → (length xs ≤ total xs) × (total xs ≤ 32767 * length xs)
total-range [] l h = rw total-nil (omega arith, omega arith)
total-range (x ∷ xs) l h =
    let t = total-range xs (λ v k. l (suc v) (omega arith)) (λ v k. h (suc v) (omega arith)) in
    let low : 1 ≤ x = l 0 (omega arith) in
    let high : x ≤ 32767 = h 0 (omega arith) in
    rw (total-cons x xs) (omega (arith, t.0), omega (arith, t.1))

pub total-low : (m : ℕ) (xs : List ℕ) → Maxima m xs → m ≤ total xs
total-low m xs g =
    omega (arith, g.one_each, (total-range xs (λ v k. g.low v (omega (arith, g.one_each))) (λ v k. g.high v (omega (arith, g.one_each)))).0)

pub total-high : (m : ℕ) (xs : List ℕ) → Maxima m xs → total xs ≤ 2097088
total-high m xs g =
    omega (arith, g.one_each, g.few, (total-range xs (λ v k. g.low v (omega (arith, g.one_each))) (λ v k. g.high v (omega (arith, g.one_each)))).1)

-- one maximum more
pub total-step : (xs : List ℕ) (i sum x : ℕ) → sum + total (drop i xs) ≡ total xs → i < length xs → x ≡ get_or xs i 0 → sum + x + total (drop (i + 1) xs) ≡ total xs
total-step xs i sum x e h is =
    let f : total (drop i xs) ≡ x + total (drop (i + 1) xs) = ap total (word-and-rest xs i x h is) ∙ total-cons x (drop (i + 1) xs) in
    omega arith

pub total-all : (xs : List ℕ) (i sum : ℕ) → sum + total (drop i xs) ≡ total xs → length xs ≤ i → sum ≡ total xs
total-all xs i sum e h = let f : total (drop i xs) ≡ 0 = rw (drop_of_length-le xs {i = i} h) total-nil in omega arith
