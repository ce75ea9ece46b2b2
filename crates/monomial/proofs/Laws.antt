-- What the operations mean, by the textbook: the laws that the rest of the product cites. Assumes nothing.
use mathlib.Core.Path.{◌≡◌, refl, sym, ap, ◌∙◌}
use mathlib.Core.Bool.{true, ◌&&◌}
use mathlib.Core.List.{List, [], ◌∷◌, ◌++◌}
use mathlib.Core.Logic.{◌⊎◌, inl, inr, ◌↔◌}
use Prim.Native.Nat.{ℕ, suc, ◌+◌, ◌-◌, ◌*◌, ◌%◌, ◌≤◌, ◌<◌}
use native.Mathlib.Omega.{arith}
use native.Mathlib.Decide.{dec_le}
use lib.Dec.{eqb, ltb}
use native.Mathlib.Numerals.{add-one}
use lib.ListN.{length, take}
use borrow.Author.Tests.{eqb-true, ltb-true, lt-ltb, eq-eqb}
use Rattle.words.specs.Kinds.{kind, payload, ident}
use Rattle.words.specs.Words.{words}
use Rattle.words.proofs.Laws.{length-words, Words}
use Rattle.monomial.specs.Monomial.{bias, front, Canonical, lent, pow}
use Rattle.monomial.specs.Operations.{met, kind_of, powers, result_words, Divides, divides}
use Rattle.monomial.specs.declared.ordered_ops.Op.{Op}
use Rattle.monomial.specs.declared.ordered_ops.Op.TheVariants.{Gcd, Product, Quotient, Ratio}
use Rattle.monomial.proofs.Canon.{IsVar, Canon, both_true, front-none, front-cases, front-end, front-var, var-is, front-of-canon, canon-of, canonical-of, raise}
use Rattle.monomial.proofs.Powers.{InRange, pow-ids, powers-in-range, absent-above, pow-monomial, canonical-monomial, monomial-length, monomial-small, canonical-unique}
use Rattle.monomial.proofs.Divisions.{divides-by, at_most, divides-iff}
use Rattle.monomial.proofs.Sums.{met-zero, met-small, kind-small}

-- ---- canonical words
-- what is found at the front is canonical
record Front (k b n : ℕ) (ws : List ℕ) : Type 0 where
  i : ℕ
  is : front k b n ws ≡ n + i
  canon : Canon k b n (take i ws)

front_at : (k b n : ℕ) (ws : List ℕ) → (front k b n ws ≡ 0 → ⊥) → Front k b n ws
unfolding Canon
front_at k b n [] h = absurd (h (front-none k b n))
front_at k b n (w ∷ ws) h = go (front_at k (ident w) (suc n) ws) (front-cases k b n w ws h)
  where
    go : ((front k (ident w) (suc n) ws ≡ 0 → ⊥) → Front k (ident w) (suc n) ws)
        → ((kind w ≡ 0) × (payload w ≡ n)) ⊎ ((kind w ≡ 0 → ⊥) × IsVar k b w) → Front k b n (w ∷ ws)
    go rec (inl (z, e)) = record { i = 1; is = front-end k b n w ws z e; canon = inl (record { kinded = z; count = e; last = refl }) }
    go rec (inr (z, v)) =
        let e : front k b n (w ∷ ws) ≡ front k (ident w) (suc n) ws = front-var k b n w ws z (var-is k b w v) ∙ rw (add-one n) in
        let r = rec (λ q. h (e ∙ q)) in
        record { i = suc r.i; is = e ∙ r.is ∙ omega arith; canon = inr (v, r.canon) }

pub front-canonical : (k m : ℕ) (ws : List ℕ) → 0 < k → (front k m 0 ws ≡ 0 → ⊥) → Canonical k m (take (front k m 0 ws) ws)
front-canonical k m ws pos h =
    let f = front_at k m 0 ws h in
    let e : front k m 0 ws ≡ f.i = f.is ∙ omega arith in
    rw e (canonical-of pos f.canon)

-- a canonical list at the front is what is found there, whatever follows
pub canonical-front : (k m : ℕ) (ws rest : List ℕ) → 0 < k → Canonical k m ws → front k m 0 (ws ++ rest) ≡ length ws
canonical-front k m ws rest pos c = front-of-canon k m 0 ws rest pos (canon-of c) ∙ omega arith

-- ---- the operations, by powers
gcd-no-product : Gcd ≡ Product → ⊥
gcd-no-product e = let z : ◌≡◌ {A = ℕ} 0 1 = cc in omega arith

module _ (m : ℕ) (a b : List ℕ) (ca : Canonical 1 m a) (cb : Canonical 1 m b) where
  high : (ws : List ℕ) → Canonical 1 m ws → (v : ℕ) → pow 1 ws v ≤ 32767
  high ws c v = (powers-in-range 1 m ws v (omega arith) (omega arith) c).high

  pub pow-result : (o : Op) (v : ℕ) → pow (kind_of o) (result_words o a b) v ≡ met o (pow 1 a v) (pow 1 b v)
  unfolding result_words powers
  pow-result o v =
      elim (dec_le 4096 v) [
        | yes h ↦ pow-ids (kind_of o) _ v h ∙ rw (pow-ids 1 a v h, pow-ids 1 b v h) (sym (met-zero o))
        | no h ↦ pow-monomial (kind_of o) (λ u. met o (pow 1 a u) (pow 1 b u)) (kind-small o).0 (λ u. met-small o _ _ (high a ca u) (high b cb u)) v (omega arith)
      ]

  -- every result but a product with a power too large is canonical
  pub in-range-met : (o : Op) (x y : ℕ) → x ≤ 32767 → y ≤ 32767 → (o ≡ Product → x + y ≤ 32767) → InRange (kind_of o) (met o x y)
  in-range-met Gcd x y h l f = record { low = omega arith; high = omega arith }
  in-range-met Product x y h l f = record { low = omega arith; high = f refl }
  in-range-met Quotient x y h l f = record { low = omega arith; high = omega arith }
  in-range-met Ratio x y h l f = record { low = omega arith; high = omega arith }

  absent : (o : Op) (v : ℕ) → m ≤ v → met o (pow 1 a v) (pow 1 b v) ≡ bias (kind_of o)
  absent o v h = rw (absent-above 1 m a v (omega arith) ca h, absent-above 1 m b v (omega arith) cb h) (met-zero o)

  pub canonical-result : (o : Op) → m ≤ 4096 → (o ≡ Product → (v : ℕ) → pow 1 a v + pow 1 b v ≤ 32767) → Canonical (kind_of o) m (result_words o a b)
  unfolding result_words powers
  canonical-result o l f =
      canonical-monomial (kind_of o) m (λ v. met o (pow 1 a v) (pow 1 b v)) (kind-small o).0 (kind-small o).1 l
      (λ v. in-range-met o _ _ (high a ca v) (high b cb v) (λ e. f e v)) (absent o)

  -- the result has at most a word a variable, and its end word
  pub length-result : (o : Op) → m ≤ 4096 → length (result_words o a b) ≤ m + 1
  unfolding result_words powers
  length-result o l = monomial-length (kind_of o) m (λ v. met o (pow 1 a v) (pow 1 b v)) l (absent o)

  pub result-small : (o : Op) → Words (result_words o a b)
  unfolding result_words powers
  result-small o =
      monomial-small (kind_of o) (λ v. met o (pow 1 a v) (pow 1 b v)) (kind-small o).1 (λ v. met-small o _ _ (high a ca v) (high b cb v))

  -- a product is canonical exactly where no power is too large
  pub product-canonical : m ≤ 4096 → Canonical 1 m (result_words Product a b) ↔ ((v : ℕ) → pow 1 a v + pow 1 b v ≤ 32767)
  product-canonical l = (to, from)
    where
      to : Canonical 1 m (result_words Product a b) → (v : ℕ) → pow 1 a v + pow 1 b v ≤ 32767
      to c v = omega (arith, high (result_words Product a b) c v, pow-result Product v)

      from : ((v : ℕ) → pow 1 a v + pow 1 b v ≤ 32767) → Canonical 1 m (result_words Product a b)
      from f = canonical-result Product l (λ e. f)

  -- the greatest common divisor divides both, and every common divisor divides it
  pub gcd-left : Divides (result_words Gcd a b) a
  gcd-left = divides-by _ _ (λ v. omega (arith, pow-result Gcd v))

  pub gcd-right : Divides (result_words Gcd a b) b
  gcd-right = divides-by _ _ (λ v. omega (arith, pow-result Gcd v))

  pub gcd-greatest : (c : List ℕ) → Divides c a → Divides c b → Divides c (result_words Gcd a b)
  gcd-greatest c da db = divides-by _ _ (λ v. omega (arith, pow-result Gcd v, at_most c a da v, at_most c b db v))

  -- the gcd of a monomial and a multiple of it is the monomial
  pub gcd-divided : m ≤ 4096 → divides a b ≡ true → result_words Gcd a b ≡ a
  gcd-divided l d =
      canonical-unique 1 m (result_words Gcd a b) a (omega arith) (canonical-result Gcd l (λ e. absurd (gcd-no-product e))) ca
      (λ v. omega (arith, pow-result Gcd v, at_most a b ((divides-iff a b).0 d) v))

quotient-no-product : Quotient ≡ Product → ⊥
quotient-no-product e = let z : ◌≡◌ {A = ℕ} 0 1 = cc in omega arith

-- the quotient a / b exists exactly where b divides a: it is the one monomial that b times gives a
module _ (m : ℕ) (few : m ≤ 4096) (a b : List ℕ) (ca : Canonical 1 m a) (cb : Canonical 1 m b) where
  pub canonical-quotient : Canonical 1 m (result_words Quotient a b)
  canonical-quotient = canonical-result m a b ca cb Quotient few (λ e. absurd (quotient-no-product e))

  pub quotient-times : Divides b a → result_words Product b (result_words Quotient a b) ≡ a
  quotient-times d =
      let q = canonical-quotient in
      let e : (v : ℕ) → pow 1 b v + pow 1 (result_words Quotient a b) v ≡ pow 1 a v =
      λ v. omega (arith, pow-result m a b ca cb Quotient v, at_most b a d v) in
      canonical-unique 1 m _ a (omega arith)
      ((product-canonical m b _ cb q few).1 (λ v. omega (arith, e v, (powers-in-range 1 m a v (omega arith) (omega arith) ca).high)))
      ca (λ v. pow-result m b _ cb q Product v ∙ e v)

  pub quotient-only : (c : List ℕ) → Canonical 1 m c → result_words Product b c ≡ a → Divides b a × (c ≡ result_words Quotient a b)
  quotient-only c cc e =
      let p : (v : ℕ) → pow 1 a v ≡ pow 1 b v + pow 1 c v = λ v. sym (ap (λ (l : List ℕ). pow 1 l v) e) ∙ pow-result m b c cb cc Product v in (
        divides-by b a (λ v. omega (arith, p v)),
        canonical-unique 1 m c _ (omega arith) cc canonical-quotient (λ v. sym (pow-result m a b ca cb Quotient v ∙ minus v (p v))),
      )
    where
      minus : (v : ℕ) → pow 1 a v ≡ pow 1 b v + pow 1 c v → pow 1 a v - pow 1 b v ≡ pow 1 c v
      minus v p = omega arith

-- ---- lent bytes
pub lent-canonical : (k m : ℕ) (s : List ℕ) → (lent k m s ≡ true) ↔ ((length s % 4 ≡ 0) × Canonical k m (words s))
unfolding lent
lent-canonical k m s = (to, from)
  where
    to : (ltb 0 (length s) && eqb (4 * front k m 0 (words s)) (length s)) ≡ true → (length s % 4 ≡ 0) × Canonical k m (words s)
    to e =
        let t = both_true _ _ e in
        let h = ltb-true 0 (length s) t.0 in
        let q = eqb-true (4 * front k m 0 (words s)) (length s) t.1 in
        let l = length-words s in
        (omega arith, record { some = omega arith; whole = omega arith })

    from : (length s % 4 ≡ 0) × Canonical k m (words s) → (ltb 0 (length s) && eqb (4 * front k m 0 (words s)) (length s)) ≡ true
    from (z, c) =
        let l = length-words s in
        simp (lt-ltb 0 (length s) (omega (arith, c.some)), eq-eqb (4 * front k m 0 (words s)) (length s) (omega (arith, c.whole)))

-- canonical in some variables is canonical in more; an id has 12 bits
pub canonical-more : {k m n : ℕ} {ws : List ℕ} → 0 < k → m ≤ n → Canonical k m ws → Canonical k n ws
canonical-more {k} {m} {n} {ws} pos h c = canonical-of pos (raise k m 0 ws n h (canon-of c))
