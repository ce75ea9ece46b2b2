-- Canonical words, piece by piece: the form of `Canonical` that inductions go by. Assumes nothing.
use mathlib.Core.Path.{◌≡◌, refl, sym, ap, ◌∙◌}
use mathlib.Core.Bool.{Bool, true, false, ◌&&◌}
use mathlib.Core.List.{List, [], ◌∷◌, ◌++◌, append-nil}
use mathlib.Core.Logic.{◌⊎◌, inl, inr}
use Prim.Native.Nat.{ℕ, zero, suc, ◌+◌, ◌≤◌, ◌<◌}
use native.Mathlib.Omega.{arith}
use native.Mathlib.Numerals.{add-one}
use native.Mathlib.Decide.{ℕ_discrete}
use lib.ListN.{length, drop, length-drop}
use borrow.Author.Tests.{eq-eqb, ne_eqb, eqb-true, eqb-false, ltb-true, leb-true, lt-ltb, le-leb, not-true}
use Rattle.words.specs.Kinds.{kind, payload, ident, power}
use Rattle.std.specs.Prelude.{Some, None, IfSome}
use Rattle.std.specs.Option.{unwrap_or}
use Rattle.monomial.specs.Monomial.{number, bias, is_var, front, Canonical, some_words}
use Rattle.monomial.specs.declared.Kind.{Kind}
use Rattle.monomial.specs.declared.Kind.TheVariants.{Monomial, Ratio}

pub false-not-true : false ≡ true → ⊥
false-not-true e = let z : ◌≡◌ {A = ℕ} 0 1 = cc in omega arith

-- a variable's word with an id below b
pub record IsVar (k b w : ℕ) : Type 0 where
  pub kinded : kind w ≡ k
  pub below : ident w < b
  pub low : 0 < power w
  pub high : power w ≤ 32767 + bias k
  pub some : power w ≡ bias k → ⊥

-- the end word after n variables, with nothing behind it
pub record IsEnd (n w : ℕ) (ws : List ℕ) : Type 0 where
  pub kinded : kind w ≡ 0
  pub count : payload w ≡ n
  pub last : ws ≡ []

-- what is left of a monomial: n variables stand before, and the ids left are below b and fall
unfoldable pub Canon : ℕ → ℕ → ℕ → List ℕ → Type 0
Canon k b n [] = ⊥
Canon k b n (w ∷ ws) = IsEnd n w ws ⊎ (IsVar k b w × Canon k (ident w) (suc n) ws)

pub both_true : (a b : Bool) → (a && b) ≡ true → (a ≡ true) × (b ≡ true)
both_true true b e = (refl, e)
both_true false b e = absurd (false-not-true e)

pub is-var : (k b w : ℕ) → is_var k b w ≡ true → IsVar k b w
unfolding is_var
is-var k b w e =
    let e0 = both_true _ _ e in
    let e1 = both_true _ _ e0.1 in
    let e2 = both_true _ _ e1.1 in
    let e3 = both_true _ _ e2.1 in
    record {
      kinded = eqb-true _ _ e0.0;
      below = ltb-true _ _ e1.0;
      low = ltb-true _ _ e2.0;
      high = leb-true _ _ e3.0;
      some = eqb-false _ _ (not-true _ e3.1);
    }

pub var-is : (k b w : ℕ) → IsVar k b w → is_var k b w ≡ true
unfolding is_var
var-is k b w v =
    simp (eq-eqb _ _ v.kinded, lt-ltb _ _ v.below, lt-ltb _ _ v.low, le-leb _ _ v.high, ne_eqb _ _ v.some)

-- the front of a list, by its first word
pub front-none : (k b n : ℕ) → front k b n [] ≡ 0
unfolding front
front-none k b n = refl

pub front-end : (k b n w : ℕ) (ws : List ℕ) → kind w ≡ 0 → payload w ≡ n → front k b n (w ∷ ws) ≡ n + 1
unfolding front
front-end k b n w ws h e = simp (eq-eqb _ _ h, eq-eqb _ _ e)

pub front-bad-end : (k b n w : ℕ) (ws : List ℕ) → kind w ≡ 0 → (payload w ≡ n → ⊥) → front k b n (w ∷ ws) ≡ 0
unfolding front
front-bad-end k b n w ws h e = simp (eq-eqb _ _ h, ne_eqb _ _ e)

pub front-var : (k b n w : ℕ) (ws : List ℕ) → (kind w ≡ 0 → ⊥) → is_var k b w ≡ true → front k b n (w ∷ ws) ≡ front k (ident w) (n + 1) ws
unfolding front
front-var k b n w ws h e = simp (ne_eqb _ _ h, e)

pub front-bad-var : (k b n w : ℕ) (ws : List ℕ) → (kind w ≡ 0 → ⊥) → is_var k b w ≡ false → front k b n (w ∷ ws) ≡ 0
unfolding front
front-bad-var k b n w ws h e = simp (ne_eqb _ _ h, e)

-- what a front that is not 0 says of its first word
pub front-cases : (k b n w : ℕ) (ws : List ℕ) → (front k b n (w ∷ ws) ≡ 0 → ⊥)
    → ((kind w ≡ 0) × (payload w ≡ n)) ⊎ ((kind w ≡ 0 → ⊥) × IsVar k b w)
front-cases k b n w ws h =
    elim (ℕ_discrete (kind w) 0) [
      | yes z ↦ elim (ℕ_discrete (payload w) n) [
        | yes e ↦ inl (z, e)
        | no e ↦ absurd (h (front-bad-end k b n w ws z e))
      ]
      | no z ↦ go z (is_var k b w) refl
    ]
  where
    go : (kind w ≡ 0 → ⊥) → (t : Bool) → is_var k b w ≡ t → ((kind w ≡ 0) × (payload w ≡ n)) ⊎ ((kind w ≡ 0 → ⊥) × IsVar k b w)
    go z true e = inr (z, is-var k b w e)
    go z false e = absurd (h (front-bad-var k b n w ws z e))

pub nil-of : (l : List ℕ) → length l ≡ 0 → l ≡ []
nil-of [] h = refl
nil-of (x ∷ l) h = absurd (omega arith)

pub front-nil : (k b n : ℕ) (ws : List ℕ) → (front k b n ws ≡ 0 → ⊥) → 0 < length ws
unfolding front
front-nil k b n [] h = absurd (h refl)
front-nil k b n (w ∷ ws) h = omega arith

-- a front is within its list
pub front-short : (k b n : ℕ) (ws : List ℕ) → front k b n ws ≤ n + length ws
front-short k b n [] = rw (front-none k b n) (omega arith)
front-short k b n (w ∷ ws) =
    elim (ℕ_discrete (front k b n (w ∷ ws)) 0) [
      | yes z ↦ omega arith
      | no z ↦ go (front-short k (ident w) (n + 1) ws) (front-cases k b n w ws z)
    ]
  where
    go : front k (ident w) (n + 1) ws ≤ n + 1 + length ws → ((kind w ≡ 0) × (payload w ≡ n)) ⊎ ((kind w ≡ 0 → ⊥) × IsVar k b w) → front k b n (w ∷ ws) ≤ n + length (w ∷ ws)
    go h (inl (z, e)) = omega (arith, front-end k b n w ws z e)
    go h (inr (z, v)) = omega (arith, front-var k b n w ws z (var-is k b w v))

-- the words found at a place are within the list
pub front-within : (k b at n : ℕ) (ws : List ℕ) → n ≡ front k b 0 (drop at ws) → (n ≡ 0 → ⊥) → at + n ≤ length ws
front-within k b at n ws e h = omega (arith, front-short k b 0 (drop at ws), length-drop at ws)

-- a front that is the whole list is canonical
pub canon-of-front : (k b n : ℕ) (ws : List ℕ) → 0 < length ws → front k b n ws ≡ n + length ws → Canon k b n ws
unfolding Canon
canon-of-front k b n [] h e = absurd (omega arith)
canon-of-front k b n (w ∷ ws) h e = go (canon-of-front k (ident w) (suc n) ws) (front-cases k b n w ws (λ z. omega arith))
  where
    go : (0 < length ws → front k (ident w) (suc n) ws ≡ suc n + length ws → Canon k (ident w) (suc n) ws)
        → ((kind w ≡ 0) × (payload w ≡ n)) ⊎ ((kind w ≡ 0 → ⊥) × IsVar k b w)
        → IsEnd n w ws ⊎ (IsVar k b w × Canon k (ident w) (suc n) ws)
    go rec (inl (z, p)) =
        inl (record { kinded = z; count = p; last = nil-of ws (omega (arith, front-end k b n w ws z p)) })
    go rec (inr (z, v)) =
        let f : front k (ident w) (n + 1) ws ≡ n + length (w ∷ ws) = sym (front-var k b n w ws z (var-is k b w v)) ∙ e in
        let g : front k (ident w) (suc n) ws ≡ suc n + length ws = rw (← add-one n) (f ∙ omega arith) in
        inr (v, rec (front-nil k (ident w) (suc n) ws (λ y. omega arith)) g)

pub front-of-canon : (k b n : ℕ) (ws rest : List ℕ) → 0 < k → Canon k b n ws → front k b n (ws ++ rest) ≡ n + length ws
unfolding Canon
front-of-canon k b n [] rest h c = absurd c
front-of-canon k b n (w ∷ ws) rest h (inl e) =
    front-end k b n w (ws ++ rest) e.kinded e.count ∙ omega (arith, ap length e.last)
front-of-canon k b n (w ∷ ws) rest h (inr (v, c)) =
    let ih : front k (ident w) (n + 1) (ws ++ rest) ≡ suc n + length ws = rw (add-one n) (front-of-canon k (ident w) (suc n) ws rest h c) in
    front-var k b n w (ws ++ rest) (λ z. omega (arith, v.kinded)) (var-is k b w v) ∙ ih ∙ omega arith

pub canon-some : (k b n : ℕ) (ws : List ℕ) → Canon k b n ws → 0 < length ws
unfolding Canon
canon-some k b n [] c = absurd c
canon-some k b n (w ∷ ws) c = omega arith

-- `Canonical` and its pieces
pub canon-of : {k m : ℕ} {ws : List ℕ} → Canonical k m ws → Canon k m 0 ws
canon-of {k} {m} {ws} c = canon-of-front k m 0 ws c.some (c.whole ∙ omega arith)

pub canonical-of : {k m : ℕ} {ws : List ℕ} → 0 < k → Canon k m 0 ws → Canonical k m ws
canonical-of {k} {m} {ws} h c = record {
  some = canon-some k m 0 ws c;
  whole = rw append-nil at (front-of-canon k m 0 ws [] h c) ∙ omega arith;
}

-- a bound on ids may be any above the first
pub weaken : (k b n w : ℕ) (ws : List ℕ) (c : ℕ) → (kind w ≡ k → ident w < c) → Canon k b n (w ∷ ws) → Canon k c n (w ∷ ws)
unfolding Canon
weaken k b n w ws c h (inl e) = inl e
weaken k b n w ws c h (inr (v, r)) =
    inr (record { kinded = v.kinded; below = h v.kinded; low = v.low; high = v.high; some = v.some }, r)

pub raise : (k b n : ℕ) (ws : List ℕ) (c : ℕ) → b ≤ c → Canon k b n ws → Canon k c n ws
unfolding Canon
raise k b n [] c h e = absurd e
raise k b n (w ∷ ws) c h (inl e) = inl e
raise k b n (w ∷ ws) c h (inr (v, r)) =
    inr (record { kinded = v.kinded; below = omega (arith, v.below); low = v.low; high = v.high; some = v.some }, r)

-- an id has 12 bits, so a bound above them says nothing
pub lower : (k b n : ℕ) (ws : List ℕ) → Canon k b n ws → Canon k 4096 n ws
lower k b n [] c = absurd (omega (arith, canon-some k b n [] c))
lower k b n (w ∷ ws) c = weaken k b n w ws 4096 (λ e. omega arith) c

-- ---- a number of words told as an option, where 0 stands for none
pub told-some : (m n : ℕ) → m ≡ n + 1 → Some (n + 1) ≡ some_words m
told-some m n e = rw (e, add-one)

pub told-none : (m : ℕ) → m ≡ 0 → None ≡ some_words m
told-none m e = rw e

pub some-told : (m n : ℕ) → Some n ≡ some_words m → n ≡ m
some-told zero n e = cc
some-told (suc m) n e = cc

pub or-none : (m : ℕ) → unwrap_or (some_words m) 0 ≡ m
or-none zero = refl
or-none (suc m) = refl

pub if-some : (m : ℕ) (P : ℕ → Type 0) → ((m ≡ 0 → ⊥) → P m) → IfSome (some_words m) P
if-some zero P h = tt
if-some (suc m) P h = h (λ e. omega arith)

-- ---- the two kinds
pub number-some : (q : Kind) → 0 < number q
number-some Monomial = omega arith
number-some Ratio = omega arith

pub number-few : (q : Kind) → number q ≤ 2
number-few Monomial = omega arith
number-few Ratio = omega arith
