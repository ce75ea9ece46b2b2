-- What a walk over a canonical list knows at a place of it. Every walk over one or two products goes by these. Assumes nothing.
use mathlib.Core.Path.{◌≡◌, refl, sym, ap, ◌∙◌}
use mathlib.Core.List.{List, ◌∷◌}
use mathlib.Core.Logic.{◌⊎◌, inl, inr}
use Prim.Native.Nat.{ℕ, suc, max, ◌+◌, ◌-◌, ◌*◌, ◌≤◌, ◌<◌}
use native.Mathlib.Omega.{arith}
use native.Mathlib.Decide.{ℕ_discrete, dec_le}
use lib.ListN.{length, get_or, drop, length-drop}
use Rattle.words.proofs.Laws.{word-and-rest}
use borrow.Author.Tests.{eq-eqb, ne_eqb}
use Rattle.words.specs.Kinds.{kind, ident, power, upper_half}
use Rattle.monomial.specs.Monomial.{bias, Canonical, pow}
use Rattle.monomial.specs.Walk.{power_at, past}
use Rattle.monomial.proofs.Canon.{IsVar, IsEnd, Canon, canon-of, canon-some, weaken, lower}
use Rattle.monomial.proofs.Powers.{pow-here, pow-past, pow-end, pow-above}

-- at word i of A: what is left is canonical, its ids are below b, and below b it has the powers of A
pub record Rest (k : ℕ) (A : List ℕ) (i b : ℕ) : Type 0 where
  pub n : ℕ
  pub few : n + b ≤ 4096
  pub canon : Canon k b n (drop i A)
  pub same : (v : ℕ) → v < b → pow k A v ≡ pow k (drop i A) v

pub start : {k m : ℕ} {A : List ℕ} → Canonical k m A → Rest k A 0 4096
start {k} {m} {A} c = record { n = 0; few = omega arith; canon = lower k m 0 A (canon-of c); same = λ v h. refl }

pub within : {k i b : ℕ} {A : List ℕ} → Rest k A i b → i < length A
within {k} {i} {b} {A} r = omega (arith, canon-some k b r.n (drop i A) r.canon, length-drop i A)

-- place i took part in a step to variable u, or not
pub past-yes : (i x t : ℕ) → upper_half x ≡ t → past i x t ≡ i + 1
unfolding past
past-yes i x t e = rw (eq-eqb (upper_half x) t e)

pub past-no : (i x t : ℕ) → (upper_half x ≡ t → ⊥) → past i x t ≡ i
unfolding past
past-no i x t e = rw (ne_eqb (upper_half x) t e)

pub at-yes : (x t z : ℕ) → upper_half x ≡ t → power_at x t z ≡ power x
unfolding power_at
at-yes x t z e = rw (eq-eqb (upper_half x) t e)

pub at-no : (x t z : ℕ) → (upper_half x ≡ t → ⊥) → power_at x t z ≡ z
unfolding power_at
at-no x t z e = rw (ne_eqb (upper_half x) t e)

-- what the word x at i is: an end word, and below b every power is 0; or a variable's
pub record Last (k : ℕ) (A : List ℕ) (b x : ℕ) : Type 0 where
  pub upper : upper_half x ≡ 0
  pub none : (v : ℕ) → v < b → pow k A v ≡ bias k

pub record Next (k : ℕ) (A : List ℕ) (i b x : ℕ) : Type 0 where
  pub var : IsVar k b x
  pub upper : upper_half x ≡ 4096 * k + ident x
  pub here : pow k A (ident x) ≡ power x
  pub gap : (v : ℕ) → ident x < v → v < b → pow k A v ≡ bias k
  pub rest : Rest k A (i + 1) (ident x)

module _ {k : ℕ} (pos : 0 < k) {A : List ℕ} {i b : ℕ} (x : ℕ) (r : Rest k A i b) (e : x ≡ get_or A i 0) where
  tail : drop i A ≡ x ∷ drop (i + 1) A
  tail = word-and-rest A i x (within r) e

  canon : Canon k b r.n (x ∷ drop (i + 1) A)
  canon = rw tail at r.canon

  same : (v : ℕ) → v < b → pow k A v ≡ pow k (x ∷ drop (i + 1) A) v
  same v h = rw tail at (r.same v h)

  pub word_at : Last k A b x ⊎ Next k A i b x
  unfolding Canon
  word_at = go canon
    where
      go : IsEnd r.n x (drop (i + 1) A) ⊎ (IsVar k b x × Canon k (ident x) (suc r.n) (drop (i + 1) A)) → Last k A b x ⊎ Next k A i b x
      go (inl z) = inl (record {
        upper = omega (arith, z.kinded, z.count, r.few);
        none = λ v h. same v h ∙ pow-end k pos r.n x (drop (i + 1) A) v z;
      })
      go (inr (y, c)) = inr (record {
        var = y;
        upper = omega (arith, y.kinded);
        here = same (ident x) y.below ∙ pow-here k x (drop (i + 1) A) (ident x) y.kinded refl;
        gap = λ v l h. same v h ∙ pow-past k x (drop (i + 1) A) v (λ q. omega arith) ∙ pow-above k pos (ident x) (suc r.n) (drop (i + 1) A) v c (omega arith);
        rest = record {
          n = suc r.n;
          few = omega (arith, r.few, y.below);
          canon = c;
          same = λ v h. same v (omega (arith, y.below)) ∙ pow-past k x (drop (i + 1) A) v (λ q. omega arith);
        };
      })

  -- the same place under a lower bound that is above its id
  pub narrow : (c : ℕ) → c ≤ b → (kind x ≡ k → ident x < c) → Rest k A i c
  narrow c h l = record {
    n = r.n;
    few = omega (arith, r.few);
    canon = rw tail (weaken k b r.n x (drop (i + 1) A) c l canon);
    same = λ v j. r.same v (omega arith);
  }

-- a step of a walk to variable u, whose words have the upper half t
pub record Turn (k : ℕ) (A : List ℕ) (i b x u t : ℕ) : Type 0 where
  pub power-is : pow k A u ≡ power_at x t (bias k)
  pub gap : (v : ℕ) → u < v → v < b → pow k A v ≡ bias k
  pub rest : Rest k A (past i x t) u

pub turn : {k : ℕ} → 0 < k → {A : List ℕ} {i b : ℕ} (x u t : ℕ) → Rest k A i b → x ≡ get_or A i 0 → u < b → t ≡ 4096 * k + u → upper_half x ≤ t → Turn k A i b x u t
turn {k} pos {A} {i} {b} x u t r e h is l = go (word_at pos x r e)
  where
    go : Last k A b x ⊎ Next k A i b x → Turn k A i b x u t
    go (inl z) =
        let no : upper_half x ≡ t → ⊥ = λ q. omega (arith, z.upper) in
        record {
          power-is = z.none u h ∙ sym (at-no x t (bias k) no);
          gap = λ v i j. z.none v j;
          rest = rw (past-no i x t no) (narrow pos x r e u (omega arith) (λ q. omega (arith, z.upper)));
        }
    go (inr z) =
        elim (ℕ_discrete (ident x) u) [
          | yes q ↦
              let y : upper_half x ≡ t = omega (arith, z.upper) in
              record {
                power-is = ap (pow k A) (sym q) ∙ z.here ∙ sym (at-yes x t (bias k) y);
                gap = λ v i j. z.gap v (omega arith) j;
                rest = rw (past-yes i x t y) (rw q at z.rest);
              }
          | no q ↦
              let lt : ident x < u = omega (arith, z.upper) in
              let no : upper_half x ≡ t → ⊥ = λ y. omega (arith, z.upper) in
              record {
                power-is = z.gap u lt h ∙ sym (at-no x t (bias k) no);
                gap = λ v i j. z.gap v (omega arith) j;
                rest = rw (past-no i x t no) (narrow pos x r e u (omega arith) (λ y. lt));
              }
        ]

-- the upper half t of two words: both end words, or the variable u that is next
pub record Top (k b t : ℕ) : Type 0 where
  pub u : ℕ
  pub is : t ≡ 4096 * k + u
  pub below : u < b

module _ {k : ℕ} (pos : 0 < k) {A B : List ℕ} {i j b : ℕ} (x y t : ℕ) (ra : Rest k A i b) (rb : Rest k B j b) (ex : x ≡ get_or A i 0) (ey : y ≡ get_or B j 0) (et : t ≡ max (upper_half x) (upper_half y)) where
  pub top : (t ≡ 0 → ⊥) → Top k b t
  top h = go (word_at pos x ra ex) (word_at pos y rb ey)
    where
      go : Last k A b x ⊎ Next k A i b x → Last k B b y ⊎ Next k B j b y → Top k b t
      go (inl p) (inl q) = absurd (h (omega (arith, p.upper, q.upper)))
      go (inl p) (inr q) = record { u = ident y; is = omega (arith, p.upper, q.upper); below = q.var.below }
      go (inr p) (inl q) = record { u = ident x; is = omega (arith, p.upper, q.upper); below = p.var.below }
      go (inr p) (inr q) =
          elim (dec_le (ident x) (ident y)) [
            | yes l ↦ record { u = ident y; is = omega (arith, p.upper, q.upper); below = q.var.below }
            | no l ↦ record { u = ident x; is = omega (arith, p.upper, q.upper); below = p.var.below }
          ]

  -- at two end words nothing is left
  pub done-a : t ≡ 0 → (v : ℕ) → v < b → pow k A v ≡ bias k
  done-a h = go (word_at pos x ra ex)
    where
      go : Last k A b x ⊎ Next k A i b x → (v : ℕ) → v < b → pow k A v ≡ bias k
      go (inl p) = p.none
      go (inr p) = absurd (omega (arith, p.upper))

  pub done-b : t ≡ 0 → (v : ℕ) → v < b → pow k B v ≡ bias k
  done-b h = go (word_at pos y rb ey)
    where
      go : Last k B b y ⊎ Next k B j b y → (v : ℕ) → v < b → pow k B v ≡ bias k
      go (inl p) = p.none
      go (inr p) = absurd (omega (arith, p.upper))

-- one of the two places moves, and neither goes back
pub falls : (x y t i j a b : ℕ) → t ≡ max (upper_half x) (upper_half y) → i < a → j < b → (a - past i x t) + (b - past j y t) < (a - i) + (b - j)
falls x y t i j a b e h l =
    elim (ℕ_discrete (upper_half x) t) [
      | yes p ↦ elim (ℕ_discrete (upper_half y) t) [
        | yes q ↦ rw (past-yes i x t p, past-yes j y t q) (omega arith)
        | no q ↦ rw (past-yes i x t p, past-no j y t q) (omega arith)
      ]
      | no p ↦ rw (past-no i x t p, past-yes j y t (omega arith)) (omega arith)
    ]
