-- Which sides of a branch a search leaves out, and why. Assumes nothing.
use mathlib.Core.Path.{◌≡◌, refl, sym}
use mathlib.Core.Bool.{Bool, true, false, cond, ◌&&◌}
use mathlib.Core.List.{List}
use mathlib.Core.Logic.{◌⊎◌, inl, inr, ◌↔◌}
use Prim.Native.Nat.{ℕ, zero, suc, ◌<◌}
use native.Mathlib.Omega.{arith}
use lib.Dec.{ltb}
use borrow.Author.Tests.{ltb-true, ltb-false, lt-ltb}
use Rattle.monomial.specs.Monomial.{Canonical, pow}
use Rattle.monomial.proofs.Canon.{both_true}
use Rattle.kd_theory.specs.Tree.{Path, neither, less, other, both, goes_less, goes_other}
use Rattle.kd_theory.specs.Prune.{by_power, prune_monomial, prune_ratio}
use Rattle.index_theory.specs.Entries.{entry_at, quotient_of, above}
use Rattle.index_theory.specs.State.{State}
use Rattle.index_theory.specs.Searches.{Query, containment, reducing, high, low, singular, node_mask, may, dense, ratio_at, path}
use Rattle.index_theory.specs.Claims.{NotAboveHighest, MaskOut, PowerOut, LessOut, OtherOut, PathIs, PathExact}
use Rattle.index_theory.proofs.Orders.{false-true}
use Rattle.index_theory.proofs.After.{dense-exact}

-- what is said of a path, side by side
record Out (p : Path) (L O : Type 0) : Type 0 where
  less : (goes_less p ≡ false) ↔ L
  other : (goes_other p ≡ false) ↔ O

turned : {X : Type 0} → true ≡ false → X
turned e = false-true (sym e)

-- the mask first
masked : (m : Bool) (p : Path) (L O : Type 0) → Out p L O → Out (cond m p neither) ((m ≡ false) ⊎ L) ((m ≡ false) ⊎ O)
unfolding goes_less goes_other
masked true p L O h = record { less = (λ e. inr (h.less.0 e), at_less); other = (λ e. inr (h.other.0 e), at_other) }
  where
    at_less : (true ≡ false) ⊎ L → goes_less p ≡ false
    at_less (inl e) = turned e
    at_less (inr x) = h.less.1 x

    at_other : (true ≡ false) ⊎ O → goes_other p ≡ false
    at_other (inl e) = turned e
    at_other (inr x) = h.other.1 x
masked false p L O h = record { less = (λ e. inl refl, λ e. refl); other = (λ e. inl refl, λ e. refl) }

both_out : Out both ⊥ ⊥
unfolding goes_less goes_other
both_out = record { less = (λ e. turned e, λ x. absurd x); other = (λ e. turned e, λ x. absurd x) }

-- one test that leaves out the other side, or the less side
less-if : (b : Bool) → Out (cond b less both) ⊥ (b ≡ true)
unfolding goes_less goes_other
less-if true = record { less = (λ e. turned e, λ x. absurd x); other = (λ e. refl, λ e. refl) }
less-if false = record { less = (λ e. turned e, λ x. absurd x); other = (λ e. turned e, λ e. false-true e) }

other-unless : (b : Bool) → Out (cond b both other) (b ≡ false) ⊥
unfolding goes_less goes_other
other-unless true = record { less = (λ e. e, λ e. e); other = (λ e. turned e, λ x. absurd x) }
other-unless false = record { less = (λ e. refl, λ e. refl); other = (λ e. turned e, λ x. absurd x) }

-- the same for other reasons
for : (p : Path) (L O L' O' : Type 0) → Out p L O → (L ↔ L') → (O ↔ O') → Out p L' O'
for p L O L' O' h f g = record { less = (λ e. f.0 (h.less.0 e), λ x. h.less.1 (f.1 x)); other = (λ e. g.0 (h.other.0 e), λ x. h.other.1 (g.1 x)) }

same : (X : Type 0) → X ↔ X
same X = (λ x. x, λ x. x)

-- no reason but the mask
mask-alone : (m : Bool) → ((m ≡ false) ⊎ ⊥) ↔ (m ≡ false)
mask-alone m = (at, λ e. inl e)
  where
    at : (m ≡ false) ⊎ ⊥ → m ≡ false
    at (inl e) = e
    at (inr x) = absurd x

or_else : (X Y Z : Type 0) → (Y ↔ Z) → (X ⊎ Y) ↔ (X ⊎ Z)
or_else X Y Z h = (to, back)
  where
    to : X ⊎ Y → X ⊎ Z
    to (inl x) = inl x
    to (inr y) = inr (h.0 y)

    back : X ⊎ Z → X ⊎ Y
    back (inl x) = inl x
    back (inr z) = inr (h.1 z)

-- ---- a branch on a variable
power-if : (m : ℕ) (q : List ℕ) → Canonical 1 m q → (v k : ℕ) → ((dense q v && ltb (pow 1 q v) k) ≡ true) ↔ (NotAboveHighest q v × (pow 1 q v < k))
power-if m q c v k = (
  λ e. let t = both_true (dense q v) (ltb (pow 1 q v) k) e in ((dense-exact m q c v).0 t.0, ltb-true (pow 1 q v) k t.1),
  λ h. rw ((dense-exact m q c v).1 h.0, lt-ltb (pow 1 q v) k h.1) refl,
)

by-power : (st : State) (m : ℕ) (q : List ℕ) → Canonical 1 m q → (v k : ℕ) (es : List ℕ)
    → Out (cond (may st q es) (by_power (dense q) (pow 1 q) v k) neither) (MaskOut st q es) (PowerOut st q v k es)
unfolding may node_mask
by-power st m q c v k es =
    for _ _ _ _ _ (masked (may st q es) _ _ _ (less-if (dense q v && ltb (pow 1 q v) k))) (mask-alone (may st q es)) (or_else _ _ _ (power-if m q c v k))

-- ---- a branch on the ratio, by index
by_index : (a i : ℕ) (p : Path) (L : Type 0) → Out p L ⊥ → Out (cond (ltb a i) other (cond (ltb i a) less p)) ((a < i) ⊎ ((a ≡ i) × L)) (i < a)
unfolding goes_less goes_other
by_index a i p L h = go (ltb a i) refl (ltb i a) refl
  where
    go : (b : Bool) → ltb a i ≡ b → (c : Bool) → ltb i a ≡ c → Out (cond b other (cond c less p)) ((a < i) ⊎ ((a ≡ i) × L)) (i < a)
    go true w c v = record { less = (λ e. inl (ltb-true a i w), λ x. refl); other = (λ e. turned e, λ x. absurd (omega (arith, ltb-true a i w))) }
    go false w true v = record { less = (λ e. turned e, at); other = (λ e. ltb-true i a v, λ x. refl) }
      where
        at : (a < i) ⊎ ((a ≡ i) × L) → goes_less less ≡ false
        at (inl x) = absurd (omega (arith, ltb-false a i w))
        at (inr x) = absurd (omega (arith, x.0, ltb-true i a v))
    go false w false v = record {
      less = (λ e. inr (omega (arith, ltb-false a i w, ltb-false i a v), h.less.0 e), at);
      other = (λ e. absurd (h.other.0 e), λ x. absurd (omega (arith, ltb-false i a v)));
    }
      where
        at : (a < i) ⊎ ((a ≡ i) × L) → goes_less p ≡ false
        at (inl x) = absurd (omega (arith, ltb-false a i w))
        at (inr x) = h.less.1 x.1

index-alone : (a i : ℕ) → ((a < i) ⊎ ((a ≡ i) × ⊥)) ↔ (a < i)
index-alone a i = (at, λ x. inl x)
  where
    at : (a < i) ⊎ ((a ≡ i) × ⊥) → a < i
    at (inl x) = x
    at (inr x) = absurd x.1

told : (st : State) (r : Query) (d k : ℕ) (es : List ℕ) (p : Path) → Out p (LessOut st r d k es) (OtherOut st r d k es) → PathIs st r d k es p
told st r d k es p h = record { less = h.less; other = h.other }

pub path-exact : PathExact
unfolding path prune_monomial prune_ratio quotient_of may node_mask
path-exact st (containment q) c d k es = told st (containment q) d k es _ (by-power st st.variables q c d k es)
path-exact st (reducing w q) c zero k es =
    told st (reducing w q) zero k es _ (for _ _ _ _ _ (masked (may st q es) _ _ _ (less-if (above (ratio_at st.entries k) w))) (mask-alone (may st q es)) (same _))
path-exact st (reducing w q) c (suc v) k es = told st (reducing w q) (suc v) k es _ (by-power st st.variables q c.1 v k es)
path-exact st (high w q) c zero k es =
    told st (high w q) zero k es _ (for _ _ _ _ _ (masked (may st q es) _ _ _ (other-unless (above (ratio_at st.entries k) w))) (same _) (mask-alone (may st q es)))
path-exact st (high w q) c (suc v) k es = told st (high w q) (suc v) k es _ (by-power st st.variables q c.1 v k es)
path-exact st (low i s) c zero k es =
    told st (low i s) zero k es _ (for _ _ _ _ _ (by_index (entry_at st.entries k).index i both ⊥ both_out) (index-alone (entry_at st.entries k).index i) (same _))
path-exact st (low i s) c (suc v) k es = told st (low i s) (suc v) k es _ both_out
path-exact st (singular i s l) c zero k es =
    told st (singular i s l) zero k es _ (by_index (entry_at st.entries k).index i _ _ (other-unless (above (ratio_at st.entries k) (quotient_of i s l))))
path-exact st (singular i s l) c (suc v) k es = told st (singular i s l) (suc v) k es _ both_out
