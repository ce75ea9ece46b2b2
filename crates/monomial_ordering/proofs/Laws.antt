-- The order is total, and equal means the same words: the laws that the rest of the product cites. Assumes nothing.
use mathlib.Core.Path.{◌≡◌, refl, sym, ◌∙◌}
use mathlib.Core.List.{List}
use mathlib.Core.Logic.{◌↔◌}
use Prim.Native.Nat.{ℕ, zero, suc, ◌<◌}
use native.Mathlib.Omega.{arith}
use native.Mathlib.Decide.{ℕ_discrete, dec_le}
use Rattle.monomial.specs.Monomial.{Canonical, pow}
use Rattle.std.specs.declared.cmp.Ordering.{Ordering}
use Rattle.std.specs.declared.cmp.Ordering.TheVariants.{Less, Equal, Greater}
use Rattle.std.specs.Ordering.{nat_cmp, ordering_then}
use Rattle.std.specs.Cmp.{IsTotalOrder}
use Rattle.std.proofs.lemmas.Cmp.{nat_cmp_total, on_total, back_total, then_total, tied_itself}
use Rattle.monomial_ordering.specs.Order.{total, revlex, grevlex, order}
use Rattle.monomial.proofs.Powers.{pow-ids, canonical-unique}
use Rattle.monomial_ordering.proofs.Orders.{Trichotomy, less, equal, greater, trichotomy, revlex-suc}

pub revlex-total : (n : ℕ) → IsTotalOrder (revlex n)
unfolding revlex
revlex-total zero = record { antisymm = λ p q. refl; trans = λ p q r e. absurd (let z : ◌≡◌ {A = ℕ} 0 1 = cc in omega arith); congr = λ p q r e. refl }
revlex-total (suc n) = then_total (revlex-total n) (on_total (λ (p : ℕ → ℕ). p n) (back_total nat_cmp_total))

pub grevlex-total : (n : ℕ) → IsTotalOrder (grevlex n)
unfolding grevlex
grevlex-total n = then_total (on_total (total n) nat_cmp_total) (revlex-total n)

pub order-total : (k : ℕ) → IsTotalOrder (order k)
unfolding order
order-total k = on_total (pow k) (grevlex-total 4096)

both_equal : (c d : Ordering) → ordering_then c d ≡ Equal → (c ≡ Equal) × (d ≡ Equal)
both_equal Less d e = absurd (let z : ◌≡◌ {A = ℕ} 0 1 = cc in omega arith)
both_equal Equal d e = (refl, e)
both_equal Greater d e = absurd (let z : ◌≡◌ {A = ℕ} 0 1 = cc in omega arith)

pub compare_same : (x y : ℕ) → nat_cmp x y ≡ Equal → x ≡ y
compare_same x y e = go (trichotomy x y)
  where
    go : Trichotomy x y → x ≡ y
    go (less h l) = absurd (let z : ◌≡◌ {A = ℕ} 0 1 = cc in omega arith)
    go (equal h l) = h
    go (greater h l) = absurd (let z : ◌≡◌ {A = ℕ} 0 1 = cc in omega arith)

revlex-same : (n : ℕ) (p q : ℕ → ℕ) → revlex n p q ≡ Equal → (v : ℕ) → v < n → p v ≡ q v
revlex-same zero p q e v h = absurd (omega arith)
revlex-same (suc n) p q e v h =
    let b = both_equal (revlex n p q) (nat_cmp (q n) (p n)) (sym (revlex-suc n p q) ∙ e) in
    elim (ℕ_discrete v n) [
      | yes z ↦ rw z (sym (compare_same (q n) (p n) b.1))
      | no z ↦ revlex-same n p q b.0 v (omega arith)
    ]

-- two compare as equal exactly where they are the same words
pub order-equal : (k m : ℕ) (a b : List ℕ) → 0 < k → Canonical k m a → Canonical k m b → (order k a b ≡ Equal) ↔ (a ≡ b)
unfolding order grevlex
order-equal k m a b pos ca cb = (to, from)
  where
    to : order k a b ≡ Equal → a ≡ b
    to e =
        let r = (both_equal (nat_cmp (total 4096 (pow k a)) (total 4096 (pow k b))) (revlex 4096 (pow k a) (pow k b)) e).1 in
        canonical-unique k m a b pos ca cb (λ v.
        elim (dec_le 4096 v) [
          | yes h ↦ pow-ids k a v h ∙ sym (pow-ids k b v h)
          | no h ↦ revlex-same 4096 (pow k a) (pow k b) r v (omega arith)
        ])

    from : a ≡ b → order k a b ≡ Equal
    from e = rw e (tied_itself (order-total k) b)
