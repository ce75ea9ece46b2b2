-- The shape of an index: its kind as a number, and the length of its image. Assumes nothing.
use mathlib.Core.Path.{◌≡◌, refl, ap}
use Prim.Native.Nat.{ℕ, zero, suc, ◌*◌, ◌≤◌}
use native.Mathlib.Omega.{arith}
use Rattle.index_theory.specs.State.{Kind, monomials, ratioed}
use Rattle.index_image.specs.Layout.{code}
use Rattle.index_image.specs.Shape as at
use Rattle.monomial.specs.Sizes.{Sizes}
use Rattle.index_image.specs.Size.{empty_shape, IsLength}
use Rattle.index_image.proofs.Sizes.{length-ok}

pub code-small : (k : Kind) → code k ≤ 1
code-small monomials = omega arith
code-small ratioed = omega arith

-- the kind that a number stands for
pub record KindOf (n : ℕ) : Type 0 where
  pub kind : Kind
  pub is : n ≡ code kind

pub kind-of : (n : ℕ) → n ≤ 1 → KindOf n
kind-of zero h = record { kind = monomials; is = refl }
kind-of (suc zero) h = record { kind = ratioed; is = refl }
kind-of (suc (suc n)) h = absurd (omega arith)

pub ratio-code : (k : Kind) → k ≡ ratioed → code k ≡ 1
ratio-code k e = ap code e

pub code-ratio : (k : Kind) → code k ≡ 1 → k ≡ ratioed
code-ratio monomials e = absurd (omega (arith, e))
code-ratio ratioed e = refl

pub code-monomial : (k : Kind) → code k ≡ 0 → k ≡ monomials
code-monomial monomials e = refl
code-monomial ratioed e = absurd (omega (arith, e))

-- the empty index
pub empty-range : (kind m c : ℕ) → kind ≤ 1 → Sizes m c → at.InRange (empty_shape kind m c)
empty-range kind m c k a = record {
  kind-to = k;
  vars-from = a.vars-from;
  vars-to = a.vars-to;
  cap-from = a.cap-from;
  cap-to = a.cap-to;
  few = omega arith;
  nodes-from = omega arith;
  nodes-to = omega (arith, a.cap-from);
}

pub is-length : (kind m c x : ℕ) → kind ≤ 1 → Sizes m c → x ≡ at.size (empty_shape kind m c) → IsLength kind m c (4 * x)
is-length kind m c x k a e = (ap (λ (n : ℕ). 4 * n) e, length-ok kind m c k a.vars-from a.cap-from)
