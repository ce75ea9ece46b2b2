-- The end of a canonical monomial or ratio, looked for by its end word alone. Assumes nothing.
use mathlib.Core.Path.{◌≡◌, refl, sym, ◌∙◌}
use mathlib.Core.List.{List, [], ◌∷◌}
use mathlib.Core.Logic.{◌⊎◌, inl, inr}
use Prim.Native.Nat.{ℕ, ◌+◌, ◌≤◌}
use native.Mathlib.Omega.{arith}
use native.Mathlib.Decide.{ℕ_discrete}
use lib.ListN.{length, drop, length-drop}
use borrow.Author.Tests.{eq-eqb, ne_eqb}
use Rattle.words.specs.Kinds.{kind, payload, ident}
use Rattle.words.specs.Words.{words}
use Rattle.monomial.specs.Monomial.{front, found, to_end, ended}
use Rattle.monomial.proofs.Canon.{IsVar, var-is, front-none, front-end, front-var, front-cases}

-- ---- by the first word
pub end_none : (n : ℕ) → to_end n [] ≡ 0
unfolding to_end
end_none n = refl

pub end-here : (n w : ℕ) (ws : List ℕ) → kind w ≡ 0 → to_end n (w ∷ ws) ≡ n + 1
unfolding to_end
end-here n w ws h = simp (eq-eqb _ _ h)

pub end-past : (n w : ℕ) (ws : List ℕ) → (kind w ≡ 0 → ⊥) → to_end n (w ∷ ws) ≡ to_end (n + 1) ws
unfolding to_end
end-past n w ws h = simp (ne_eqb _ _ h)

-- ---- it lies within the list
end_short : (n : ℕ) (ws : List ℕ) → to_end n ws ≤ n + length ws
end_short n [] = rw (end_none n) (omega arith)
end_short n (w ∷ ws) =
    elim (ℕ_discrete (kind w) 0) [
      | yes z ↦ rw (end-here n w ws z) (omega arith)
      | no z ↦ rw (end-past n w ws z) (omega (arith, end_short (n + 1) ws))
    ]

pub end-within : (at n : ℕ) (W : List ℕ) → n ≡ to_end 0 (drop at W) → (n ≡ 0 → ⊥) → at + n ≤ length W
end-within at n W e some = omega (arith, end_short 0 (drop at W), length-drop at W)

-- ---- what is canonical ends there
pub front_ends : (k b n : ℕ) (ws : List ℕ) → (front k b n ws ≡ 0 → ⊥) → front k b n ws ≡ to_end n ws
front_ends k b n [] h = absurd (h (front-none k b n))
front_ends k b n (w ∷ ws) h = go (front_ends k (ident w) (n + 1) ws) (front-cases k b n w ws h)
  where
    go : ((front k (ident w) (n + 1) ws ≡ 0 → ⊥) → front k (ident w) (n + 1) ws ≡ to_end (n + 1) ws)
        → ((kind w ≡ 0) × (payload w ≡ n)) ⊎ ((kind w ≡ 0 → ⊥) × IsVar k b w) → front k b n (w ∷ ws) ≡ to_end n (w ∷ ws)
    go rec (inl (z, e)) = front-end k b n w ws z e ∙ sym (end-here n w ws z)
    go rec (inr (z, v)) =
        let e = front-var k b n w ws z (var-is k b w v) in
        e ∙ rec (λ q. h (e ∙ q)) ∙ sym (end-past n w ws z)

-- so the bytes up to there are the canonical monomial or ratio that starts at word `at`, if one does
pub ended-found : (k m : ℕ) (s : List ℕ) (at : ℕ) → (front k m 0 (drop at (words s)) ≡ 0 → ⊥) → ended s at ≡ found k m s at
unfolding ended found
ended-found k m s at h = rw (front_ends k m 0 (drop at (words s)) h)
