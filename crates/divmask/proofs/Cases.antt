-- The bench cases of document 01 on masks and `update`. Assumes nothing.
use mathlib.Core.Path.{◌≡◌, sym, ◌∙◌}
use mathlib.Core.List.{List, [], ◌∷◌}
use Prim.Native.Nat.{ℕ, ◌-◌, ◌*◌, ◌^◌, ◌≤◌, ◌<◌}
use native.Mathlib.Omega.{arith}
use native.Mathlib.Nat.{zero-mul}
use lib.ListN.{get_or}
use Rattle.words.specs.Kinds.{var_word, end_word}
use Rattle.words.proofs.Fields.{kind-var, ident-var, power-var}
use Rattle.monomial.specs.Monomial.{pow}
use Rattle.monomial.proofs.Powers.{pow-here, pow-past, pow-other, pow-nil}
use Rattle.divmask.specs.Mask.{bits, first_bit, parts, field, mask}
use Rattle.divmask.proofs.Parts.{parts-full}
use Rattle.divmask.proofs.Masks.{mask-single}
use Rattle.divmask.proofs.Places.{no-bit}

-- the words of variable v to the power q
abbrev pub single : ℕ → ℕ → List ℕ
single v q = var_word 1 v q ∷ end_word 1 ∷ []

-- its mask
unfoldable pub mask_of : ℕ → List ℕ → List ℕ → ℕ
mask_of m xs ws = mask m xs (pow 1 ws)

-- ---- at any power
single-here : (v q : ℕ) → v < 4096 → q < 65536 → pow 1 (single v q) v ≡ q
single-here v q h l =
    pow-here 1 (var_word 1 v q) (end_word 1 ∷ []) v (kind-var 1 v q h l) (ident-var 1 v q h l) ∙ power-var 1 v q l

single-other : (v q u : ℕ) → v < 4096 → q < 65536 → (u ≡ v → ⊥) → pow 1 (single v q) u ≡ 0
single-other v q u h l n =
    pow-past 1 (var_word 1 v q) (end_word 1 ∷ []) u (λ e. n (sym e ∙ ident-var 1 v q h l))
    ∙ pow-other 1 (end_word 1) [] u (λ e. let z : ◌≡◌ {A = ℕ} 0 1 = e in omega arith) ∙ pow-nil 1 u

-- a power at the maximum or above sets all bits of its variable and no other
pub mask_full : (m : ℕ) (xs : List ℕ) (v q : ℕ) → m ≤ 64 → v < m → q ≤ 32767 → 1 ≤ get_or xs v 0 → get_or xs v 0 ≤ q
    → mask_of m xs (single v q) ≡ (2 ^ bits m v - 1) * 2 ^ first_bit m v
unfolding mask_of field
mask_full m xs v q f h l some above =
    let e : parts (bits m v) (get_or xs v 0) q (bits m v) ≡ 2 ^ bits m v - 1 =
    omega (arith, parts-full (bits m v) (get_or xs v 0) q some above (bits m v) (omega arith)) in
    mask-single m xs (pow 1 (single v q)) v h (λ u i n. single-other v q u (omega arith) (omega arith) n)
    ∙ rw (single-here v q (omega arith) (omega arith), e)

-- three variables, maxima 1: id 0 has hex 7FF at any power from 1
pub three-id-0 : (q : ℕ) → 1 ≤ q → q ≤ 32767 → mask_of 3 (1 ∷ 1 ∷ 1 ∷ []) (single 0 q) ≡ 2047
unfolding bits first_bit
three-id-0 q h l = mask_full 3 (1 ∷ 1 ∷ 1 ∷ []) 0 q (omega arith) (omega arith) l (omega arith) h

-- and id 2 hex FFC00000
pub three-id-2 : (q : ℕ) → 1 ≤ q → q ≤ 32767 → mask_of 3 (1 ∷ 1 ∷ 1 ∷ []) (single 2 q) ≡ 4290772992
unfolding bits first_bit
three-id-2 q h l = mask_full 3 (1 ∷ 1 ∷ 1 ∷ []) 2 q (omega arith) (omega arith) l (omega arith) h

-- 33 variables: id 32 has no bit
pub id-32-no-bit : bits 33 32 ≡ 0
id-32-no-bit = no-bit 33 32 (omega arith) (omega arith)

-- so its power never shows, whatever the maxima
pub id-32-unseen : (xs : List ℕ) (q : ℕ) → q ≤ 32767 → mask_of 33 xs (single 32 q) ≡ 0
unfolding mask_of field parts
id-32-unseen xs q h =
    mask-single 33 xs (pow 1 (single 32 q)) 32 (omega arith) (λ u i n. single-other 32 q u (omega arith) (omega arith) n) ∙ rw id-32-no-bit (zero-mul (2 ^ first_bit 33 32))
