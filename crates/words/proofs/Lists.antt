-- Lists by their places. Assumes nothing.
use mathlib.Core.Path.{◌≡◌, refl, ap}
use mathlib.Core.List.{List, [], ◌∷◌}
use Prim.Native.Nat.{ℕ, zero, suc, ◌<◌}
use native.Mathlib.Omega.{arith}
use lib.ListN.{length, get_or}

module _ {A : Type 0} where
  -- f 0, f 1 .. f (n - 1)
  pub listed : ℕ → (ℕ → A) → List A
  listed zero f = []
  listed (suc n) f = f 0 ∷ listed n (λ i. f (suc i))

  pub length-listed : (n : ℕ) (f : ℕ → A) → length (listed n f) ≡ n
  unfolding listed
  length-listed zero f = refl
  length-listed (suc n) f = ap suc (length-listed n (λ i. f (suc i)))

  pub get_d-listed : (n : ℕ) (f : ℕ → A) (d : A) (i : ℕ) → i < n → get_or (listed n f) i d ≡ f i
  unfolding listed
  get_d-listed zero f d i h = absurd (omega arith)
  get_d-listed (suc n) f d zero h = refl
  get_d-listed (suc n) f d (suc i) h = get_d-listed n (λ i. f (suc i)) d i (omega arith)
