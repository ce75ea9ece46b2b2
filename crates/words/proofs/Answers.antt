-- What the answers of checks decide. Assumes nothing.
use mathlib.Core.Path.{◌≡◌, refl, sym, ◌∙◌}
use mathlib.Core.Bool.{Bool, true, false}
use mathlib.Core.Logic.{◌↔◌}
use Prim.Native.Nat.{ℕ}
use lib.Dec.{eqb}
use borrow.Author.Tests.{eqb-true, eq-eqb}
use Rattle.words.proofs.Tables.{never}

-- an answer of false, where what is asked does not hold
pub refuse : {M : Type 0} → (M → ⊥) → (false ≡ true) ↔ M
refuse h = (λ (z : false ≡ true). never z, λ m. absurd (h m))

pub accept : {M : Type 0} → M → (true ≡ true) ↔ M
accept m = (λ (z : true ≡ true). m, λ h. refl)

-- a test of two numbers
pub test : {M : Type 0} (x y : ℕ) → (x ≡ y → M) → (M → x ≡ y) → (eqb x y ≡ true) ↔ M
test {M} x y f g = (λ (e : eqb x y ≡ true). f (eqb-true x y e), λ (m : M). eq-eqb x y (g m))

-- a callee that answered no, and one that answered yes
pub failed : {C : Type 0} (t : Bool) → (t ≡ true) ↔ C → t ≡ false → C → ⊥
failed t e n c = never (sym n ∙ e.1 c)

pub passed : {C : Type 0} (t : Bool) → (t ≡ true) ↔ C → t ≡ true → C
passed t e n = e.0 n

-- in a chain of checks, one that answered no: what all of them ask for does not hold
pub stop : {A M : Type 0} (t : Bool) → (t ≡ true) ↔ A → t ≡ false → (M → A) → (false ≡ true) ↔ M
stop t e n f = refuse (λ m. failed t e n (f m))

-- the last check, where the others answered yes
pub last : {A M : Type 0} (t : Bool) → (t ≡ true) ↔ A → (A → M) → (M → A) → (t ≡ true) ↔ M
last t e f g = (λ (z : t ≡ true). f (e.0 z), λ m. e.1 (g m))
