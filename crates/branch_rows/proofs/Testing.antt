-- What the tests on entries and rows answer, from what they read. Assumes nothing.
use mathlib.Core.Path.{◌≡◌, ◌∙◌}
use mathlib.Core.Bool.{true}
use mathlib.Core.List.{List}
use mathlib.Core.Logic.{◌↔◌}
use Prim.Native.Nat.{ℕ, ◌-◌, ◌≤◌}
use native.Mathlib.Omega.{arith}
use lib.Dec.{leb}
use lib.ListN.{get_or}
use borrow.Author.Tests.{le-leb, leb-true}
use Rattle.monomial.specs.Monomial.{pow, Canonical}
use Rattle.monomial.specs.Operations.{result_words}
use Rattle.monomial.specs.declared.ordered_ops.Op.TheVariants.{Gcd}
use Rattle.monomial.proofs.Laws.{canonical-result}
use Rattle.index_image.specs.declared.Shape.{Shape}
use Rattle.index_image.specs.Shape.{tag_at, key_at, gcd_at}
use Rattle.index_image.specs.Rows.{monomial_in}
use Rattle.branch_rows.specs.Branches.{Slots, OtherOk}
use Rattle.index_image.proofs.Gcds.{in-canonical}

-- ---- the gcd of two rows
pub slots-gcd : (W : List ℕ) (m a b : ℕ) → m ≤ 64 → Slots W m a b → Canonical 1 m (result_words Gcd (monomial_in W m (gcd_at a)) (monomial_in W m (gcd_at b)))
slots-gcd W m a b h s =
    canonical-result m (monomial_in W m (gcd_at a)) (monomial_in W m (gcd_at b)) (in-canonical W m (gcd_at a) s.one)
    (in-canonical W m (gcd_at b) s.two) Gcd (omega arith)
    (λ e. absurd (let z : ◌≡◌ {A = ℕ} 0 1 = cc in omega arith))

-- ---- the other side of a branch
pub other-answer : (W : List ℕ) (s : Shape) (i b t k p : ℕ) → t ≡ get_or W (tag_at i) 0 → k ≡ get_or W (key_at i) 0 → (t ≡ s.kind → ⊥)
    → p ≡ pow 1 (monomial_in W s.variables (gcd_at b)) (t - 1 - s.kind) → (leb k p ≡ true) ↔ OtherOk W s i b
other-answer W s i b t k p et ek n ep = (
  λ (z : leb k p ≡ true). λ _. rw (← et, ← ek, ← ep) (leb-true k p z),
  λ o. le-leb k p (rw (ek, ep, et) (o (λ e. n (et ∙ e)))),
)
