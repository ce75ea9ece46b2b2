-- What the tests of question 1 tell. Assumes nothing.
use mathlib.Core.Path.{◌≡◌, sym, ◌∙◌}
use mathlib.Core.Bool.{Bool, true, ◌&&◌}
use mathlib.Core.Logic.{◌↔◌}
use Prim.Native.Nat.{ℕ, ◌≤◌}
use lib.Dec.{leb}
use borrow.Author.Tests.{le-leb, leb-true}
use Rattle.monomial.specs.Sizes.{variables_fit, sizes_fit, Sizes}
use Rattle.monomial.proofs.Canon.{both_true}

pub variables-fit : (m : ℕ) → (variables_fit m ≡ true) ↔ ((1 ≤ m) × (m ≤ 64))
unfolding variables_fit
variables-fit m = (λ e. let t = both_true _ _ e in (leb-true 1 m t.0, leb-true m 64 t.1), λ h. simp (le-leb 1 m h.0, le-leb m 64 h.1))

pub sizes-fit : (m c : ℕ) → (sizes_fit m c ≡ true) ↔ Sizes m c
unfolding sizes_fit
sizes-fit m c = (to, from)
  where
    to : (variables_fit m && (leb 1 c && leb c 4096)) ≡ true → Sizes m c
    to e =
        let a = both_true _ _ e in
        let v = (variables-fit m).0 a.0 in
        let d = both_true _ _ a.1 in
        record { vars-from = v.0; vars-to = v.1; cap-from = leb-true 1 c d.0; cap-to = leb-true c 4096 d.1 }

    from : Sizes m c → (variables_fit m && (leb 1 c && leb c 4096)) ≡ true
    from a = simp ((variables-fit m).1 (a.vars-from, a.vars-to), le-leb 1 c a.cap-from, le-leb c 4096 a.cap-to)

-- what a function that asks it answered
pub sizes-asked : (m c : ℕ) {r : Bool} → r ≡ sizes_fit m c → (r ≡ true) ↔ Sizes m c
sizes-asked m c {r} e = (λ (t : r ≡ true). (sizes-fit m c).0 (sym e ∙ t), λ s. e ∙ (sizes-fit m c).1 s)
