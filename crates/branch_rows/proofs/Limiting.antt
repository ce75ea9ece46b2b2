-- The bounds that a branch gives to its sides. Assumes nothing.
use mathlib.Core.Path.{◌≡◌, refl, sym, ap, ◌∙◌}
use mathlib.Core.List.{List}
use mathlib.Core.Logic.{◌↔◌}
use Prim.Native.Nat.{ℕ, min, max, ◌-◌, ◌^◌, ◌≤◌, ◌<◌}
use native.Mathlib.Omega.{arith}
use native.Mathlib.Decide.{ℕ_discrete}
use lib.ListN.{length, get_or, set}
use lib.Seq.{get_or-set_same, get_or-set_other, set-get_or}
use Rattle.index_image.specs.declared.Shape.{Shape}
use Rattle.index_image.specs.Shape.{InRange, tag_at, key_at}
use Rattle.index_image.specs.Walk.{power, label}
use Rattle.leaf_rows.specs.Leaves.{Inside}
use Rattle.branch_rows.specs.Branches.{KeyIn, BelowKey, Cut}
use Rattle.index_image.proofs.Keys.{below-ratio, below-variable}

module _ (W : List ℕ) (s : Shape) (H : List ℕ) (ll lh i : ℕ) (r : InRange s) (long : length H ≡ s.variables)
    (some : (v : ℕ) → v < s.variables → 1 ≤ get_or H v 0) (K : KeyIn W s i) (t : ℕ) (et : t ≡ get_or W (tag_at i) 0) where
  module _ (same : t ≡ s.kind) where
    one : s.kind ≡ 1
    one = omega (arith, K.from, r.kind-to)

    here : (e : ℕ) → BelowKey W s i e ↔ (label W s e < label W s (get_or W (key_at i) 0))
    here e = below-ratio (power W s) (label W s) s.kind (get_or W (tag_at i) 0 - 1) (get_or W (key_at i) 0) e one (omega (arith, one))

    pub cut-ratio : (key l q a b : ℕ) → key ≡ get_or W (key_at i) 0 → l ≡ label W s key → q ≡ get_or H 0 0 → q < 2 ^ 32 → a ≡ min l lh → b ≡ max l ll
        → Cut W s H ll lh i (record { variable = 0; power = q; less = record { start = ll; end = a }; other = record { start = b; end = lh } })
    cut-ratio key l q a b ek el eq sm ea eb =
        let v : 0 < s.variables = omega (arith, r.vars-from) in
        let lk : l ≡ label W s (get_or W (key_at i) 0) = el ∙ ap (label W s) ek in
        let own : set H 0 q ≡ H = rw eq (set-get_or H 0 0) in
        record {
          known = v;
          some = omega (arith, some 0 v);
          small = sm;
          less-from = refl;
          other-to = refl;
          less = λ e. (
            λ (i : Inside W s (set H 0 q) ll a e).
                let p = rw own at i.powers in
                (record { powers = p; labels = λ o. ((i.labels o).0, omega (arith, (i.labels o).1)) }, (here e).1 (omega (arith, (i.labels one).1))),
            λ i. record { powers = rw own i.0.powers; labels = λ o. ((i.0.labels o).0, omega (arith, (i.0.labels o).1, (here e).0 i.1)) },
          );
          other = λ e. (
            λ (i : Inside W s H b lh e). (
              record { powers = i.powers; labels = λ o. (omega (arith, (i.labels o).0), (i.labels o).1) },
              λ z n. omega (arith, (here e).0 n, (i.labels one).0),
            ),
            λ i. record { powers = i.0.powers; labels = λ o. (not-below e (i.0.labels o).0 (i.1 (sym et ∙ same)), (i.0.labels o).1) },
          );
        }
      where
        not-below : (e : ℕ) → ll ≤ label W s e → (BelowKey W s i e → ⊥) → b ≤ label W s e
        not-below e h n =
            let m : label W s e < l → ⊥ = λ y. n ((here e).1 (omega (arith, el, ap (label W s) ek))) in
            omega arith

  module _ (other : t ≡ s.kind → ⊥) where
    pub variable-known : t - 1 - s.kind < s.variables
    variable-known = omega (arith, K.to, K.from, r.kind-to, r.vars-from)

    there : (e : ℕ) → BelowKey W s i e ↔ (power W s (t - 1 - s.kind) e < get_or W (key_at i) 0)
    there e =
        rw et (below-variable (power W s) (label W s) s.kind (get_or W (tag_at i) 0 - 1) (get_or W (key_at i) 0) e r.kind-to (omega (arith, K.from, r.kind-to)))

    pub cut-variable : (key x : ℕ) → key ≡ get_or W (key_at i) 0 → key < 2 ^ 32 → x ≡ min key (get_or H (t - 1 - s.kind) 0)
        → Cut W s H ll lh i (record { variable = t - 1 - s.kind; power = x; less = record { start = ll; end = lh }; other = record { start = ll; end = lh } })
    cut-variable key x ek sm ex =
        let v = t - 1 - s.kind in
        let k : v < s.variables = variable-known in
        record {
          known = k;
          some = omega (arith, some v k, K.variable (λ z. other (et ∙ z)));
          small = omega arith;
          less-from = refl;
          other-to = refl;
          less = λ e. (
            λ (i : Inside W s (set H v x) ll lh e).
                let p : power W s v e < x = rw (get_or-set_same H v x 0 (omega arith)) at (i.powers v k) in
                (record { powers = λ u l. lower e i u l; labels = i.labels }, (there e).1 (omega arith)),
            λ i. record { powers = λ u l. raise e i.0 ((there e).0 i.1) u l; labels = i.0.labels },
          );
          other = λ e. (λ (i : Inside W s H ll lh e). (i, λ z n. other (et ∙ z)), λ i. i.0);
        }
      where
        lower : (e : ℕ) → Inside W s (set H (t - 1 - s.kind) x) ll lh e → (u : ℕ) → u < s.variables → power W s u e < get_or H u 0
        lower e i u l =
            elim (ℕ_discrete u (t - 1 - s.kind)) [
              | yes z ↦ rw z (omega (
                arith,
                rw (get_or-set_same H (t - 1 - s.kind) x 0 (omega (arith, variable-known))) at
                    (i.powers (t - 1 - s.kind) variable-known),
              ))
              | no z ↦ rw (get_or-set_other H (t - 1 - s.kind) u x 0 z) at (i.powers u l)
            ]

        raise : (e : ℕ) → Inside W s H ll lh e → power W s (t - 1 - s.kind) e < get_or W (key_at i) 0 → (u : ℕ) → u < s.variables
            → power W s u e < get_or (set H (t - 1 - s.kind) x) u 0
        raise e i b u l =
            elim (ℕ_discrete u (t - 1 - s.kind)) [
              | yes z ↦ rw (z, get_or-set_same H (t - 1 - s.kind) x 0 (omega (arith, variable-known))) (omega (arith, i.powers (t - 1 - s.kind) variable-known))
              | no z ↦ rw (get_or-set_other H (t - 1 - s.kind) u x 0 z) (i.powers u l)
            ]
