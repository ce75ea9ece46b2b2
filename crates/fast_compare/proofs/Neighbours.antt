-- The neighbours of a value: the greatest below it and the least above it, and where they stand in the sorted order. Assumes nothing.
use mathlib.Core.Path.{◌≡◌, refl, sym, ap, ◌∙◌}
use mathlib.Core.Bool.{Bool, true, false, cond}
use mathlib.Core.List.{List}
use mathlib.Core.Option.{Option, none, some}
use Prim.Native.Nat.{ℕ, zero, suc, ◌+◌, ◌≤◌, ◌<◌}
use native.Mathlib.Omega.{arith}
use native.Mathlib.Decide.{ℕ_discrete}
use lib.ListN.{get_or}
use Rattle.std.specs.Ordering.{is_lt, is_eq}
use Rattle.std.specs.declared.cmp.Ordering.{Ordering}
use Rattle.std.specs.declared.cmp.Ordering.TheVariants.{Less, Equal, Greater}
use Rattle.std.specs.Cmp.{IsTotalOrder}
use Rattle.std.proofs.lemmas.Cmp.{back_total, tied_itself, tied_back}
use Rattle.fast_compare.specs.Labels.{below, known, greater, nearest}
use Rattle.words.proofs.Tables.{never}
use Rattle.fast_compare.proofs.Counts.{pick-none, none-pick, some-pick, pick-only}
use Rattle.fast_compare.proofs.Ranks.{less_equal, is-less, is-equal, by_cases, below_less, below-mono, below-most, below_alike, below_top, place_of, Distinct, Ranked, place-less, less-place}

not-less : (o : Ordering) → is_lt o ≡ false → o ≡ Less → ⊥
not-less o e h = never (sym e ∙ ap is_lt h)

test-equal : (o : Ordering) → (o ≡ Equal → ⊥) → is_eq o ≡ false
test-equal Less h = refl
test-equal Equal h = absurd (h refl)
test-equal Greater h = refl

module _ {A : Type 0} {c : A → A → Ordering} (law : IsTotalOrder c) (f : ℕ → A) where
  -- what `nearest` finds: none where no value lies below, else the row of a greatest one
  pub record Greatest (n : ℕ) (q : A) (i : ℕ) : Type 0 where
    pub inside : i < n
    pub lower : c (f i) q ≡ Less
    pub last : (j : ℕ) → j < n → c (f j) q ≡ Less → c (f i) (f j) ≡ Less → ⊥

  unfoldable pub Near : ℕ → A → Option ℕ → Type 0
  Near n q none = (i : ℕ) → i < n → c (f i) q ≡ Less → ⊥
  Near n q (some i) = Greatest n q i

  near-more : (n : ℕ) (q : A) (o : Option ℕ) → (c (f n) q ≡ Less → ⊥) → Near n q o → Near (suc n) q o
  unfolding Near
  near-more n q none h z = λ i l e. elim (ℕ_discrete i n) [ yes y ↦ h (rw y at e) | no y ↦ z i (omega arith) e ]
  near-more n q (some i) h z = record {
    inside = omega (arith, z.inside);
    lower = z.lower;
    last = λ j l e g. elim (ℕ_discrete j n) [ yes y ↦ h (rw y at e) | no y ↦ z.last j (omega arith) e g ];
  }

  near-greater : (n : ℕ) (q : A) (o : Option ℕ) → c (f n) q ≡ Less → Near n q o → Near (suc n) q (greater c f n o)
  unfolding Near greater
  near-greater n q none h z = record {
    inside = omega arith;
    lower = h;
    last = λ j l e g. elim (ℕ_discrete j n) [ yes y ↦ less_equal (sym (rw y at g) ∙ tied_itself law (f n)) | no y ↦ z j (omega arith) e ];
  }
  near-greater n q (some i) h z = go (is_lt (c (f i) (f n))) refl
    where
      go : (b : Bool) → is_lt (c (f i) (f n)) ≡ b → Near (suc n) q (cond b (some n) (some i))
      go true e = record {
        inside = omega arith;
        lower = h;
        last = λ j l y g. elim (ℕ_discrete j n) [
          | yes w ↦ less_equal (sym (rw w at g) ∙ tied_itself law (f n))
          | no w ↦ z.last j (omega arith) y (law.trans (f i) (f n) (f j) (is-less _ e) g)
        ];
      }
      go false e = record {
        inside = omega (arith, z.inside);
        lower = z.lower;
        last = λ j l y g. elim (ℕ_discrete j n) [ yes w ↦ not-less _ e (rw w at g) | no w ↦ z.last j (omega arith) y g ];
      }

  pub nearest-near : (n : ℕ) (q : A) → Near n q (nearest c f n q)
  unfolding nearest Near
  nearest-near zero q = λ i l. absurd (omega arith)
  nearest-near (suc n) q = go (is_lt (c (f n) q)) refl (nearest-near n q)
    where
      go : (b : Bool) → is_lt (c (f n) q) ≡ b → Near n q (nearest c f n q) → Near (suc n) q (cond b (greater c f n (nearest c f n q)) (nearest c f n q))
      go true e z = near-greater n q (nearest c f n q) (is-less _ e) z
      go false e z = near-more n q (nearest c f n q) (not-less _ e) z

  pub nearest-none : (n : ℕ) (q : A) → ((i : ℕ) → i < n → c (f i) q ≡ Less → ⊥) → nearest c f n q ≡ none
  unfolding Near
  nearest-none n q h = go (nearest c f n q) (nearest-near n q)
    where
      go : (o : Option ℕ) → Near n q o → o ≡ none
      go none z = refl
      go (some i) z = absurd (h i z.inside z.lower)

  pub nearest-is : (n : ℕ) (q : A) (i : ℕ) → Distinct law f n → Greatest n q i → nearest c f n q ≡ some i
  unfolding Near
  nearest-is n q i d g = go (nearest c f n q) (nearest-near n q)
    where
      go : (o : Option ℕ) → Near n q o → o ≡ some i
      go none z = absurd (z i g.inside g.lower)
      go (some j) z =
          by_cases law (f i) (f j)
          (λ e. absurd (g.last j z.inside z.lower e))
          (λ e. ap some (sym (d i j g.inside z.inside e)))
          (λ e. absurd (z.last i g.inside g.lower e))

  -- ---- by the place of q in the order
  module _ (n : ℕ) (o : List ℕ) (r : Ranked law f n o) (q : A) where
    -- the row before the place is the lower neighbour
    pub lower-none : below c f n q ≡ 0 → nearest c f n q ≡ none
    lower-none e = nearest-none n q (λ i l h. omega (arith, below_less law f n i q l h))

    pub lower-at : Distinct law f n → (p : ℕ) → below c f n q ≡ p + 1 → nearest c f n q ≡ some (get_or o p 0)
    lower-at d p e =
        let h : p < n = omega (arith, below-most law f n q) in
        nearest-is n q (get_or o p 0) d (record {
          inside = r.inside p h;
          lower = less-place law f n o r q p h (omega arith);
          last = λ j l a b. omega (arith, r.rank p h, below_less law f n (get_or o p 0) (f j) (r.inside p h) b, below_less law f n j q l a);
        })

    -- the value q is known exactly where it stands at its place
    pub known_at : Distinct law f n → (p : ℕ) → p < n → c (f (get_or o p 0)) q ≡ Equal → known c f n q ≡ some (get_or o p 0)
    unfolding known
    known_at d p h e =
        pick-only n _ (get_or o p 0) (r.inside p h) (ap is_eq e)
        (λ i l z. d i (get_or o p 0) l (r.inside p h) (law.congr (f i) q (f (get_or o p 0)) (is-equal _ z) ∙ tied_back law _ q e))

    -- a value that does not stand at its place is not known
    pub new-at : Distinct law f n → ((k : ℕ) → k ≡ below c f n q → k < n → c (f (get_or o k 0)) q ≡ Equal → ⊥) → (i : ℕ) → i < n → c (f i) q ≡ Equal → ⊥
    new-at d h i l e =
        h (below c f n (f i)) (below_alike law f n (f i) q e) (below_top law f n i l)
        (rw (place_of law f n o d r i l) e)

  pub known-none : (n : ℕ) (q : A) → ((i : ℕ) → i < n → c (f i) q ≡ Equal → ⊥) → known c f n q ≡ none
  unfolding known
  known-none n q h = pick-none n _ (λ i l. test-equal _ (h i l))

  pub none-known : (n : ℕ) (q : A) → known c f n q ≡ none → (i : ℕ) → i < n → c (f i) q ≡ Equal → ⊥
  unfolding known
  none-known n q h i l e = never (sym (none-pick n _ h i l) ∙ ap is_eq e)

  pub some_known : (n : ℕ) (q : A) (j : ℕ) → known c f n q ≡ some j → (j < n) × (c (f j) q ≡ Equal)
  unfolding known
  some_known n q j h = let z = some-pick n _ j h in (z.0, is-equal _ z.1)

-- the row at the place is the upper neighbour of a value that is not known
module _ {A : Type 0} {c : A → A → Ordering} (law : IsTotalOrder c) (f : ℕ → A) (n : ℕ) (o : List ℕ) (r : Ranked law f n o) (q : A)
    (new : (i : ℕ) → i < n → c (f i) q ≡ Equal → ⊥) where
  pub above_place : (k : ℕ) → k < n → below c f n q ≤ k → c q (f (get_or o k 0)) ≡ Less
  above_place k h l =
      by_cases law (f (get_or o k 0)) q
      (λ e. absurd (omega (arith, place-less law f n o r q k h e)))
      (λ e. absurd (new (get_or o k 0) (r.inside k h) e))
      (λ e. e)

  pub upper-at : Distinct law f n → below c f n q < n → nearest (λ x y. c y x) f n q ≡ some (get_or o (below c f n q) 0)
  upper-at d h =
      let p = below c f n q in
      nearest-is (back_total law) f n q (get_or o p 0) (λ i j a b e. sym (d j i b a e)) (record {
        inside = r.inside p h;
        lower = above_place p h (omega arith);
        last = λ j l a b. omega (arith, r.rank p h, below_less law f n j (f (get_or o p 0)) l b, below-mono law f n q (f j) a);
      })

  pub upper-none : (d : Distinct law f n) → n ≤ below c f n q → nearest (λ x y. c y x) f n q ≡ none
  upper-none d h =
      nearest-none (back_total law) f n q (λ i l e.
      omega (arith, below-mono law f n q (f i) e, below_top law f n i l))
