-- The search keeps the entries and the order, and folds over all of them.
-- Assumes nothing.
use mathlib.Core.Path.{◌≡◌, refl, sym, ◌∙◌}
use mathlib.Core.Bool.{Bool, true, false}
use mathlib.Core.Option.{Option, none, some}
use mathlib.Core.List.{List, [], ◌∷◌}
use Prim.Native.Nat.{ℕ, zero, suc, ◌+◌, ◌*◌, ◌<◌, ◌≤◌}
use native.Mathlib.Omega.{arith}
use lib.Dec.{ltb}
use lib.ListN.{length, length-append}
use Rattle.kd_theory.specs.Bag.{occurs, ◌∈◌, Some, Step, fold_until}
use Rattle.kd_theory.specs.Tree.{Keys, All, Tree, leaf, branch, inorder, count, nodes, Path, Split, Out, Ordered}
use Rattle.kd_theory.specs.Tree.{limit, child_from, split_leaf, split_root, side, then-other, visit, search_for, search_at, Splits, Safe, Ignores, Kept, start, Folds, Grows}
use Rattle.kd_theory.proofs.BagLaws.{occurs-append, in_left, in_right, in_both, fold-append, fold-stopped, fold-skip}

pub some-length : (xs : List ℕ) → Some xs → 0 < length xs
unfolding occurs
some-length [] h = omega (arith, h.1)
some-length (x ∷ xs) h = omega arith

module _ (K : Keys) where
  pub kept_refl : (t : Tree) → Ordered K t → Kept K t t
  kept_refl t h = record { same = λ n. refl; size = refl; ordered = h }

  pub kept_trans : (t u v : Tree) → Kept K t u → Kept K u v → Kept K t v
  kept_trans t u v g h = record { same = λ n. g.same n ∙ h.same n; size = g.size ∙ h.size; ordered = h.ordered }

  pub kept-branch : (d k : ℕ) (l r l' r' : Tree) → Ordered K (branch d k l r) → Kept K l l' → Kept K r r' → Kept K (branch d k l r) (branch d k l' r')
  kept-branch d k l r l' r' h g w = record {
    same = λ n. simp (occurs-append, g.same n, w.same n);
    size = simp (length-append, g.size, w.size);
    ordered = (
      record {
        key = h.0.key;
        less = λ e m. h.0.less e (rw (g.same e) m);
        other = λ e m. h.0.other e (rw (w.same e) m);
        some-less = (h.0.some-less.0, rw (g.same _) at h.0.some-less.1);
        some-other = (h.0.some-other.0, rw (w.same _) at h.0.some-other.1);
      },
      g.ordered,
      w.ordered,
    );
  }

  pub ordered-good : (t : Tree) → Ordered K t → All K.good (inorder t)
  ordered-good (leaf es) h = h
  ordered-good (branch d k l r) h = in_both K.good (inorder l) (inorder r) (ordered-good l h.1) (ordered-good r h.2)

  pub ordered-grows : (K' : Keys) → Grows K K' → (t : Tree) → Ordered K t → Ordered K' t
  ordered-grows K' g (leaf es) h = λ e m. g.good e (h e m)
  ordered-grows K' g (branch d k l r) h = (
    record {
      key = g.valid d k h.0.key;
      less = λ e m. g.below d k e h.0.key (ordered-good l h.1 e m) ∙ h.0.less e m;
      other = λ e m. g.below d k e h.0.key (ordered-good r h.2 e m) ∙ h.0.other e m;
      some-less = h.0.some-less;
      some-other = h.0.some-other;
    },
    ordered-grows K' g l h.1,
    ordered-grows K' g r h.2,
  )

  -- a tree of n entries, n above 0, has at most 2 n - 1 nodes
  pub few-nodes : (t : Tree) → Ordered K t → 0 < count t → nodes t + 1 ≤ 2 * count t
  unfolding nodes
  few-nodes (leaf es) h m = omega arith
  few-nodes (branch d k l r) h m =
      simp length-append
      (omega (
        arith,
        few-nodes l h.1 (some-length (inorder l) h.0.some-less),
        few-nodes r h.2 (some-length (inorder r) h.0.some-other),
      )
      )

  -- each side of a branch has fewer entries than the whole
  pub fewer-less : (d k : ℕ) (l r : Tree) → Ordered K (branch d k l r) → count l < count (branch d k l r)
  fewer-less d k l r h = simp length-append (omega (arith, some-length (inorder r) h.0.some-other))

  pub fewer-other : (d k : ℕ) (l r : Tree) → Ordered K (branch d k l r) → count r < count (branch d k l r)
  fewer-other d k l r h = simp length-append (omega (arith, some-length (inorder l) h.0.some-less))

  module _ (split : ℕ → List ℕ → Option Split) (laws : Splits K split) where
    pub kept-split : (n : ℕ) (t : Tree) → Ordered K t → Kept K t (split_root split n t)
    unfolding split_root split_leaf
    kept-split n (branch d k l r) h = kept_refl _ h
    kept-split n (leaf es) h = go (ltb limit (length es)) (split n es) refl
      where
        go : (b : Bool) (s : Option Split) → split n es ≡ s → Kept K (leaf es) (split_leaf es b s)
        go false s w = kept_refl _ h
        go true none w = kept_refl _ h
        go true (some s) w =
            let q = laws n es h s w in
            record {
              same = q.same;
              size = q.size;
              ordered = (q.sides, (λ e m. h e (rw (q.same e) (in_left e s.less s.other m))), (λ e m. h e (rw (q.same e) (in_right e s.less s.other m))));
            }

    module _ {A : Type 0} (disc : ℕ → ℕ → List ℕ → Path) (proc : A → ℕ → Step A) where
      kept-side : (b : Bool) (go : Tree → A → Out A) (t : Tree) (a : A) → Ordered K t → ((a : A) → Kept K t (go t a).tree) → Kept K t (side b go t a).tree
      unfolding side
      kept-side true go t a h g = g a
      kept-side false go t a h g = kept_refl t h

      kept_then : (b : Bool) (d k : ℕ) (go : Tree → A → Out A) (l l' r : Tree) (a : A) → Ordered K (branch d k l r) → Kept K l l' → ((a : A) → Kept K r (go r a).tree)
          → Kept K (branch d k l r) (then-other b d k go l' r a).tree
      unfolding then-other
      kept_then true d k go l l' r a h g w = kept-branch d k l r l' _ h g (w a)
      kept_then false d k go l l' r a h g w = kept-branch d k l r l' r h g (kept_refl r h.2)

      pub kept-visit : (go : ℕ → Tree → A → Out A) → ((n : ℕ) (t : Tree) (a : A) → Ordered K t → Kept K t (go n t a).tree)
          → (t : Tree) (a : A) → Ordered K t → Kept K t (visit disc proc go t a).tree
      unfolding visit
      kept-visit go ih (leaf es) a h = kept_refl _ h
      kept-visit go ih (branch d k l r) a h =
          kept_then _ d k _ l _ r _ h
          (kept-side _ (go (child_from d)) l a h.1 (λ a'. ih (child_from d) l a' h.1))
          (λ a'. kept-side _ (go (child_from d)) r a' h.2 (λ a''. ih (child_from d) r a'' h.2))

      -- whatever the fuel
      pub kept-search : (f n : ℕ) (t : Tree) (a : A) → Ordered K t → Kept K t (search_for split disc proc f n t a).tree
      unfolding search_for
      kept-search zero n t a h = kept_refl t h
      kept-search (suc f) n t a h =
          let o = kept-split n t h in
          kept_trans t _ _ o (kept-visit (search_for split disc proc f) (kept-search f) _ a o.ordered)

      -- with more fuel than entries the fuel does not matter
      pub same-side : (b : Bool) (go go' : Tree → A → Out A) (t : Tree) (a : A) → ((a : A) → go t a ≡ go' t a) → side b go t a ≡ side b go' t a
      unfolding side
      same-side true go go' t a h = h a
      same-side false go go' t a h = refl

      same_then : (b : Bool) (d k : ℕ) (go go' : Tree → A → Out A) (l r : Tree) (a : A) → ((a : A) → go r a ≡ go' r a) → then-other b d k go l r a ≡ then-other b d k go' l r a
      unfolding then-other
      same_then true d k go go' l r a h = rw (h a)
      same_then false d k go go' l r a h = refl

      pub same-visit : (go go' : ℕ → Tree → A → Out A) (t : Tree) (a : A) → Ordered K t
          → ((n : ℕ) (u : Tree) (a : A) → Ordered K u → count u < count t → go n u a ≡ go' n u a) → visit disc proc go t a ≡ visit disc proc go' t a
      unfolding visit
      same-visit go go' (leaf es) a h ih = refl
      same-visit go go' (branch d k l r) a h ih =
          rw (same-side _ (go (child_from d)) (go' (child_from d)) l a (λ a'. ih (child_from d) l a' h.1 (fewer-less d k l r h)))
          (same_then _ d k _ _ _ r _ (λ a'. same-side _ (go (child_from d)) (go' (child_from d)) r a' (λ a''. ih (child_from d) r a'' h.2 (fewer-other d k l r h))))

      pub same-fuel : (f g n : ℕ) (t : Tree) (a : A) → Ordered K t → count t < f → count t < g → search_for split disc proc f n t a ≡ search_for split disc proc g n t a
      unfolding search_for
      same-fuel zero g n t a h m m' = absurd (omega arith)
      same-fuel (suc f) zero n t a h m m' = absurd (omega arith)
      same-fuel (suc f) (suc g) n t a h m m' =
          let o = kept-split n t h in
          same-visit (search_for split disc proc f) (search_for split disc proc g) _ a o.ordered
          (λ n' u a' w q. same-fuel f g n' u a' w (omega (arith, o.size)) (omega (arith, o.size)))

      -- the recursion, with no fuel in sight: what a program over the tree does
      pub search-step : (n : ℕ) (t : Tree) (a : A) → Ordered K t → search_at split disc proc n t a ≡ visit disc proc (search_at split disc proc) (split_root split n t) a
      unfolding search_at search_for
      search-step n t a h =
          let o = kept-split n t h in
          same-visit (search_for split disc proc (count t)) (search_at split disc proc) _ a o.ordered
          (λ n' u a' w q. same-fuel (count t) (suc (count u)) n' u a' w (omega (arith, o.size)) (omega arith))

      -- with a safe discriminator
      module _ (p : ℕ → Bool) (safe : Safe K disc p) (ignores : Ignores proc p) where
        fold-side : (b : Bool) (go : Tree → A → Out A) (t : Tree) (a : A) → ((e : ℕ) → e ∈ inorder t → b ≡ false → p e ≡ false) → Folds proc a (go t a) → Folds proc a (side b go t a)
        unfolding side
        fold-side true go t a h g = g
        fold-side false go t a h g = sym (fold-skip proc (inorder t) (start a) (λ e m a'. ignores a' e (h e m refl)) refl)

        fold-then : (b : Bool) (d k : ℕ) (go : Tree → A → Out A) (l r : Tree) (a₀ a : A) → record { acc = a; on = b } ≡ fold_until proc (start a₀) (inorder l)
            → ((a : A) → Folds proc a (go r a)) → Folds proc a₀ (then-other b d k go l r a)
        unfolding then-other
        fold-then true d k go l r a₀ a h g = rw (fold-append, ← h) (g a)
        fold-then false d k go l r a₀ a h g = rw (fold-append, ← h) (sym (fold-stopped proc _ (inorder r) refl))

        pub fold-visit : (go : ℕ → Tree → A → Out A) (t : Tree) (a : A) → Ordered K t
            → ((n : ℕ) (u : Tree) (a : A) → Ordered K u → count u < count t → Folds proc a (go n u a)) → Folds proc a (visit disc proc go t a)
        unfolding visit
        fold-visit go (leaf es) a h ih = refl
        fold-visit go (branch d k l r) a h ih =
            fold-then _ d k _ _ r a _
            (fold-side _ (go (child_from d)) l a (λ e m w. safe.less d k _ e (in_left e (inorder l) (inorder r) m) (h.0.less e m) w) (ih (child_from d) l a h.1 (fewer-less d k l r h)))
            (λ a'. fold-side _ (go (child_from d)) r a' (λ e m w. safe.other d k _ e (in_right e (inorder l) (inorder r) m) (h.0.other e m) w) (ih (child_from d) r a' h.2 (fewer-other d k l r h)))

        pub fold-search : (f n : ℕ) (t : Tree) (a : A) → Ordered K t → count t < f → Folds proc a (search_for split disc proc f n t a)
        unfolding search_for
        fold-search zero n t a h m = absurd (omega arith)
        fold-search (suc f) n t a h m =
            let o = kept-split n t h in
            fold-visit (search_for split disc proc f) _ a o.ordered (λ n' u a' w q. fold-search f n' u a' w (omega (arith, o.size)))
