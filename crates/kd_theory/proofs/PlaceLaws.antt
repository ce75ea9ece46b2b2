-- Where an insert puts its entry, and the least of a list with one more. Assumes nothing.
use mathlib.Core.Path.{◌≡◌, refl, sym, ap}
use mathlib.Core.Bool.{Bool, true, false, cond}
use mathlib.Core.List.{List, [], ◌∷◌, ◌++◌, append_assoc}
use Prim.Native.Nat.{ℕ, zero, suc, min, ◌+◌, ◌≤◌, ◌<◌}
use native.Mathlib.Omega.{arith}
use lib.ListN.{length, take, drop, length-append}
use lib.Seq.{take-length, drop-length, take-append-le, drop-append-le, take-append-add, drop-append-add}
use Rattle.kd_theory.specs.Tree.{Tree, leaf, branch, inorder, count, Keys, Ordered, insert, place_of, put_at}
use Rattle.kd_theory.specs.Bifurcate.{least_of, least}

module _ (K : Keys) (e : ℕ) where
  pub place_inside : (t : Tree) → place_of K e t ≤ count t
  unfolding place_of
  place_inside (leaf es) = omega arith
  place_inside (branch d k l r) = go (K.below d k e) (place_inside l) (place_inside r)
    where
      go : (b : Bool) → place_of K e l ≤ count l → place_of K e r ≤ count r → cond b (place_of K e l) (count l + place_of K e r) ≤ count (branch d k l r)
      go true hl hr = omega (arith, length-append (inorder l) (inorder r))
      go false hl hr = omega (arith, length-append (inorder l) (inorder r))

  pub insert-less : (d k : ℕ) (l r : Tree) → K.below d k e ≡ true → insert K e (branch d k l r) ≡ branch d k (insert K e l) r
  unfolding insert
  insert-less d k l r h = rw (h, insert)

  pub insert-other : (d k : ℕ) (l r : Tree) → K.below d k e ≡ false → insert K e (branch d k l r) ≡ branch d k l (insert K e r)
  unfolding insert
  insert-other d k l r h = rw (h, insert)

  -- the entry stands in its place
  pub insert-inorder : (t : Tree) → inorder (insert K e t) ≡ put_at (place_of K e t) e (inorder t)
  unfolding insert place_of put_at
  insert-inorder (leaf es) = rw (take-length es, drop-length es)
  insert-inorder (branch d k l r) = go (K.below d k e) (insert-inorder l) (insert-inorder r)
    where
      go : (b : Bool) → inorder (insert K e l) ≡ take (place_of K e l) (inorder l) ++ (e ∷ drop (place_of K e l) (inorder l))
          → inorder (insert K e r) ≡ take (place_of K e r) (inorder r) ++ (e ∷ drop (place_of K e r) (inorder r))
          → inorder (elim b [ true ↦ branch d k (insert K e l) r | false ↦ branch d k l (insert K e r) ])
          ≡ take (cond b (place_of K e l) (count l + place_of K e r)) (inorder l ++ inorder r) ++ (e ∷ drop (cond b (place_of K e l) (count l + place_of K e r)) (inorder l ++ inorder r))
      go true hl hr =
          let p = place_inside l in
          rw (hl, take-append-le (place_of K e l) (inorder l) (inorder r) p, drop-append-le (place_of K e l) (inorder l) (inorder r) p)
          (append_assoc (take (place_of K e l) (inorder l)) (e ∷ drop (place_of K e l) (inorder l)) (inorder r))
      go false hl hr =
          rw (hr, take-append-add (inorder l) (inorder r) (place_of K e r), drop-append-add (inorder l) (inorder r) (place_of K e r))
          (sym (append_assoc (inorder l) (take (place_of K e r) (inorder r)) (e ∷ drop (place_of K e r) (inorder r))))

-- only the keys of the tree count
pub insert-agree : (K J J' : Keys) (e : ℕ) (t : Tree) → Ordered K t → ((d k : ℕ) → K.valid d k → J.below d k e ≡ J'.below d k e) → insert J e t ≡ insert J' e t
unfolding insert
insert-agree K J J' e (leaf es) o h = refl
insert-agree K J J' e (branch d k l r) o h =
    go (J.below d k e) (J'.below d k e) (h d k o.0.key) (insert-agree K J J' e l o.1 h) (insert-agree K J J' e r o.2 h)
  where
    go : (b c : Bool) → b ≡ c → insert J e l ≡ insert J' e l → insert J e r ≡ insert J' e r
        → ◌≡◌ {A = Tree} (elim b [ true ↦ branch d k (insert J e l) r | false ↦ branch d k l (insert J e r) ]) (elim c [ true ↦ branch d k (insert J' e l) r | false ↦ branch d k l (insert J' e r) ])
    go true c z il ir = rw (← z, il)
    go false c z il ir = rw (← z, ir)

-- ---- the least of a list with one number more
least-cons : (f : ℕ → ℕ) (x : ℕ) (ys : List ℕ) → 0 < length ys → least f (x ∷ ys) ≡ min (f x) (least f ys)
unfolding least least_of
least-cons f x [] h = absurd (omega arith)
least-cons f x (y ∷ ys) h = refl

pub length-put : (p e : ℕ) (es : List ℕ) → length (put_at p e es) ≡ suc (length es)
unfolding put_at
length-put zero e es = refl
length-put (suc p) e [] = refl
length-put (suc p) e (x ∷ es) = ap suc (length-put p e es)

least-single : (f : ℕ → ℕ) (x : ℕ) → least f (x ∷ []) ≡ f x
unfolding least least_of
least-single f x = refl

pub least-put : (f : ℕ → ℕ) (p e : ℕ) (es : List ℕ) → 0 < length es → least f (put_at p e es) ≡ min (least f es) (f e)
unfolding put_at
least-put f p e [] h = absurd (omega arith)
least-put f zero e (x ∷ es) h = omega (arith, least-cons f e (x ∷ es) (omega arith))
least-put f (suc zero) e (x ∷ []) h = omega (arith, least-cons f x (e ∷ []) (omega arith), least-single f x, least-single f e)
least-put f (suc (suc p)) e (x ∷ []) h = omega (arith, least-cons f x (e ∷ []) (omega arith), least-single f x, least-single f e)
least-put f (suc p) e (x ∷ y ∷ es) h =
    omega (arith, least-cons f x (put_at p e (y ∷ es)) (omega (arith, length-put p e (y ∷ es))), least-cons f x (y ∷ es) (omega arith), least-put f p e (y ∷ es) (omega arith))

pub least-one : (f : ℕ → ℕ) (p e : ℕ) (es : List ℕ) → length es ≡ 0 → least f (put_at p e es) ≡ f e
unfolding put_at least least_of
least-one f zero e [] h = refl
least-one f (suc p) e [] h = refl
least-one f p e (x ∷ es) h = absurd (omega arith)
