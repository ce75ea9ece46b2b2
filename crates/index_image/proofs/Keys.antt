-- Trees by the image's numbers and by the index's keys: the same words, the same order. Assumes nothing.
use mathlib.Core.Path.{◌≡◌, refl, sym, ◌∙◌}
use mathlib.Core.Bool.{Bool, true, false}
use mathlib.Core.List.{List, [], ◌∷◌, ◌++◌}
use mathlib.Core.Logic.Iff
use mathlib.Core.Logic.{◌↔◌}
use Prim.Native.Nat.{ℕ, zero, suc, ◌+◌, ◌-◌, ◌≤◌, ◌<◌}
use native.Mathlib.Omega.{arith}
use lib.Dec.{ltb}
use lib.ListN.{length}
use borrow.Author.Tests.{lt-ltb, ltb-true}
use Rattle.monomial.proofs.Powers.{monomial-ext}
use Rattle.divmask.proofs.Masks.{mask-ext}
use Rattle.fast_compare.specs.Map as map
use Rattle.kd_theory.specs.Bag.{◌∈◌, Some}
use Rattle.kd_theory.specs.Tree as tree
use Rattle.kd_theory.specs.Tree.{Tree, leaf, branch, inorder}
use Rattle.kd_theory.specs.Bifurcate.{least_of, least, below_ratio, Labelled}
use Rattle.kd_theory.proofs.BagLaws.{here, there, in_left, in_right, true-false}
use Rattle.kd_theory.proofs.TreeLaws.{some-length, ordered-good}
use Rattle.index_theory.specs.Entries.{Entry, entry_at, ratio_of}
use Rattle.index_theory.specs.State.{Kind, monomials, ratioed, power_in, label_of, ratios_of, keys_of}
use Rattle.index_image.specs.declared.Shape.{Shape}
use Rattle.index_image.specs.Layout.{code, gcd_powers, node_words, tree_words}
use Rattle.index_image.specs.Walk as walk
use Rattle.index_image.specs.Walk.{Below, KeyOk}

-- ---- the words of a tree's nodes depend on the powers of its entries alone
least_of-ext : (f g : ℕ → ℕ) (x : ℕ) (xs : List ℕ) → ((e : ℕ) → e ∈ (x ∷ xs) → f e ≡ g e) → least_of f x xs ≡ least_of g x xs
unfolding least_of
least_of-ext f g x [] h = h x (here x [])
least_of-ext f g x (y ∷ ys) h = rw (h x (here x (y ∷ ys)), least_of-ext f g y ys (λ e m. h e (there e x (y ∷ ys) m)))

least-ext : (f g : ℕ → ℕ) (xs : List ℕ) → ((e : ℕ) → e ∈ xs → f e ≡ g e) → least f xs ≡ least g xs
unfolding least
least-ext f g [] h = refl
least-ext f g (x ∷ xs) h = least_of-ext f g x xs h

module _ (m : ℕ) (xs : List ℕ) (pw pw' : ℕ → ℕ → ℕ) where
  node-words-ext : (tag key skip : ℕ) (es : List ℕ) → ((v e : ℕ) → e ∈ es → pw v e ≡ pw' v e)
      → node_words m xs pw tag key skip es ≡ node_words m xs pw' tag key skip es
  unfolding node_words gcd_powers
  node-words-ext tag key skip es h =
      let same : (v : ℕ) → gcd_powers pw es v ≡ gcd_powers pw' es v = λ v. least-ext (pw v) (pw' v) es (h v) in
      rw (mask-ext m xs (gcd_powers pw es) (gcd_powers pw' es) (λ v l. same v), monomial-ext 1 (gcd_powers pw es) (gcd_powers pw' es) same)

  pub tree-words-ext : (t : Tree) → ((v e : ℕ) → e ∈ inorder t → pw v e ≡ pw' v e) → tree_words m xs pw t ≡ tree_words m xs pw' t
  unfolding tree_words
  tree-words-ext (leaf es) h = node-words-ext 0 0 0 es h
  tree-words-ext (branch d k l r) h =
      rw (
        node-words-ext (suc d) k _ (inorder l ++ inorder r) h,
        tree-words-ext l (λ v e q. h v e (in_left e (inorder l) (inorder r) q)),
        tree-words-ext r (λ v e q. h v e (in_right e (inorder l) (inorder r) q)),
      )

-- ---- keys by numbers
pub key-ratio : (x n d k : ℕ) → KeyOk x n d k → suc d ≡ x → x ≤ 1 → k < n
unfolding KeyOk
key-ratio zero n d k o e h = absurd (omega arith)
key-ratio (suc x) n zero k o e h = o
key-ratio (suc x) n (suc d) k o e h = absurd (omega arith)

pub ratio-key : (x n d k : ℕ) → (suc d ≡ x → k < n) → x ≤ 1 → KeyOk x n d k
unfolding KeyOk
ratio-key zero n d k f h = tt
ratio-key (suc x) n zero k f h = f (omega arith)
ratio-key (suc x) n (suc d) k f h = tt

-- a list that is not empty has an element
pub some_of : (P : ℕ → Type 0) (es : List ℕ) → 0 < length es → ((e : ℕ) → e ∈ es → P e) → (e : ℕ) × P e
some_of P [] h f = absurd (omega arith)
some_of P (x ∷ xs) h f = (x, f x (here x xs))

module _ (pw : ℕ → ℕ → ℕ) (lb : ℕ → ℕ) where
  -- a key of the ratio
  pub below-ratio : (x d k e : ℕ) → x ≡ 1 → d ≡ 0 → Below x pw lb d k e ↔ (lb e < lb k)
  unfolding Below
  below-ratio x d k e h z = rw (h, z) Iff.rfl

  -- a key of a variable
  pub below-variable : (x d k e : ℕ) → x ≤ 1 → x ≤ d → Below x pw lb d k e ↔ (pw (d - x) e < k)
  unfolding Below
  below-variable zero d k e h l = let z : d - 0 ≡ d = omega arith in rw z Iff.rfl
  below-variable (suc x) zero k e h l = absurd (omega arith)
  below-variable (suc x) (suc d) k e h l = let z : suc d - suc x ≡ d = omega arith in rw z Iff.rfl

-- ---- keys, kind by kind
length_some : (xs : List ℕ) → 0 < length xs → Some xs
length_some [] h = absurd (omega arith)
length_some (x ∷ xs) h = (x, here x xs)

not-true : (b : Bool) → (b ≡ true → ⊥) → b ≡ false
not-true true h = absurd (h refl)
not-true false h = refl

-- what a test of two numbers decides
decides : (a b : ℕ) (t : Bool) → t ≡ ltb a b → (a < b) ↔ (t ≡ true)
decides a b t h = (λ l. h ∙ lt-ltb a b l, λ y. ltb-true a b (sym h ∙ y))

module _ (m : ℕ) (es : List Entry) (l : map.State) where
  -- entries are the places below the number of entries
  good-is : (k : Kind) (e : ℕ) → (e < length es) ↔ (keys_of k m es l).good e
  good-is monomials e = (λ h. h, λ h. h)
  good-is ratioed e = (λ h. h, λ h. h)

  -- which numbers are keys of a dimension
  valid-is : (k : Kind) (d key : ℕ) → ((d < m + code k) × KeyOk (code k) (length es) d key) ↔ (keys_of k m es l).valid d key
  unfolding KeyOk
  valid-is monomials d key = (λ h. omega (arith, h.0), λ h. (omega arith, tt))
  valid-is ratioed zero key = (λ h. h.1, λ h. (omega arith, h))
  valid-is ratioed (suc v) key = (λ h. h.0, λ h. (h, tt))

  -- which entries lie below a key, where powers and labels are the index's
  below-is : (k : Kind) (pw : ℕ → ℕ → ℕ) (lb : ℕ → ℕ)
      → ((v e : ℕ) → e < length es → pw v e ≡ power_in es v e)
      → (k ≡ ratioed → (e : ℕ) → e < length es → lb e ≡ label_of l (ratio_of (entry_at es e)))
      → (k ≡ ratioed → Labelled (ratios_of es l))
      → (d key e : ℕ) → (keys_of k m es l).valid d key → e < length es → Below (code k) pw lb d key e ↔ ((keys_of k m es l).below d key e ≡ true)
  unfolding Below below_ratio
  below-is monomials pw lb ep el agree d key e v h = decides (pw d e) key _ (rw (ep d e h))
  below-is ratioed pw lb ep el agree zero key e v h = decides (lb e) (lb key) _ (agree refl e key h v ∙ rw (el refl e h, el refl key v))
  below-is ratioed pw lb ep el agree (suc d) key e v h = decides (pw d e) key _ (rw (ep d e h))

-- ---- a tree in order by the image's numbers is in order by the index's keys, and back
module _ (k : Kind) (es : List Entry) (l : map.State) (s : Shape) (pw : ℕ → ℕ → ℕ) (lb : ℕ → ℕ)
    (ek : s.kind ≡ code k) (en : s.entries ≡ length es)
    (ep : (v e : ℕ) → e < length es → pw v e ≡ power_in es v e)
    (el : k ≡ ratioed → (e : ℕ) → e < length es → lb e ≡ label_of l (ratio_of (entry_at es e)))
    (agree : k ≡ ratioed → Labelled (ratios_of es l)) where
  abbrev K : tree.Keys
  K = keys_of k s.variables es l

  valid-key : (d key : ℕ) → ((d < walk.dims s) × KeyOk s.kind s.entries d key) ↔ K.valid d key
  valid-key d key = rw (ek, en) (valid-is s.variables es l k d key)

  below_key : (d key e : ℕ) → K.valid d key → e < length es → Below s.kind pw lb d key e ↔ (K.below d key e ≡ true)
  below_key d key e v h = rw ek (below-is s.variables es l k pw lb ep el agree d key e v h)

  -- the entries of a tree in order are places
  small-in : (t : Tree) → tree.Ordered K t → (e : ℕ) → e ∈ inorder t → e < length es
  small-in t h e m = (good-is s.variables es l k e).1 (ordered-good K t h e m)

  pub by-keys : (t : Tree) → ((e : ℕ) → e ∈ inorder t → e < length es) → walk.Ordered s pw lb t → tree.Ordered (keys_of k s.variables es l) t
  unfolding walk.Ordered
  by-keys (leaf places) small h = λ e m. (good-is s.variables es l k e).0 (small e m)
  by-keys (branch d key x y) small h =
      let v = (valid-key d key).0 (h.0.dim, h.0.key) in
      let small-x : (e : ℕ) → e ∈ inorder x → e < length es = λ e m. small e (in_left e (inorder x) (inorder y) m) in
      let small-y : (e : ℕ) → e ∈ inorder y → e < length es = λ e m. small e (in_right e (inorder x) (inorder y) m) in (
        record {
          key = v;
          less = λ e m. (below_key d key e v (small-x e m)).0 (h.0.less e m);
          other = λ e m. not-true _ (λ b. h.0.other e m ((below_key d key e v (small-y e m)).1 b));
          some-less = length_some (inorder x) h.0.some-less;
          some-other = length_some (inorder y) h.0.some-other;
        },
        by-keys x small-x h.1.0,
        by-keys y small-y h.1.1,
      )

  pub by-numbers : (t : Tree) → tree.Ordered (keys_of k s.variables es l) t → walk.Ordered s pw lb t
  unfolding walk.Ordered
  by-numbers (leaf places) h = tt
  by-numbers (branch d key x y) h =
      let v = h.0.key in
      let n = (valid-key d key).1 v in (
        record {
          dim = n.0;
          key = n.1;
          some-less = some-length (inorder x) h.0.some-less;
          some-other = some-length (inorder y) h.0.some-other;
          less = λ e m. (below_key d key e v (small-in x h.1 e m)).1 (h.0.less e m);
          other = λ e m b. true-false _ ((below_key d key e v (small-in y h.2 e m)).0 b) (h.0.other e m);
        },
        (by-numbers x h.1, by-numbers y h.2),
      )
