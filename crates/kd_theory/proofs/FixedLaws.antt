-- The tree is as the Rust fixes it.
-- Assumes nothing.
use mathlib.Core.Path.{◌≡◌, refl, sym, ◌∙◌}
use mathlib.Core.Bool.{Bool, true, false, not, cond}
use mathlib.Core.Option.{Option, none, some}
use mathlib.Core.List.{List, [], ◌∷◌, ◌++◌, append_assoc, append-nil}
use mathlib.Core.Logic.{◌⊎◌, inl, inr}
use Prim.Native.Nat.{ℕ, zero, suc, ◌+◌, ◌%◌, ◌<◌, ◌≤◌}
use native.Mathlib.Nat.{add-zero}
use native.Mathlib.Omega.{arith}
use lib.Dec.{ltb}
use lib.ListN.{length}
use borrow.Author.Tests.{ltb-true, ltb-false, le-ltb}
use Rattle.kd_theory.specs.Bag.{◌∈◌, Some, keep, Step, fold_until}
use Rattle.kd_theory.specs.Tree.{Keys, All, Tree, leaf, branch, inorder, count, nodes, Path, goes_less, goes_other, limit, child_from, Split, Out, insert, Ordered, split_leaf, split_root, side, then-other, visit, search_for, Splits, start, outcome}
use Rattle.kd_theory.specs.Bifurcate.{least, greatest, average, cut, try_from, bifurcate, Labelled, Ratios, ratio_key, ratio_mark, mark_number}
use Rattle.kd_theory.specs.Queries.{better, hit, largest, reducer}
use Rattle.kd_theory.specs.Fixed as fixed
use Rattle.kd_theory.specs.Fixed.{Dealt, done, to-less, to-other, Differ, FirstDiffering, Average, IsSplit, AverageKey, FirstSmallest, RatioKey, Grown, stays, splits, inside, Run, left_out, stopped, scanned, split-first, both-sides, Settled, at-most-64, in-less, in-other, Added, at-end, goes-less, goes-other, Placed}
use Rattle.kd_theory.proofs.BagLaws.{here, there, in_left, in_right, keep-in, keep-holds}
use Rattle.kd_theory.proofs.BifurcateLaws.{ends, least-le, greatest-le, all-equal, bifurcate-none, first-mark}
use Rattle.kd_theory.proofs.TreeLaws.{kept-split, fewer-less, fewer-other}
use Rattle.kd_theory.proofs.QueryLaws.{stands-in}

-- ---- a split
pub dealt-keep : (p : ℕ → Bool) (es : List ℕ) → Dealt p es (keep p es) (keep (λ e. not (p e)) es)
unfolding keep
dealt-keep p [] = done
dealt-keep p (x ∷ xs) = go (p x) refl (dealt-keep p xs)
  where
    go : (b : Bool) → p x ≡ b → Dealt p xs (keep p xs) (keep (λ e. not (p e)) xs)
        → Dealt p (x ∷ xs) (elim b [ true ↦ x ∷ keep p xs | false ↦ keep p xs ]) (elim (not b) [ true ↦ x ∷ keep (λ e. not (p e)) xs | false ↦ keep (λ e. not (p e)) xs ])
    go true w ih = to-less x xs _ _ w ih
    go false w ih = to-other x xs _ _ w ih

-- the key of a branch is the one that is meant
abbrev pub Keyed : (ℕ → Type 0) → (ℕ → ℕ → ℕ) → (ℕ → ℕ → List ℕ → ℕ → Type 0) → (ℕ → ℕ → List ℕ → ℕ) → Type 0
Keyed good key IsKey mark = (d m : ℕ) (es : List ℕ) → All good es → Some es → IsKey d m es (mark d m es)

module _ (good : ℕ → Type 0) (key : ℕ → ℕ → ℕ) (IsKey : ℕ → ℕ → List ℕ → ℕ → Type 0) (mark : ℕ → ℕ → List ℕ → ℕ) (keyed : Keyed good key IsKey mark) where
  same_ends : (d : ℕ) (es : List ℕ) → greatest (key d) es ≤ least (key d) es → Differ key d es → ⊥
  same_ends d es h w = omega (arith, w.smaller, all-equal (key d) es h w.one w.two w.one_in w.two_in)

  cut-is : (D n j : ℕ) (es : List ℕ) (d : ℕ) → j < D → d ≡ (n + j) % D → ((i : ℕ) → i < j → Differ key ((n + i) % D) es → ⊥) → All good es
      → least (key d) es < greatest (key d) es → IsSplit key IsKey D n es (cut key mark d (average (least (key d) es) (greatest (key d) es)) es)
  unfolding cut
  cut-is D n j es d few is equal gs h =
      let f = key d in
      let m = average (least f es) (greatest f es) in
      let lo = (ends f es h).0 in
      let hi = (ends f es h).1 in
      let is-other : ltb (f hi.0) m ≡ false = omega (arith, le-ltb, hi.2) in
      record {
        dim = record {
          passed = j;
          few = few;
          is = is;
          differ = record { one = lo.0; two = hi.0; one_in = lo.1; two_in = hi.1; smaller = omega (arith, lo.2, hi.2) };
          equal-before = equal;
        };
        mean = m;
        average = record {
          low = lo.0;
          high = hi.0;
          low-in = lo.1;
          high-in = hi.1;
          least = λ e w. omega (arith, lo.2, least-le f es e w);
          greatest = λ e w. omega (arith, hi.2, greatest-le f es e w);
          is = rw (lo.2, hi.2) refl;
        };
        sides = dealt-keep (λ e. ltb (f e) m) es;
        keyed = keyed d m (keep (λ e. not (ltb (f e) m)) es) (λ e w. gs e (keep-holds _ e es w).1) (hi.0, keep-in _ _ _ (rw is-other refl) hi.1);
      }

  try-is : (D n i j : ℕ) (es : List ℕ) → j + i ≡ D → ((x : ℕ) → x < j → Differ key ((n + x) % D) es → ⊥) → All good es
      → (s : Split) → try_from key mark D i (n + j) es ≡ some s → IsSplit key IsKey D n es s
  unfolding try_from
  try-is D n zero j es size equal gs s w = absurd (let z : ◌≡◌ {A = ℕ} 0 1 = cc in omega arith)
  try-is D n (suc i) j es size equal gs s w = go (ltb (least f es) (greatest f es)) refl w (try-is D n i (suc j) es (omega arith))
    where
      f : ℕ → ℕ
      f = key ((n + j) % D)

      one_more : greatest f es ≤ least f es → (x : ℕ) → x < suc j → Differ key ((n + x) % D) es → ⊥
      one_more h x l q = at (ltb x j) refl
        where
          at : (b : Bool) → ltb x j ≡ b → ⊥
          at true v = equal x (ltb-true x j v) q
          at false v = let z : x ≡ j = omega (arith, ltb-false x j v) in same_ends ((n + j) % D) es h (rw z at q)

      go : (b : Bool) → ltb (least f es) (greatest f es) ≡ b
          → elim b [ true ↦ some (cut key mark ((n + j) % D) (average (least f es) (greatest f es)) es) | false ↦ try_from key mark D i (suc (n + j)) es ] ≡ some s
          → (((x : ℕ) → x < suc j → Differ key ((n + x) % D) es → ⊥) → All good es → (s : Split) → try_from key mark D i (n + suc j) es ≡ some s → IsSplit key IsKey D n es s)
          → IsSplit key IsKey D n es s
      go true v w ih = let q : cut key mark ((n + j) % D) (average (least f es) (greatest f es)) es ≡ s = cc in rw q at (cut-is D n j es _ (omega arith) refl equal gs (ltb-true _ _ v))
      go false v w ih = let z : n + suc j ≡ suc (n + j) = omega arith in ih (one_more (ltb-false (least f es) (greatest f es) v)) gs s (rw z w)

  pub bifurcate-is : (D n : ℕ) (es : List ℕ) → All good es → (s : Split) → bifurcate key mark D n es ≡ some s → IsSplit key IsKey D n es s
  unfolding bifurcate
  bifurcate-is D n es gs s w = try-is D n D 0 es (omega arith) (λ x l. absurd (omega arith)) gs s (rw (add-zero n) w)

pub bifurcate-equal : (key : ℕ → ℕ → ℕ) (mark : ℕ → ℕ → List ℕ → ℕ) (D n : ℕ) (es : List ℕ) → bifurcate key mark D n es ≡ none
    → (d : ℕ) → d < D → Differ key d es → ⊥
bifurcate-equal key mark D n es w d h q = omega (arith, q.smaller, bifurcate-none key mark D n es w d h q.one q.two q.one_in q.two_in)

-- ---- keys
pub number-keyed : (good : ℕ → Type 0) (key : ℕ → ℕ → ℕ) → Keyed good key AverageKey mark_number
number-keyed good key d m es g h = refl

module _ (R : Ratios) (labelled : Labelled R) where
  pub ratio-keyed : Keyed R.good (ratio_key R) (RatioKey R) (ratio_mark R)
  unfolding ratio_mark
  ratio-keyed (suc v) m es g h = refl
  ratio-keyed zero m es g h =
      let k = ratio_mark R zero m es in
      let w = first-mark R m es h in
      let gk = g k (stands-in w.stands) in
      let at : (e : ℕ) → e ∈ w.stands.before → e ∈ es = λ e l. rw w.stands.cut (in_left e w.stands.before (k ∷ w.stands.behind) l) in
      let on : (e : ℕ) → e ∈ w.stands.behind → e ∈ es = λ e l. rw w.stands.cut (in_right e w.stands.before (k ∷ w.stands.behind) (there e k w.stands.behind l)) in
      record {
        stands = w.stands;
        so = tt;
        before-smaller = λ e l u. labelled k e gk (g e (at e l)) ∙ w.before-smaller e l refl;
        behind-no-larger = λ e l u. labelled e k (g e (on e l)) gk ∙ w.behind-no-larger e l refl;
      }

-- ---- a search
module _ (K : Keys) (split : ℕ → List ℕ → Option Split) (laws : Splits K split) (Is : ℕ → List ℕ → Split → Type 0)
    (is : (n : ℕ) (es : List ℕ) → All K.good es → (s : Split) → split n es ≡ some s → Is n es s)
    {A : Type 0} (disc : ℕ → ℕ → List ℕ → Path) (proc : A → ℕ → Step A) where
  record Sided (d k : ℕ) (l r t : Tree) : Type 0 where
    left : Tree
    right : Tree
    made : t ≡ branch d k left right
    less : Grown Is (suc d) l left
    other : Grown Is (suc d) r right

  grown-side : (b : Bool) (go : Tree → A → Out A) (n : ℕ) (t : Tree) (a : A) → ((a : A) → Grown Is n t (go t a).tree) → Grown Is n t (side b go t a).tree
  unfolding side
  grown-side true go n t a h = h a
  grown-side false go n t a h = stays n t

  sided-then : (b : Bool) (d k : ℕ) (go : Tree → A → Out A) (l l' r : Tree) (a : A) → Grown Is (suc d) l l' → ((a : A) → Grown Is (suc d) r (go r a).tree)
      → Sided d k l r (then-other b d k go l' r a).tree
  unfolding then-other
  sided-then true d k go l l' r a g h = record { left = l'; right = (go r a).tree; made = refl; less = g; other = h a }
  sided-then false d k go l l' r a g h = record { left = l'; right = r; made = refl; less = g; other = stays (suc d) r }

  sided-visit : (go : ℕ → Tree → A → Out A) → ((n : ℕ) (t : Tree) (a : A) → Ordered K t → Grown Is n t (go n t a).tree)
      → (d k : ℕ) (l r : Tree) (a : A) → Ordered K (branch d k l r) → Sided d k l r (visit disc proc go (branch d k l r) a).tree
  unfolding visit child_from
  sided-visit go ih d k l r a h =
      sided-then _ d k _ l _ r _
      (grown-side _ (go (child_from d)) (suc d) l a (λ a'. ih (child_from d) l a' h.1))
      (λ a'. grown-side _ (go (child_from d)) (suc d) r a' (λ a''. ih (child_from d) r a'' h.2))

  pub grown-search : (f n : ℕ) (t : Tree) (a : A) → Ordered K t → Grown Is n t (search_for split disc proc f n t a).tree
  unfolding search_for split_root split_leaf visit limit
  grown-search zero n t a h = stays n t
  grown-search (suc f) n (branch d k l r) a h =
      let s = sided-visit (search_for split disc proc f) (grown-search f) d k l r a h in
      rw s.made (inside n d k l r s.left s.right s.less s.other)
  grown-search (suc f) n (leaf es) a h = go (grown-search f) (kept-split K split laws n (leaf es) h).ordered (ltb limit (length es)) refl (split n es) refl
    where
      go : ((n : ℕ) (t : Tree) (a : A) → Ordered K t → Grown Is n t (search_for split disc proc f n t a).tree) → Ordered K (split_root split n (leaf es))
          → (b : Bool) → ltb 64 (length es) ≡ b → (o : Option Split) → split n es ≡ o
          → Grown Is n (leaf es) (visit disc proc (search_for split disc proc f) (split_leaf es b o) a).tree
      go ih w false v o e = stays n (leaf es)
      go ih w true v none e = stays n (leaf es)
      go ih w true v (some x) e =
          let s = sided-visit (search_for split disc proc f) ih x.dim x.key (leaf x.less) (leaf x.other) a (rw (v, e) at w) in
          rw s.made (splits n es x s.left s.right (ltb-true limit (length es) v) (is n es h x e) s.less s.other)

-- ---- the leaf in which an answer stands
-- a processor that answers what it had or the entry at hand
abbrev pub Picks : (Option ℕ → ℕ → Step (Option ℕ)) → Type 0
Picks proc = (a : Option ℕ) (e b : ℕ) → (proc a e).acc ≡ some b → (a ≡ some b) ⊎ (b ≡ e)

module _ (key : ℕ → ℕ → ℕ) (D : ℕ) (split : ℕ → List ℕ → Option Split) (equal-in : (n : ℕ) (es : List ℕ) → split n es ≡ none → (d : ℕ) → d < D → Differ key d es → ⊥)
    (disc : ℕ → ℕ → List ℕ → Path) (proc : Option ℕ → ℕ → Step (Option ℕ)) (picks : Picks proc) (b : ℕ) where
  fold-picks : (s : Step (Option ℕ)) (es : List ℕ) → (fold_until proc s es).acc ≡ some b → (s.acc ≡ some b) ⊎ (b ∈ es)
  unfolding fold_until
  fold-picks s [] h = inl h
  fold-picks s (x ∷ xs) h = go s.on h (fold-picks (proc s.acc x) xs)
    where
      from : ((proc s.acc x).acc ≡ some b) ⊎ (b ∈ xs) → (s.acc ≡ some b) ⊎ (b ∈ (x ∷ xs))
      from (inr m) = inr (there b x xs m)
      from (inl e) = at (picks s.acc x b e)
        where
          at : (s.acc ≡ some b) ⊎ (b ≡ x) → (s.acc ≡ some b) ⊎ (b ∈ (x ∷ xs))
          at (inl w) = inl w
          at (inr w) = inr (rw w (here x xs))

      go : (t : Bool) → (elim t as (λ z. Step (Option ℕ)) [ true ↦ fold_until proc (proc s.acc x) xs | false ↦ s ]).acc ≡ some b
          → ((fold_until proc (proc s.acc x) xs).acc ≡ some b → ((proc s.acc x).acc ≡ some b) ⊎ (b ∈ xs)) → (s.acc ≡ some b) ⊎ (b ∈ (x ∷ xs))
      go true h ih = from (ih h)
      go false h ih = inl h

  -- what a search has answered: what it was given, or an entry of a leaf that needs no split
  abbrev Told : Option ℕ → Out (Option ℕ) → Type 0
  Told a o = o.acc ≡ some b → (a ≡ some b) ⊎ Settled key D b o.tree

  told-side : (t : Bool) (go : Tree → Option ℕ → Out (Option ℕ)) (u : Tree) (a : Option ℕ) → ((a : Option ℕ) → Told a (go u a)) → Told a (side t go u a)
  unfolding side
  told-side true go u a h = h a
  told-side false go u a h = λ e. inl e

  told-then : (t : Bool) (d k : ℕ) (go : Tree → Option ℕ → Out (Option ℕ)) (l r : Tree) (a c : Option ℕ) → (c ≡ some b → (a ≡ some b) ⊎ Settled key D b l)
      → ((a : Option ℕ) → Told a (go r a)) → Told a (then-other t d k go l r c)
  unfolding then-other
  told-then true d k go l r a c g h e = right (h c e)
    where
      left : (a ≡ some b) ⊎ Settled key D b l → (a ≡ some b) ⊎ Settled key D b (branch d k l (go r c).tree)
      left (inl w) = inl w
      left (inr w) = inr (in-less d k l _ w)

      right : (c ≡ some b) ⊎ Settled key D b (go r c).tree → (a ≡ some b) ⊎ Settled key D b (branch d k l (go r c).tree)
      right (inl w) = left (g w)
      right (inr w) = inr (in-other d k l _ w)
  told-then false d k go l r a c g h e = left (g e)
    where
      left : (a ≡ some b) ⊎ Settled key D b l → (a ≡ some b) ⊎ Settled key D b (branch d k l r)
      left (inl w) = inl w
      left (inr w) = inr (in-less d k l r w)

  told-branch : (go : ℕ → Tree → Option ℕ → Out (Option ℕ)) → ((n : ℕ) (t : Tree) (a : Option ℕ) → Told a (go n t a)) → (d k : ℕ) (l r : Tree) (a : Option ℕ) → Told a (visit disc proc go (branch d k l r) a)
  unfolding visit
  told-branch go ih d k l r a =
      told-then _ d k _ _ r a _ (told-side _ (go (child_from d)) l a (λ a'. ih (child_from d) l a')) (λ a'. told-side _ (go (child_from d)) r a' (λ a''. ih (child_from d) r a''))

  told-leaf : (go : ℕ → Tree → Option ℕ → Out (Option ℕ)) (es : List ℕ) → (b ∈ es → Settled key D b (leaf es)) → (a : Option ℕ) → Told a (visit disc proc go (leaf es) a)
  unfolding visit
  told-leaf go es h a e = at (fold-picks (start a) es e)
    where
      at : (a ≡ some b) ⊎ (b ∈ es) → (a ≡ some b) ⊎ Settled key D b (leaf es)
      at (inl w) = inl w
      at (inr m) = inr (h m)

  pub settled-search : (f n : ℕ) (t : Tree) (a : Option ℕ) → Told a (search_for split disc proc f n t a)
  unfolding search_for split_root split_leaf limit
  settled-search zero n t a = λ e. inl e
  settled-search (suc f) n (branch d k l r) a = told-branch (search_for split disc proc f) (settled-search f) d k l r a
  settled-search (suc f) n (leaf es) a = go (settled-search f) (ltb limit (length es)) refl (split n es) refl
    where
      go : ((n : ℕ) (t : Tree) (a : Option ℕ) → Told a (search_for split disc proc f n t a)) → (t : Bool) → ltb 64 (length es) ≡ t → (o : Option Split) → split n es ≡ o
          → Told a (visit disc proc (search_for split disc proc f) (split_leaf es t o) a)
      go ih false v o e = told-leaf _ es (λ m. at-most-64 es m (ltb-false limit (length es) v)) a
      go ih true v none e = told-leaf _ es (λ m. fixed.all-equal es m (equal-in n es e)) a
      go ih true v (some x) e = told-branch (search_for split disc proc f) ih x.dim x.key (leaf x.less) (leaf x.other) a

module _ (p : ℕ → Bool) where
  cond-picks : (t : Bool) (a : Option ℕ) (e b : ℕ) → cond t (some e) a ≡ some b → (a ≡ some b) ⊎ (b ≡ e)
  cond-picks true a e b h = inr cc
  cond-picks false a e b h = inl h

  pub hit-picks : Picks (hit p)
  unfolding hit
  hit-picks a e b h = cond-picks (p e) a e b h

  pub reducer-picks : (regular : ℕ → Bool) → Picks (reducer p regular)
  unfolding reducer
  reducer-picks regular a e b h = cond-picks (p e) a e b h

  pub largest-picks : {Val : Type 0} (above : Val → Val → Bool) (val : ℕ → Val) → Picks (largest p above val)
  unfolding largest better
  largest-picks above val none e b h = cond-picks (p e) none e b h
  largest-picks above val (some c) e b h = go (p e) (above (val e) (val c)) h
    where
      go : (t u : Bool) → cond t (some (cond u e c)) (some c) ≡ some b → (some c ≡ some b) ⊎ (b ≡ e)
      go true true h = inr cc
      go true false h = inl h
      go false u h = inl h

-- ---- the run
module _ {A : Type 0} (K : Keys) (key : ℕ → ℕ → ℕ) (D : ℕ) (split : ℕ → List ℕ → Option Split) (laws : Splits K split) (Is : ℕ → List ℕ → Split → Type 0)
    (is : (n : ℕ) (es : List ℕ) → All K.good es → (s : Split) → split n es ≡ some s → Is n es s)
    (equal-in : (n : ℕ) (es : List ℕ) → split n es ≡ none → (d : ℕ) → d < D → Differ key d es → ⊥)
    (disc : ℕ → ℕ → List ℕ → Path) (proc : A → ℕ → Step A) where
  abbrev Runs : Bool → ℕ → Tree → Step A → Out A → Type 0
  Runs b n t s o = Run key D Is disc proc b n t s o.tree (outcome o)

  run-side : (b : Bool) (go : Tree → A → Out A) (n : ℕ) (t : Tree) (a : A) → Runs true n t (start a) (go t a) → Runs b n t (start a) (side b go t a)
  unfolding side
  run-side true go n t a h = h
  run-side false go n t a h = left_out n t (start a)

  -- the other side, after the less side has left this
  record OtherRun (b : Bool) (d k : ℕ) (l r : Tree) (s : Step A) (o : Out A) : Type 0 where
    right : Tree
    made : o.tree ≡ branch d k l right
    ran : Run key D Is disc proc b (suc d) r s right (outcome o)

  run-then : (c b : Bool) (d k : ℕ) (go : Tree → A → Out A) (l r : Tree) (a : A) → ((a : A) → Runs b (suc d) r (start a) (go r a)) → OtherRun b d k l r (record { acc = a; on = c }) (then-other c d k go l r a)
  unfolding then-other
  run-then true b d k go l r a h = record { right = (go r a).tree; made = refl; ran = h a }
  run-then false b d k go l r a h = record { right = r; made = refl; ran = stopped b (suc d) r (record { acc = a; on = false }) refl }

  run-branch : (go : ℕ → Tree → A → Out A) (n d k : ℕ) (l r : Tree) (a : A) → ((n : ℕ) (a : A) → Runs true n l (start a) (go n l a)) → ((n : ℕ) (a : A) → Runs true n r (start a) (go n r a))
      → Runs true n (branch d k l r) (start a) (visit disc proc go (branch d k l r) a)
  unfolding visit child_from
  run-branch go n d k l r a hl hr =
      let p = disc d k (inorder l ++ inorder r) in
      let o = side (goes_less p) (go (suc d)) l a in
      let w = run-then o.on (goes_other p) d k (side (goes_other p) (go (suc d))) o.tree r o.acc (λ a'. run-side (goes_other p) (go (suc d)) (suc d) r a' (hr (suc d) a')) in
      rw w.made (both-sides n d k l r o.tree w.right a (outcome o) _ (run-side (goes_less p) (go (suc d)) (suc d) l a (hl (suc d) a)) w.ran)

  pub run-search : (f n : ℕ) (t : Tree) (a : A) → Ordered K t → count t < f → Runs true n t (start a) (search_for split disc proc f n t a)
  unfolding search_for split_root split_leaf limit visit
  run-search zero n t a h m = absurd (omega arith)
  run-search (suc f) n (branch d k l r) a h m =
      run-branch (search_for split disc proc f) n d k l r a
      (λ n' a'. run-search f n' l a' h.1 (omega (arith, fewer-less K d k l r h)))
      (λ n' a'. run-search f n' r a' h.2 (omega (arith, fewer-other K d k l r h)))
  run-search (suc f) n (leaf es) a h m =
      let o = kept-split K split laws n (leaf es) h in
      go (run-search f) o.ordered o.size (ltb limit (length es)) refl (split n es) refl
    where
      go : ((n : ℕ) (t : Tree) (a : A) → Ordered K t → count t < f → Runs true n t (start a) (search_for split disc proc f n t a)) → Ordered K (split_root split n (leaf es)) → length es ≡ count (split_root split n (leaf es))
          → (b : Bool) → ltb limit (length es) ≡ b → (o : Option Split) → split n es ≡ o
          → Runs true n (leaf es) (start a) (visit disc proc (search_for split disc proc f) (split_leaf es b o) a)
      go ih w c false v o e = scanned n es a (inl (ltb-false limit (length es) v))
      go ih w c true v none e = scanned n es a (inr (equal-in n es e))
      go ih w c true v (some x) e =
          let t = branch x.dim x.key (leaf x.less) (leaf x.other) in
          let w' : Ordered K t = rw (v, e) at w in
          let c' : length es ≡ count t = rw (v, e) at c in
          split-first n es x a _ _ (ltb-true limit (length es) v) (is n es h x e)
          (run-branch (search_for split disc proc f) n x.dim x.key (leaf x.less) (leaf x.other) a
          (λ n' a'. ih n' (leaf x.less) a' w'.1 (omega (arith, c', fewer-less K x.dim x.key (leaf x.less) (leaf x.other) w')))
          (λ n' a'. ih n' (leaf x.other) a' w'.2 (omega (arith, c', fewer-other K x.dim x.key (leaf x.less) (leaf x.other) w'))))

-- ---- an insert
module _ (K : Keys) (e : ℕ) where
  pub added : (t : Tree) → Added K e t (insert K e t)
  unfolding insert
  added (leaf es) = at-end es
  added (branch d k l r) = go (K.below d k e) refl (added l) (added r)
    where
      go : (b : Bool) → K.below d k e ≡ b → Added K e l (insert K e l) → Added K e r (insert K e r)
          → Added K e (branch d k l r) (elim b [ true ↦ branch d k (insert K e l) r | false ↦ branch d k l (insert K e r) ])
      go true w hl hr = goes-less d k l _ r w hl
      go false w hl hr = goes-other d k l r _ w hr

  -- where it stands in the order of the tree, and the number of nodes stays
  pub added-place : (t u : Tree) → Added K e t u → Placed e (inorder t) (inorder u)
  added-place _ _ (at-end es) = record { before = es; behind = []; was = sym (append-nil es); is = refl }
  added-place _ _ (goes-less d k l l' r w h) =
      let p = added-place l l' h in
      record {
        before = p.before;
        behind = p.behind ++ inorder r;
        was = rw p.was (append_assoc p.before p.behind (inorder r));
        is = rw p.is (append_assoc p.before (e ∷ p.behind) (inorder r));
      }
  added-place _ _ (goes-other d k l r r' w h) =
      let p = added-place r r' h in
      record {
        before = inorder l ++ p.before;
        behind = p.behind;
        was = rw p.was (sym (append_assoc (inorder l) p.before p.behind));
        is = rw p.is (sym (append_assoc (inorder l) p.before (e ∷ p.behind)));
      }

  pub added-nodes : (t u : Tree) → Added K e t u → nodes u ≡ nodes t
  unfolding nodes
  added-nodes _ _ (at-end es) = refl
  added-nodes _ _ (goes-less d k l l' r w h) = rw (added-nodes l l' h)
  added-nodes _ _ (goes-other d k l r r' w h) = rw (added-nodes r r' h)
