-- A node is opened: the returns of `split_node`. Assumes nothing.
use mathlib.Core.Path.{◌≡◌, refl, sym, ap, ◌∙◌}
use mathlib.Core.Bool.{Bool, true, false, not, cond}
use mathlib.Core.Option.{Option, none, some}
use Rattle.std.specs.Prelude.{Some, None}
use mathlib.Core.List.{List, [], ◌∷◌}
use Prim.Native.Nat.{ℕ, zero, suc, ◌+◌, ◌*◌, ◌%◌, ◌≤◌, ◌<◌}
use native.Mathlib.Omega.{arith}
use lib.Dec.{ltb}
use lib.ListN.{length, get_or}
use borrow.Author.Tests.{lt-ltb, le-ltb}
use Rattle.words.specs.Words.{words}
use Rattle.words.proofs.Laws.{length-words}
use Rattle.kd_theory.specs.Bag.{◌∈◌, occurs, keep}
use Rattle.kd_theory.specs.Bifurcate.{least_of, greatest_of, least, greatest, average, cut, try_from, bifurcate, mark_number, first_least, ratio_key, ratio_mark}
use Rattle.kd_theory.specs.Tree.{Tree, leaf, branch, Split, split_root, split_leaf, limit}
use Rattle.kd_theory.proofs.BagLaws.{here, there, true-false, keep-holds}
use Rattle.fast_compare.specs.Map as map
use Rattle.index_theory.specs.Entries.{Entry, entry_at, ratio_of}
use Rattle.index_theory.specs.State.{Kind, monomials, ratioed, State, power_in, label_of, ratios_of, split_of}
use Rattle.index_theory.specs.Searches.{split}
use Rattle.index_image.specs.Shape as at
use Rattle.index_image.specs.Walk as walk
use Rattle.index_image.specs.Layout.{code}
use Rattle.index_image.specs.Walk.{power, label, dims}
use Rattle.index_image.specs.Rows.{entries_from}
use Rattle.index_image.specs.declared.Shape.{Shape}
use Rattle.index_image.proofs.Trees.{some-node, nodes-leaf}
use Rattle.kd_dimension.specs.declared.Average.{Average}
use Rattle.kd_image.specs.HasTree.{HasTree, Became}
use Rattle.kd_split.specs.Split.{RootBranch, RootSplitAs, RootSplit}
use Rattle.kd_dimension.specs.Choice.{key_by, least_place, mark_by, key_in, mark_in, Chose}
use Rattle.kd_split.specs.Split.{Standing, Splittable, SplitAt}
use Rattle.kd_sides.specs.Sides.{on_side}
use Rattle.kd_image.proofs.Standing.{based, node-next, row_inside, Row, leaf-row, ordered-small}
use Rattle.kd_image.proofs.Becoming.{became-refl, parts}
use Rattle.kd_dimension.proofs.Choosing.{by-plain}
use Rattle.kd_sides.proofs.Parting.{mark-by-plain, mark-by-power, mark-by-entry}
use Rattle.kd_image.proofs.Reading.{holds-ready, power-of, kind-one, label-of-entry}

-- ---- what a split depends on: the keys of the leaf's entries, and the marks
least_of-ext : (f g : ℕ → ℕ) (x : ℕ) (xs : List ℕ) → ((e : ℕ) → e ∈ (x ∷ xs) → f e ≡ g e) → least_of f x xs ≡ least_of g x xs
unfolding least_of
least_of-ext f g x [] h = h x (here x [])
least_of-ext f g x (y ∷ ys) h = rw (h x (here x (y ∷ ys)), least_of-ext f g y ys (λ e m. h e (there e x (y ∷ ys) m))) refl

greatest_of-ext : (f g : ℕ → ℕ) (x : ℕ) (xs : List ℕ) → ((e : ℕ) → e ∈ (x ∷ xs) → f e ≡ g e) → greatest_of f x xs ≡ greatest_of g x xs
unfolding greatest_of
greatest_of-ext f g x [] h = h x (here x [])
greatest_of-ext f g x (y ∷ ys) h = rw (h x (here x (y ∷ ys)), greatest_of-ext f g y ys (λ e m. h e (there e x (y ∷ ys) m))) refl

least-ext : (f g : ℕ → ℕ) (xs : List ℕ) → ((e : ℕ) → e ∈ xs → f e ≡ g e) → least f xs ≡ least g xs
unfolding least
least-ext f g [] h = refl
least-ext f g (x ∷ xs) h = least_of-ext f g x xs h

greatest-ext : (f g : ℕ → ℕ) (xs : List ℕ) → ((e : ℕ) → e ∈ xs → f e ≡ g e) → greatest f xs ≡ greatest g xs
unfolding greatest
greatest-ext f g [] h = refl
greatest-ext f g (x ∷ xs) h = greatest_of-ext f g x xs h

keep-ext : (p q : ℕ → Bool) (xs : List ℕ) → ((e : ℕ) → e ∈ xs → p e ≡ q e) → keep p xs ≡ keep q xs
unfolding keep
keep-ext p q [] h = refl
keep-ext p q (x ∷ xs) h = go (p x) (q x) (h x (here x xs)) (keep-ext p q xs (λ e m. h e (there e x xs m)))
  where
    go : (a b : Bool) → a ≡ b → keep p xs ≡ keep q xs → ◌≡◌ {A = List ℕ} (elim a [ true ↦ x ∷ keep p xs | false ↦ keep p xs ]) (elim b [ true ↦ x ∷ keep q xs | false ↦ keep q xs ])
    go true true e ih = rw ih refl
    go false false e ih = ih
    go true false e ih = true-false true refl e
    go false true e ih = true-false true refl (sym e)

module _ (f g : ℕ → ℕ → ℕ) (mf mg : ℕ → ℕ → List ℕ → ℕ) where
  cut-ext : (d m : ℕ) (es : List ℕ) → ((e : ℕ) → e ∈ es → f d e ≡ g d e) → ((xs : List ℕ) → ((e : ℕ) → e ∈ xs → e ∈ es) → mf d m xs ≡ mg d m xs) → cut f mf d m es ≡ cut g mg d m es
  unfolding cut
  cut-ext d m es h k =
      let a = keep-ext (λ e. ltb (f d e) m) (λ e. ltb (g d e) m) es (λ e i. rw (h e i) refl) in
      let b = keep-ext (λ e. not (ltb (f d e) m)) (λ e. not (ltb (g d e) m)) es (λ e i. rw (h e i) refl) in
      let w = k (keep (λ e. not (ltb (g d e) m)) es) (λ e i. (keep-holds (λ e. not (ltb (g d e) m)) e es i).1) in
      rw (a, b, w) refl

try-zero : (f : ℕ → ℕ → ℕ) (mk : ℕ → ℕ → List ℕ → ℕ) (D n : ℕ) (es : List ℕ) → try_from f mk D 0 n es ≡ none
unfolding try_from
try-zero f mk D n es = refl

pick : Bool → Split → Option Split → Option Split
pick true c r = some c
pick false c r = r

try-pick : (f : ℕ → ℕ → ℕ) (mk : ℕ → ℕ → List ℕ → ℕ) (D i n : ℕ) (es : List ℕ)
    → try_from f mk D (suc i) n es ≡ pick (ltb (least (f (n % D)) es) (greatest (f (n % D)) es))
    (cut f mk (n % D) (average (least (f (n % D)) es) (greatest (f (n % D)) es)) es) (try_from f mk D i (suc n) es)
unfolding try_from pick
try-pick f mk D i n es = go (ltb (least (f (n % D)) es) (greatest (f (n % D)) es)) (cut f mk (n % D) (average (least (f (n % D)) es) (greatest (f (n % D)) es)) es) (try_from f mk D i (suc n) es)
  where
    go : (b : Bool) (c : Split) (r : Option Split) → ◌≡◌ {A = Option Split} (elim b [ true ↦ some c | false ↦ r ]) (pick b c r)
    go true c r = refl
    go false c r = refl

-- the same keys and marks, the same split
try-ext : (f g : ℕ → ℕ → ℕ) (mf mg : ℕ → ℕ → List ℕ → ℕ) (D i n : ℕ) (es : List ℕ) → ((d e : ℕ) → e ∈ es → f d e ≡ g d e)
    → ((d m : ℕ) (xs : List ℕ) → ((e : ℕ) → e ∈ xs → e ∈ es) → mf d m xs ≡ mg d m xs)
    → try_from f mf D i n es ≡ try_from g mg D i n es
try-ext f g mf mg D zero n es h k = try-zero f mf D n es ∙ sym (try-zero g mg D n es)
try-ext f g mf mg D (suc i) n es h k =
    try-pick f mf D i n es
    ∙ rw (
      least-ext (f (n % D)) (g (n % D)) es (h (n % D)),
      greatest-ext (f (n % D)) (g (n % D)) es (h (n % D)),
      cut-ext f g mf mg (n % D) (average (least (g (n % D)) es) (greatest (g (n % D)) es)) es (h (n % D))
          (k (n % D) (average (least (g (n % D)) es) (greatest (g (n % D)) es))),
      try-ext f g mf mg D i (suc n) es h k,
    ) (sym (try-pick g mg D i n es))

-- ---- keys and marks by the state
skip-one : (z x y : ℕ) (ys : List ℕ) → z ∈ (x ∷ ys) → z ∈ (x ∷ y ∷ ys)
unfolding occurs
skip-one z x y ys i = omega (arith, i)

first_least-ext : (f g : ℕ → ℕ) (x : ℕ) (xs : List ℕ) → ((e : ℕ) → e ∈ (x ∷ xs) → f e ≡ g e) → first_least f x xs ≡ first_least g x xs
unfolding first_least
first_least-ext f g x [] h = refl
first_least-ext f g x (y ∷ ys) h =
    let hx = h x (here x (y ∷ ys)) in
    let hy = h y (there y x (y ∷ ys) (here y ys)) in
    let e : cond (ltb (f y) (f x)) y x ≡ cond (ltb (g y) (g x)) y x = rw (hx, hy) refl in
    ap (λ (z : ℕ). first_least f z ys) e ∙ first_least-ext f g (cond (ltb (g y) (g x)) y x) ys (λ z i. one_of z (ltb (g y) (g x)) i)
  where
    one_of : (z : ℕ) (b : Bool) → z ∈ (cond b y x ∷ ys) → f z ≡ g z
    one_of z true i = h z (there z x (y ∷ ys) i)
    one_of z false i = h z (skip-one z x y ys i)

-- a ratio index
module _ (es : List Entry) (l : map.State) (k : ℕ) (one : k ≡ 1) (pw : ℕ → ℕ → ℕ) (lb : ℕ → ℕ) where
  ratio-key : (d e : ℕ) → lb e ≡ label_of l (ratio_of (entry_at es e)) → ((v : ℕ) → pw v e ≡ power_in es v e) → ratio_key (ratios_of es l) d e ≡ key_by k pw lb d e
  unfolding key_by ratio_key
  ratio-key zero e h p = rw (one, key_by) (sym h)
  ratio-key (suc v) e h p = rw (one, key_by) (sym (p v))

  ratio-mark : (d m : ℕ) (xs : List ℕ) → ((e : ℕ) → e ∈ xs → lb e ≡ label_of l (ratio_of (entry_at es e))) → ratio_mark (ratios_of es l) d m xs ≡ mark_by k lb d m xs
  unfolding ratio_mark least_place
  ratio-mark zero m [] h = sym (mark-by-entry k lb 0 m [] one refl)
  ratio-mark zero m (x ∷ xs) h =
      first_least-ext (λ e. label_of l (ratio_of (entry_at es e))) lb x xs (λ e i. sym (h e i)) ∙ sym (mark-by-entry k lb 0 m (x ∷ xs) one refl)
  ratio-mark (suc v) m xs h = sym (mark-by-power k lb (suc v) m xs one (λ z. omega arith))

-- the split of a leaf, by the words
split-is : (st : State) (W : List ℕ) (s : Shape) (k lo rows n : ℕ) (es : List ℕ) → HasTree st W s k lo rows (leaf es) → split st n es ≡ try_from (key_in W s) (mark_in W s) (dims s) (dims s) n es
unfolding bifurcate key_in mark_in
split-is st W s k lo rows n es h = go st.kind refl
  where
    inside : (e : ℕ) → e ∈ es → e < s.entries
    inside e i = omega (arith, ordered-small st (leaf es) h.ordered e i, h.holds.size)

    go : (kd : Kind) → st.kind ≡ kd → split_of kd st.variables st.entries st.labels n es ≡ try_from (key_in W s) (mark_in W s) (dims s) (dims s) n es
    go monomials e =
        let z : s.kind ≡ 0 = h.holds.kind ∙ ap code e in
        let m : st.variables ≡ dims s = omega (arith, h.holds.vars, z) in
        ap (λ (m : ℕ). try_from (power_in st.entries) mark_number m m n es) m
        ∙ try-ext (power_in st.entries) (key_in W s) mark_number (mark_in W s) (dims s) (dims s) n es
        (λ d e i. sym (by-plain s.kind (power W s) (label W s) d e z ∙ power-of st W s h.holds d e (inside e i)))
        (λ d m xs i. sym (mark-by-plain s.kind (label W s) d m xs z))
    go ratioed e =
        let z : s.kind ≡ 1 = kind-one st W s h.holds e in
        let m : st.variables + 1 ≡ dims s = omega (arith, h.holds.vars, z) in
        ap (λ (m : ℕ). try_from (ratio_key (ratios_of st.entries st.labels)) (ratio_mark (ratios_of st.entries st.labels)) m m n es) m
        ∙ try-ext (ratio_key (ratios_of st.entries st.labels)) (key_in W s) (ratio_mark (ratios_of st.entries st.labels)) (mark_in W s) (dims s) (dims s) n es
        (λ d x i. ratio-key st.entries st.labels s.kind z (power W s) (label W s) d x (label-of-entry st W s h.holds e x (inside x i)) (λ v. power-of st W s h.holds v x (inside x i)))
        (λ d m xs i. ratio-mark st.entries st.labels s.kind z (power W s) (label W s) d m xs (λ x j. label-of-entry st W s h.holds e x (inside x (i x j))))

-- ---- the node that is there
module _ (bs : List ℕ) (s : Shape) (k lo rows : ℕ) where
  abbrev W : List ℕ
  W = words bs

  leaf-of : (st : State) (es : List ℕ) → HasTree st (words bs) s k lo rows (leaf es) → Row (words bs) s.variables st.map_maxima (power_in st.entries) (at.node_at s k) 0 0 0 es
  leaf-of st es h = leaf-row st (words bs) s (based h.holds) k lo rows es (omega (arith, h.fits, nodes-leaf es)) h.rows-to h.stands

  pub record NodeNumbers : Type 0 where
    pub range : at.InRange s
    pub row : k ≤ 8191
    pub room : 4 * (at.node_at s k + (s.variables + 6)) ≤ length bs
    pub ready : walk.Ready (words bs) s
    pub rows-to : rows ≤ 8191

  pub node-numbers : Standing bs s k lo rows → NodeNumbers
  node-numbers w =
      let h = w.has in
      record {
        range = h.holds.range;
        row = omega (arith, h.fits, some-node w.tree, h.rows-to, h.holds.range.cap-to);
        room = omega (arith, node-next s k, row_inside w.state W s (based h.holds) (k + 1) rows (omega (arith, h.fits, some-node w.tree)) h.rows-to, length-words bs);
        ready = holds-ready w.state W s h.holds;
        rows-to = omega (arith, h.rows-to, h.holds.range.cap-to);
      }

  -- a branch stays as it is
  pub node-branch : (dim : ℕ) → (get_or (words bs) (at.node_at s k) 0 ≡ 0 → ⊥) → RootSplit bs bs s dim k lo rows (Some rows)
  unfolding RootSplit RootSplitAs split_root
  node-branch dim z st t h = go t h
    where
      go : (t : Tree) → HasTree st (words bs) s k lo rows t → RootBranch st bs bs s dim k lo rows t rows
      go (leaf es) h = absurd (z (leaf-of st es h).tag_is)
      go (branch d key a b) h = record { d = d; key = key; less = a; other = b; split_root-is = refl; became = became-refl st s bs k lo rows (branch d key a b) h }

  module _ (z : get_or (words bs) (at.node_at s k) 0 ≡ 0) where
    -- which leaf it is
    record IsLeaf (st : State) (t : Tree) : Type 0 where
      es : List ℕ
      is : t ≡ leaf es
      has : HasTree st (words bs) s k lo rows (leaf es)
      count : get_or (words bs) (at.node_at s k + 2) 0 ≡ length es

    is_leaf : (st : State) (t : Tree) → HasTree st (words bs) s k lo rows t → IsLeaf st t
    is_leaf st (leaf es) h = record { es = es; is = refl; has = h; count = (leaf-of st es h).count-is }
    is_leaf st (branch d key a b) h = absurd (omega (arith, (parts st s (words bs) k lo rows d key a b h).here.tag_is))

    split_root-stays : (st : State) (dim : ℕ) (es : List ℕ) (b : Bool) (o : Option Split) → ltb 64 (length es) ≡ b → split st dim es ≡ o → split_root (split st) dim (leaf es) ≡ split_leaf es b o
    unfolding split_root limit
    split_root-stays st dim es b o e f = rw (e, f) refl

    leaf-false : (es : List ℕ) (o : Option Split) → split_leaf es false o ≡ leaf es
    unfolding split_leaf
    leaf-false es o = refl

    leaf-none : (es : List ℕ) → split_leaf es true none ≡ leaf es
    unfolding split_leaf
    leaf-none es = refl

    leaf-some : (es : List ℕ) (x : Split) → split_leaf es true (some x) ≡ branch x.dim x.key (leaf x.less) (leaf x.other)
    unfolding split_leaf
    leaf-some es x = refl

    as-none : (st : State) (dim : ℕ) (t : Tree) (l : IsLeaf st t) → split_root (split st) dim (leaf l.es) ≡ leaf l.es → RootSplitAs st bs bs s dim k lo rows t None
    unfolding RootSplitAs
    as-none st dim t l e = record { es = l.es; is = l.is; split_root-is = ap (split_root (split st) dim) l.is ∙ e; bytes = refl }

    pub node-short : (dim : ℕ) → get_or (words bs) (at.node_at s k + 2) 0 ≤ 64 → RootSplit bs bs s dim k lo rows None
    unfolding RootSplit
    node-short dim h st t w =
        let l = is_leaf st t w in
        as-none st dim t l (split_root-stays st dim l.es false (split st dim l.es) (le-ltb 64 (length l.es) (omega (arith, l.count))) refl ∙ leaf-false l.es (split st dim l.es))

    pub record LeafHere (c : ℕ) : Type 0 where
      pub few : lo + c ≤ s.entries
      pub is : c ≡ get_or (words bs) (at.node_at s k + 2) 0

    pub leaf-here : (c : ℕ) → c ≡ get_or (words bs) (at.node_at s k + 2) 0 → Standing bs s k lo rows → LeafHere c
    leaf-here c e w = let l = is_leaf w.state w.tree w.has in record { few = omega (arith, l.count, l.has.inside); is = e }

    module _ (c : ℕ) (ec : c ≡ get_or (words bs) (at.node_at s k + 2) 0) (many : 64 < c) (dim : ℕ) where
      entries-are : (st : State) (t : Tree) (l : IsLeaf st t) → entries_from (words bs) s lo c ≡ l.es
      entries-are st t l = let e : c ≡ length l.es = ec ∙ l.count in rw e l.has.stands.perm

      pub node-flat : Chose (key_in (words bs) s) (mark_in (words bs) s) (dims s) (dims s) dim (entries_from (words bs) s lo c) None → RootSplit bs bs s dim k lo rows None
      unfolding RootSplit Chose
      node-flat C st t w =
          let l = is_leaf st t w in
          let x : try_from (key_in (words bs) s) (mark_in (words bs) s) (dims s) (dims s) dim (entries_from (words bs) s lo c) ≡ none = C in
          let n : try_from (key_in (words bs) s) (mark_in (words bs) s) (dims s) (dims s) dim l.es ≡ none = rw (entries-are st t l) at x in
          as-none st dim t l (split_root-stays st dim l.es true none (lt-ltb 64 (length l.es) (omega (arith, l.count)))
          (split-is st (words bs) s k lo rows dim l.es l.has ∙ n) ∙ leaf-none l.es)

      record Chosen (a : Average) : Type 0 where
        is : try_from (key_in (words bs) s) (mark_in (words bs) s) (dims s) (dims s) dim (entries_from (words bs) s lo c) ≡ some
            (cut (key_in (words bs) s) (mark_in (words bs) s) a.dim a.value (entries_from (words bs) s lo c))
        small : a.dim < dims s

      chosen : (a : Average) → Chose (key_in (words bs) s) (mark_in (words bs) s) (dims s) (dims s) dim (entries_from (words bs) s lo c) (Some a) → Chosen a
      unfolding Chose
      chosen a C = record { is = C.0; small = C.1 }

      pub splittable : (a : Average) → Chose (key_in (words bs) s) (mark_in (words bs) s) (dims s) (dims s) dim (entries_from (words bs) s lo c) (Some a) → Standing bs s k lo rows → Splittable bs s k lo rows c a.dim
      splittable a C w =
          let l = is_leaf w.state w.tree w.has in
          record { state = w.state; es = l.es; has = l.has; count = ec ∙ l.count; many = many; dim = (chosen a C).small }

      cut-is : (d m : ℕ) (es : List ℕ) → branch (cut (key_in (words bs) s) (mark_in (words bs) s) d m es).dim (cut (key_in (words bs) s) (mark_in (words bs) s) d m es).key
          (leaf (cut (key_in (words bs) s) (mark_in (words bs) s) d m es).less) (leaf (cut (key_in (words bs) s) (mark_in (words bs) s) d m es).other)
          ≡ branch d (mark_in (words bs) s d m (keep (on_side (key_in (words bs) s) d m false) es)) (leaf (keep (on_side (key_in (words bs) s) d m true) es))
          (leaf (keep (on_side (key_in (words bs) s) d m false) es))
      unfolding cut on_side
      cut-is d m es = refl

      as-some : (st : State) (t : Tree) (d key : ℕ) (x y : Tree) (bs' : List ℕ) (n : ℕ) → split_root (split st) dim t ≡ branch d key x y
          → Became st bs bs' s k lo rows n t (branch d key x y) → RootSplitAs st bs bs' s dim k lo rows t (Some n)
      unfolding RootSplitAs
      as-some st t d key x y bs' n e b = record { d = d; key = key; less = x; other = y; split_root-is = e; became = b }

      pub node-split : (a : Average) → Chose (key_in (words bs) s) (mark_in (words bs) s) (dims s) (dims s) dim (entries_from (words bs) s lo c) (Some a) → (bs' : List ℕ) → SplitAt bs bs' s k lo rows a.dim a.value → RootSplit bs bs' s dim k lo rows (Some (rows + 2))
      unfolding RootSplit SplitAt
      node-split a C bs' S st t w =
          let l = is_leaf st t w in
          let es = l.es in
          let y : try_from (key_in (words bs) s) (mark_in (words bs) s) (dims s) (dims s) dim es ≡ some
          (cut (key_in (words bs) s) (mark_in (words bs) s) a.dim a.value es) = rw (entries-are st t l) at (chosen a C).is in
          let o : split_root (split st) dim t ≡ branch a.dim (mark_in (words bs) s a.dim a.value (keep (on_side (key_in (words bs) s) a.dim a.value false) es))
          (leaf (keep (on_side (key_in (words bs) s) a.dim a.value true) es)) (leaf (keep (on_side (key_in (words bs) s) a.dim a.value false) es)) =
          ap (split_root (split st) dim) l.is
          ∙ split_root-stays st dim es true (some (cut (key_in (words bs) s) (mark_in (words bs) s) a.dim a.value es))
          (lt-ltb 64 (length es) (omega (arith, l.count))) (split-is st (words bs) s k lo rows dim es l.has ∙ y)
          ∙ leaf-some es (cut (key_in (words bs) s) (mark_in (words bs) s) a.dim a.value es) ∙ cut-is a.dim a.value es in
          as-some st t a.dim _ _ _ bs' (rows + 2) o (turned l.is (S st es l.has))
        where
          turned : {t u v : Tree} → t ≡ u → Became st bs bs' s k lo rows (rows + 2) u v → Became st bs bs' s k lo rows (rows + 2) t v
          turned e b = rw e b
