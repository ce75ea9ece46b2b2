-- One step of the way: what the row at hand tells. Assumes nothing.
use mathlib.Core.Path.{◌≡◌, refl, sym, ap, ◌∙◌}
use mathlib.Core.Bool.{true, false, cond}
use mathlib.Core.List.{List, [], ◌++◌, append-nil}
use Prim.Native.Nat.{ℕ, zero, suc, ◌+◌, ◌-◌, ◌*◌, ◌≤◌, ◌<◌}
use native.Mathlib.Omega.{arith}
use native.Mathlib.Nat.{suc-mul}
use lib.Dec.{ltb, eqb}
use lib.ListN.{length, get_or, get_or-append, length-append}
use borrow.Author.Tests.{eq-eqb, ne_eqb}
use Rattle.words.specs.Words.{words}
use Rattle.words.specs.Tables.{part}
use Rattle.words.proofs.Laws.{length-words}
use Rattle.words.proofs.Tables.{part-append, part-get, row_fits}
use Rattle.monomial.specs.Monomial.{pow}
use Rattle.kd_theory.specs.Tree.{Tree, leaf, branch, inorder, nodes, count, Keys, insert}
use Rattle.kd_theory.proofs.FixedLaws.{added, added-nodes}
use Rattle.index_image.specs.Layout.{node_words, tree_words}
use Rattle.index_image.specs.Shape as at
use Rattle.index_image.specs.Walk as walk
use Rattle.index_image.specs.Walk.{map_maxima, row_in, KeyOk}
use Rattle.index_image.specs.declared.Shape.{Shape}
use Rattle.index_image.proofs.Bounds.{size_small}
use Rattle.index_image.proofs.Encoding.{node-length, tree-length}
use Rattle.index_image.proofs.Trees.{some-node, nodes-branch}
use Rattle.kd_descent.specs.Growing.{below_in, Keyed, way_of, below_key, Growth, keys}
use Rattle.kd_descent.specs.declared.Way.{Way}
use Rattle.kd_descent.specs.declared.Way.TheVariants.{Leaf, On}
use Rattle.kd_descent.proofs.Grown.{RowIs, row_is}

-- ---- an insert adds no node
pub insert-nodes : (K : Keys) (e : ℕ) (t : Tree) → nodes (insert K e t) ≡ nodes t
insert-nodes K e t = added-nodes K e t (insert K e t) (added K e t)

-- ---- the two tests of a key
pub below-ratio : (W : List ℕ) (s : Shape) (lm : List ℕ) (lab tag key x : ℕ) → tag ≡ s.kind → x ≡ walk.label W s key → ltb lab x ≡ below_key W s lm lab tag key
unfolding below_key
below-ratio W s lm lab tag key x e ex = rw (eq-eqb tag s.kind e, ex)

pub below_power : (W : List ℕ) (s : Shape) (lm : List ℕ) (lab tag key x : ℕ) → (tag ≡ s.kind → ⊥) → x ≡ pow 1 lm (tag - 1 - s.kind) → ltb x key ≡ below_key W s lm lab tag key
unfolding below_key
below_power W s lm lab tag key x e ex = rw (ne_eqb tag s.kind e, ex)

-- ---- the first row of a tree
unfoldable pub tag_of : Tree → ℕ
tag_of (leaf es) = 0
tag_of (branch d k l r) = suc d

unfoldable pub key_of : Tree → ℕ
key_of (leaf es) = 0
key_of (branch d k l r) = k

unfoldable pub skip_of : Tree → ℕ
skip_of (leaf es) = 0
skip_of (branch d k l r) = nodes l

module _ (m : ℕ) (xs : List ℕ) (pw : ℕ → ℕ → ℕ) where
  -- the rows behind the first
  unfoldable pub rest_of : Tree → List ℕ
  rest_of (leaf es) = []
  rest_of (branch d k l r) = tree_words m xs pw l ++ tree_words m xs pw r

  pub tree-row : (t : Tree) → tree_words m xs pw t ≡ node_words m xs pw (tag_of t) (key_of t) (skip_of t) (inorder t) ++ rest_of t
  unfolding tree_words tag_of key_of skip_of rest_of
  tree-row (leaf es) = sym (append-nil (node_words m xs pw 0 0 0 es))
  tree-row (branch d k l r) = refl

  pub root-count : (t : Tree) → get_or (tree_words m xs pw t) 2 0 ≡ count t
  unfolding tree_words node_words
  root-count (leaf es) = refl
  root-count (branch d k l r) = refl

  pub rest-branch : (d k : ℕ) (l r : Tree) → rest_of (branch d k l r) ≡ tree_words m xs pw l ++ tree_words m xs pw r
  unfolding rest_of
  rest-branch d k l r = refl

suc-le : (n w : ℕ) → 1 ≤ n → w ≤ n * w
suc-le zero w h = absurd (omega arith)
suc-le (suc n) w h = omega (arith, suc-mul n w)

-- where row k is
pub record Spot (s : Shape) (k : ℕ) : Type 0 where
  pub fits : at.node_at s k + (at.node_width s.variables) ≤ at.size s
  pub small : at.size s ≤ 1413206

pub spot : (s : Shape) → at.InRange s → (k : ℕ) → k < s.nodes → Spot s k
spot s R k h = record { fits = omega (arith, row_fits k (2 * s.capacity - 1) (at.node_width s.variables) (omega (arith, R.nodes-to))); small = size_small s R }

module _ (bs : List ℕ) (s : Shape) (R : at.InRange s) (room : 4 * at.size s ≤ length bs) {lm : List ℕ} {lab k : ℕ} (g : Growth (words bs) s lm lab k) where
  abbrev W : List ℕ
  W = words bs

  abbrev m : ℕ
  m = s.variables

  abbrev xs : List ℕ
  xs = map_maxima W s

  abbrev pw : ℕ → ℕ → ℕ
  pw = g.power

  abbrev i : ℕ
  i = at.node_at s k

  pub in_rows : k < s.nodes
  in_rows = omega (arith, g.inside, some-node g.tree)

  pub spot-here : Spot s k
  spot-here = spot s R k in_rows

  pub row_room : 4 * (at.node_at s k + at.node_width s.variables) ≤ length bs
  row_room = omega (arith, spot-here.fits, room)

  long : (t : Tree) → length (tree_words m xs pw t) ≡ nodes t * (at.node_width m)
  long t = tree-length m xs pw R.vars-to g.power-absent t

  wide : (tag key skip : ℕ) (es : List ℕ) → length (node_words m xs pw tag key skip es) ≡ m + 6
  wide tag key skip es = node-length m xs pw R.vars-to g.power-absent tag key skip es

  fit : i + (at.node_width m) ≤ length W
  fit = omega (arith, spot-here.fits, length-words bs)

  pub record Here (t : Tree) : Type 0 where
    pub row : RowIs m xs pw R.vars-to g.power_small g.power-absent W i (tag_of t) (key_of t) (skip_of t) (inorder t)
    pub row_words : part W i (at.node_width m) ≡ node_words m xs pw (tag_of t) (key_of t) (skip_of t) (inorder t)
    pub rest : part W (i + at.node_width m) (length (rest_of m xs pw t)) ≡ rest_of m xs pw t

  here-at : (t : Tree) → part W i (nodes t * at.node_width m) ≡ tree_words m xs pw t → Here t
  here-at t e =
      let row = node_words m xs pw (tag_of t) (key_of t) (skip_of t) (inorder t) in
      let rest = rest_of m xs pw t in
      let n : nodes t * (at.node_width m) ≡ (at.node_width m) + length rest = sym (long t) ∙ ap length (tree-row m xs pw t) ∙ length-append row rest
      ∙ omega (arith, wide (tag_of t) (key_of t) (skip_of t) (inorder t)) in
      let z = (part-append W i (at.node_width m) (length rest) row rest fit (wide (tag_of t) (key_of t) (skip_of t) (inorder t))).0 (ap (part W i) (sym n) ∙ e ∙ tree-row m xs pw t) in
      record { row = row_is m xs pw R.vars-to g.power_small g.power-absent W i (tag_of t) (key_of t) (skip_of t) (inorder t) fit z.0; row_words = z.0; rest = z.1 }

  pub here : Here g.tree
  here = here-at g.tree g.rows

  -- ---- a leaf
  pub leaf-way : (tag x : ℕ) → tag ≡ get_or W i 0 → tag ≡ 0 → x ≡ get_or W (i + 2) 0 → ◌≡◌ {A = Way} (Leaf x) (way_of (keys g) g.entry g.tree)
  unfolding way_of tag_of
  leaf-way tag x et ez ex = go g.tree here
    where
      go : (t : Tree) → Here t → ◌≡◌ {A = Way} (Leaf x) (way_of (keys g) g.entry t)
      go (leaf es) h = let q : x ≡ length es = ex ∙ h.row.count-is in rw q
      go (branch d key l r) h = absurd (let z : suc d ≡ 0 = sym h.row.tag_is ∙ sym et ∙ ez in omega arith)

  -- ---- a branch
  pub record AtBranch : Type 0 where
    pub dim : ℕ
    pub key : ℕ
    pub less : Tree
    pub other : Tree
    pub is : g.tree ≡ branch dim key less other
    pub dim-ok : dim < walk.dims s
    pub key-ok : KeyOk s.kind s.entries dim key
    pub tag_is : get_or W i 0 ≡ suc dim
    pub key-is : get_or W (i + 1) 0 ≡ key
    pub skip_is : get_or W (i + 3) 0 ≡ nodes less
    pub passed : get_or W (at.count_at (i + at.node_width m)) 0 ≡ count less
    pub two : k + 2 ≤ s.nodes

  pub at-branch : (get_or W i 0 ≡ 0 → ⊥) → AtBranch
  unfolding tag_of key_of skip_of Keyed
  at-branch nz = go g.tree refl here g.keyed g.inside
    where
      go : (t : Tree) → g.tree ≡ t → Here t → Keyed s t → k + nodes t ≤ s.nodes → AtBranch
      go (leaf es) e h kd n = absurd (nz h.row.tag_is)
      go (branch d key l r) e h kd n =
          let a = tree_words m xs pw l in
          let b = tree_words m xs pw r in
          let la : length a ≡ nodes l * (at.node_width m) = long l in
          let sl = suc-le (nodes l) (at.node_width m) (some-node l) in
          let rest : part W (i + at.node_width m) (length (rest_of m xs pw (branch d key l r))) ≡ rest_of m xs pw (branch d key l r) = h.rest in
          let lr : length (rest_of m xs pw (branch d key l r)) ≡ length a + length b = ap length (rest-branch m xs pw d key l r) ∙ length-append a b in
          let e8 : i + (at.node_width m) + 2 ≡ at.count_at (i + at.node_width m) = omega arith in
          let two : get_or W (at.count_at (i + at.node_width m)) 0 ≡ get_or (rest_of m xs pw (branch d key l r)) 2 0 =
          ap (λ (j : ℕ). get_or W j 0) (sym e8) ∙ sym (part-get W (i + at.node_width m) (length (rest_of m xs pw (branch d key l r))) 2 (omega arith)) ∙ ap (λ (x : List ℕ). get_or x 2 0) rest in
          record {
            dim = d;
            key = key;
            less = l;
            other = r;
            is = e;
            dim-ok = kd.0.0;
            key-ok = kd.0.1;
            tag_is = h.row.tag_is;
            key-is = h.row.key-is;
            skip_is = h.row.skip_is;
            passed = two ∙ ap (λ (x : List ℕ). get_or x 2 0) (rest-branch m xs pw d key l r) ∙ get_or-append a b 0 2 (omega arith) ∙ root-count m xs pw l;
            two = omega (arith, nodes-branch d key l r, some-node l);
          }

  module _ (B : AtBranch) where
    -- ---- the test of its key is the test of the entry
    test : (x : ℕ) → s.kind ≡ x → (d key : ℕ) → KeyOk x s.entries d key
        → cond (eqb (suc d) x) (ltb lab (walk.label W s key)) (ltb (pow 1 lm (suc d - 1 - x)) key) ≡ below_in x pw g.label d key g.entry
    unfolding below_in KeyOk
    test zero ek d key ok =
        let e : suc d - 1 - 0 ≡ d = omega arith in
        rw (ne_eqb (suc d) 0 (λ z. omega arith), e, g.power-is d)
    test (suc y) ek zero key ok =
        let one : s.kind ≡ 1 = omega (arith, R.kind-to) in
        rw (eq-eqb 1 (suc y) (omega (arith, R.kind-to)), g.label_is one, g.labels-are one key ok)
    test (suc y) ek (suc v) key ok =
        let e : suc (suc v) - 1 - suc y ≡ v = omega (arith, R.kind-to) in
        rw (ne_eqb (suc (suc v)) (suc y) (λ z. omega (arith, R.kind-to)), e, g.power-is v)

    pub tested : (tag key : ℕ) → tag ≡ get_or W i 0 → key ≡ get_or W (i + 1) 0 → below_key W s lm lab tag key ≡ below_in s.kind pw g.label B.dim B.key g.entry
    unfolding below_key
    tested tag key et ek = rw (et ∙ B.tag_is, ek ∙ B.key-is) (test s.kind refl B.dim B.key B.key-ok)

    pub less-way : below_in s.kind pw g.label B.dim B.key g.entry ≡ true → ◌≡◌ {A = Way} (On 1 0) (way_of (keys g) g.entry g.tree)
    unfolding way_of
    less-way h = rw (B.is, h)

    pub other_way : (x y : ℕ) → below_in s.kind pw g.label B.dim B.key g.entry ≡ false → x ≡ get_or W (i + 3) 0 → y ≡ get_or W (at.count_at (i + at.node_width m)) 0
        → ◌≡◌ {A = Way} (On (1 + x) y) (way_of (keys g) g.entry g.tree)
    unfolding way_of
    other_way x y h ex ey =
        let e : 1 + x ≡ suc (nodes B.less) = omega (arith, B.skip_is) in
        rw (B.is, h, e, ey ∙ B.passed)

    -- what is asked of the test
    pub ratio-key : (tag key : ℕ) → tag ≡ get_or W i 0 → key ≡ get_or W (i + 1) 0 → tag ≡ s.kind → (key < s.capacity) × (row_in W s key < s.capacity)
    unfolding KeyOk
    ratio-key tag key et ek e = go s.kind refl B.dim B.key refl refl B.key-ok
      where
        go : (x : ℕ) → s.kind ≡ x → (d q : ℕ) → B.dim ≡ d → B.key ≡ q → KeyOk x s.entries d q → (key < s.capacity) × (row_in W s key < s.capacity)
        go zero ex d q ed eq ok = absurd (omega (arith, B.tag_is))
        go (suc y) ex zero q ed eq ok =
            let one : s.kind ≡ 1 = omega (arith, R.kind-to) in
            let z : key ≡ q = ek ∙ B.key-is ∙ eq in
            rw z (omega (arith, R.few), g.rows_in one q ok)
        go (suc y) ex (suc v) q ed eq ok = absurd (omega (arith, R.kind-to, B.tag_is))
