-- One image, one state. Assumes nothing.
use mathlib.Core.Path.{◌≡◌, refl, sym, ap, ◌∙◌}
use mathlib.Core.List.{List, [], ◌++◌}
use Prim.Native.Nat.{ℕ, suc, ◌*◌, ◌≤◌, ◌<◌}
use native.Mathlib.Omega.{arith}
use lib.ListN.{length, get_or}
use lib.Seq.{ext_get_or}
use Rattle.words.specs.Words.{words}
use Rattle.words.proofs.Tables.{same_left, same-right}
use Rattle.fast_compare.specs.Map as map
use Rattle.fast_compare.proofs.Exact as maps
use Rattle.kd_theory.specs.Tree.{Tree, leaf, branch, inorder, nodes, count}
use Rattle.index_theory.specs.Entries.{Entry, entry_at, one}
use Rattle.index_theory.specs.State.{Kind, monomials, ratioed, State, OfKind, LabelsOf, power_in}
use Rattle.index_image.specs.Layout.{code, shape_of, node_words, tree_words, Is}
use Rattle.index_image.specs.Shape.{node_width, tag_at, key_at, count_at, skip_at}
use Rattle.index_image.specs.Walk.{lm_in}
use Rattle.index_image.specs.Door.{index_in, sign_in}
use Rattle.index_image.specs.declared.Shape.{Shape}
use Rattle.index_image.proofs.Encoding.{Fits, node-length, tree-length}
use Rattle.index_image.proofs.Labels.{MapIs, is-map}
use Rattle.index_image.proofs.Shapes.{ratio-code}
use Rattle.index_image.proofs.Heads.{same_shape}
use Rattle.index_image.proofs.Images as of

-- ---- the rows of a tree and its entries in order give the tree
module _ (m : ℕ) (xs : List ℕ) (pw : ℕ → ℕ → ℕ) (few : m ≤ 64) (above : (v e : ℕ) → m ≤ v → pw v e ≡ 0) where
  abbrev rows : Tree → List ℕ
  rows t = tree_words m xs pw t

  root-count : (t : Tree) → get_or (rows t) (count_at 0) 0 ≡ count t
  unfolding tree_words node_words
  root-count (leaf es) = refl
  root-count (branch d k l r) = refl

  abbrev long : (t : Tree) → length (rows t) ≡ nodes t * node_width m
  long t = tree-length m xs pw few above t

  -- the first words of a branch's row, and what is behind the row
  record Branches (d k : ℕ) (l r : Tree) (d' k' : ℕ) (l' r' : Tree) : Type 0 where
    dim : d ≡ d'
    key : k ≡ k'
    skip : nodes l ≡ nodes l'
    sides : rows l ++ rows r ≡ rows l' ++ rows r'

  branches : (d k : ℕ) (l r : Tree) (d' k' : ℕ) (l' r' : Tree) → rows (branch d k l r) ≡ rows (branch d' k' l' r') → Branches d k l r d' k' l' r'
  unfolding tree_words node_words
  branches d k l r d' k' l' r' e =
      let a = node-length m xs pw few above (suc d) k (nodes l) (inorder l ++ inorder r) in
      let b = node-length m xs pw few above (suc d') k' (nodes l') (inorder l' ++ inorder r') in
      let z : suc d ≡ suc d' = ap (λ (x : List ℕ). get_or x (tag_at 0) 0) e in
      record {
        dim = omega arith;
        key = ap (λ (x : List ℕ). get_or x (key_at 0) 0) e;
        skip = ap (λ (x : List ℕ). get_or x (skip_at 0) 0) e;
        sides = same-right (node_words m xs pw (suc d) k (nodes l) (inorder l ++ inorder r)) (rows l ++ rows r)
            (node_words m xs pw (suc d') k' (nodes l') (inorder l' ++ inorder r')) (rows l' ++ rows r') (a ∙ sym b) e;
      }

  leaf-tag : (es : List ℕ) → get_or (rows (leaf es)) (tag_at 0) 0 ≡ 0
  unfolding tree_words node_words
  leaf-tag es = refl

  branch-tag : (d k : ℕ) (l r : Tree) → get_or (rows (branch d k l r)) (tag_at 0) 0 ≡ suc d
  unfolding tree_words node_words
  branch-tag d k l r = refl

  pub tree-unique : (t u : Tree) → rows t ≡ rows u → inorder t ≡ inorder u → t ≡ u
  tree-unique (leaf a) (leaf b) e i = ap leaf i
  tree-unique (leaf a) (branch d k l r) e i = absurd (omega (arith, ap (λ (x : List ℕ). get_or x (tag_at 0) 0) e, leaf-tag a, branch-tag d k l r))
  tree-unique (branch d k l r) (leaf b) e i = absurd (omega (arith, ap (λ (x : List ℕ). get_or x (tag_at 0) 0) e, leaf-tag b, branch-tag d k l r))
  tree-unique (branch d k l r) (branch d' k' l' r') e i =
      let b = branches d k l r d' k' l' r' e in
      let n : length (rows l) ≡ length (rows l') = long l ∙ ap (λ (x : ℕ). x * node_width m) b.skip ∙ sym (long l') in
      let el = same_left (rows l) (rows r) (rows l') (rows r') n b.sides in
      let er = same-right (rows l) (rows r) (rows l') (rows r') n b.sides in
      let c : count l ≡ count l' = sym (root-count l) ∙ ap (λ (x : List ℕ). get_or x (count_at 0) 0) el ∙ root-count l' in
      let x = tree-unique l l' el (same_left (inorder l) (inorder r) (inorder l') (inorder r') c i) in
      let y = tree-unique r r' er (same-right (inorder l) (inorder r) (inorder l') (inorder r') c i) in
      λ j. branch (b.dim j) (b.key j) (x j) (y j)

-- ---- the other parts
same_code : (k j : Kind) → code k ≡ code j → k ≡ j
same_code monomials monomials e = refl
same_code monomials ratioed e = absurd (omega (arith, e))
same_code ratioed monomials e = absurd (omega (arith, e))
same_code ratioed ratioed e = refl

entry-eq : (x y : Entry) → x.number ≡ y.number → x.index ≡ y.index → x.sign ≡ y.sign → x.lm ≡ y.lm → x ≡ y
entry-eq x y a b c d = λ i. record { number = a i; index = b i; sign = c i; lm = d i }

-- index and signature monomial of an entry, by its kind
signs-eq : (k : Kind) (x y : Entry) → OfKind k x → OfKind k y → (k ≡ ratioed → (x.index ≡ y.index) × (x.sign ≡ y.sign))
    → (x.index ≡ y.index) × (x.sign ≡ y.sign)
signs-eq monomials x y a b h = (a.0 ∙ sym b.0, a.1 ∙ sym b.1)
signs-eq ratioed x y a b h = h refl

of-kind-eq : (k j : Kind) (e : Entry) → k ≡ j → OfKind j e → OfKind k e
of-kind-eq k j e z h = rw z h

module _ (bs : List ℕ) (a b : State) (p : Is a bs) (q : Is b bs) where
  abbrev W : List ℕ
  W = words bs

  same : shape_of a ≡ shape_of b
  same = same_shape W (length bs) (shape_of a) (shape_of b) (of.head_ok bs a p) (of.head_ok bs b q)

  kinds : a.kind ≡ b.kind
  kinds = same_code a.kind b.kind (ap (λ (s : Shape). s.kind) same)

  vars : a.variables ≡ b.variables
  vars = ap (λ (s : Shape). s.variables) same

  caps : a.capacity ≡ b.capacity
  caps = ap (λ (s : Shape). s.capacity) same

  counts : length a.entries ≡ length b.entries
  counts = ap (λ (s : Shape). s.entries) same

  maxima : a.maxima ≡ b.maxima
  maxima = sym (of.pieces bs a p).maxima ∙ rw vars (of.pieces bs b q).maxima

  map-maxima : a.map_maxima ≡ b.map_maxima
  map-maxima = sym (of.pieces bs a p).map ∙ rw vars (of.pieces bs b q).map

  entry : (i : ℕ) → i < length a.entries → entry_at a.entries i ≡ entry_at b.entries i
  entry i h =
      let h' : i < length b.entries = rw counts at h in
      let x = of.entry-is bs a p i h in
      let y = of.entry-is bs b q i h' in
      let e = entry_at a.entries i in
      let e' = entry_at b.entries i in
      let s = signs-eq a.kind e e' (p.valid.of-kind i h) (of-kind-eq a.kind b.kind e' kinds (q.valid.of-kind i h')) (λ z. (
        sym (x.ratio z).index_is ∙ ap (λ (s : Shape). index_in W s i) same ∙ (y.ratio (sym kinds ∙ z)).index_is,
        sym (x.ratio z).sign-is ∙ ap (λ (s : Shape). sign_in W s i) same ∙ (y.ratio (sym kinds ∙ z)).sign-is,
      )) in
      entry-eq e e' (p.valid.numbered i h ∙ sym (q.valid.numbered i h')) s.0 s.1 (sym x.lm-is ∙ ap (λ (s : Shape). lm_in W s i) same ∙ y.lm-is)

  entries : a.entries ≡ b.entries
  unfolding entry_at
  entries = ext_get_or (record { number = 0; index = 0; sign = one; lm = one }) a.entries b.entries counts entry

  -- label maps: two images of one part, or both empty
  labels : a.labels ≡ b.labels
  labels = go a.kind refl
    where
      none : (k : Kind) (es : List Entry) (l : map.State) → k ≡ monomials → LabelsOf k es l → l.rows ≡ []
      none k es l e h = rw e at h

      go : (k : Kind) → a.kind ≡ k → a.labels ≡ b.labels
      go monomials e =
          let x = none a.kind a.entries a.labels e p.valid.labels-of in
          let y = none b.kind b.entries b.labels (sym kinds ∙ e) q.valid.labels-of in
          let v = p.valid.labels-vars ∙ vars ∙ sym q.valid.labels-vars in
          let c = p.valid.labels-cap ∙ caps ∙ sym q.valid.labels-cap in
          λ i. record { variables = v i; capacity = c i; rows = (x ∙ sym y) i }
      go ratioed e =
          let y : MapIs W (shape_of a) b.labels = rw same (of.map_is bs b q (sym kinds ∙ e)) in
          let to : (l : map.State) → MapIs W (shape_of a) l → _ = is-map bs (shape_of a) (of.range bs a p) p.room (ratio-code a.kind e) in
          maps.state-unique _ a.labels b.labels (to a.labels (of.map_is bs a p e)) (to b.labels y)

  trees : a.tree ≡ b.tree
  trees = tree-unique a.variables a.map_maxima (power_in a.entries) fits.vars-to fits.powers a.tree b.tree rows_eq leaves-eq
    where
      fits : Fits a
      fits = of.fits bs a p

      nodes-eq : nodes a.tree ≡ nodes b.tree
      nodes-eq = ap (λ (s : Shape). s.nodes) same

      rows_eq : tree_words a.variables a.map_maxima (power_in a.entries) a.tree ≡ tree_words a.variables a.map_maxima (power_in a.entries) b.tree
      rows_eq = sym (of.pieces bs a p).nodes-are ∙ rw (kinds, vars, caps, nodes-eq, map-maxima, entries) (of.pieces bs b q).nodes-are

      leaves-eq : inorder a.tree ≡ inorder b.tree
      leaves-eq = sym (of.pieces bs a p).permutation ∙ rw (kinds, vars, caps, counts) (of.pieces bs b q).permutation

  pub state-unique : a ≡ b
  state-unique = λ i. record {
    kind = kinds i;
    variables = vars i;
    capacity = caps i;
    maxima = maxima i;
    map_maxima = map-maxima i;
    entries = entries i;
    tree = trees i;
    labels = labels i;
  }
