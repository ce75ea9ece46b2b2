-- A tree's rows and places in the words of an image, cut into those of its sides and put together again. Assumes nothing.
use mathlib.Core.Path.{◌≡◌, refl, sym, ap, ◌∙◌}
use mathlib.Core.List.{List, ◌∷◌, ◌++◌}
use Prim.Native.Nat.{ℕ, zero, suc, ◌+◌, ◌-◌, ◌*◌, ◌≤◌, ◌<◌}
use native.Mathlib.Nat.{mul-le-mul_right, suc-mul, add-mul, one-mul}
use native.Mathlib.Omega.{arith}
use lib.ListN.{length, get_or, length-append}
use Rattle.words.specs.Tables.{part}
use Rattle.words.proofs.Tables.{part-nil, part-cons, part-append}
use Rattle.monomial.specs.Monomial.{monomial_of}
use Rattle.monomial.proofs.Powers.{monomial-ext}
use Rattle.divmask.specs.Mask.{mask}
use Rattle.divmask.proofs.Masks.{mask-ext}
use Rattle.kd_theory.specs.Bag.{◌∈◌, Same}
use Rattle.kd_theory.specs.Bifurcate.{least}
use Rattle.kd_theory.specs.Tree.{Tree, leaf, branch, inorder, count, nodes, Ordered}
use Rattle.kd_theory.proofs.TreeLaws.{ordered-good}
use Rattle.kd_theory.proofs.BifurcateLaws.{least-le, least-from}
use Rattle.index_theory.specs.Entries.{Entry}
use Rattle.index_theory.specs.State.{Kind, monomials, ratioed, State, Valid, keys, keys_of, power_in}
use Rattle.fast_compare.specs.Map as map
use Rattle.index_image.specs.Layout.{slot, gcd_powers, node_words, tree_words}
use Rattle.index_image.specs.Shape as at
use Rattle.index_image.specs.declared.Shape.{Shape}
use Rattle.index_image.proofs.Encoding as lengths
use Rattle.index_image.proofs.Lengths.{valid-fits}
use Rattle.index_image.proofs.Trees.{nodes-branch, nodes-leaf}
use Rattle.kd_image.specs.HasTree.{Holds, Stands}

-- ---- parts that agree word by word
pub part_same : (W U : List ℕ) (a b n : ℕ) → a + n ≤ length W → b + n ≤ length U → ((i : ℕ) → i < n → get_or U (b + i) 0 ≡ get_or W (a + i) 0) → part U b n ≡ part W a n
part_same W U a b zero h k f = part-nil U b ∙ sym (part-nil W a)
part_same W U a b (suc n) h k f =
    let eb : b + 0 ≡ b = omega arith in
    let ea : a + 0 ≡ a = omega arith in
    let first : get_or U b 0 ≡ get_or W a 0 = rw (eb, ea) at (f 0 (omega arith)) in
    let rest : part U (b + 1) n ≡ part W (a + 1) n = part_same W U (a + 1) (b + 1) n (omega arith) (omega arith) (λ i l. shifted i (f (suc i) (omega arith))) in
    part-cons U b n (omega arith) ∙ rw (first, rest) (sym (part-cons W a n (omega arith)))
  where
    shifted : (i : ℕ) → get_or U (b + suc i) 0 ≡ get_or W (a + suc i) 0 → get_or U (b + 1 + i) 0 ≡ get_or W (a + 1 + i) 0
    shifted i e =
        let eb : b + suc i ≡ b + 1 + i = omega arith in
        let ea : a + suc i ≡ a + 1 + i = omega arith in
        rw (eb, ea) at e

-- the same where neither moves
pub part-kept : (W U : List ℕ) (a n : ℕ) → a + n ≤ length W → length U ≡ length W → ((i : ℕ) → a ≤ i → i < a + n → get_or U i 0 ≡ get_or W i 0) → part U a n ≡ part W a n
part-kept W U a n h l f = part_same W U a a n h (omega arith) (λ i b. f (a + i) (omega arith) (omega arith))

-- ---- rows
pub node-add : (s : Shape) (k j : ℕ) → at.node_at s (k + j) ≡ at.node_at s k + j * (s.variables + 6)
node-add s k j = omega (arith, add-mul k j (s.variables + 6))

pub node-next : (s : Shape) (k : ℕ) → at.node_at s (k + 1) ≡ at.node_at s k + (s.variables + 6)
node-next s k = omega (arith, add-mul k 1 (s.variables + 6))

pub node-le : (s : Shape) (j k : ℕ) → j ≤ k → at.node_at s j ≤ at.node_at s k
node-le s j k h = omega (arith, mul-le-mul_right {m = j} {n = k} (s.variables + 6) h)

-- a row, word by word
pub words-of-row : (W : List ℕ) (at m : ℕ) → at + (m + 6) ≤ length W
    → part W at (m + 6) ≡ get_or W at 0 ∷ get_or W (at + 1) 0 ∷ get_or W (at + 2) 0 ∷ get_or W (at + 3) 0 ∷ get_or W (at + 4) 0 ∷ part W (at + 5) (m + 1)
words-of-row W at m h =
    let e : m + 6 ≡ suc (suc (suc (suc (suc (m + 1))))) = omega arith in
    let e2 : at + 1 + 1 ≡ at + 2 = omega arith in
    let e3 : at + 2 + 1 ≡ at + 3 = omega arith in
    let e4 : at + 3 + 1 ≡ at + 4 = omega arith in
    let e5 : at + 4 + 1 ≡ at + 5 = omega arith in
    rw (
      e,
      part-cons W at (suc (suc (suc (suc (m + 1))))) (omega arith),
      part-cons W (at + 1) (suc (suc (suc (m + 1)))) (omega arith),
      e2,
      part-cons W (at + 2) (suc (suc (m + 1))) (omega arith),
      e3,
      part-cons W (at + 3) (suc (m + 1)) (omega arith),
      e4,
      part-cons W (at + 4) (m + 1) (omega arith),
      e5,
    )

pub record Row (W : List ℕ) (m : ℕ) (xs : List ℕ) (pw : ℕ → ℕ → ℕ) (at tag key skip : ℕ) (es : List ℕ) : Type 0 where
  pub tag_is : get_or W at 0 ≡ tag
  pub key-is : get_or W (at + 1) 0 ≡ key
  pub count-is : get_or W (at + 2) 0 ≡ length es
  pub skip_is : get_or W (at + 3) 0 ≡ skip
  pub mask_is : get_or W (at + 4) 0 ≡ mask m xs (gcd_powers pw es)
  pub slot_is : part W (at + 5) (m + 1) ≡ slot m (monomial_of 1 (gcd_powers pw es))

module _ (m : ℕ) (xs : List ℕ) (pw : ℕ → ℕ → ℕ) where
  pub row-of : (W : List ℕ) (at tag key skip : ℕ) (es : List ℕ) → at + (m + 6) ≤ length W → part W at (m + 6) ≡ node_words m xs pw tag key skip es → Row W m xs pw at tag key skip es
  unfolding node_words
  row-of W at tag key skip es h e =
      let z = sym (words-of-row W at m h) ∙ e in
      record { tag_is = cc; key-is = cc; count-is = cc; skip_is = cc; mask_is = cc; slot_is = cc }

  pub of_row : (W : List ℕ) (at tag key skip : ℕ) (es : List ℕ) → at + (m + 6) ≤ length W → Row W m xs pw at tag key skip es → part W at (m + 6) ≡ node_words m xs pw tag key skip es
  unfolding node_words
  of_row W at tag key skip es h r = words-of-row W at m h ∙ rw (r.tag_is, r.key-is, r.count-is, r.skip_is, r.mask_is, r.slot_is)

  -- the gcd of some entries does not depend on their order
  pub gcd-same : (es fs : List ℕ) → Same es fs → length es ≡ length fs → 0 < length es → (v : ℕ) → gcd_powers pw es v ≡ gcd_powers pw fs v
  unfolding gcd_powers
  gcd-same es fs h l p v =
      let a : least (pw v) es ≤ least (pw v) fs = least-from (pw v) (least (pw v) es) fs (omega arith) (λ e i. least-le (pw v) es e (rw (h e) i)) in
      let b : least (pw v) fs ≤ least (pw v) es = least-from (pw v) (least (pw v) fs) es p (λ e i. least-le (pw v) fs e (rw (h e) at i)) in
      omega arith

  pub row_same : (W : List ℕ) (at tag key skip : ℕ) (es fs : List ℕ) → Same es fs → length es ≡ length fs → 0 < length es → Row W m xs pw at tag key skip es → Row W m xs pw at tag key skip fs
  row_same W at tag key skip es fs h l p r =
      let g = gcd-same es fs h l p in
      record {
        tag_is = r.tag_is;
        key-is = r.key-is;
        count-is = r.count-is ∙ l;
        skip_is = r.skip_is;
        mask_is = r.mask_is ∙ mask-ext m xs (gcd_powers pw es) (gcd_powers pw fs) (λ v b. g v);
        slot_is = r.slot_is ∙ ap (slot m) (monomial-ext 1 (gcd_powers pw es) (gcd_powers pw fs) g);
      }

-- ---- places
good-small : (k : Kind) (m : ℕ) (es : List Entry) (l : map.State) (e : ℕ) → (keys_of k m es l).good e → e < length es
good-small monomials m es l e h = h
good-small ratioed m es l e h = h

pub ordered-small : (st : State) (t : Tree) → Ordered (keys st) t → (e : ℕ) → e ∈ inorder t → e < length st.entries
ordered-small st t o e i = good-small st.kind st.variables st.entries st.labels e (ordered-good (keys st) t o e i)

-- what the lengths of rows rest on
pub record Based (st : State) (W : List ℕ) (s : Shape) : Type 0 where
  pub valid : Valid st
  pub vars : s.variables ≡ st.variables
  pub range : at.InRange s
  pub room : at.size s ≤ length W

pub based : {st : State} {W : List ℕ} {s : Shape} → Holds st W s → Based st W s
based h = record { valid = h.valid; vars = h.vars; range = h.range; room = h.room }

module _ (st : State) (W : List ℕ) (s : Shape) (H : Based st W s) where
  abbrev m : ℕ
  m = s.variables

  abbrev w : ℕ
  w = s.variables + 6

  abbrev xs : List ℕ
  xs = st.map_maxima

  abbrev pw : ℕ → ℕ → ℕ
  pw = power_in st.entries

  absent : (v e : ℕ) → s.variables ≤ v → pw v e ≡ 0
  absent v e h = (valid-fits st H.valid).powers v e (omega (arith, H.vars))

  pub length-row : (tag key skip : ℕ) (es : List ℕ) → length (node_words m xs pw tag key skip es) ≡ w
  length-row tag key skip es = lengths.node-length m xs pw H.range.vars-to absent tag key skip es

  pub length-tree : (t : Tree) → length (tree_words m xs pw t) ≡ nodes t * w
  length-tree t = lengths.tree-length m xs pw H.range.vars-to absent t

  -- rows in use lie in the image
  pub row_inside : (k rows : ℕ) → k ≤ rows → rows + 1 ≤ 2 * s.capacity → at.node_at s k ≤ length W
  row_inside k rows h l = omega (arith, H.room, node-le s k (2 * s.capacity - 1) (omega arith))

  -- ---- a branch
  module _ (k lo d key : ℕ) (a b : Tree) where
    pub record Cut : Type 0 where
      pub here : Row W m xs pw (at.node_at s k) (suc d) key (nodes a) (inorder a ++ inorder b)
      pub one : Stands st W s (k + 1) lo a
      pub two : Stands st W s (k + 1 + nodes a) (lo + count a) b

    module _ (rows : ℕ) (hk : k + suc (nodes a + nodes b) ≤ rows) (hr : rows + 1 ≤ 2 * s.capacity) (hlo : lo + (count a + count b) ≤ s.entries) where
      row-in : at.node_at s k + w ≤ length W
      row-in = omega (arith, node-next s k, row_inside (k + 1) rows (omega arith) hr)

      one_in : at.node_at s (k + 1) + nodes a * w ≤ length W
      one_in = omega (arith, node-add s (k + 1) (nodes a), row_inside (k + 1 + nodes a) rows (omega arith) hr)

      perm_in : at.permutation_at s + lo + count a ≤ length W
      perm_in = omega (arith, H.room, H.range.few)

      all-rows : suc (nodes a + nodes b) * w ≡ w + (nodes a * w + nodes b * w)
      all-rows = omega (arith, suc-mul (nodes a + nodes b) w, add-mul (nodes a) (nodes b) w)

      pub cut : Stands st W s k lo (branch d key a b) → Cut
      unfolding tree_words nodes
      cut t =
          let ta = tree_words m xs pw a in
          let tb = tree_words m xs pw b in
          let rr = node_words m xs pw (suc d) key (nodes a) (inorder a ++ inorder b) in
          let x = (part-append W (at.node_at s k) w (nodes a * w + nodes b * w) rr (ta ++ tb) row-in (length-row (suc d) key (nodes a) (inorder a ++ inorder b))).0 (rw all-rows at t.rows) in
          let y = (part-append W (at.node_at s (k + 1)) (nodes a * w) (nodes b * w) ta tb one_in (length-tree a)).0 (rw (sym (node-next s k)) at x.1) in
          let la = length-append (inorder a) (inorder b) in
          let p = (part-append W (at.permutation_at s + lo) (count a) (count b) (inorder a) (inorder b) perm_in refl).0 (rw la at t.perm) in
          let ep : at.permutation_at s + lo + count a ≡ at.permutation_at s + (lo + count a) = omega arith in
          record {
            here = row-of m xs pw W (at.node_at s k) (suc d) key (nodes a) (inorder a ++ inorder b) row-in x.0;
            one = record { rows = y.0; perm = p.0 };
            two = record { rows = rw (sym (node-add s (k + 1) (nodes a))) at y.1; perm = rw ep at p.1 };
          }

      pub uncut : Cut → Stands st W s k lo (branch d key a b)
      unfolding tree_words nodes
      uncut c =
          let ta = tree_words m xs pw a in
          let tb = tree_words m xs pw b in
          let rr = node_words m xs pw (suc d) key (nodes a) (inorder a ++ inorder b) in
          let y = (part-append W (at.node_at s (k + 1)) (nodes a * w) (nodes b * w) ta tb one_in (length-tree a)).1 (c.one.rows, rw (sym (node-add s (k + 1) (nodes a))) c.two.rows) in
          let x = (part-append W (at.node_at s k) w (nodes a * w + nodes b * w) rr (ta ++ tb) row-in (length-row (suc d) key (nodes a) (inorder a ++ inorder b))).1
          (of_row m xs pw W (at.node_at s k) (suc d) key (nodes a) (inorder a ++ inorder b) row-in c.here, rw (sym (node-next s k)) y) in
          let la = length-append (inorder a) (inorder b) in
          let ep : at.permutation_at s + lo + count a ≡ at.permutation_at s + (lo + count a) = omega arith in
          let p = (part-append W (at.permutation_at s + lo) (count a) (count b) (inorder a) (inorder b) perm_in refl).1 (c.one.perm, rw ep c.two.perm) in
          record { rows = rw all-rows x; perm = rw la p }

  -- ---- a leaf is its row
  pub leaf-row : (k lo rows : ℕ) (es : List ℕ) → k + 1 ≤ rows → rows + 1 ≤ 2 * s.capacity → Stands st W s k lo (leaf es) → Row W m xs pw (at.node_at s k) 0 0 0 es
  unfolding tree_words nodes
  leaf-row k lo rows es h l t =
      row-of m xs pw W (at.node_at s k) 0 0 0 es (omega (arith, node-next s k, row_inside (k + 1) rows h l)) (rw (one-mul w) at t.rows)

  -- the count that the first row of a tree has
  pub count_at : (k lo rows : ℕ) (t : Tree) → k + nodes t ≤ rows → rows + 1 ≤ 2 * s.capacity → lo + count t ≤ s.entries → Stands st W s k lo t → get_or W (at.node_at s k + 2) 0 ≡ count t
  count_at k lo rows (leaf es) h l n t = (leaf-row k lo rows es (omega (arith, nodes-leaf es)) l t).count-is
  count_at k lo rows (branch d key a b) h l n t =
      (cut k lo d key a b rows (omega (arith, nodes-branch d key a b)) l (omega (arith, length-append (inorder a) (inorder b))) t).here.count-is
