-- The tree in the image: its rows, one by one, for any map and powers. Assumes nothing.
use mathlib.Core.Path.{◌≡◌, refl, sym, ◌∙◌}
use mathlib.Core.List.{List, ◌∷◌, ◌++◌}
use mathlib.Core.Logic.{◌↔◌}
use Prim.Native.Nat.{ℕ, suc, ◌+◌, ◌-◌, ◌*◌, ◌≤◌, ◌<◌}
use native.Mathlib.Nat.{mul-le-mul_right, suc-mul, add-mul, one-mul}
use native.Mathlib.Omega.{arith}
use lib.ListN.{length, get_or, length-append}
use Rattle.words.specs.Tables.{part}
use Rattle.words.proofs.Tables.{part-cons, part-append}
use Rattle.monomial.specs.Monomial.{pow}
use Rattle.divmask.specs.Mask.{mask}
use Rattle.divmask.proofs.Masks.{mask-ext}
use Rattle.kd_theory.specs.Tree.{Tree, leaf, branch, inorder, nodes}
use Rattle.index_image.specs.declared.Shape.{Shape}
use Rattle.index_image.specs.Shape as at
use Rattle.index_image.specs.Shape.{tag_at, key_at, count_at, skip_at, node_mask_at, gcd_at, slot_width, node_width}
use Rattle.index_image.specs.Layout.{slot, gcd_powers, gcd_of, node_words, tree_words}
use Rattle.index_image.specs.Walk.{Stands}
use Rattle.index_image.specs.Rows.{NodeIs}
use Rattle.index_image.proofs.Encoding.{node-length, tree-length}
use Rattle.index_image.proofs.Gcds.{Powers, gcd-canonical, gcd-pow, SlotHas, slot_has}

pub some-node : (t : Tree) → 1 ≤ nodes t
unfolding nodes
some-node (leaf es) = omega arith
some-node (branch d key l r) = omega arith

pub nodes-branch : (d key : ℕ) (l r : Tree) → nodes (branch d key l r) ≡ suc (nodes l + nodes r)
unfolding nodes
nodes-branch d key l r = refl

pub nodes-leaf : (es : List ℕ) → nodes (leaf es) ≡ 1
unfolding nodes
nodes-leaf es = refl

-- ---- a row, word by word
pub record RowIs (W : List ℕ) (m : ℕ) (xs : List ℕ) (pw : ℕ → ℕ → ℕ) (i tag key skip : ℕ) (es : List ℕ) : Type 0 where
  pub tag_is : get_or W (tag_at i) 0 ≡ tag
  pub key-is : get_or W (key_at i) 0 ≡ key
  pub count : get_or W (count_at i) 0 ≡ length es
  pub skip_is : get_or W (skip_at i) 0 ≡ skip
  pub node : NodeIs W m xs i (gcd_of pw es)

words-of-row : (W : List ℕ) (i m : ℕ) → i + node_width m ≤ length W
    → part W i (node_width m) ≡ get_or W (tag_at i) 0 ∷ get_or W (key_at i) 0 ∷ get_or W (count_at i) 0 ∷ get_or W (skip_at i) 0 ∷ get_or W (node_mask_at i) 0 ∷ part W (gcd_at i) (slot_width m)
words-of-row W i m h =
    let e : node_width m ≡ suc (suc (suc (suc (suc (slot_width m))))) = omega arith in
    let e2 : key_at i + 1 ≡ count_at i = omega arith in
    let e3 : count_at i + 1 ≡ skip_at i = omega arith in
    let e4 : skip_at i + 1 ≡ node_mask_at i = omega arith in
    let e5 : node_mask_at i + 1 ≡ gcd_at i = omega arith in
    rw (
      e,
      part-cons W i (suc (suc (suc (suc (slot_width m))))) (omega arith),
      part-cons W (key_at i) (suc (suc (suc (slot_width m)))) (omega arith),
      e2,
      part-cons W (count_at i) (suc (suc (slot_width m))) (omega arith),
      e3,
      part-cons W (skip_at i) (suc (slot_width m)) (omega arith),
      e4,
      part-cons W (node_mask_at i) (slot_width m) (omega arith),
      e5,
    )

module _ (m : ℕ) (xs : List ℕ) (pw : ℕ → ℕ → ℕ) (P : Powers m pw) where
  pub mask-of : (es : List ℕ) → mask m xs (gcd_powers pw es) ≡ mask m xs (pow 1 (gcd_of pw es))
  unfolding gcd_powers
  mask-of es = mask-ext m xs (gcd_powers pw es) (pow 1 (gcd_of pw es)) (λ v h. sym (gcd-pow m pw P es v))

  pub length-row : (tag key skip : ℕ) (es : List ℕ) → length (node_words m xs pw tag key skip es) ≡ node_width m
  length-row tag key skip es = node-length m xs pw P.few P.absent tag key skip es

  pub length-tree : (t : Tree) → length (tree_words m xs pw t) ≡ nodes t * node_width m
  length-tree t = tree-length m xs pw P.few P.absent t

  pub row-iff : (W : List ℕ) (i tag key skip : ℕ) (es : List ℕ) → i + node_width m ≤ length W
      → (part W i (node_width m) ≡ node_words m xs pw tag key skip es) ↔ RowIs W m xs pw i tag key skip es
  unfolding node_words
  row-iff W i tag key skip es h = (
    λ (e : part W i (node_width m) ≡ tag ∷ key ∷ length es ∷ skip ∷ mask m xs (gcd_powers pw es) ∷ slot m (gcd_of pw es)).
        let z = sym (words-of-row W i m h) ∙ e in
        let ms : get_or W (node_mask_at i) 0 ≡ mask m xs (gcd_powers pw es) = cc in
        record { tag_is = cc; key-is = cc; count = cc; skip_is = cc; node = record { masked = ms ∙ mask-of es; gcd = cc } },
    λ r. words-of-row W i m h ∙ rw (r.tag_is, r.key-is, r.count, r.skip_is, r.node.masked ∙ sym (mask-of es), r.node.gcd),
  )

  -- the gcd that a row holds can be read again
  pub slot_of : (W : List ℕ) (i : ℕ) (es : List ℕ) → NodeIs W m xs i (gcd_of pw es) → SlotHas W m (gcd_at i) (gcd_of pw es)
  slot_of W i es n = slot_has W m (gcd_at i) (gcd_of pw es) (gcd-canonical m pw P es) n.gcd

-- ---- trees. Rows may stand up to the capacity's, and places too, whatever the header says of them.
module _ (W : List ℕ) (s : Shape) (R : at.InRange s) (room : at.size s ≤ length W) (xs : List ℕ) (pw : ℕ → ℕ → ℕ) (P : Powers s.variables pw) where
  abbrev m : ℕ
  m = s.variables

  abbrev w : ℕ
  w = node_width s.variables

  pub row_fits : (k : ℕ) → k < 2 * s.capacity - 1 → at.node_at s k + w ≤ length W
  row_fits k h = omega (arith, mul-le-mul_right {m = k + 1} {n = 2 * s.capacity - 1} w (omega arith), add-mul k 1 w)

  -- ---- the rows of a branch
  module _ (k lo d key : ℕ) (l r : Tree) (hk : k + suc (nodes l + nodes r) ≤ 2 * s.capacity - 1)
      (hlo : lo + (length (inorder l) + length (inorder r)) ≤ s.capacity) where
    next : at.node_at s k + w ≡ at.node_at s (k + 1)
    next = let e : k + 1 ≡ suc k = omega arith in rw e (omega (arith, suc-mul k w))

    nexts : at.node_at s (k + 1) + nodes l * w ≡ at.node_at s (k + 1 + nodes l)
    nexts = omega (arith, add-mul (k + 1) (nodes l) w)

    all-rows : suc (nodes l + nodes r) * w ≡ w + (nodes l * w + nodes r * w)
    all-rows = omega (arith, suc-mul (nodes l + nodes r) w, add-mul (nodes l) (nodes r) w)

    last_row : at.node_at s k + suc (nodes l + nodes r) * w ≤ length W
    last_row = omega (arith, mul-le-mul_right {m = k + suc (nodes l + nodes r)} {n = 2 * s.capacity - 1} w hk, add-mul k (suc (nodes l + nodes r)) w)

    row-in : at.node_at s k + w ≤ length W
    row-in = row_fits k (omega arith)

    less-in : at.node_at s (k + 1) + nodes l * w ≤ length W
    less-in = omega (arith, last_row, next, all-rows)

    perm_in : at.permutation_at s + lo + length (inorder l) ≤ length W
    perm_in = omega arith

    pub record Parts : Type 0 where
      pub here : RowIs W s.variables xs pw (at.node_at s k) (suc d) key (nodes l) (inorder l ++ inorder r)
      pub one : Stands W s xs pw (k + 1) lo l
      pub two : Stands W s xs pw (k + 1 + nodes l) (lo + length (inorder l)) r

    pub take-apart : Stands W s xs pw k lo (branch d key l r) → Parts
    unfolding tree_words nodes
    take-apart t =
        let nl = tree_words m xs pw l in
        let nr = tree_words m xs pw r in
        let rr = node_words m xs pw (suc d) key (nodes l) (inorder l ++ inorder r) in
        let a = (part-append W (at.node_at s k) w (nodes l * w + nodes r * w) rr (nl ++ nr) row-in
        (length-row m xs pw P (suc d) key (nodes l) (inorder l ++ inorder r))).0 (rw all-rows at t.rows) in
        let b = (part-append W (at.node_at s (k + 1)) (nodes l * w) (nodes r * w) nl nr less-in (length-tree m xs pw P l)).0 (rw next at a.1) in
        let la = length-append (inorder l) (inorder r) in
        let p = (part-append W (at.permutation_at s + lo) (length (inorder l)) (length (inorder r)) (inorder l) (inorder r) perm_in refl).0 (rw la at t.perm) in
        let ep : at.permutation_at s + lo + length (inorder l) ≡ at.permutation_at s + (lo + length (inorder l)) = omega arith in
        record {
          here = (row-iff m xs pw P W (at.node_at s k) (suc d) key (nodes l) (inorder l ++ inorder r) row-in).0 a.0;
          one = record { rows = b.0; perm = p.0 };
          two = record { rows = rw nexts at b.1; perm = rw ep at p.1 };
        }

    pub put-together : Parts → Stands W s xs pw k lo (branch d key l r)
    unfolding tree_words nodes
    put-together t =
        let nl = tree_words m xs pw l in
        let nr = tree_words m xs pw r in
        let rr = node_words m xs pw (suc d) key (nodes l) (inorder l ++ inorder r) in
        let b = (part-append W (at.node_at s (k + 1)) (nodes l * w) (nodes r * w) nl nr less-in (length-tree m xs pw P l)).1 (t.one.rows, rw nexts t.two.rows) in
        let a = (part-append W (at.node_at s k) w (nodes l * w + nodes r * w) rr (nl ++ nr) row-in
        (length-row m xs pw P (suc d) key (nodes l) (inorder l ++ inorder r))).1
        ((row-iff m xs pw P W (at.node_at s k) (suc d) key (nodes l) (inorder l ++ inorder r) row-in).1 t.here, rw next b) in
        let la = length-append (inorder l) (inorder r) in
        let ep : at.permutation_at s + lo + length (inorder l) ≡ at.permutation_at s + (lo + length (inorder l)) = omega arith in
        let p = (part-append W (at.permutation_at s + lo) (length (inorder l)) (length (inorder r)) (inorder l) (inorder r) perm_in refl).1
        (t.one.perm, rw ep t.two.perm) in
        record { rows = rw all-rows a; perm = rw la p }

  -- ---- a leaf is its row
  pub leaf-row : (k lo : ℕ) (es : List ℕ) → Stands W s xs pw k lo (leaf es) → k < 2 * s.capacity - 1 → RowIs W s.variables xs pw (at.node_at s k) 0 0 0 es
  unfolding tree_words nodes
  leaf-row k lo es t h = (row-iff m xs pw P W (at.node_at s k) 0 0 0 es (row_fits k h)).0 (rw (one-mul w) at t.rows)

  pub row-leaf : (k lo : ℕ) (es : List ℕ) → k < 2 * s.capacity - 1 → RowIs W s.variables xs pw (at.node_at s k) 0 0 0 es
      → part W (at.permutation_at s + lo) (length es) ≡ es → Stands W s xs pw k lo (leaf es)
  unfolding tree_words nodes
  row-leaf k lo es h r p = record { rows = rw (one-mul w) ((row-iff m xs pw P W (at.node_at s k) 0 0 0 es (row_fits k h)).1 r); perm = p }

  -- ---- the first row of a tree: its count and gcd
  pub record Head (k : ℕ) (t : Tree) : Type 0 where
    pub count : get_or W (count_at (at.node_at s k)) 0 ≡ length (inorder t)
    pub slot : SlotHas W s.variables (gcd_at (at.node_at s k)) (gcd_of pw (inorder t))

  pub tree-head : (k lo : ℕ) (t : Tree) → Stands W s xs pw k lo t → k + nodes t ≤ 2 * s.capacity - 1 → lo + length (inorder t) ≤ s.capacity → Head k t
  tree-head k lo (leaf es) t h n =
      let r = leaf-row k lo es t (omega (arith, nodes-leaf es)) in
      record { count = r.count; slot = slot_of m xs pw P W (at.node_at s k) es r.node }
  tree-head k lo (branch d key l r) t h n =
      let p = (take-apart k lo d key l r (omega (arith, nodes-branch d key l r)) (omega (arith, length-append (inorder l) (inorder r))) t).here in
      record { count = p.count; slot = slot_of m xs pw P W (at.node_at s k) (inorder l ++ inorder r) p.node }
