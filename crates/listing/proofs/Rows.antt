-- The rows that the listing goes by, and the whole listing. Assumes nothing.
use mathlib.Core.Path.{◌≡◌, refl, sym, ap, ◌∙◌}
use mathlib.Core.List.{List, ◌++◌}
use Prim.Native.Nat.{ℕ, ◌+◌, ◌-◌, ◌*◌, ◌≤◌, ◌<◌}
use native.Mathlib.Omega.{arith}
use lib.ListN.{length, get_or, take, drop, length-append, length-take, length-drop}
use borrow.Rule.Slice.PartMut.{put_mid}
use Rattle.words.specs.Words.{paste_w}
use Rattle.words.proofs.Laws.{length-paste_w}
use Rattle.kd_theory.specs.Tree.{Tree, leaf, branch, inorder, nodes, count}
use Rattle.index_theory.specs.Listing.{monomials_at}
use Rattle.index_image.specs.Shape as at
use Rattle.index_image.specs.Rows.{entries_from}
use Rattle.index_image.specs.Walk.{power, map_maxima, lm_in, Ready, Ordered, TreeAt}
use Rattle.index_image.specs.declared.Shape.{Shape}
use Rattle.index_image.proofs.Gcds.{Powers, image-powers}
use Rattle.index_image.proofs.Trees as trees
use Rattle.index_image.proofs.Trees.{some-node, nodes-branch}
use Rattle.index_image.proofs.Places.{row-behind}
use Rattle.listing.specs.Listed.{lms, Here, Below}
use Rattle.listing.proofs.Monomials.{at-append, behind}

-- ---- the laws of rows, for the powers of the image itself
module _ (W : List ℕ) (s : Shape) (R : Ready W s) where
  abbrev P : Powers s.variables (power W s)
  P = image-powers W s R.range.vars-to

  tree-head : (k lo : ℕ) (t : Tree) → TreeAt W s k lo t → k + nodes t ≤ s.nodes → lo + count t ≤ s.entries → get_or W (at.count_at (at.node_at s k)) 0 ≡ count t
  tree-head k lo t a i f =
      (trees.tree-head W s R.range R.room (map_maxima W s) (power W s) P k lo t a.stands (omega (arith, R.range.nodes-to)) (omega (arith, R.range.few))).count

module _ {W : List ℕ} {s : Shape} (R : Ready W s) {k lo room : ℕ} (h : Here W s k lo room) where
  abbrev row : ℕ
  row = at.node_at s k

  pub in_rows : k < s.nodes
  in_rows = omega (arith, h.inside, some-node h.tree)

  -- ---- its entries
  pub count-here : get_or W (at.count_at row) 0 ≡ count h.tree
  count-here = tree-head W s R k lo h.tree h.is h.inside h.few

  pub entries-here : (c : ℕ) → c ≡ get_or W (at.count_at row) 0 → entries_from W s lo c ≡ inorder h.tree
  entries-here c e = rw (e ∙ count-here) h.is.stands.perm

  pub leaf-asked : (c : ℕ) → c ≡ get_or W (at.count_at row) 0 → (lo + c ≤ s.entries) × (4 * length (lms W s (entries_from W s lo c)) ≤ room)
  leaf-asked c e = (omega (arith, count-here, h.few), rw (entries-here c e) h.fits)

  -- ---- a branch
  pub record AtBranch : Type 0 where
    pub less : Tree
    pub other : Tree
    pub order : inorder h.tree ≡ inorder less ++ inorder other
    pub skip_is : get_or W (at.skip_at row) 0 ≡ nodes less
    pub count-is : get_or W (at.count_at row) 0 ≡ count less + count other
    pub passed : get_or W (at.count_at (row + at.node_width s.variables)) 0 ≡ count less
    pub some-less : 0 < count less
    pub some-other : 0 < count other
    pub less-is : TreeAt W s (k + 1) lo less
    pub other-is : TreeAt W s (k + 1 + nodes less) (lo + count less) other
    pub less-inside : k + 1 + nodes less ≤ s.nodes
    pub other-inside : k + 1 + nodes less + nodes other ≤ s.nodes
    pub few : lo + count less + count other ≤ s.entries
    pub fits : 4 * (length (lms W s (inorder less)) + length (lms W s (inorder other))) ≤ room
    pub less-count : get_or W (at.count_at (at.node_at s (k + 1))) 0 ≡ count less
    pub other-count : get_or W (at.count_at (at.node_at s (k + 1 + nodes less))) 0 ≡ count other

  pub at-branch : (get_or W (at.tag_at row) 0 ≡ 0 → ⊥) → AtBranch
  unfolding Ordered
  at-branch nz = go h.tree refl h.is h.inside h.few h.fits
    where
      go : (t : Tree) → h.tree ≡ t → TreeAt W s k lo t → k + nodes t ≤ s.nodes → lo + count t ≤ s.entries → 4 * length (lms W s (inorder t)) ≤ room → AtBranch
      go (leaf es) e t i f z = absurd (nz (trees.leaf-row W s R.range R.room (map_maxima W s) (power W s) (P W s R) k lo es t.stands (omega (arith, in_rows, R.range.nodes-to))).tag_is)
      go (branch d key l r) e t i f z =
          let lr = length-append (inorder l) (inorder r) in
          let nb = nodes-branch d key l r in
          let p = trees.take-apart W s R.range R.room (map_maxima W s) (power W s) (P W s R) k lo d key l r (omega (arith, R.range.nodes-to)) (omega (arith, R.range.few)) t.stands in
          let one : TreeAt W s (k + 1) lo l = record { stands = p.one; ordered = t.ordered.1.0 } in
          let two : TreeAt W s (k + 1 + nodes l) (lo + count l) r = record { stands = p.two; ordered = t.ordered.1.1 } in
          let lc = tree-head W s R (k + 1) lo l one (omega arith) (omega arith) in
          let rc = tree-head W s R (k + 1 + nodes l) (lo + count l) r two (omega arith) (omega arith) in
          let e8 : at.count_at (row + at.node_width s.variables) ≡ at.count_at (at.node_at s (k + 1)) = omega (arith, row-behind s k) in
          let ll : length (lms W s (inorder l ++ inorder r)) ≡ length (lms W s (inorder l)) + length (lms W s (inorder r)) =
          ap length (at-append (lm_in W s) (inorder l) (inorder r)) ∙ length-append (lms W s (inorder l)) (lms W s (inorder r)) in
          record {
            less = l;
            other = r;
            order = ap inorder e;
            skip_is = p.here.skip_is;
            count-is = p.here.count ∙ lr;
            passed = ap (λ (j : ℕ). get_or W j 0) e8 ∙ lc;
            some-less = t.ordered.0.some-less;
            some-other = t.ordered.0.some-other;
            less-is = one;
            other-is = two;
            less-inside = omega arith;
            other-inside = omega arith;
            few = omega arith;
            fits = omega arith;
            less-count = lc;
            other-count = rc;
          }

  module _ (b : AtBranch) where
    abbrev pub less-here : Here W s (k + 1) lo room
    less-here = record { tree = b.less; is = b.less-is; inside = b.less-inside; few = omega (arith, b.few); fits = omega (arith, b.fits) }

    abbrev pub other-here : (k' lo' room' : ℕ) → k' ≡ k + 1 + nodes b.less → lo' ≡ lo + count b.less → room' ≡ room - 4 * length (lms W s (inorder b.less)) → Here W s k' lo' room'
    other-here k' lo' room' ek el er = record {
      tree = b.other;
      is = rw (ek, el) b.other-is;
      inside = omega (arith, b.other-inside);
      few = omega (arith, b.few);
      fits = omega (arith, b.fits);
    }

    pub all : lms W s (inorder h.tree) ≡ lms W s (inorder b.less) ++ lms W s (inorder b.other)
    all = ap (monomials_at (lm_in W s)) b.order ∙ at-append (lm_in W s) (inorder b.less) (inorder b.other)

-- ---- what is written, leaf by leaf and side by side
module _ {W : List ℕ} {s : Shape} (R : Ready W s) {k lo : ℕ} {out : List ℕ} (h : Here W s k lo (length out)) where
  pub leaf-below : (out' : List ℕ) (r c : ℕ) → c ≡ get_or W (at.count_at (at.node_at s k)) 0 → r ≡ length (lms W s (entries_from W s lo c))
      → out' ≡ paste_w out 0 (lms W s (entries_from W s lo c)) → Below W s k lo out out' r h
  leaf-below out' r c e er eo =
      let q = entries-here R h c e in
      record { long = er ∙ ap (λ (es : List ℕ). length (lms W s es)) q; bytes = eo ∙ ap (λ (es : List ℕ). paste_w out 0 (lms W s es)) q }

  module _ (b : AtBranch R h) {out' : List ℕ} {n : ℕ} (first : (g : Here W s (k + 1) lo (length out)) → Below W s (k + 1) lo out out' n g) where
    abbrev one : Below W s (k + 1) lo out out' n (less-here R h b)
    one = first (less-here R h b)

    pub same-room : length out' ≡ length out
    same-room = ap length one.bytes ∙ length-paste_w out 0 (lms W s (inorder b.less)) (omega (arith, b.fits))

    pub inside : 4 * n ≤ length out'
    inside = omega (arith, one.long, same-room, b.fits)

    pub rest-long : length (take (length out' - 4 * n) (drop (4 * n) out')) ≡ length out - 4 * length (lms W s (inorder b.less))
    rest-long = simp (length-take, length-drop) (omega (arith, one.long, same-room, b.fits))

    abbrev pub second-here : {x y : ℕ} → x ≡ get_or W (at.skip_at (at.node_at s k)) 0 → y ≡ get_or W (at.count_at (at.node_at s k + at.node_width s.variables)) 0
        → Here W s (k + 1 + x) (lo + y) (length (take (length out' - 4 * n) (drop (4 * n) out')))
    second-here {x} {y} ex ey = other-here R h b (k + 1 + x) (lo + y) _ (omega (arith, b.skip_is)) (omega (arith, b.passed)) rest-long

    module _ {x y : ℕ} (ex : x ≡ get_or W (at.skip_at (at.node_at s k)) 0) (ey : y ≡ get_or W (at.count_at (at.node_at s k + at.node_width s.variables)) 0) {ys : List ℕ} {r : ℕ}
        (second : (g : Here W s (k + 1 + x) (lo + y) (length (take (length out' - 4 * n) (drop (4 * n) out'))))
        → Below W s (k + 1 + x) (lo + y) (take (length out' - 4 * n) (drop (4 * n) out')) ys r g) where
      abbrev two : Below W s (k + 1 + x) (lo + y) (take (length out' - 4 * n) (drop (4 * n) out')) ys r (second-here ex ey)
      two = second (second-here ex ey)

      sum : length (lms W s (inorder b.less) ++ lms W s (inorder b.other)) ≡ length (lms W s (inorder b.less)) + length (lms W s (inorder b.other))
      sum = length-append (lms W s (inorder b.less)) (lms W s (inorder b.other))

      pub branch-below : Below W s k lo out (put_mid (4 * n) (length out' - 4 * n) out' ys) (n + r) h
      branch-below =
          let e = all R h b in
          record {
            long = omega (arith, one.long, two.long, sum, ap length e);
            bytes = behind out out' (lms W s (inorder b.less)) (lms W s (inorder b.other)) ys n (length out' - 4 * n) one.bytes one.long refl (omega (arith, sum, b.fits)) two.bytes
                ∙ ap (paste_w out 0) (sym e);
          }

      pub branch-long : length (put_mid (4 * n) (length out' - 4 * n) out' ys) ≡ length out
      branch-long = ap length branch-below.bytes ∙ length-paste_w out 0 (lms W s (inorder h.tree)) (omega (arith, h.fits))

      pub few_words : 4 * (n + r) ≤ length out
      few_words = omega (arith, branch-below.long, h.fits)
