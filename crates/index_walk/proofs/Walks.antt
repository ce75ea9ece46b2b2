-- The returns of the walk. Assumes nothing.
use mathlib.Core.Path.{◌≡◌, refl, sym, ap, ◌∙◌}
use Rattle.std.specs.Prelude.{Option, Some, None}
use mathlib.Core.List.{List, ◌++◌}
use Prim.Native.Nat.{ℕ, suc, ◌+◌, ◌-◌, ◌*◌, ◌≤◌, ◌<◌}
use native.Mathlib.Omega.{arith}
use native.Mathlib.Decide.{ℕ_discrete}
use lib.ListN.{length, get_or, set, length-append}
use Rattle.words.specs.Tables.{part}
use Rattle.words.proofs.Tables.{length_part}
use Rattle.monomial.specs.Operations.{result_words}
use Rattle.monomial.specs.declared.ordered_ops.Op.TheVariants.{Gcd}
use Rattle.kd_theory.specs.Bag.{◌∈◌}
use Rattle.kd_theory.specs.Bifurcate.{least}
use Rattle.kd_theory.specs.Tree.{Tree, leaf, branch, inorder, nodes}
use Rattle.kd_theory.proofs.BagLaws.{in_left, in_right, in_both}
use Rattle.kd_theory.proofs.BifurcateLaws.{least-le, least-from}
use Rattle.index_image.specs.declared.Shape.{Shape}
use Rattle.branch_rows.specs.declared.Limits.{Limits}
use Rattle.index_image.specs.Shape as at
use Rattle.index_image.specs.Walk.{power, label, map_maxima, Ready, Below, Sides, Ordered, TreeAt}
use Rattle.leaf_rows.specs.Leaves.{Bounded}
use Rattle.index_walk.specs.Walked.{Found, Walked}
use Rattle.index_image.specs.Layout.{gcd_of}
use Rattle.index_image.specs.Shape.{tag_at, key_at, count_at, gcd_at}
use Rattle.index_image.specs.Rows.{monomial_in, entries_from}
use Rattle.leaf_rows.specs.Leaves.{Inside, LeafOk}
use Rattle.branch_rows.specs.Branches.{KeyIn, BelowKey, Cut, Slots, OtherOk, BranchOk}
use Rattle.index_image.proofs.Gcds.{Powers, image-powers, SlotHas, gcd-both, gcd-pow}
use Rattle.index_image.proofs.Places.{place-fits}
use Rattle.leaf_rows.proofs.Bounding.{bounded-each}
use Rattle.index_image.proofs.Keys.{key-ratio, ratio-key, some_of, below-variable}
use Rattle.index_image.proofs.Trees.{some-node, nodes-branch, nodes-leaf, RowIs, take-apart, put-together, leaf-row, row-leaf, Head, tree-head}

module _ {W : List ℕ} {s : Shape} (R : Ready W s) where
  abbrev few' : s.variables ≤ 64
  few' = R.range.vars-to

  abbrev pw : ℕ → ℕ → ℕ
  pw = power W s

  abbrev lb : ℕ → ℕ
  lb = label W s

  abbrev xs : List ℕ
  xs = map_maxima W s

  P : Powers s.variables pw
  P = image-powers W s few'

  -- rows and places in use lie within the capacity's
  rows_in : {k : ℕ} → k ≤ s.nodes → k ≤ 2 * s.capacity - 1
  rows_in h = omega (arith, R.range.nodes-to)

  places-in : {n : ℕ} → n ≤ s.entries → n ≤ s.capacity
  places-in h = omega (arith, R.range.few)

  -- ---- the laws of trees, by the image's own map and powers
  abbrev FirstRow : ℕ → Tree → Type 0
  FirstRow k t = Head W s R.range R.room xs pw P k t

  first-row : (k lo : ℕ) (t : Tree) → TreeAt W s k lo t → k + nodes t ≤ s.nodes → lo + length (inorder t) ≤ s.entries → FirstRow k t
  first-row k lo t x h n = tree-head W s R.range R.room xs pw P k lo t x.stands (rows_in h) (places-in n)

  row-of-leaf : (k lo : ℕ) (es : List ℕ) → TreeAt W s k lo (leaf es) → k < s.nodes → RowIs W s.variables xs pw (at.node_at s k) 0 0 0 es
  row-of-leaf k lo es x h = leaf-row W s R.range R.room xs pw P k lo es x.stands (rows_in h)

  leaf-of-row : (k lo : ℕ) (es : List ℕ) → k < s.nodes → RowIs W s.variables xs pw (at.node_at s k) 0 0 0 es
      → part W (at.permutation_at s + lo) (length es) ≡ es → TreeAt W s k lo (leaf es)
  unfolding Ordered
  leaf-of-row k lo es h r p = record { stands = row-leaf W s R.range R.room xs pw P k lo es (rows_in h) r p; ordered = tt }

  module _ (k lo d key : ℕ) (l r : Tree) (hk : k + suc (nodes l + nodes r) ≤ s.nodes) (hlo : lo + (length (inorder l) + length (inorder r)) ≤ s.entries) where
    record Apart : Type 0 where
      here : RowIs W s.variables xs pw (at.node_at s k) (suc d) key (nodes l) (inorder l ++ inorder r)
      sides : Sides s pw lb d key (inorder l) (inorder r)
      one : TreeAt W s (k + 1) lo l
      two : TreeAt W s (k + 1 + nodes l) (lo + length (inorder l)) r

    apart : TreeAt W s k lo (branch d key l r) → Apart
    unfolding Ordered
    apart t =
        let p = take-apart W s R.range R.room xs pw P k lo d key l r (rows_in hk) (places-in hlo) t.stands in
        record {
          here =
              p.here;
          sides = t.ordered.0;
          one = record { stands = p.one; ordered = t.ordered.1.0 };
          two = record { stands = p.two; ordered = t.ordered.1.1 };
        }

    together : Apart → TreeAt W s k lo (branch d key l r)
    unfolding Ordered
    together a = record {
      stands = put-together W s R.range R.room xs pw P k lo d key l r (rows_in hk) (places-in hlo)
          (record { here = a.here; one = a.one.stands; two = a.two.stands });
      ordered = (a.sides, (a.one.ordered, a.two.ordered));
    }

  -- what a branch's row says of its key
  key_in : (k d key t : ℕ) (l r : List ℕ) → RowIs W s.variables xs pw (at.node_at s k) (suc d) key t (l ++ r) → Sides s pw lb d key l r → KeyIn W s (at.node_at s k)
  key_in k d key t l r h o = record {
    two = omega (arith, h.count, length-append l r, o.some-less, o.some-other);
    from = omega (arith, h.tag_is);
    to = omega (arith, h.tag_is, o.dim);
    ratio = λ e. rw h.key-is (key-ratio s.kind s.entries d key o.key (sym h.tag_is ∙ e) R.range.kind-to);
    variable = λ n.
        let x = some_of (λ e. Below s.kind pw lb d key e) l o.some-less o.less in
        let y = (below-variable pw lb s.kind d key x.0 R.range.kind-to (not-kind n h.tag_is)).0 x.1 in
        omega (arith, h.key-is);
  }
    where
      not-kind : (get_or W (tag_at (at.node_at s k)) 0 ≡ s.kind → ⊥) → get_or W (tag_at (at.node_at s k)) 0 ≡ suc d → s.kind ≤ d
      not-kind n e = omega (arith, R.range.kind-to)

  -- the gcd of a branch, by those of its sides
  gcds : (a b : ℕ) (l r : List ℕ) → 0 < length l → 0 < length r → SlotHas W s.variables (gcd_at a) (gcd_of pw l) → SlotHas W s.variables (gcd_at b) (gcd_of pw r)
      → result_words Gcd (monomial_in W s.variables (gcd_at a)) (monomial_in W s.variables (gcd_at b)) ≡ gcd_of pw (l ++ r)
  gcds a b l r hl hr x y = rw (x.is, y.is) (gcd-both s.variables pw P l r hl hr)

  -- the other side is not below the key of a variable exactly when its gcd is not
  other-in : (a b d key : ℕ) (r : List ℕ) → 0 < length r → get_or W (tag_at a) 0 ≡ suc d → get_or W (key_at a) 0 ≡ key → SlotHas W s.variables (gcd_at b) (gcd_of pw r)
      → ((e : ℕ) → e ∈ r → Below s.kind pw lb d key e → ⊥) → OtherOk W s a b
  other-in a b d key r hr et ek y f n =
      let v = get_or W (tag_at a) 0 - 1 - s.kind in
      let ev : v ≡ d - s.kind = omega arith in
      let kd : s.kind ≤ d = omega (arith, R.range.kind-to) in
      let l : key ≤ least (pw (d - s.kind)) r = least-from (pw (d - s.kind)) key r hr
      (λ e m. not-less e (λ z. f e m ((below-variable pw lb s.kind d key e R.range.kind-to kd).1 z))) in
      rw (ek, y.is, gcd-pow s.variables pw P r v, ev) l
    where
      not-less : (e : ℕ) → (pw (d - s.kind) e < key → ⊥) → key ≤ pw (d - s.kind) e
      not-less e n = omega arith

  other-of : (a b : ℕ) (r : List ℕ) → 1 ≤ get_or W (tag_at a) 0 → (get_or W (tag_at a) 0 ≡ s.kind → ⊥) → SlotHas W s.variables (gcd_at b) (gcd_of pw r)
      → OtherOk W s a b → (e : ℕ) → e ∈ r → BelowKey W s a e → ⊥
  other-of a b r h n y o e m z =
      let v = get_or W (tag_at a) 0 - 1 - s.kind in
      let kd : s.kind ≤ get_or W (tag_at a) 0 - 1 = omega (arith, R.range.kind-to) in
      let g : get_or W (key_at a) 0 ≤ least (pw v) r = rw (y.is, gcd-pow s.variables pw P r v) at (o n) in
      omega (arith, least-le (pw v) r e m, (below-variable pw lb s.kind (get_or W (tag_at a) 0 - 1) (get_or W (key_at a) 0) e R.range.kind-to kd).0 z)

  -- ---- what is known at each step of the walk
  -- row k has c entries, which stand from place lo on; avail places are left, and the bounds are H, ll and lh
  pub record Row (H : List ℕ) (ll lh k lo avail c : ℕ) : Type 0 where
    pub places : lo + avail ≤ s.entries
    pub count : c ≡ get_or W (count_at (at.node_at s k)) 0

  pub record Tagged (H : List ℕ) (ll lh k lo avail c tag : ℕ) : Type 0 where
    pub row : Row H ll lh k lo avail c
    pub used : k < s.nodes
    pub fits : c ≤ avail
    pub tag_is : tag ≡ get_or W (tag_at (at.node_at s k)) 0

  -- it is a branch's, b has the bounds of its sides, and r1 is what was found of its less side
  pub record Less (H : List ℕ) (ll lh k lo avail c tag : ℕ) (b : Limits) (r1 : Option ℕ) : Type 0 where
    pub tagged : Tagged H ll lh k lo avail c tag
    pub no-leaf : tag ≡ 0 → ⊥
    pub key : KeyIn W s (at.node_at s k)
    pub cut : Cut W s H ll lh (at.node_at s k) b
    pub walked : Walked W s (set H b.variable b.power) b.less.start b.less.end (k + 1) lo (c - 1) r1

  module _ {H : List ℕ} {ll lh k lo avail : ℕ} where
    -- there is no tree
    none : ((t : Tree) → Found W s H ll lh k lo avail t → ⊥) → Walked W s H ll lh k lo avail None
    none f = record { only = λ t a. absurd (f t a); made = λ n (e : None ≡ Some n). let no : ⊥ = cc in absurd no }

    pub no_row : s.nodes ≤ k → Walked W s H ll lh k lo avail None
    no_row h = none (λ t f. omega (arith, some-node t, f.inside))

    -- one row is left, and it is not a leaf's
    pub not-one : k < s.nodes → s.nodes ≤ k + 1 → {tag : ℕ} → tag ≡ get_or W (tag_at (at.node_at s k)) 0 → (tag ≡ 0 → ⊥) → Walked W s H ll lh k lo avail None
    not-one hk last et n = none go
      where
        go : (t : Tree) → Found W s H ll lh k lo avail t → ⊥
        go (leaf es) f = n (et ∙ (row-of-leaf k lo es f.is hk).tag_is)
        go (branch d key l r) f = omega (arith, nodes-branch d key l r, some-node l, some-node r, f.inside)

    module _ {c : ℕ} (x : Row H ll lh k lo avail c) where
      head : (t : Tree) → Found W s H ll lh k lo avail t → FirstRow k t
      head t f = first-row k lo t f.is f.inside (omega (arith, f.few))

      pub too_many : avail < c → Walked W s H ll lh k lo avail None
      too_many h = none (λ t f. omega (arith, (head t f).count, x.count, f.few))

    module _ {c tag : ℕ} (x : Tagged H ll lh k lo avail c tag) where
      -- ---- leaves
      record IsLeaf (t : Tree) : Type 0 where
        ok : LeafOk W s H ll lh (at.node_at s k) lo c
        size : nodes t ≡ 1

      leaf-only : tag ≡ 0 → (t : Tree) → Found W s H ll lh k lo avail t → IsLeaf t
      leaf-only z (leaf es) f =
          let r = row-of-leaf k lo es f.is x.used in
          let cl : c ≡ length es = x.row.count ∙ r.count in
          let e : entries_from W s lo c ≡ es = rw cl f.is.stands.perm in
          record { ok = record { key = r.key-is; skip = r.skip_is; node = rw e r.node; bounded = rw e f.bounded }; size = nodes-leaf es }
      leaf-only z (branch d key l r) f =
          let p = apart k lo d key l r (omega (arith, nodes-branch d key l r, f.inside)) (omega (arith, length-append (inorder l) (inorder r), f.few)) f.is in
          absurd (omega (arith, p.here.tag_is))

      pub no-leaf : tag ≡ 0 → (LeafOk W s H ll lh (at.node_at s k) lo c → ⊥) → Walked W s H ll lh k lo avail None
      no-leaf z n = none (λ t f. n (leaf-only z t f).ok)

      pub a-leaf : tag ≡ 0 → LeafOk W s H ll lh (at.node_at s k) lo c → Walked W s H ll lh k lo avail (Some 1)
      a-leaf z o =
          let es = entries_from W s lo c in
          let le : length es ≡ c = length_part W (at.permutation_at s + lo) c (omega (arith, place-fits W s R (lo + c) (omega arith))) in
          record {
            only = λ t f. ap Some (sym (leaf-only z t f).size);
            made = λ n h. (
              leaf es,
              record {
                is = leaf-of-row k lo es x.used (record {
                  tag_is = sym x.tag_is ∙ z;
                  key-is = o.key;
                  count = sym x.row.count
                      ∙ sym le;
                  skip_is = o.skip;
                  node = o.node;
                }) (rw le refl);
                inside = omega (arith, nodes-leaf es);
                few = omega arith;
                bounded = o.bounded;
              },
            );
          }

      -- ---- branches
      module _ (nz : tag ≡ 0 → ⊥) where
        record IsBranch (t : Tree) : Type 0 where
          d : ℕ
          key : ℕ
          l : Tree
          r : Tree
          size : nodes t ≡ suc (nodes l + nodes r)
          count : c ≡ length (inorder l) + length (inorder r)
          fits : k + suc (nodes l + nodes r) ≤ s.nodes
          here : RowIs W s.variables xs pw (at.node_at s k) (suc d) key (nodes l) (inorder l ++ inorder r)
          sides : Sides s pw lb d key (inorder l) (inorder r)
          one : TreeAt W s (k + 1) lo l
          two : TreeAt W s (k + 1 + nodes l) (lo + length (inorder l)) r
          bounded : (e : ℕ) → e ∈ (inorder l ++ inorder r) → Inside W s H ll lh e

        branch-only : (t : Tree) → Found W s H ll lh k lo avail t → IsBranch t
        branch-only (leaf es) f = absurd (nz (x.tag_is ∙ (row-of-leaf k lo es f.is x.used).tag_is))
        branch-only (branch d key l r) f =
            let la = length-append (inorder l) (inorder r) in
            let nb = nodes-branch d key l r in
            let p = apart k lo d key l r (omega (arith, f.inside)) (omega (arith, f.few)) f.is in
            record {
              d = d;
              key = key;
              l = l;
              r = r;
              size = nb;
              count = x.row.count ∙ p.here.count ∙ la;
              fits = omega (arith, f.inside);
              here = p.here;
              sides = p.sides;
              one = p.one;
              two = p.two;
              bounded = (bounded-each W s H ll lh (inorder l ++ inorder r)).0 f.bounded;
            }

        pub no_key : (KeyIn W s (at.node_at s k) → ⊥) → Walked W s H ll lh k lo avail None
        no_key n = none (λ t f. let b = branch-only t f in n (key_in k b.d b.key (nodes b.l) (inorder b.l) (inorder b.r) b.here b.sides))

    module _ {c tag : ℕ} {b : Limits} {r1 : Option ℕ} (less : Less H ll lh k lo avail c tag b r1) where
      abbrev K : KeyIn W s (at.node_at s k)
      K = less.key

      abbrev C : Cut W s H ll lh (at.node_at s k) b
      C = less.cut

      abbrev w1 : Walked W s (set H b.variable b.power) b.less.start b.less.end (k + 1) lo (c - 1) r1
      w1 = less.walked

      abbrev Branch : Tree → Type 0
      Branch t = IsBranch less.tagged less.no-leaf t

      branch-of : (t : Tree) → Found W s H ll lh k lo avail t → Branch t
      branch-of t f = branch-only less.tagged less.no-leaf t f

      -- the sides of a tree that is there, within their bounds
      less-inside : (t : Tree) (x : Branch t) → Bounded W s (set H b.variable b.power) b.less.start b.less.end (inorder x.l)
      less-inside t x =
          let ed : get_or W (tag_at (at.node_at s k)) 0 - 1 ≡ x.d = omega (arith, x.here.tag_is) in
          (bounded-each W s (set H b.variable b.power) b.less.start b.less.end (inorder x.l)).1
          (λ e m. (C.less e).1 (x.bounded e (in_left e (inorder x.l) (inorder x.r) m), rw (ed, x.here.key-is) (x.sides.less e m)))

      other-inside : (t : Tree) (x : Branch t) → Bounded W s H b.other.start b.other.end (inorder x.r)
      other-inside t x =
          let ed : get_or W (tag_at (at.node_at s k)) 0 - 1 ≡ x.d = omega (arith, x.here.tag_is) in
          (bounded-each W s H b.other.start b.other.end (inorder x.r)).1
          (λ e m. (C.other e).1 (x.bounded e (in_right e (inorder x.l) (inorder x.r) m), λ z. rw (ed, x.here.key-is) (x.sides.other e m)))

      first : (t : Tree) (x : Branch t) → r1 ≡ Some (nodes x.l)
      first t x = w1.only x.l (record {
        is = x.one;
        inside = omega (arith, x.fits);
        few = omega (arith, x.count, x.sides.some-other);
        bounded = less-inside t x;
      })

      pub no-first : r1 ≡ None → Walked W s H ll lh k lo avail None
      no-first e = none (λ t f. let x = branch-of t f in let o : r1 ≡ Some (nodes x.l) = first t x in cc)

      module _ {t1 : ℕ} (h1 : r1 ≡ Some t1) where
        -- what the tree of the less side says of numbers
        pub record One : Type 0 where
          pub some : 0 < t1
          pub inside : k + 1 + t1 ≤ s.nodes
          pub few : get_or W (count_at (at.node_at s (k + 1))) 0 ≤ c - 1

        l1 : Tree
        l1 = (w1.made t1 h1).0

        f1 : Found W s (set H b.variable b.power) b.less.start b.less.end (k + 1) lo (c - 1) l1
        unfolding l1
        f1 = (w1.made t1 h1).1

        n1 : t1 ≡ nodes l1
        n1 = let o : r1 ≡ Some (nodes l1) = w1.only l1 f1 in cc

        same_less : (t : Tree) (x : Branch t) → t1 ≡ nodes x.l
        same_less t x = let o : r1 ≡ Some (nodes x.l) = first t x in cc

        two-entries : 2 ≤ c
        two-entries = omega (arith, K.two)

        head1 : FirstRow (k + 1) l1
        head1 = first-row (k + 1) lo l1 f1.is f1.inside (omega (arith, f1.few, two-entries))

        pub one-is : One
        one-is = record { some = omega (arith, n1, some-node l1); inside = omega (arith, f1.inside, n1); few = omega (arith, f1.few, head1.count) }

        pub no_less : {ca : ℕ} → ca ≡ get_or W (count_at (at.node_at s (k + 1))) 0 → ca ≡ 0 → Walked W s H ll lh k lo avail None
        no_less ea z = none (λ t f.
            let x = branch-of t f in
            let hl = first-row (k + 1) lo x.l x.one (omega (arith, x.fits)) (omega (arith, x.count)) in
            omega (arith, hl.count, x.sides.some-less))

        module _ {ca : ℕ} (ea : ca ≡ get_or W (count_at (at.node_at s (k + 1))) 0) {r2 : Option ℕ} (w2 : Walked W s H b.other.start b.other.end (k + 1 + t1) (lo + ca) (c - ca) r2) where
          -- the numbers of the sides of a tree that is there
          record Both (t : Tree) (x : Branch t) : Type 0 where
            one : t1 ≡ nodes x.l
            two : r2 ≡ Some (nodes x.r)
            left : FirstRow (k + 1) x.l
            right : FirstRow (k + 1 + t1) x.r

          both : (t : Tree) (x : Branch t) → Both t x
          both t x =
              let e1 = same_less t x in
              let hl = first-row (k + 1) lo x.l x.one (omega (arith, x.fits)) (omega (arith, x.count)) in
              let e2 : ca ≡ length (inorder x.l) = ea ∙ hl.count in
              let tr : TreeAt W s (k + 1 + t1) (lo + ca) x.r = rw (e1, e2) x.two in
              let fr : Found W s H b.other.start b.other.end (k + 1 + t1) (lo + ca) (c - ca) x.r = record {
                is = tr;
                inside = omega (arith, x.fits);
                few = omega (arith, x.count);
                bounded = other-inside t x;
              } in
              record {
                one = e1;
                two = w2.only x.r fr;
                left = hl;
                right = first-row (k + 1 + t1) (lo + ca) x.r tr fr.inside (omega (arith, x.count));
              }

          pub no_second : r2 ≡ None → Walked W s H ll lh k lo avail None
          no_second e = none (λ t f. let x = branch-of t f in let o : r2 ≡ Some (nodes x.r) = (both t x).two in cc)

          branch-is : (t : Tree) (x : Branch t) → BranchOk W s (at.node_at s k) (at.node_at s (k + 1)) (at.node_at s (k + 1 + t1)) t1
          branch-is t x =
              let y = both t x in
              let o = x.sides in
              record {
                some-less = omega (arith, y.left.count, o.some-less);
                some-other = omega (arith, y.right.count, o.some-other);
                count = omega (arith, x.count, y.left.count, y.right.count);
                skip = x.here.skip_is ∙ sym y.one;
                node = rw (gcds (at.node_at s (k + 1)) (at.node_at s (k + 1 + t1)) (inorder x.l) (inorder x.r) o.some-less o.some-other
                    y.left.slot y.right.slot) x.here.node;
                other = other-in (at.node_at s k) (at.node_at s (k + 1 + t1)) x.d x.key (inorder x.r) o.some-other x.here.tag_is
                    x.here.key-is y.right.slot o.other;
              }

          pub no-branch : (BranchOk W s (at.node_at s k) (at.node_at s (k + 1)) (at.node_at s (k + 1 + t1)) t1 → ⊥) → Walked W s H ll lh k lo avail None
          no-branch n = none (λ t f. n (branch-is t (branch-of t f)))

          module _ {t2 : ℕ} (h2 : r2 ≡ Some t2) where
            l2 : Tree
            l2 = (w2.made t2 h2).0

            f2 : Found W s H b.other.start b.other.end (k + 1 + t1) (lo + ca) (c - ca) l2
            unfolding l2
            f2 = (w2.made t2 h2).1

            n2 : t2 ≡ nodes l2
            n2 = let o : r2 ≡ Some (nodes l2) = w2.only l2 f2 in cc

            cl : ca ≡ length (inorder l1)
            cl = ea ∙ head1.count

            head2 : FirstRow (k + 1 + t1) l2
            head2 = first-row (k + 1 + t1) (lo + ca) l2 f2.is f2.inside (omega (arith, f2.few, f1.few, cl, two-entries))

            two_at : TreeAt W s (k + 1 + nodes l1) (lo + length (inorder l1)) l2
            two_at = moved n1 cl f2.is
              where
                moved : {x y n p : ℕ} {t : Tree} → x ≡ n → y ≡ p → TreeAt W s (k + 1 + x) (lo + y) t → TreeAt W s (k + 1 + n) (lo + p) t
                moved e q z = rw (← e, ← q) z

            -- what both trees say of numbers
            pub record Two : Type 0 where
              pub some : 0 < t2
              pub inside : k + 1 + t1 + t2 ≤ s.nodes
              pub slots : Slots W s.variables (at.node_at s (k + 1)) (at.node_at s (k + 1 + t1))

            pub two_is : Two
            two_is = record { some = omega (arith, n2, some-node l2); inside = omega (arith, f2.inside, n2); slots = record { one = head1.slot.some; two = head2.slot.some } }

            pub a-branch : BranchOk W s (at.node_at s k) (at.node_at s (k + 1)) (at.node_at s (k + 1 + t1)) t1 → Walked W s H ll lh k lo avail (Some (1 + t1 + t2))
            a-branch o =
                let d = get_or W (tag_at (at.node_at s k)) 0 - 1 in
                let key = get_or W (key_at (at.node_at s k)) 0 in
                let la = length-append (inorder l1) (inorder l2) in
                let sl : 0 < length (inorder l1) = omega (arith, head1.count, o.some-less) in
                let sr : 0 < length (inorder l2) = omega (arith, head2.count, o.some-other) in
                let cs : c ≡ length (inorder l1) + length (inorder l2) = omega (arith, o.count, head1.count, head2.count) in
                let i1 = (bounded-each W s (set H b.variable b.power) b.less.start b.less.end (inorder l1)).0 f1.bounded in
                let i2 = (bounded-each W s H b.other.start b.other.end (inorder l2)).0 f2.bounded in
                let nb = nodes-branch d key l1 l2 in
                record {
                  only = λ t f.
                      let x = branch-of t f in
                      let y = both t x in
                      let o : r2 ≡ Some (nodes x.r) = y.two in
                      let z : t2 ≡ nodes x.r = cc in
                      ap Some (omega (arith, y.one, x.size));
                  made = λ n h. (
                    branch d key l1 l2,
                    record {
                      is = together k lo d key l1 l2 (omega (arith, f2.inside, n1)) (omega arith) (record {
                        here = record {
                          tag_is = omega (arith, K.from);
                          key-is = refl;
                          count = omega arith;
                          skip_is = o.skip ∙ n1;
                          node = rw (gcds (at.node_at s (k + 1)) (at.node_at s (k + 1 + t1)) (inorder l1) (inorder l2) sl sr head1.slot head2.slot) at o.node;
                        };
                        sides = record {
                          dim = omega (arith, K.to, K.from);
                          key = ratio-key s.kind s.entries d key (λ e. K.ratio (omega (arith, K.from))) R.range.kind-to;
                          some-less = sl;
                          some-other = sr;
                          less = λ e m. ((C.less e).0 (i1 e m)).1;
                          other = not-below o.other i2;
                        };
                        one = f1.is;
                        two = two_at;
                      });
                      inside = omega (arith, f2.inside, n1);
                      few = omega arith;
                      bounded = (bounded-each W s H ll lh (inorder l1 ++ inorder l2)).1
                          (in_both (Inside W s H ll lh) (inorder l1) (inorder l2) (λ e m. ((C.less e).0 (i1 e m)).0) (λ e m. ((C.other e).0 (i2 e m)).0));
                    },
                  );
                }
              where
                not-below : OtherOk W s (at.node_at s k) (at.node_at s (k + 1 + t1)) → ((e : ℕ) → e ∈ inorder l2 → Inside W s H b.other.start b.other.end e)
                    → (e : ℕ) → e ∈ inorder l2 → BelowKey W s (at.node_at s k) e → ⊥
                not-below q i e m z =
                    elim (ℕ_discrete (get_or W (tag_at (at.node_at s k)) 0) s.kind) [
                      | yes y ↦ ((C.other e).0 (i e m)).1 y z
                      | no y ↦ other-of (at.node_at s k) (at.node_at s (k + 1 + t1)) (inorder l2) K.from y head2.slot q e m z
                    ]
