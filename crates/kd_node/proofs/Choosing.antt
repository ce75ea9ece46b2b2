-- Which sides of a branch are visited, by the words that are tested. Assumes nothing.
use mathlib.Core.Path.{◌≡◌, refl, sym, ap, ◌∙◌}
use mathlib.Core.Bool.{Bool, true, false, cond, ◌&&◌}
use mathlib.Core.List.{List, ◌++◌}
use Prim.Native.Nat.{ℕ, zero, suc, ◌+◌, ◌-◌, ◌*◌, ◌^◌, ◌≤◌, ◌<◌}
use native.Mathlib.Omega.{arith}
use native.Mathlib.Decide.{dec_le}
use mathlib.Core.Logic.{◌⊎◌, inl, inr}
use lib.Dec.{leb, ltb}
use lib.ListN.{length, get_or}
use borrow.Author.Tests.{le-leb, leb-true}
use Rattle.words.specs.Words.{words}
use Rattle.words.proofs.Laws.{length-words}
use Rattle.monomial.specs.Monomial.{pow}
use Rattle.monomial.specs.Operations.{all_below}
use Rattle.monomial.proofs.Divisions.{all_true, all-each}
use Rattle.divmask.specs.Mask.{mask, bit, within, tested}
use Rattle.divmask.specs.declared.DivMaskTestResult.TheVariants.{NotDivisible, Unsure}
use Rattle.fast_compare.specs.Map as map
use Rattle.kd_theory.specs.Tree.{Tree, branch, inorder}
use Rattle.index_theory.specs.Entries.{Entry}
use Rattle.index_theory.specs.State.{Kind, monomials, ratioed, State, keys_of, power_in}
use Rattle.index_theory.specs.Searches.{Query, kind_for, node_mask, may, path}
use Rattle.index_theory.specs.Ranges.{dividend, by_lm, not_below, not_past, may_go, dim_of, limit_of}
use Rattle.index_theory.proofs.Ranging.{Goes, ratio-goes, variable-goes}
use Rattle.index_image.specs.Layout.{code, gcd_powers}
use Rattle.index_image.specs.Shape as at
use Rattle.index_image.specs.Walk as walk
use Rattle.index_image.specs.Walk.{label, dims}
use Rattle.index_image.specs.declared.Shape.{Shape}
use Rattle.index_image.proofs.Shapes.{code-ratio}
use Rattle.index_image.proofs.Trees.{nodes-branch}
use Rattle.kd_image.specs.HasTree.{HasTree}
use Rattle.kd_image.proofs.Standing.{based, node-next, row_inside}
use Rattle.kd_image.proofs.Becoming.{parts}
use Rattle.kd_image.proofs.Reading.{label-of-entry, holds-ready}
use Rattle.query_words.specs.Asked.{node_mask_in, mask_in, from_in, to_in, label_at, Asks}
use Rattle.kd_node.specs.Branch.{ReadyBranch, SidesAre, Chosen}

-- ---- masks
pub not_within : (a b : ℕ) → NotDivisible ≡ tested a b → within a b ≡ false
unfolding tested
not_within a b e = go (within a b) e
  where
    go : (c : Bool) → NotDivisible ≡ cond c Unsure NotDivisible → c ≡ false
    go true e = absurd (let z : ◌≡◌ {A = ℕ} 0 1 = cc in omega arith)
    go false e = refl

pub is_within : (a b : ℕ) → Unsure ≡ tested a b → within a b ≡ true
unfolding tested
is_within a b e = go (within a b) e
  where
    go : (c : Bool) → Unsure ≡ cond c Unsure NotDivisible → c ≡ true
    go true e = refl
    go false e = absurd (let z : ◌≡◌ {A = ℕ} 0 1 = cc in omega arith)

-- ---- the dimension of a branch, and its key
pub record DimIs (s : Shape) (d key : ℕ) : Type 0 where
  pub small : d < dims s
  pub entry : suc d ≡ s.kind → key < s.entries
  pub variable : (suc d ≡ s.kind → ⊥) → s.kind ≤ d

dim-is : (k : Kind) (m : ℕ) (es : List Entry) (l : map.State) (s : Shape) (d key : ℕ) → s.kind ≡ code k → s.variables ≡ m → s.entries ≡ length es → (keys_of k m es l).valid d key → DimIs s d key
dim-is monomials m es l s d key ek em ee v = record { small = omega (arith, v); entry = λ z. absurd (omega arith); variable = λ z. omega arith }
dim-is ratioed m es l s zero key ek em ee v = record { small = omega arith; entry = λ z. omega (arith, v); variable = λ z. absurd (z (sym ek)) }
dim-is ratioed m es l s (suc d) key ek em ee v = record { small = omega (arith, v); entry = λ z. absurd (omega arith); variable = λ z. omega arith }

tree-dim : (st : State) (W : List ℕ) (s : Shape) (k lo rows d key : ℕ) (a b : Tree) → HasTree st W s k lo rows (branch d key a b) → DimIs s d key
tree-dim st W s k lo rows d key a b h = dim-is st.kind st.variables st.entries st.labels s d key h.holds.kind h.holds.vars h.holds.size h.ordered.0.key

pub record BranchNumbers (bs : List ℕ) (s : Shape) (k : ℕ) : Type 0 where
  pub ready : walk.Ready (words bs) s
  pub row : k ≤ 8191
  pub room : 4 * (at.node_at s k + 6) ≤ length bs
  pub tag : 1 ≤ get_or (words bs) (at.node_at s k) 0
  pub small : get_or (words bs) (at.node_at s k) 0 ≤ 65
  pub entry : get_or (words bs) (at.node_at s k) 0 ≡ s.kind → (s.kind ≡ 1) × (get_or (words bs) (at.node_at s k + 1) 0 < s.entries)

pub branch-numbers : (bs ms : List ℕ) (s : Shape) (Q : List ℕ) (k lo rows best : ℕ) → ReadyBranch bs ms s Q k lo rows best → BranchNumbers bs s k
branch-numbers bs ms s Q k lo rows best w =
    let h = w.has in
    let st = w.state in
    let W = words bs in
    let n = nodes-branch w.dim w.key w.less w.other in
    let p = (parts st s W k lo rows w.dim w.key w.less w.other h).here in
    let d = tree-dim st W s k lo rows w.dim w.key w.less w.other h in
    record {
      ready = holds-ready st W s h.holds;
      row = omega (arith, h.fits, h.rows-to, h.holds.range.cap-to);
      room = omega (arith, node-next s k, row_inside st W s (based h.holds) (k + 1) rows (omega (arith, h.fits)) h.rows-to, length-words bs, h.holds.range.vars-from);
      tag = omega (arith, p.tag_is);
      small = omega (arith, p.tag_is, d.small, h.holds.range.vars-to, h.holds.range.kind-to);
      entry = λ z. (omega (arith, p.tag_is, h.holds.range.kind-to), omega (arith, p.key-is, d.entry (sym p.tag_is ∙ z)));
    }

-- ---- the mask of a node
-- every mask is within the one that has all bits
ones : all_below 32 (λ i. leb 1 (bit 4294967295 i)) ≡ true
unfolding all_below bit
ones = refl

bit-small : (a i : ℕ) → bit a i ≤ 1
unfolding bit
bit-small a i = omega arith

all_set : (m : ℕ) → within m 4294967295 ≡ true
unfolding within
all_set m = all_true 32 (λ i. leb (bit m i) (bit 4294967295 i))
    (λ i h. le-leb (bit m i) (bit 4294967295 i) (let z = all-each 32 (λ i. leb 1 (bit 4294967295 i)) ones i h in omega (arith, leb-true, bit-small m i)))

may-is : (st : State) (q es : List ℕ) (m qm : ℕ) → m ≡ mask st.variables st.map_maxima (gcd_powers (power_in st.entries) es)
    → qm ≡ mask st.variables st.map_maxima (pow 1 q) → may st q es ≡ within m qm
unfolding may node_mask gcd_powers
may-is st q es m qm e f = rw (e, f) refl

and_self : (a b : Bool) → a ≡ true → a && b ≡ b
and_self a b e = rw e refl

and-out : (a b : Bool) → a ≡ false → a && b ≡ false
and-out a b e = rw e refl

module _ (bs ms : List ℕ) (s : Shape) (Q : List ℕ) (k lo rows tag : ℕ) (et : tag ≡ get_or (words bs) (at.node_at s k) 0)
    (words-fit : (i : ℕ) → get_or (words bs) i 0 < 2 ^ 32) where
  abbrev m : ℕ
  m = get_or (words bs) (at.node_at s k + 4) 0

  -- what the row says
  record Seen (st : State) (r : Query) (d key : ℕ) (a b : Tree) : Type 0 where
    may-now : may_go st r (inorder a ++ inorder b) ≡ within (get_or (words bs) (at.node_at s k + 4) 0) (node_mask_in Q)
    tag_is : tag ≡ suc d
    key-is : get_or (words bs) (at.node_at s k + 1) 0 ≡ key
    dim : DimIs s d key
    small : suc d ≤ 65

  seen : (st : State) (r : Query) (d key : ℕ) (a b : Tree) → Asks st r ms s Q → HasTree st (words bs) s k lo rows (branch d key a b) → Seen st r d key a b
  unfolding may_go
  seen st r d key a b q h =
      let p = (parts st s (words bs) k lo rows d key a b h).here in
      let dd = tree-dim st (words bs) s k lo rows d key a b h in
      record {
        may-now = go (by_lm r) q.node-masked (may-is st (dividend r) (inorder a ++ inorder b) m (mask_in Q) (p.mask_is ∙ rw h.holds.vars refl) q.masked);
        tag_is = et ∙ p.tag_is;
        key-is = p.key-is;
        dim = dd;
        small = omega (arith, dd.small, h.holds.range.vars-to, h.holds.range.kind-to);
      }
    where
      go : (b : Bool) {x : Bool} → node_mask_in Q ≡ cond b (mask_in Q) 4294967295 → x ≡ within (get_or (words bs) (at.node_at s k + 4) 0) (mask_in Q)
          → cond b x true ≡ within (get_or (words bs) (at.node_at s k + 4) 0) (node_mask_in Q)
      go true e f = f ∙ rw e refl
      go false e f = rw e (sym (all_set m))

  goes : (st : State) (r : Query) (d key : ℕ) (a b : Tree) (u v u' v' : Bool) → Seen st r d key a b → u ≡ u' → v ≡ v'
      → Goes (path st r d key (inorder a ++ inorder b)) u v → SidesAre st r d key (inorder a ++ inorder b) u' v' tag
  goes st r d key a b u v u' v' z e f g = record { less-is = sym (g.less-is ∙ e); other-is = sym (g.other-is ∙ f); next-is = z.tag_is; next-to = omega (arith, z.tag_is, z.small) }

  -- a ratio's branch has dimension 0
  module _ (st : State) (r : Query) (d key : ℕ) (a b : Tree) (q : Asks st r ms s Q) (h : HasTree st (words bs) s k lo rows (branch d key a b)) where
    z : Seen st r d key a b
    z = seen st r d key a b q h

    at-ratio : tag ≡ s.kind → Goes (path st r d key (inorder a ++ inorder b)) (may_go st r (inorder a ++ inorder b) && not_below st.entries r key)
        (may_go st r (inorder a ++ inorder b) && not_past st.entries r key)
    at-ratio t =
        let one : s.kind ≡ 1 = omega (arith, z.tag_is, h.holds.range.kind-to) in
        let d0 : d ≡ 0 = omega (arith, z.tag_is) in
        let kk = code-ratio st.kind (sym h.holds.kind ∙ one) in
        turned d0 (ratio-goes st r key (inorder a ++ inorder b) (sym q.home ∙ kk))
      where
        turned : {d : ℕ} {u v : Bool} → d ≡ 0 → Goes (path st r 0 key (inorder a ++ inorder b)) u v → Goes (path st r d key (inorder a ++ inorder b)) u v
        turned e g = rw e g

    variable-is : (v : ℕ) → d ≡ s.kind + v → d ≡ dim_of (kind_for r) v
    variable-is v e = go st.kind q.home h.holds.kind
      where
        go : (c : Kind) → c ≡ kind_for r → s.kind ≡ code c → d ≡ dim_of (kind_for r) v
        go monomials f g = rw (← f) (omega arith)
        go ratioed f g = rw (← f) (omega arith)

    at-variable : (tag ≡ s.kind → ⊥) → (v : ℕ) → d ≡ s.kind + v
        → Goes (path st r d key (inorder a ++ inorder b)) (may_go st r (inorder a ++ inorder b)) (may_go st r (inorder a ++ inorder b) && leb key (limit_of r v))
    at-variable t v e =
        let small : key < 4294967296 = omega (arith, z.key-is, words-fit (at.node_at s k + 1)) in
        turned (variable-is v e) (variable-goes st r v key (inorder a ++ inorder b) small)
      where
        turned : {c : ℕ} {x y : Bool} → d ≡ c → Goes (path st r c key (inorder a ++ inorder b)) x y → Goes (path st r d key (inorder a ++ inorder b)) x y
        turned e g = rw e g

  pub path-stop : (b : Bool) → b ≡ false → b ≡ within (get_or (words bs) (at.node_at s k + 4) 0) (node_mask_in Q) → Chosen bs ms s Q k lo rows false false tag
  unfolding Chosen
  path-stop b t eb st r d key x y q h = pick (tag-test tag s.kind)
    where
      zz : Seen st r d key x y
      zz = seen st r d key x y q h

      out : may_go st r (inorder x ++ inorder y) ≡ false
      out = zz.may-now ∙ sym eb ∙ t

      tag-test : (a b : ℕ) → (a ≡ b) ⊎ (a ≡ b → ⊥)
      tag-test a b = elim (dec_le a b) [ no h ↦ inr (λ e. omega arith) | yes h ↦ elim (dec_le b a) [ no l ↦ inr (λ e. omega arith) | yes l ↦ inl (omega arith) ] ]

      pick : (tag ≡ s.kind) ⊎ (tag ≡ s.kind → ⊥) → SidesAre st r d key (inorder x ++ inorder y) false false tag
      pick (inl e) = goes st r d key x y _ _ false false zz (and-out _ _ out) (and-out _ _ out) (at-ratio st r d key x y q h e)
      pick (inr e) =
          let v = d - s.kind in
          let k1 = zz.dim.variable (λ w. e (zz.tag_is ∙ w)) in
          goes st r d key x y _ _ false false zz out (and-out _ _ out) (at-variable st r d key x y q h e v (omega arith))

  module _ (go : Bool) (et' : go ≡ true) (eb : go ≡ within (get_or (words bs) (at.node_at s k + 4) 0) (node_mask_in Q)) where
    open-now : (st : State) (r : Query) (d key : ℕ) (a b : Tree) → Seen st r d key a b → may_go st r (inorder a ++ inorder b) ≡ true
    open-now st r d key a b zz = zz.may-now ∙ sym eb ∙ et'

    pub path-label : tag ≡ s.kind → (l : ℕ) → l ≡ label (words bs) s (get_or (words bs) (at.node_at s k + 1) 0) → Chosen bs ms s Q k lo rows (leb (from_in Q) l) (ltb l (to_in Q)) tag
    unfolding Chosen
    path-label t l el st r d key a b q h =
        let zz = seen st r d key a b q h in
        let one : s.kind ≡ 1 = omega (arith, zz.tag_is, h.holds.range.kind-to) in
        let kk = code-ratio st.kind (sym h.holds.kind ∙ one) in
        let ke = zz.dim.entry (sym zz.tag_is ∙ t) in
        let ll : label_at st key ≡ l = sym (el ∙ rw zz.key-is (label-of-entry st (words bs) s h.holds kk key ke)) in
        let R = q.range kk in
        let n : key < length st.entries = omega (arith, h.holds.size, ke) in
        let o = open-now st r d key a b zz in
        goes st r d key a b _ _ (leb (from_in Q) l) (ltb l (to_in Q)) zz (and_self _ _ o ∙ R.from_is key n ∙ ap (leb (from_in Q)) ll)
        (and_self _ _ o ∙ R.to_is key n ∙ ap (λ (y : ℕ). ltb y (to_in Q)) ll) (at-ratio st r d key a b q h t)

    pub path-limit : (tag ≡ s.kind → ⊥) → (c : Bool) → c ≡ leb (get_or (words bs) (at.node_at s k + 1) 0) (get_or Q tag 0) → Chosen bs ms s Q k lo rows true c tag
    unfolding Chosen
    path-limit t c ec st r d key a b q h =
        let zz = seen st r d key a b q h in
        let k1 = zz.dim.variable (λ w. t (zz.tag_is ∙ w)) in
        let v = d - s.kind in
        let o = open-now st r d key a b zz in
        let e : tag ≡ 1 + s.kind + v = omega (arith, zz.tag_is) in
        let lim : get_or Q tag 0 ≡ limit_of r v = ap (λ (j : ℕ). get_or Q j 0) e ∙ q.limits v (omega (arith, zz.dim.small)) in
        goes st r d key a b _ _ true c zz o (and_self _ _ o ∙ sym (ec ∙ rw (zz.key-is, lim) refl)) (at-variable st r d key a b q h t v (omega arith))
