-- Images exist: that of a valid state is of words, and bytes into which it is pasted are its image. Assumes nothing.
use mathlib.Core.Path.{◌≡◌, refl}
use mathlib.Core.List.{List, [], ◌∷◌, ◌++◌}
use Prim.Native.Nat.{ℕ, suc, ◌+◌, ◌-◌, ◌*◌, ◌^◌, ◌≤◌, ◌<◌}
use native.Mathlib.Omega.{arith}
use native.Mathlib.Decide.{ℕ_discrete}
use lib.ListN.{length, drop, length-append}
use Rattle.words.specs.Words.{words, paste_w}
use Rattle.words.specs.Tables.{zeros}
use Rattle.words.proofs.Laws.{Words, length-paste_w, words-paste_w}
use Rattle.words.proofs.Tables.{Small, small-append, small-nil, small-cons, small-zeros, small-table, small-each, part-mid, length-zeros}
use Rattle.monomial.specs.Monomial.{Canonical, pow}
use Rattle.monomial.proofs.Powers.{canonical-powers, monomial-small, powers-in-range}
use Rattle.divmask.specs.Tracker.{Maxima}
use Rattle.divmask.proofs.Masks.{mask-small}
use Rattle.divmask.proofs.Vectors.{vector-small}
use Rattle.fast_compare.specs.Map as map
use Rattle.fast_compare.proofs.Exact as maps
use Rattle.kd_theory.specs.Tree.{Tree, leaf, branch, inorder, nodes}
use Rattle.index_theory.specs.Entries.{Entry, entry_at, ratio_of}
use Rattle.index_theory.specs.State.{Kind, monomials, ratioed, State, Valid, GoodEntry, power_in, label_of, row_of, opened}
use Rattle.index_theory.proofs.Orders.{labels-agree}
use Rattle.index_theory.proofs.Theorems.{opening-valid}
use Rattle.index_image.specs.Layout.{shape_of, header, slot, masked, sign_words, entry_words, gcd_powers, gcd_of, node_words, tree_words, label_words, encode, Is, Sound}
use Rattle.index_image.specs.Shape as at
use Rattle.index_image.specs.Walk as walk
use Rattle.index_image.specs.Walk.{Below, Sides}
use Rattle.index_image.specs.declared.Shape.{Shape}
use Rattle.index_image.proofs.Encoding.{image-length}
use Rattle.index_image.proofs.Lengths.{valid-fits, state-powers}
use Rattle.index_image.proofs.Gcds.{Powers, gcd-words}
use Rattle.index_image.proofs.Trees.{some-node, nodes-branch}
use Rattle.index_image.proofs.Once.{get_in, once-below}
use Rattle.index_image.proofs.Keys.{key-ratio, some_of, below-variable, by-numbers}
use Rattle.index_image.proofs.Rows.{row-of}
use Rattle.index_image.proofs.Images.{labels-of-ratios}
use Rattle.index_image.proofs.Shapes.{code-small}

-- ---- words of monomials
monomial-words : (m : ℕ) (ws : List ℕ) → m ≤ 64 → Canonical 1 m ws → Words ws
monomial-words m ws few can =
    rw (canonical-powers 1 m ws (omega arith) can)
    (monomial-small 1 (pow 1 ws) (omega arith) (λ v. omega (arith, (powers-in-range 1 m ws v (omega arith) (omega arith) can).high)))

slot_small : (m : ℕ) (ws : List ℕ) → Words ws → Small (slot m ws)
unfolding slot
slot_small m ws h = let a : Small ws = record { each = h } in small-append a (small-zeros (at.slot_width m - length ws))

masked_small : (m : ℕ) (xs ws rest : List ℕ) → m ≤ 64 → Canonical 1 m ws → Small rest → Small (masked m xs ws rest)
unfolding masked
masked_small m xs ws rest few can r =
    small-append (slot_small m ws (monomial-words m ws few can)) (small-cons (mask-small m xs (pow 1 ws)) (small-cons (vector-small m (pow 1 ws)) r))

-- ---- an entry
entry-small : (k : Kind) (m : ℕ) (xs : List ℕ) (l : map.State) (e : Entry) → m ≤ 64 → GoodEntry m e → (k ≡ ratioed → row_of l (ratio_of e) < 4096)
    → Small (entry_words k m xs l e)
unfolding entry_words sign_words
entry-small k m xs l e few g row = masked_small m xs e.lm (sign_words k m xs l e) few g.lm-canonical (sign k row)
  where
    sign : (k : Kind) → (k ≡ ratioed → row_of l (ratio_of e) < 4096) → Small (sign_words k m xs l e)
    sign monomials row = small-nil
    sign ratioed row =
        small-cons (omega (arith, g.index-small))
        (masked_small m xs e.sign (row_of l (ratio_of e) ∷ []) few g.sign-canonical (small-cons (omega (arith, row refl)) small-nil))

-- ---- nodes, whose keys are places or at most a power
module _ (s : Shape) (xs : List ℕ) (pw : ℕ → ℕ → ℕ) (lb : ℕ → ℕ) (R : at.InRange s) (P : Powers s.variables pw) where
  key-small : (d key : ℕ) (l r : List ℕ) → Sides s pw lb d key l r → key < 2 ^ 32
  key-small d key l r o =
      elim (ℕ_discrete (suc d) s.kind) [
        | yes z ↦ omega (arith, key-ratio s.kind s.entries d key o.key z R.kind-to, R.few, R.cap-to)
        | no z ↦
            let x = some_of (λ e. Below s.kind pw lb d key e → ⊥) r o.some-other o.other in
            let n : pw (d - s.kind) x.0 < key → ⊥ = λ y. x.1 ((below-variable pw lb s.kind d key x.0 R.kind-to (omega (arith, R.kind-to))).1 y) in
            omega (arith, P.small (d - s.kind) x.0)
      ]

  node-small : (tag key skip : ℕ) (es : List ℕ) → tag < 2 ^ 32 → key < 2 ^ 32 → length es < 2 ^ 32 → skip < 2 ^ 32
      → Small (node_words s.variables xs pw tag key skip es)
  unfolding node_words
  node-small tag key skip es a b c d =
      small-cons a (small-cons b (small-cons c
      (small-cons d (small-cons (mask-small s.variables xs (gcd_powers pw es)) (slot_small s.variables (gcd_of pw es) (gcd-words s.variables pw P es))))))

  tree-small : (t : Tree) → walk.Ordered s pw lb t → nodes t < 2 ^ 32 → length (inorder t) < 2 ^ 32 → Small (tree_words s.variables xs pw t)
  unfolding tree_words walk.Ordered
  tree-small (leaf es) o n c = node-small 0 0 0 es (omega arith) (omega arith) c (omega arith)
  tree-small (branch d key l r) o n c =
      let nb = nodes-branch d key l r in
      let la = length-append (inorder l) (inorder r) in
      small-append (node-small (suc d) key (nodes l) (inorder l ++ inorder r) (omega (arith, o.0.dim, R.kind-to, R.vars-to))
      (key-small d key (inorder l) (inorder r) o.0) c (omega arith))
      (small-append (tree-small l o.1.0 (omega arith) (omega arith)) (tree-small r o.1.1 (omega arith) (omega arith)))

maxima-small : (m : ℕ) (xs : List ℕ) → Maxima m xs → Small xs
maxima-small m xs h = small-each xs (λ i l. omega (arith, h.high i (omega (arith, h.one_each))))

labels-small : (k : Kind) (l : map.State) → map.Valid l → Small (label_words k l)
unfolding label_words
labels-small monomials l v = small-nil
labels-small ratioed l v = record { each = maps.encode-small l v }

-- ---- the whole
module _ (st : State) (val : Valid st) where
  abbrev s : Shape
  s = shape_of st

  abbrev es : List Entry
  es = st.entries

  range : at.InRange s
  range = record {
    kind-to = code-small st.kind;
    vars-from = val.map-good.some;
    vars-to = val.map-good.few;
    cap-from = val.cap-from;
    cap-to = val.cap-to;
    few = val.few;
    nodes-from = some-node st.tree;
    nodes-to = (valid-fits st val).nodes-to;
  }

  row_small : (i : ℕ) → i < length es → st.kind ≡ ratioed → row_of st.labels (ratio_of (entry_at es i)) < 4096
  row_small i h e =
      let o = (labels-of-ratios st.kind es st.labels val.labels-of e).0 i h in
      omega (arith, row-of st.labels val.labels-valid (ratio_of (entry_at es i)) o.0 o.1 o.2, o.1, val.labels-valid.few, val.labels-valid.cap-to)

  ordered : walk.Ordered s (power_in es) (λ e. label_of st.labels (ratio_of (entry_at es e))) st.tree
  ordered =
      by-numbers st.kind es st.labels s (power_in es) (λ e. label_of st.labels (ratio_of (entry_at es e))) refl refl (λ v e h. refl) (λ z e h. refl)
      (λ z. labels-agree es st.labels val.labels-valid (labels-of-ratios st.kind es st.labels val.labels-of z)) st.tree val.ordered

  encode-fits : Small (encode st)
  unfolding encode header
  encode-fits =
      let f = valid-fits st val in
      let n : length es ≤ 4096 = omega (arith, val.few, val.cap-to) in
      let d : nodes st.tree < 2 ^ 32 = omega (arith, f.nodes-to, val.cap-to) in
      small-append (small-cons (omega arith) (small-cons (omega (arith, code-small st.kind))
      (small-cons (omega (arith, val.map-good.few)) (small-cons (omega (arith, val.cap-to)) (small-cons (omega arith) (small-cons d (small-zeros at.kept)))))))
      (small-append (maxima-small st.variables st.maxima val.maxima-good)
      (small-append (maxima-small st.variables st.map_maxima val.map-good)
      (small-append (small-table (length es) _
      (λ i h. entry-small st.kind st.variables st.map_maxima st.labels (entry_at es i) val.map-good.few (val.canonical i h) (row_small i h)))
      (small-append (small-zeros _)
      (small-append (small-each (inorder st.tree)
      (λ i h. omega (arith, once-below (inorder st.tree) (length es) val.once _ (get_in (inorder st.tree) i h))))
      (small-append (small-zeros _)
      (small-append (labels-small st.kind st.labels val.labels-valid)
      (small-append (tree-small s st.map_maxima (power_in es) (λ e. label_of st.labels (ratio_of (entry_at es e))) range (state-powers st val)
      st.tree ordered d (omega (arith, val.size)))
      (small-zeros _)))))))))

  pub encode-small : Words (encode st)
  encode-small = encode-fits.each

  -- bytes with room into which it is pasted are the image of that state
  pub pasted : (bs : List ℕ) → 4 * at.size (shape_of st) ≤ length bs → Is st (paste_w bs 0 (encode st))
  pasted bs h =
      let l : length (encode st) ≡ at.size s = image-length (zeros (at.size s)) st (valid-fits st val) (omega (arith, length-zeros (at.size s))) in
      record {
        valid = val;
        room = omega (arith, length-paste_w bs 0 (encode st) (omega arith));
        is = rw (words-paste_w bs 0 (encode st) encode-small (omega arith)) (part-mid [] (encode st) (drop (0 + length (encode st)) (words bs)) 0 (at.size s) refl l);
      }

-- the image of an opening's state is sound
pub opened-sound : (k : Kind) (m c : ℕ) (xs bs : List ℕ) → Maxima m xs → 1 ≤ c → c ≤ 4096 → 4 * at.size (shape_of (opened k m c xs)) ≤ length bs
    → Sound (paste_w bs 0 (encode (opened k m c xs)))
opened-sound k m c xs bs good one few h = record { state = opened k m c xs; is = pasted (opened k m c xs) (opening-valid k m c xs good one few) bs h }
