-- From the image of a state to that of the state after an insert. Assumes nothing.
use mathlib.Core.Path.{◌≡◌, refl, sym, ap, ◌∙◌}
use mathlib.Core.List.{List, [], ◌∷◌, ◌++◌, append_assoc}
use Prim.Native.Nat.{ℕ, zero, suc, ◌+◌, ◌-◌, ◌*◌, ◌≤◌, ◌<◌}
use native.Mathlib.Omega.{arith}
use native.Mathlib.Nat.{zero-mul}
use lib.ListN.{length, take, drop, length-append, length-drop, take-append-drop}
use lib.Seq.{length-take-le, drop_at}
use Rattle.words.specs.Words.{words, put_w, paste_w}
use Rattle.words.specs.Tables.{part, zeros, table, over}
use Rattle.words.proofs.Laws.{length-words, put_w-paste}
use Rattle.words.proofs.Tables.{length-zeros, length-table, split_rows, over-mid, length_part, part-add}
use Rattle.words.proofs.Joined.{joined, rows_replaced}
use Rattle.monomial.specs.Monomial.{pow}
use Rattle.fast_compare.specs.Map as map
use Rattle.kd_theory.specs.Bag.{◌∈◌}
use Rattle.kd_theory.specs.Bifurcate.{below_ratio, Labelled}
use Rattle.kd_theory.specs.Tree.{Tree, leaf, branch, inorder, nodes, count, Keys, insert, place_of, put_at}
use Rattle.index_theory.specs.Entries.{Entry, entry_at, ratio_of}
use Rattle.index_theory.specs.State.{Kind, monomials, ratioed, State, Valid, GoodEntry, OfKind, power_in, label_of, ratios_of, keys_of, keys}
use Rattle.index_theory.specs.Calls.{inserted, labelled, tracked, numbered}
use Rattle.index_theory.proofs.Places.{entry_old, entry_new, length_more}
use Rattle.index_theory.proofs.Orders.{labels-agree}
use Rattle.index_theory.proofs.Keeps.{inserted-valid}
use Rattle.index_image.specs.Layout.{code, header, entry_words, label_words, tree_words, encode, Is, shape_of}
use Rattle.index_image.specs.Shape as at
use Rattle.index_image.specs.Walk as walk
use Rattle.index_image.specs.Walk.{map_maxima, row_in, KeyOk}
use Rattle.index_image.specs.declared.Shape.{Shape}
use Rattle.index_image.proofs.Encoding.{Fits, coarse, coarse-whole, entry_length, tree-length, header-length}
use Rattle.index_image.proofs.Lengths.{valid-fits, state-powers}
use Rattle.index_image.proofs.Images as of
use Rattle.index_image.proofs.Images.{labels-of-ratios}
use Rattle.index_image.proofs.Keys.{tree-words-ext, by-numbers}
use Rattle.index_image.proofs.Once.{once-below}
use Rattle.kd_slots.specs.Slots.{Mapped}
use Rattle.kd_descent.specs.Growing.{below_in, keys_by, Keyed, Growth, grown_rows, place}
use Rattle.kd_descent.specs.Growing as growing
use Rattle.kd_insert.specs.Inserting.{Hangs, hung}
use Rattle.kd_theory.proofs.PlaceLaws.{insert-inorder, place_inside, insert-agree}
use Rattle.kd_descent.proofs.Ways.{insert-nodes}
use Rattle.words.proofs.Pasting.{part-before}
use Rattle.words.proofs.Drafts.{Draft, draft-step}

-- ---- trees
pub keyed-of : (s : Shape) (pw : ℕ → ℕ → ℕ) (lb : ℕ → ℕ) (t : Tree) → walk.Ordered s pw lb t → Keyed s t
unfolding walk.Ordered Keyed
keyed-of s pw lb (leaf es) h = tt
keyed-of s pw lb (branch d k l r) h = ((h.0.dim, h.0.key), (keyed-of s pw lb l h.1.0, keyed-of s pw lb r h.1.1))

-- the test by numbers is the keys' test
below-agree : (k : Kind) (m : ℕ) (es es' : List Entry) (l l' : map.State) (x : ℕ) → length es ≤ length es' → x < length es' → (k ≡ ratioed → Labelled (ratios_of es' l'))
    → (d key : ℕ) → (keys_of k m es l).valid d key → below_in (code k) (power_in es') (λ y. label_of l' (ratio_of (entry_at es' y))) d key x ≡ (keys_of k m es' l').below d key x
unfolding below_in below_ratio
below-agree monomials m es es' l l' x h hx agree d key v = refl
below-agree ratioed m es es' l l' x h hx agree zero key v = sym (agree refl x key hx (omega arith))
below-agree ratioed m es es' l l' x h hx agree (suc d) key v = refl

-- the part of a part from word p on
part-from : (W : List ℕ) (a n p : ℕ) → p ≤ n → a + n ≤ length W → part W (a + p) (n - p) ≡ drop p (part W a n)
part-from W a n p h l =
    let e : n ≡ p + (n - p) = omega arith in
    let s : part W a n ≡ part W a p ++ part W (a + p) (n - p) = ap (part W a) e ∙ part-add W a p (n - p) in
    sym (ap (drop p) s ∙ drop_at (part W a p) (part W (a + p) (n - p)) p (length_part W a p (omega arith)))

-- a place more in the permutation
place-over : (io : List ℕ) (p x z : ℕ) → p ≤ length io → 1 ≤ z → over (io ++ zeros z) p (x ∷ drop p io) ≡ put_at p x io ++ zeros (z - 1)
unfolding put_at
place-over io p x z h hz =
    let a = take p io in
    let b = drop p io in
    let la : length a ≡ p = length-take-le p io h in
    let r = rows_replaced a [] (x ∷ []) b z (omega arith) (omega arith) in
    let whole : a ++ (b ++ zeros z) ≡ io ++ zeros z = sym (append_assoc a b (zeros z)) ∙ ap (λ (y : List ℕ). y ++ zeros z) (take-append-drop p io) in
    sym (ap (λ (y : List ℕ). over y p (x ∷ b)) whole) ∙ rw la at r ∙ sym (append_assoc a (x ∷ b) (zeros (z - 1)))

-- the header with another number of entries
head-over : (a b c d e f : ℕ) (r : List ℕ) → over (a ∷ b ∷ c ∷ d ∷ e ∷ r) at.length_at (f ∷ []) ≡ a ∷ b ∷ c ∷ d ∷ f ∷ r
unfolding over
head-over a b c d e f r = refl

-- ---- what `hang` leaves
pub hung-is : (bs a b d : List ℕ) (s : Shape) (lm : List ℕ) (lab q p : ℕ) (g : Growth (words bs) s lm lab 0) → Mapped bs s
    → count g.tree ≡ s.entries → s.entries < s.capacity
    → q ≡ at.permutation_at s → p ≡ place g → a ≡ paste_w bs (at.node_at s 0) (grown_rows g) → b ≡ paste_w a (q + p) (s.entries ∷ part (words a) (q + p) (q + s.entries - (q + p)))
    → d ≡ put_w b at.length_at (s.entries + 1) → length b ≡ length bs → d ≡ hung bs s lm lab g
unfolding hung
hung-is bs a b d s lm lab q p g M all few eq ep ea eb ed lb =
    let room = M.room in
    let pl = place_inside (growing.keys g) g.entry g.tree in
    let n = s.entries in
    let x = at.permutation_at s + place g in
    let sub : q + n - (q + p) ≡ n - place g = omega arith in
    let kept : part (words a) x (n - place g) ≡ part (words bs) x (n - place g) = rw ea
    (part-before bs (at.node_at s 0) (grown_rows g) x (n - place g) (omega (arith, zero-mul (at.node_width s.variables))) (omega (arith, zero-mul (at.node_width s.variables)))) in
    let row : b ≡ paste_w (paste_w bs (at.node_at s 0) (grown_rows g)) x (n ∷ part (words bs) x (n - place g)) = eb ∙ rw (sub, eq, ep, kept, ea) in
    ed ∙ put_w-paste b at.length_at (n + 1) (omega arith) ∙ rw row

module _ {bs : List ℕ} {st : State} (I : Is st bs) {e : Entry} (good : GoodEntry st.variables e) (ofk : OfKind st.kind e) (room : length st.entries < st.capacity) where
  abbrev s : Shape
  s = shape_of st

  abbrev m : ℕ
  m = st.variables

  abbrev c : ℕ
  c = st.capacity

  abbrev xs : List ℕ
  xs = st.map_maxima

  abbrev es : List Entry
  es = st.entries

  abbrev n : ℕ
  n = length st.entries

  abbrev t : Tree
  t = st.tree

  abbrev l' : map.State
  l' = labelled st.kind st.labels e

  abbrev es' : List Entry
  es' = st.entries ++ (numbered (length st.entries) e ∷ [])

  abbrev w : ℕ
  w = at.entry_width (shape_of st)

  pub val' : Valid (inserted st e)
  val' = inserted-valid st I.valid e good room ofk

  pub F : Fits st
  F = valid-fits st I.valid

  pub F' : Fits (inserted st e)
  F' = valid-fits (inserted st e) val'

  -- the powers with the new entry
  abbrev pw : ℕ → ℕ → ℕ
  pw = power_in (st.entries ++ (numbered (length st.entries) e ∷ []))

  abbrev lb : ℕ → ℕ
  lb x = label_of (labelled st.kind st.labels e) (ratio_of (entry_at (st.entries ++ (numbered (length st.entries) e ∷ [])) x))

  pub power-old : (v x : ℕ) → x < n → power_in es v x ≡ pw v x
  unfolding power_in
  power-old v x h = rw (entry_old es (numbered n e) x h)

  pub power-new : (v : ℕ) → pw v n ≡ pow 1 e.lm v
  unfolding power_in
  power-new v = rw (entry_new es (numbered n e))

  pub power_small : (v x : ℕ) → pw v x ≤ 32767
  unfolding inserted
  power_small v x = (state-powers (inserted st e) val').small v x

  pub power-absent : (v x : ℕ) → m ≤ v → pw v x ≡ 0
  unfolding inserted
  power-absent v x h = F'.powers v x h

  pub places : (x : ℕ) → x ∈ inorder t → x < n
  places x h = once-below (inorder t) n I.valid.once x h

  pub tree-same : tree_words m xs (power_in es) t ≡ tree_words m xs pw t
  tree-same = tree-words-ext m xs (power_in es) pw t (λ v x h. power-old v x (places x h))

  pub keyed : Keyed s t
  keyed =
      keyed-of s (power_in es) (λ x. label_of st.labels (ratio_of (entry_at es x))) t
      (by-numbers st.kind es st.labels s (power_in es) (λ x. label_of st.labels (ratio_of (entry_at es x))) refl refl (λ v x h. refl) (λ z x h. refl)
      (λ z. labels-agree es st.labels I.valid.labels-valid (labels-of-ratios st.kind es st.labels I.valid.labels-of z)) t I.valid.ordered)

  -- ---- the image with everything but the tree, the permutation and the header
  abbrev pub half : List (List ℕ)
  half =
      header st ∷ tracked st.kind e st.maxima ∷ st.map_maxima
      ∷ (table (length st.entries + 1) (λ i. entry_words st.kind st.variables st.map_maxima (labelled st.kind st.labels e)
      (entry_at (st.entries ++ (numbered (length st.entries) e ∷ [])) i))
      ++ zeros ((st.capacity - (length st.entries + 1)) * at.entry_width (shape_of st)))
      ∷ (inorder st.tree ++ zeros (st.capacity - length st.entries)) ∷ label_words st.kind (labelled st.kind st.labels e)
      ∷ (tree_words st.variables st.map_maxima (power_in st.entries) st.tree
      ++ zeros ((2 * st.capacity - 1 - nodes st.tree) * at.node_width st.variables)) ∷ []

  -- ---- lengths of the tables
  table-long : (k : ℕ) (f : ℕ → List ℕ) → k ≤ c → ((i : ℕ) → i < k → length (f i) ≡ w) → length (table k f ++ zeros ((c - k) * w)) ≡ c * w
  table-long k f h l = length-append (table k f) _ ∙ omega (arith, length-table k w f l, length-zeros ((c - k) * w), split_rows k c w h)

  row-long : (i : ℕ) → i < n + 1 → length (entry_words st.kind m xs l' (entry_at es' i)) ≡ w
  unfolding inserted
  row-long i h = entry_length st.kind m xs l' (entry_at es' i) F.vars-to (val'.canonical i (omega (arith, length_more es (numbered n e))))

  pub record Lengths : Type 0 where
    pub head : length (header st) ≡ at.header_width
    pub maxima : length (tracked st.kind e st.maxima) ≡ m
    pub map_is : length st.map_maxima ≡ m
    pub entries : length (table (n + 1) (λ i. entry_words st.kind m xs l' (entry_at es' i)) ++ zeros ((c - (n + 1)) * w)) ≡ c * w
    pub permutation : length (inorder t ++ zeros (c - n)) ≡ c
    pub labels : length (label_words st.kind l') ≡ at.labels_size (shape_of st)
    pub tree : length (tree_words m xs (power_in es) t) ≡ nodes t * (at.node_width m)
    pub nodes-are : length (tree_words m xs (power_in es) t ++ zeros ((2 * c - 1 - nodes t) * at.node_width m)) ≡ (2 * c - 1) * (at.node_width m)

  pub lengths : Lengths
  unfolding inserted
  lengths =
      let lt = tree-length m xs (power_in es) F.vars-to F.powers t in
      record {
        head = header-length st;
        maxima = F'.maxima;
        map_is = F.map;
        entries = table-long (n + 1) _ (omega arith) row-long;
        permutation = length-append (inorder t) _ ∙ omega (arith, length-zeros (c - n), F.all, F.few);
        labels = F'.label-words;
        tree = lt;
        nodes-are = length-append (tree_words m xs (power_in es) t) _ ∙
            omega (arith, lt, length-zeros ((2 * c - 1 - nodes t) * at.node_width m), split_rows (nodes t) (2 * c - 1) (at.node_width m) F.nodes-to);
      }

  -- ---- the tree, the permutation and the header
  module _ {im : List ℕ} (D : Draft bs im half) (map2 : map_maxima (words im) s ≡ st.map_maxima)
      (nodes2 : part (words im) (at.node_at s 0) (nodes t * at.node_width m) ≡ tree_words m xs (power_in es) t)
      (perm2 : part (words im) (at.permutation_at s) n ≡ inorder t) (long2 : length im ≡ length bs)
      (lab : ℕ) (lab2 : s.kind ≡ 1 → lb n ≡ lab) (labels2 : s.kind ≡ 1 → (k : ℕ) → k < n → lb k ≡ walk.label (words im) s k)
      (rows2 : s.kind ≡ 1 → (k : ℕ) → k < n → row_in (words im) s k < c) where
    abbrev pub growth : Growth (words im) s e.lm lab 0
    growth = record {
      entry = n;
      power = pw;
      label = lb;
      tree = t;
      rows = nodes2 ∙ rw map2 tree-same;
      inside = omega arith;
      keyed = keyed;
      few = omega (arith, F.all);
      power-is = power-new;
      power_small = power_small;
      power-absent = power-absent;
      label_is = lab2;
      labels-are = labels2;
      rows_in = rows2;
    }

    abbrev pub hangs : Hangs (words im) s e.lm lab
    hangs = record { growth = growth; all = F.all }

    abbrev J : Keys
    J = keys_by (code st.kind) pw lb

    abbrev K' : Keys
    K' = keys_of st.kind m es' l'

    abbrev p : ℕ
    p = place_of J n t

    abbrev t' : Tree
    t' = insert K' n t

    same-tree : insert J n t ≡ t'
    unfolding inserted
    same-tree =
        insert-agree (keys st) J K' n t I.valid.ordered
        (below-agree st.kind m es es' st.labels l' n (omega (arith, length_more es (numbered n e))) (omega (arith, length_more es (numbered n e)))
        (λ z. labels-agree es' l' val'.labels-valid (labels-of-ratios st.kind es' l' val'.labels-of z)))

    place_in : p ≤ n
    place_in = omega (arith, place_inside J n t, F.all)

    long-new : length (tree_words m xs pw (insert J n t)) ≡ nodes t * (at.node_width m)
    long-new = tree-length m xs pw F.vars-to power-absent (insert J n t) ∙ ap (λ (x : ℕ). x * at.node_width m) (insert-nodes J n t)

    perm-tail : part (words im) (at.permutation_at s + p) (n - p) ≡ drop p (inorder t)
    perm-tail = part-from (words im) (at.permutation_at s) n p place_in (omega (arith, length-words im, long2, I.room, (of.range bs st I).few)) ∙ ap (drop p) perm2

    abbrev list1 : List (List ℕ)
    list1 =
        header st ∷ tracked st.kind e st.maxima ∷ st.map_maxima
        ∷ (table (n + 1) (λ i. entry_words st.kind m xs l' (entry_at es' i)) ++ zeros ((c - (n + 1)) * w))
        ∷ (inorder t ++ zeros (c - n)) ∷ label_words st.kind l'
        ∷ over (tree_words m xs (power_in es) t ++ zeros ((2 * c - 1 - nodes t) * at.node_width m)) 0 (tree_words m xs pw (insert J n t)) ∷ []

    abbrev list2 : List (List ℕ)
    list2 =
        header st ∷ tracked st.kind e st.maxima ∷ st.map_maxima
        ∷ (table (n + 1) (λ i. entry_words st.kind m xs l' (entry_at es' i)) ++ zeros ((c - (n + 1)) * w))
        ∷ over (inorder t ++ zeros (c - n)) p (n ∷ drop p (inorder t)) ∷ label_words st.kind l'
        ∷ over (tree_words m xs (power_in es) t ++ zeros ((2 * c - 1 - nodes t) * at.node_width m)) 0 (tree_words m xs pw (insert J n t)) ∷ []

    abbrev list3 : List (List ℕ)
    list3 =
        over (header st) at.length_at ((n + 1) ∷ []) ∷ tracked st.kind e st.maxima ∷ st.map_maxima
        ∷ (table (n + 1) (λ i. entry_words st.kind m xs l' (entry_at es' i)) ++ zeros ((c - (n + 1)) * w))
        ∷ over (inorder t ++ zeros (c - n)) p (n ∷ drop p (inorder t)) ∷ label_words st.kind l'
        ∷ over (tree_words m xs (power_in es) t ++ zeros ((2 * c - 1 - nodes t) * at.node_width m)) 0 (tree_words m xs pw (insert J n t)) ∷ []

    step1 : (a : List ℕ) → a ≡ paste_w im (at.node_at s 0) (tree_words m xs pw (insert J n t)) → Draft bs a list1
    step1 a ea =
        let L = lengths in
        draft-step bs im a half 6 0 (at.node_at s 0) (tree_words m xs pw (insert J n t)) D ea
        (omega (arith, zero-mul (at.node_width m), L.head, L.maxima, L.map_is, L.entries, L.permutation, L.labels)) (omega arith)
        (omega (arith, long-new, L.nodes-are, length-append (tree_words m xs (power_in es) t) (zeros ((2 * c - 1 - nodes t) * at.node_width m)), L.tree))

    step2 : (a b : List ℕ) → Draft bs a list1 → b ≡ paste_w a (at.permutation_at s + p) (n ∷ drop p (inorder t)) → Draft bs b list2
    step2 a b D1 eb =
        let L = lengths in
        draft-step bs a b list1 4 p (at.permutation_at s + p) (n ∷ drop p (inorder t)) D1 eb
        (omega (arith, L.head, L.maxima, L.map_is, L.entries)) (omega arith)
        (omega (arith, L.permutation, place_in, length-drop p (inorder t), F.all))

    step3 : (b d : List ℕ) → Draft bs b list2 → d ≡ paste_w b at.length_at ((n + 1) ∷ []) → Draft bs d list3
    step3 b d D2 ed = draft-step bs b d list2 0 at.length_at at.length_at ((n + 1) ∷ []) D2 ed (omega arith) (omega arith) (omega (arith, lengths.head))

    -- ---- the tables are those of the state after the insert
    head-new : over (header st) at.length_at ((n + 1) ∷ []) ≡ header (inserted st e)
    unfolding header inserted
    head-new = head-over 1 (code st.kind) m c n (n + 1) (nodes t ∷ zeros at.kept) ∙ rw (length_more es (numbered n e), insert-nodes K' n t)

    perm-new : over (inorder t ++ zeros (c - n)) p (n ∷ drop p (inorder t)) ≡ inorder t' ++ zeros (c - (n + 1))
    perm-new =
        let z : c - n - 1 ≡ c - (n + 1) = omega arith in
        place-over (inorder t) p n (c - n) (omega (arith, place_in, F.all)) (omega arith) ∙ rw (z, ← insert-inorder J n t, same-tree)

    tree-new : over (tree_words m xs (power_in es) t ++ zeros ((2 * c - 1 - nodes t) * at.node_width m)) 0 (tree_words m xs pw (insert J n t)) ≡ tree_words m xs pw t' ++ zeros
        ((2 * c - 1 - nodes t) * at.node_width m)
    tree-new = over-mid [] (tree_words m xs (power_in es) t) (zeros ((2 * c - 1 - nodes t) * at.node_width m)) (tree_words m xs pw (insert J n t)) 0 refl
        (omega (arith, long-new, lengths.tree)) ∙ rw same-tree

    pieces : list3 ≡ coarse (inserted st e)
    unfolding inserted
    pieces = rw (head-new, perm-new, tree-new, length_more es (numbered n e), insert-nodes K' n t)

    lists : joined list3 ≡ encode (inserted st e)
    lists = ap joined pieces ∙ coarse-whole (inserted st e)

    pub finish : (d : List ℕ) → d ≡ hung im s e.lm lab growth → d ≡ paste_w bs 0 (encode (inserted st e))
    unfolding hung
    finish d ed =
        let a = paste_w im (at.node_at s 0) (tree_words m xs pw (insert J n t)) in
        let b = paste_w a (at.permutation_at s + p) (n ∷ drop p (inorder t)) in
        let D3 = step3 b d (step2 a b (step1 a refl) refl) (ed ∙ rw (map2, perm-tail)) in
        D3.now ∙ ap (paste_w bs 0) lists
