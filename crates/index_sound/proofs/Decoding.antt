-- What passes the checks is the image of a valid state. Assumes nothing.
use mathlib.Core.Path.{◌≡◌, refl, sym, ap, ◌∙◌}
use mathlib.Core.List.{List, []}
use Prim.Native.Nat.{ℕ, ◌+◌, ◌-◌, ◌*◌, ◌≤◌, ◌<◌}
use native.Mathlib.Omega.{arith}
use native.Mathlib.Nat.{zero-mul}
use lib.ListN.{length, get_or}
use Rattle.words.specs.Words.{words}
use Rattle.words.specs.Tables.{part, table}
use Rattle.words.proofs.Lists.{listed, length-listed, get_d-listed}
use Rattle.words.proofs.Laws.{length-words}
use Rattle.words.proofs.Tables.{part-get, part-nil, table-iff, row_fits, split_rows}
use Rattle.fast_compare.specs.Map as map
use Rattle.fast_compare.specs.Layout as labels
use Rattle.kd_theory.specs.Bag.{◌∈◌, Same}
use Rattle.kd_theory.specs.Tree.{Tree, inorder, count, Ordered}
use Rattle.index_theory.specs.Entries.{Entry, entry_at, one, ratio_of}
use Rattle.index_theory.specs.State.{Kind, monomials, ratioed, State, Valid, GoodEntry, OfKind, LabelsOf, up_to, power_in, label_of, keys_of}
use Rattle.index_theory.proofs.Orders.{labels-agree}
use Rattle.index_image.specs.Layout.{code, shape_of, header, entry_words, label_words, Sound}
use Rattle.index_image.specs.Shape as at
use Rattle.index_image.specs.Head.{HeadOk}
use Rattle.index_image.specs.Walk.{lm_in, row_in, map_maxima, power, label}
use Rattle.index_image.specs.declared.Shape.{Shape}
use Rattle.index_image.proofs.Encoding.{Pieces, entry_length, of-pieces}
use Rattle.index_image.proofs.Lengths.{valid-fits}
use Rattle.index_sound.specs.Checks.{LabelsOk, TablesOk}
use Rattle.index_image.proofs.Once.{get_in, places-once, once-below}
use Rattle.index_image.proofs.Keys.{tree-words-ext, by-keys}
use Rattle.index_image.proofs.EntryWords.{read_entry, EntryIs, no-ratio, of_entry}
use Rattle.index_image.proofs.Labels.{MapIs, map_of, rows-count, row-at, label-at}
use Rattle.index_image.proofs.Rows.{row-of, label-of}
use Rattle.index_image.proofs.Images.{labels-of-ratios}
use Rattle.index_image.proofs.Shapes.{kind-of}
use Rattle.words.proofs.Joined.{moved, moved-zeros}
use Rattle.index_image.proofs.Heads.{words-of-head}

at_listed : (n : ℕ) (f : ℕ → Entry) (i : ℕ) → i < n → entry_at (listed n f) i ≡ f i
unfolding entry_at
at_listed n f i h = get_d-listed n f (record { number = 0; index = 0; sign = one; lm = one }) i h

-- ---- the label map, whatever the kind: that of a monomial index is empty and has no words
pub record LabelsAre (W : List ℕ) (s : Shape) (k : Kind) (l : map.State) : Type 0 where
  pub valid : map.Valid l
  pub vars : l.variables ≡ s.variables
  pub cap : l.capacity ≡ s.capacity
  pub are : part W (at.labels_at s) (at.labels_size s) ≡ label_words k l
  pub none : k ≡ monomials → l.rows ≡ []

empty-valid : (s : Shape) → at.InRange s → map.Valid (map.empty s.variables s.capacity)
empty-valid s R = record {
  vars-from = R.vars-from;
  vars-to = R.vars-to;
  cap-from = R.cap-from;
  cap-to = R.cap-to;
  few = omega arith;
  good = λ i h. absurd (omega arith);
  labelled = record { distinct = λ i j h. absurd (omega arith); rising = λ i j h. absurd (omega arith); small = λ i h. absurd (omega arith) };
}

labels-are : (bs : List ℕ) (s : Shape) → at.InRange s → 4 * at.size s ≤ length bs → (k : Kind) → s.kind ≡ code k → LabelsOk bs s
    → (l : map.State) × LabelsAre (words bs) s k l
unfolding label_words
labels-are bs s R room monomials e ok =
    let z : at.labels_size s ≡ 0 = rw e (zero-mul (labels.size s.variables s.capacity)) in (
      map.empty s.variables s.capacity,
      record {
        valid = empty-valid s R;
        vars = refl;
        cap = refl;
        are = ap (part (words bs) (at.labels_at s)) z
            ∙ part-nil (words bs) (at.labels_at s);
        none = λ _. refl;
      },
    )
labels-are bs s R room ratioed e ok =
    let q = map_of bs s R room e (ok e) in
    ((ok e).state, record { valid = q.valid; vars = q.vars; cap = q.cap; are = q.is; none = λ z. no-ratio (sym z) })

module _ (bs : List ℕ) (s : Shape) (R : at.InRange s) (room : 4 * at.size s ≤ length bs) (T : TablesOk bs s) where
  abbrev W : List ℕ
  W = words bs

  abbrev m : ℕ
  m = s.variables

  abbrev n : ℕ
  n = s.entries

  long : at.size s ≤ length W
  long = omega (arith, length-words bs)

  map_is : (l : map.State) → LabelsAre W s ratioed l → MapIs W s l
  unfolding label_words
  map_is l L = record { valid = L.valid; vars = L.vars; cap = L.cap; is = L.are }

  -- ---- the row of an entry's ratio
  record RatioRow (l : map.State) (i : ℕ) : Type 0 where
    inside : row_in W s i < length l.rows
    has : map.value l.rows (row_in W s i) ≡ ratio_of (read_entry W s ratioed i)
    labelled : label W s i ≡ map.label l.rows (row_in W s i)

  ratio-row : (e : s.kind ≡ 1) (l : map.State) → LabelsAre W s ratioed l → (i : ℕ) → i < n → RatioRow l i
  unfolding label
  ratio-row e l L i h =
      let M = map_is l L in
      let o = (T.entries.each i h).ratio e in
      let b : row_in W s i < length l.rows = rw (rows-count bs s R room e l M) at o.row in
      record {
        inside = b;
        has = sym (row-at bs s R room e l M (row_in W s i) b).value-is ∙ o.ratio;
        labelled = label-at bs s R room e l M (row_in W s i) b;
      }

  -- ---- entries
  entry-is : (k : Kind) → s.kind ≡ code k → (l : map.State) → LabelsAre W s k l → (i : ℕ) → i < n → EntryIs W s k l i (read_entry W s k i)
  entry-is monomials e l L i h = record { lm-slot = (T.entries.each i h).lm; lm-is = refl; ratio = λ z. no-ratio z }
  entry-is ratioed e l L i h =
      let o = (T.entries.each i h).ratio e in
      let r = ratio-row e l L i h in
      record {
        lm-slot = (T.entries.each i h).lm;
        lm-is = refl;
        ratio = λ _. record {
          kinded = o.kinded;
          index_is = refl;
          sign-slot = o.sign;
          sign-is = refl;
          row_is = sym (row-of l L.valid (ratio_of (read_entry W s ratioed i)) (row_in W s i) r.inside r.has);
        };
      }

  number_is : (k : Kind) (i : ℕ) → (read_entry W s k i).number ≡ i
  number_is monomials i = refl
  number_is ratioed i = refl

  lm-is : (k : Kind) (i : ℕ) → (read_entry W s k i).lm ≡ lm_in W s i
  lm-is monomials i = refl
  lm-is ratioed i = refl

  of-kind : (k : Kind) (i : ℕ) → OfKind k (read_entry W s k i)
  of-kind monomials i = (refl, refl)
  of-kind ratioed i = tt

  label_is : (k : Kind) → s.kind ≡ code k → (l : map.State) → LabelsAre W s k l → k ≡ ratioed → (i : ℕ) → i < n
      → label W s i ≡ label_of l (ratio_of (read_entry W s k i))
  label_is monomials e l L z i h = no-ratio z
  label_is ratioed e l L z i h =
      let r = ratio-row e l L i h in
      r.labelled ∙ sym (label-of l L.valid (ratio_of (read_entry W s ratioed i)) (row_in W s i) r.inside r.has)

  abbrev entries : Kind → List Entry
  entries k = listed n (read_entry W s k)

  count-is : (k : Kind) → length (entries k) ≡ n
  count-is k = length-listed n (read_entry W s k)

  at-is : (k : Kind) (i : ℕ) → i < n → entry_at (entries k) i ≡ read_entry W s k i
  at-is k i h = at_listed n (read_entry W s k) i h

  -- the label map has exactly the entries' ratios
  labels-of : (k : Kind) → s.kind ≡ code k → (l : map.State) → LabelsAre W s k l → LabelsOf k (entries k) l
  labels-of monomials e l L = L.none refl
  labels-of ratioed e l L = (
    λ i h.
        let r = ratio-row e l L i (rw (count-is ratioed) at h) in
        (row_in W s i, r.inside, r.has ∙ rw (at-is ratioed i (rw (count-is ratioed) at h))),
    λ j h.
        let o = T.named e j (rw (rows-count bs s R room e l (map_is l L)) h) in
        let r = ratio-row e l L o.i o.below in
        let p : at.row_at s 0 + o.i * at.entry_width s ≡ at.row_at s o.i = omega (arith, zero-mul (at.entry_width s)) in
        let q : row_in W s o.i ≡ j = ap (λ (x : ℕ). get_or W x 0) (sym p) ∙ o.is in
        (o.i, rw (count-is ratioed) o.below, ap (map.value l.rows) (sym q) ∙ r.has ∙ rw (at-is ratioed o.i o.below)),
  )

  -- ---- the tree
  abbrev t : Tree
  t = T.nodes-ok.tree

  leaves-are : part W (at.permutation_at s) n ≡ inorder t
  leaves-are =
      let e : at.permutation_at s + 0 ≡ at.permutation_at s = omega arith in
      ap (part W (at.permutation_at s)) (sym T.nodes-ok.all) ∙ ap (λ (x : ℕ). part W x (count t)) (sym e) ∙ T.nodes-ok.is.stands.perm

  once : Same (up_to n) (inorder t)
  once = places-once (inorder t) n T.nodes-ok.all small all
    where
      get : (i : ℕ) → i < n → get_or (inorder t) i 0 ≡ get_or W (at.permutation_at s + i) 0
      get i h = ap (λ (l : List ℕ). get_or l i 0) (sym leaves-are) ∙ part-get W (at.permutation_at s) n i h

      small : (i : ℕ) → i < n → get_or (inorder t) i 0 < n
      small i h = rw (get i h) (T.permutation.places i h)

      all : (j : ℕ) → j < n → j ∈ inorder t
      all j h =
          let o = T.permutation.all j h in
          let e : o.i * 1 ≡ o.i = omega arith in
          let q : get_or (inorder t) o.i 0 ≡ j = get o.i o.below ∙ rw e at o.is in
          rw q at (get_in (inorder t) o.i (omega (arith, o.below, T.nodes-ok.all)))

  powers-are : (k : Kind) (v e : ℕ) → e < length (entries k) → power W s v e ≡ power_in (entries k) v e
  unfolding power power_in
  powers-are k v e h = rw (at-is k e (rw (count-is k) at h), lm-is k e)

  in_order : (k : Kind) → s.kind ≡ code k → (l : map.State) → LabelsAre W s k l → Ordered (keys_of k m (entries k) l) t
  in_order k ek l L =
      by-keys k (entries k) l s (power W s) (label W s) ek (sym (count-is k)) (powers-are k)
      (λ z i h. label_is k ek l L z i (rw (count-is k) at h) ∙ rw (at-is k i (rw (count-is k) at h)))
      (λ z. labels-agree (entries k) l L.valid (labels-of-ratios k (entries k) l (labels-of k ek l L) z))
      t (λ e i. rw (count-is k) (once-below (inorder t) n once e i)) T.nodes-ok.is.ordered

  -- ---- the state
  module _ (k : Kind) (ek : s.kind ≡ code k) (l : map.State) (L : LabelsAre W s k l) where
    abbrev decoded : State
    decoded = record {
      kind = k;
      variables = m;
      capacity = s.capacity;
      maxima = part W at.maxima_at m;
      map_maxima = map_maxima W s;
      entries = entries k;
      tree = t;
      labels = l;
    }

    entry-words : (i : ℕ) → i < n → (part W (at.entry_at s i) (at.entry_width s) ≡ entry_words k m (map_maxima W s) l (read_entry W s k i)) × GoodEntry m (read_entry W s k i)
    entry-words i h =
        of_entry W s k ek R.vars-to i (omega (arith, long, R.few, row_fits i s.capacity (at.entry_width s) (omega (arith, R.few)))) l (entry-is k ek l L i h)

    decoded-valid : Valid decoded
    decoded-valid = record {
      cap-from = R.cap-from;
      cap-to = R.cap-to;
      maxima-good = T.maxima.present;
      map-good = T.maxima.map;
      few = rw (count-is k) R.few;
      numbered = λ i h. rw (at-is k i (rw (count-is k) at h)) (number_is k i);
      canonical = λ i h. rw (at-is k i (rw (count-is k) at h)) (entry-words i (rw (count-is k) at h)).1;
      of-kind = λ i h. rw (at-is k i (rw (count-is k) at h)) (of-kind k i);
      once = rw (count-is k) once;
      size = T.nodes-ok.all ∙ sym (count-is k);
      ordered = in_order k ek l L;
      labels-valid = L.valid;
      labels-vars = L.vars;
      labels-cap = L.cap;
      labels-of = labels-of k ek l L;
    }

    abbrev c : ℕ
    c = s.capacity

    abbrev w : ℕ
    w = at.entry_width s

    -- the header's numbers are those of the state
    same : shape_of decoded ≡ s
    same = λ i. record { kind = sym ek i; variables = m; capacity = c; entries = count-is k i; nodes = T.nodes-ok.rows i }

    -- the entries stand as a table
    entries-are : part W (at.entries_at m) (length (entries k) * w) ≡ table (length (entries k)) (λ i. entry_words k m (map_maxima W s) l (entry_at (entries k) i))
    entries-are = rw (count-is k) ((table-iff W (at.entries_at m) n w _ fits lengths).1 each)
      where
        fits : at.entries_at m + n * w ≤ length W
        fits = omega (arith, long, split_rows n c w R.few)

        lengths : (i : ℕ) → i < n → length (entry_words k m (map_maxima W s) l (entry_at (entries k) i)) ≡ w
        lengths i h = entry_length k m (map_maxima W s) l (entry_at (entries k) i) R.vars-to (rw (at-is k i h) (entry-words i h).1) ∙ rw ek

        each : (i : ℕ) → i < n → part W (at.entries_at m + i * w) w ≡ entry_words k m (map_maxima W s) l (entry_at (entries k) i)
        each i h = rw (at-is k i h) (entry-words i h).0

    head-is : HeadOk W (length bs) s → part W 0 at.header_width ≡ header decoded
    unfolding header
    head-is H =
        words-of-head W (omega (arith, long))
        ∙ rw (H.layout, H.kind ∙ ek, H.variables, H.capacity, H.entries ∙ sym (count-is k), H.nodes ∙ sym T.nodes-ok.rows, H.kept)

    decoded-pieces : HeadOk W (length bs) s → Pieces W decoded
    decoded-pieces H = record {
      head = head-is H;
      maxima = refl;
      map = refl;
      entries = moved W entries-are refl (ap (λ (x : ℕ). length (entries k) * at.width_of x m) ek);
      entries-rest = moved-zeros W T.entries.rest (ap (λ (x : Shape). at.entry_at x x.entries) (sym same))
          (ap (λ (x : Shape). (x.capacity - x.entries) * at.entry_width x) (sym same));
      permutation = moved W leaves-are (ap at.permutation_at (sym same)) (sym (count-is k));
      permutation-rest = moved-zeros W T.permutation.rest (ap (λ (x : Shape). at.permutation_at x + x.entries) (sym same)) (rw (count-is k));
      labels = moved W L.are (ap at.labels_at (sym same)) (ap at.labels_size (sym same));
      nodes-are = moved W (T.nodes-ok.is.stands.rows ∙ tree-words-ext m (map_maxima W s) (power W s) (power_in (entries k)) t powers)
          (let z : at.node_at s 0 ≡ at.nodes_at s = omega arith in z ∙ ap at.nodes_at (sym same)) refl;
      nodes-rest = moved-zeros W T.nodes-ok.rest (ap (λ (x : Shape). at.node_at x x.nodes) (sym same)) (rw T.nodes-ok.rows);
    }
      where
        powers : (v e : ℕ) → e ∈ inorder t → power W s v e ≡ power_in (entries k) v e
        powers v e i = powers-are k v e (rw (count-is k) (once-below (inorder t) n once e i))

-- the checks pass on images of valid states alone
pub decode : (bs : List ℕ) (s : Shape) → HeadOk (words bs) (length bs) s → TablesOk bs s → Sound bs
decode bs s H T =
    let R = H.range in
    let room = H.room in
    let K = kind-of s.kind R.kind-to in
    let k = K.kind in
    let L = labels-are bs s R room k K.is T.labels in
    let st = decoded bs s R room T k K.is L.0 L.1 in
    let val = decoded-valid bs s R room T k K.is L.0 L.1 in
    let z : at.size (shape_of st) ≡ at.size s = ap at.size (same bs s R room T k K.is L.0 L.1) in
    record {
      state = st;
      is = record {
        valid = val;
        room = omega (arith, z);
        is = of-pieces (words bs) st (valid-fits st val) (omega (arith, z, length-words bs)) (decoded-pieces bs s R room T k K.is L.0 L.1 H);
      };
    }
