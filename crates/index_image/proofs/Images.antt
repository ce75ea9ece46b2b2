-- What the image of a valid state holds, table by table. Assumes nothing.
use mathlib.Core.Path.{◌≡◌, refl, sym, ap, ◌∙◌}
use mathlib.Core.List.{List, ◌∷◌}
use Prim.Native.Nat.{ℕ, ◌+◌, ◌*◌, ◌≤◌, ◌<◌}
use native.Mathlib.Omega.{arith}
use lib.ListN.{length, get_or}
use Rattle.words.specs.Words.{words}
use Rattle.words.specs.Tables.{part, zeros}
use Rattle.words.proofs.Laws.{length-words}
use Rattle.words.proofs.Tables.{part-get, table-iff, row_fits, split_rows}
use Rattle.words.proofs.Joined.{moved}
use Rattle.fast_compare.specs.Map as map
use Rattle.fast_compare.specs.Layout as labels
use Rattle.kd_theory.specs.Tree.{inorder, nodes}
use Rattle.index_theory.specs.Entries.{Entry, entry_at, ratio_of}
use Rattle.index_theory.specs.State.{Kind, ratioed, State, Valid, LabelsOf, power_in, label_of}
use Rattle.index_theory.proofs.Orders.{labels-agree}
use Rattle.index_image.specs.Layout.{code, shape_of, header, entry_words, label_words, Is}
use Rattle.index_image.specs.Shape as at
use Rattle.index_image.specs.Head.{HeadOk}
use Rattle.index_image.specs.Walk.{row_in, map_maxima, power, label, Stands, TreeAt}
use Rattle.index_image.specs.Door.{rows_in, RatioOk, EntryOk}
use Rattle.index_image.specs.declared.Shape.{Shape}
use Rattle.index_image.proofs.Encoding.{Pieces, Fits, entry_length, pieces_of}
use Rattle.index_image.proofs.Lengths.{valid-fits}
use Rattle.index_image.proofs.Trees.{some-node}
use Rattle.index_image.proofs.Shapes.{code-small, ratio-code, code-ratio}
use Rattle.index_image.proofs.Heads.{words-of-head}
use Rattle.index_image.proofs.Once.{get_in, once-below}
use Rattle.index_image.proofs.Keys.{tree-words-ext, by-numbers}
use Rattle.index_image.proofs.EntryWords.{EntryIs, entry_of}
use Rattle.index_image.proofs.Labels.{MapIs, rows-count, row-at, label-at}
use Rattle.index_image.proofs.Rows.{row-of, label-of}

-- the words of a ratio index's label map
label-words : (k : Kind) (l : map.State) → k ≡ ratioed → label_words k l ≡ labels.encode l
unfolding label_words
label-words k l e = rw e

pub labels-of-ratios : (k : Kind) (es : List Entry) (l : map.State) → LabelsOf k es l → k ≡ ratioed → LabelsOf ratioed es l
labels-of-ratios k es l h e = rw e at h

module _ (bs : List ℕ) (st : State) (I : Is st bs) where
  abbrev W : List ℕ
  W = words bs

  abbrev s : Shape
  s = shape_of st

  abbrev m : ℕ
  m = st.variables

  abbrev c : ℕ
  c = st.capacity

  abbrev es : List Entry
  es = st.entries

  abbrev n : ℕ
  n = length es

  abbrev l : map.State
  l = st.labels

  abbrev val : Valid st
  val = I.valid

  pub fits : Fits st
  fits = valid-fits st val

  pub long : at.size (shape_of st) ≤ length (words bs)
  long = omega (arith, I.room, length-words bs)

  -- ---- the tables, each in its place
  pub pieces : Pieces (words bs) st
  pieces = pieces_of W st fits long I.is

  -- ---- the header
  pub range : at.InRange (shape_of st)
  range = record {
    kind-to = code-small st.kind;
    vars-from = val.map-good.some;
    vars-to = val.map-good.few;
    cap-from = val.cap-from;
    cap-to = val.cap-to;
    few = val.few;
    nodes-from = some-node st.tree;
    nodes-to = fits.nodes-to;
  }

  pub head_ok : HeadOk (words bs) (length bs) (shape_of st)
  unfolding header
  head_ok =
      let z : get_or W at.layout_at 0 ∷ get_or W at.kind_at 0 ∷ get_or W at.variables_at 0 ∷ get_or W at.capacity_at 0 ∷ get_or W at.length_at 0 ∷ get_or W at.nodes_count_at 0 ∷ part W at.kept_at at.kept
      ≡ 1 ∷ code st.kind ∷ m ∷ c ∷ n ∷ nodes st.tree ∷ zeros at.kept = sym (words-of-head W (omega (arith, long))) ∙ pieces.head in
      record {
        layout = cc;
        kind = cc;
        variables = cc;
        capacity = cc;
        entries = cc;
        nodes = cc;
        kept = cc;
        range = range;
        room = I.room;
      }

  -- ---- entries
  pub entry-fits : (i : ℕ) → i < length st.entries → at.entry_at (shape_of st) i + at.entry_width (shape_of st) ≤ length (words bs)
  entry-fits i h = omega (arith, long, row_fits i c (at.entry_width s) (omega (arith, val.few)))

  pub entry-is : (i : ℕ) → i < length st.entries → EntryIs (words bs) (shape_of st) st.kind st.labels i (entry_at st.entries i)
  entry-is i h = entry_of W s st.kind refl val.map-good.few i (entry-fits i h) l (entry_at es i) (val.canonical i h) words_are
    where
      w : ℕ
      w = at.entry_width s

      lengths : (i : ℕ) → i < n → length (entry_words st.kind m st.map_maxima l (entry_at es i)) ≡ at.entry_width s
      lengths i h = entry_length st.kind m st.map_maxima l (entry_at es i) val.map-good.few (val.canonical i h)

      inside : at.entries_at m + n * at.entry_width s ≤ length W
      inside = omega (arith, long, split_rows n c (at.entry_width s) val.few)

      words_are : part W (at.entry_at s i) (at.entry_width s) ≡ entry_words st.kind m (map_maxima W s) l (entry_at es i)
      words_are = rw pieces.map ((table-iff W (at.entries_at m) n (at.entry_width s) _ inside lengths).0 pieces.entries i h)

  pub powers : (v e : ℕ) → e < length st.entries → power (words bs) (shape_of st) v e ≡ power_in st.entries v e
  unfolding power power_in
  powers v e h = rw (entry-is e h).lm-is

  -- ---- ratios and labels
  pub map_is : st.kind ≡ ratioed → MapIs (words bs) (shape_of st) st.labels
  map_is e = record {
    valid = val.labels-valid;
    vars = val.labels-vars;
    cap = val.labels-cap;
    is = pieces.labels ∙ label-words st.kind l e;
  }

  pub ratios : st.kind ≡ ratioed → LabelsOf ratioed st.entries st.labels
  ratios e = labels-of-ratios st.kind es l val.labels-of e

  module _ (e : st.kind ≡ ratioed) where
    abbrev kind_1 : code st.kind ≡ 1
    kind_1 = ratio-code st.kind e

    pub count-rows : rows_in (words bs) (shape_of st) ≡ length st.labels.rows
    count-rows = rows-count bs s range I.room kind_1 l (map_is e)

    -- an entry names the row of its ratio
    pub names : (i : ℕ) → i < length st.entries → (j : ℕ) → j < length st.labels.rows
        → map.value st.labels.rows j ≡ ratio_of (entry_at st.entries i) → row_in (words bs) (shape_of st) i ≡ j
    names i h j b v = ((entry-is i h).ratio e).row_is ∙ row-of l val.labels-valid (ratio_of (entry_at es i)) j b v

    pub ratio-ok : (i : ℕ) → i < length st.entries → RatioOk (words bs) (shape_of st) i
    ratio-ok i h =
        let q = entry-is i h in
        let r = q.ratio e in
        let o = (ratios e).0 i h in
        let x = names i h o.0 o.1 o.2 in
        record {
          kinded = r.kinded;
          sign = r.sign-slot;
          row = rw (x, count-rows) o.1;
          ratio = rw (x, r.index_is, r.sign-is, q.lm-is) ((row-at bs s range I.room kind_1 l (map_is e) o.0 o.1).value-is ∙ o.2);
        }

    pub row_small : (i : ℕ) → i < length st.entries → row_in (words bs) (shape_of st) i < st.capacity
    row_small i h = omega (arith, (ratio-ok i h).row, count-rows, val.labels-valid.few, val.labels-cap)

    pub label_is : (i : ℕ) → i < length st.entries → label (words bs) (shape_of st) i ≡ label_of st.labels (ratio_of (entry_at st.entries i))
    unfolding label
    label_is i h =
        let o = (ratios e).0 i h in
        let x = names i h o.0 o.1 o.2 in
        rw x (label-at bs s range I.room kind_1 l (map_is e) o.0 o.1) ∙ sym (label-of l val.labels-valid (ratio_of (entry_at es i)) o.0 o.1 o.2)

  pub entry-ok : (i : ℕ) → i < length st.entries → EntryOk (words bs) (shape_of st) i
  entry-ok i h = record { lm = (entry-is i h).lm-slot; ratio = λ e. ratio-ok (code-ratio st.kind e) i h }

  -- ---- permutation and tree
  pub place : (i : ℕ) → i < length st.entries → get_or (words bs) (at.permutation_at (shape_of st) + i) 0 ≡ get_or (inorder st.tree) i 0
  place i h = sym (part-get W (at.permutation_at s) n i h) ∙ ap (λ (p : List ℕ). get_or p i 0) pieces.permutation

  pub place-small : (i : ℕ) → i < length st.entries → get_or (words bs) (at.permutation_at (shape_of st) + i) 0 < length st.entries
  place-small i h = rw (place i h) (once-below (inorder st.tree) n val.once _ (get_in (inorder st.tree) i (omega (arith, val.size))))

  -- by the map and powers of the state
  pub stands : Stands (words bs) (shape_of st) st.map_maxima (power_in st.entries) 0 0 st.tree
  stands = record {
    rows = moved W pieces.nodes-are (omega arith) refl;
    perm = moved W pieces.permutation (omega arith) (sym val.size);
  }

  -- and by those of the image
  pub tree_is : TreeAt (words bs) (shape_of st) 0 0 st.tree
  tree_is = record {
    stands = record {
      rows = stands.rows ∙ rw pieces.map (sym
          (tree-words-ext m st.map_maxima (power W s) (power_in es) st.tree (λ v e i. powers v e (once-below (inorder st.tree) n val.once e i))));
      perm = stands.perm;
    };
    ordered = by-numbers st.kind es l s (power W s) (label W s) refl refl powers label_is
        (λ e. labels-agree es l val.labels-valid (ratios e)) st.tree val.ordered;
  }
