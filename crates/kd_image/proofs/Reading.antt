-- What is read of entries where the tables of a state stand. Assumes nothing.
use mathlib.Core.Path.{◌≡◌, refl, sym, ap, ◌∙◌}
use mathlib.Core.List.{List}
use Prim.Native.Nat.{ℕ, ◌+◌, ◌≤◌, ◌<◌}
use native.Mathlib.Omega.{arith}
use lib.ListN.{length, get_or, drop, length-drop}
use Rattle.fast_compare.specs.Map as map
use Rattle.words.specs.Tables.{part}
use Rattle.words.proofs.Tables.{row_fits}
use Rattle.monomial.specs.Monomial.{pow}
use Rattle.divmask.specs.Mask.{mask}
use Rattle.index_theory.specs.Entries.{entry_at, ratio_of}
use Rattle.index_theory.specs.State.{Kind, ratioed, State, power_in, label_of, LabelsOf}
use Rattle.index_image.specs.Shape as at
use Rattle.index_image.specs.Walk as walk
use Rattle.index_image.specs.Walk.{lm_in, power, map_maxima}
use Rattle.index_image.specs.Door.{slot_in}
use Rattle.index_image.specs.declared.Shape.{Shape}
use Rattle.index_image.proofs.EntryWords.{EntryIs, entry_of}
use Rattle.fast_compare.specs.Layout as labels
use Rattle.fast_compare.proofs.Images as images
use Rattle.index_image.specs.Layout.{label_words}
use Rattle.index_image.specs.Walk.{label}
use Rattle.index_image.proofs.Bounds.{ratio-labels}
use Rattle.index_image.proofs.Shapes.{ratio-code, code-ratio}
use Rattle.index_image.proofs.Images.{labels-of-ratios}
use Rattle.index_image.proofs.Rows.{row-of, label-of}
use lib.Seq.{get_or-drop}
use Rattle.kd_image.specs.HasTree.{Holds}

label-words : (k : Kind) (l : map.State) → k ≡ ratioed → label_words k l ≡ labels.encode l
unfolding label_words
label-words k l e = rw e

-- ---- entries
module _ (st : State) (W : List ℕ) (s : Shape) (H : Holds st W s) where
  pub entry-fits : (e : ℕ) → e < s.entries → at.entry_at s e + at.entry_width s ≤ length W
  entry-fits e h = omega (arith, H.room, H.range.few, row_fits e s.capacity (at.entry_width s) (omega (arith, H.range.few)))

  pub entry-is : (e : ℕ) → e < s.entries → EntryIs W s st.kind st.labels e (entry_at st.entries e)
  entry-is e h =
      entry_of W s st.kind H.kind H.range.vars-to e (entry-fits e h) st.labels (entry_at st.entries e)
      (rw H.vars (H.valid.canonical e (omega (arith, H.size)))) (rw H.map (H.entries e h))

  -- ---- the labels of a ratio index
  module _ (k : st.kind ≡ ratioed) where
    abbrev l : map.State
    l = st.labels

    pub kind-one : s.kind ≡ 1
    kind-one = H.kind ∙ ratio-code st.kind k

    pub ratios : LabelsOf ratioed st.entries st.labels
    ratios = labels-of-ratios st.kind st.entries st.labels H.valid.labels-of k

    size_is : labels.size st.labels.variables st.labels.capacity ≡ at.labels_size s
    size_is = rw (H.valid.labels-vars, H.valid.labels-cap, ← H.vars, ← H.cap) (sym (ratio-labels s H.range kind-one))

    front-part : (W : List ℕ) (a n : ℕ) → part (drop a W) 0 n ≡ part W a n
    unfolding part
    front-part W a n = refl

    front-is : part (drop (at.labels_at s) W) 0 (labels.size st.labels.variables st.labels.capacity) ≡ labels.encode st.labels
    front-is = ap (part (drop (at.labels_at s) W) 0) size_is ∙ front-part W (at.labels_at s) (at.labels_size s) ∙ H.labels ∙ label-words st.kind st.labels k

    label-at : (j : ℕ) → j < length st.labels.rows → get_or W (at.labels_at s + (labels.row_at s.variables j + (s.variables + 2))) 0 ≡ map.label st.labels.rows j
    label-at j h =
        let fits : labels.size l.variables l.capacity ≤ length (drop (at.labels_at s) W) = omega (arith, length-drop (at.labels_at s) W, size_is, H.room) in
        let v : l.variables ≡ s.variables = H.valid.labels-vars ∙ sym H.vars in
        sym (get_or-drop (at.labels_at s) W (labels.row_at s.variables j + (s.variables + 2)) 0)
        ∙ (turned v (images.row_is l H.valid.labels-valid (drop (at.labels_at s) W) fits front-is j h)).label_is
      where
        turned : {a b : ℕ} → a ≡ b → images.RowIs (drop (at.labels_at s) W) a (labels.row_at a j) (map.row st.labels.rows j)
            → images.RowIs (drop (at.labels_at s) W) b (labels.row_at b j) (map.row st.labels.rows j)
        turned e r = rw e at r

    -- the row that an entry names
    record Names (e : ℕ) : Type 0 where
      row : ℕ
      inside : row < length st.labels.rows
      value : map.value st.labels.rows row ≡ ratio_of (entry_at st.entries e)
      is : walk.row_in W s e ≡ row

    names : (e : ℕ) → e < s.entries → Names e
    names e h =
        let o = ratios.0 e (omega (arith, H.size)) in
        record { row = o.0; inside = o.1; value = o.2; is = ((entry-is e h).ratio k).row_is ∙ row-of l H.valid.labels-valid (ratio_of (entry_at st.entries e)) o.0 o.1 o.2 }

    pub row_small : (e : ℕ) → e < s.entries → walk.row_in W s e < s.capacity
    row_small e h = let n = names e h in omega (arith, n.is, n.inside, H.valid.labels-valid.few, H.valid.labels-cap, H.cap)

    pub label-of-entry : (e : ℕ) → e < s.entries → label W s e ≡ label_of st.labels (ratio_of (entry_at st.entries e))
    unfolding label
    label-of-entry e h =
        let n = names e h in
        rw n.is (label-at n.row n.inside) ∙ sym (label-of l H.valid.labels-valid (ratio_of (entry_at st.entries e)) n.row n.inside n.value)

  -- what the index's own functions ask
  pub holds-ready : walk.Ready W s
  holds-ready = record {
    range = H.range;
    room = H.room;
    map = rw (H.map, H.vars) H.valid.map-good;
    lms = λ e h. (entry-is e h).lm-slot.some;
    places = H.places;
    rows = λ k e h. row_small (code-ratio st.kind (sym H.kind ∙ k)) e h;
  }

  pub lm-of : (e : ℕ) → e < s.entries → lm_in W s e ≡ (entry_at st.entries e).lm
  lm-of e h = (entry-is e h).lm-is

  pub power-of : (v e : ℕ) → e < s.entries → power W s v e ≡ power_in st.entries v e
  unfolding power power_in
  power-of v e h = rw (lm-of e h)

  pub mask-of : (e : ℕ) → e < s.entries → get_or W (at.entry_at s e + (s.variables + 1)) 0 ≡ mask st.variables st.map_maxima (pow 1 (entry_at st.entries e).lm)
  unfolding lm_in slot_in
  mask-of e h = (entry-is e h).lm-slot.masked ∙ rw (lm-of e h, H.map, H.vars)
