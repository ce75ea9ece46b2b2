-- The ranges of the requests that carry a ratio or an index. Assumes nothing.
use mathlib.Core.Path.{◌≡◌, sym, ap, ◌∙◌}
use mathlib.Core.Bool.{not}
use mathlib.Core.List.{List}
use Prim.Native.Nat.{ℕ, ◌+◌, ◌<◌}
use native.Mathlib.Decide.{dec_le}
use native.Mathlib.Omega.{arith}
use lib.Dec.{leb, ltb}
use lib.ListN.{length}
use borrow.Author.Tests.{lt-ltb, le-ltb, le-leb, lt-leb}
use Rattle.fast_compare.specs.Map as map
use Rattle.index_theory.specs.Entries.{entry_at, quotient_of, ratio_of, above}
use Rattle.index_theory.specs.State.{ratioed, State, Valid, label_of}
use Rattle.index_theory.specs.Searches.{reducing, high, low, singular, is_regular}
use Rattle.index_theory.specs.Ranges.{not_below, not_past}
use Rattle.index_image.proofs.Images.{labels-of-ratios}
use Rattle.index_image.proofs.Rows.{label-of}
use Rattle.query_words.specs.Asked.{lowered, Range}
use Rattle.label_ranges.specs.Ended.{Ends, From}

turn-leb : (a b : ℕ) → not (leb a b) ≡ ltb b a
turn-leb a b = elim (dec_le a b) [ yes l ↦ rw (le-leb a b l) (sym (le-ltb b a l)) | no l ↦ rw (lt-leb a b (omega arith)) (sym (lt-ltb b a (omega arith))) ]

next-is : (a i : ℕ) → ltb i a ≡ not (ltb a (i + 1))
next-is a i = elim (dec_le (i + 1) a) [ yes l ↦ rw (le-ltb a (i + 1) l) (lt-ltb i a (omega arith)) | no l ↦ rw (lt-ltb a (i + 1) (omega arith)) (le-ltb i a (omega arith)) ]

module _ (st : State) (val : Valid st) (k : st.kind ≡ ratioed) where
  record RowOf (e : ℕ) : Type 0 where
    row : ℕ
    inside : row < length st.labels.rows
    has : map.value st.labels.rows row ≡ ratio_of (entry_at st.entries e)
    label : label_of st.labels (ratio_of (entry_at st.entries e)) ≡ map.label st.labels.rows row

  row-of : (e : ℕ) → e < length st.entries → RowOf e
  row-of e h =
      let o = (labels-of-ratios st.kind st.entries st.labels val.labels-of k).0 e h in
      record { row = o.0; inside = o.1; has = o.2; label = label-of st.labels val.labels-valid (ratio_of (entry_at st.entries e)) o.0 o.1 o.2 }

  abbrev lab : ℕ → ℕ
  lab e = label_of st.labels (ratio_of (entry_at st.entries e))

  small_of : (e : ℕ) → e < length st.entries → lab e < 4294967296
  small_of e h = let r = row-of e h in omega (arith, r.label, val.labels-valid.labelled.small r.row r.inside)

  -- an entry's index is not past i where its label is below those of the next index
  past_of : (i to : ℕ) → From st.labels (i + 1) to → (e : ℕ) → e < length st.entries → not (ltb i (entry_at st.entries e).index) ≡ ltb (lab e) to
  unfolding quotient_of
  past_of i to T e h =
      let r = row-of e h in
      let a = (ratio_of (entry_at st.entries e)).index in
      ap not (next-is a i ∙ ap (λ (w : map.Value). not (ltb w.index (i + 1))) (sym r.has) ∙ T.is r.row r.inside) ∙ turn-leb to
      (map.label st.labels.rows r.row) ∙ ap (λ (n : ℕ). ltb n to) (sym r.label)

  -- a low base divisor has a label from those of its index on, and below those of the next
  pub low-range : (s : List ℕ) (i from to floor : ℕ) → From st.labels i from → From st.labels (i + 1) to → Range st (low i s) from to floor
  unfolding not_below not_past lowered quotient_of
  low-range s i from to floor F T = record {
    from_is = λ e h.
        let r = row-of e h in
        ap (λ (w : map.Value). not (ltb w.index i)) (sym r.has) ∙ F.is r.row r.inside ∙ ap (leb from) (sym r.label);
    to_is = past_of i to T;
    floor-is = λ z. absurd (omega arith);
  }

  module _ (v : map.Value) (up down : ℕ) (E : Ends st.labels v up down) where
    up_of : (e : ℕ) → e < length st.entries → above (ratio_of (entry_at st.entries e)) v ≡ leb up (lab e)
    up_of e h = let r = row-of e h in ap (λ (w : map.Value). above w v) (sym r.has) ∙ E.up_is r.row r.inside ∙ ap (leb up) (sym r.label)

    down-of : (e : ℕ) → e < length st.entries → above v (ratio_of (entry_at st.entries e)) ≡ ltb (lab e) down
    down-of e h = let r = row-of e h in ap (above v) (sym r.has) ∙ E.down_is r.row r.inside ∙ ap (λ (n : ℕ). ltb n down) (sym r.label)

    -- a high base divisor has a label from `up` on
    pub high-range : (q : List ℕ) (floor : ℕ) → Range st (high v q) up 4294967296 floor
    unfolding not_below not_past lowered
    high-range q floor = record {
      from_is = up_of;
      to_is = λ e h. sym (lt-ltb (lab e) 4294967296 (small_of e h));
      floor-is = λ z. absurd (omega arith);
    }

    -- a reducer has one below it, a regular one below `down`
    pub reducing-range : (q : List ℕ) → Range st (reducing v q) 0 up down
    unfolding not_below not_past lowered is_regular
    reducing-range q = record {
      from_is = λ e h. sym (le-leb 0 (lab e) (omega arith));
      to_is = λ e h. ap not (up_of e h) ∙ turn-leb up (lab e);
      floor-is = λ z e h. down-of e h;
    }

  -- the singular criterion asks for a label from `up` on, below those of the next index
  pub singular-range : (i : ℕ) (s l : List ℕ) (up down to floor : ℕ) → Ends st.labels (quotient_of i s l) up down → From st.labels (i + 1) to
      → Range st (singular i s l) up to floor
  unfolding not_below not_past lowered
  singular-range i s l up down to floor E T = record {
    from_is = up_of (quotient_of i s l) up down E;
    to_is = past_of i to T;
    floor-is = λ z. absurd (omega arith);
  }
