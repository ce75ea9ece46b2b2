-- The checks pass exactly for the image of a valid map; that image is one, and its bytes hold one state. Assumes nothing.
use mathlib.Core.Path.{◌≡◌, refl, sym, ap, ◌∙◌}
use mathlib.Core.List.{List, [], ◌∷◌}
use mathlib.Core.Logic.{◌↔◌, ∥∥₁_elim}
use mathlib.Core.HLevel.{is_prop→PathP}
use Rattle.std.proofs.Props.{props}
use Prim.Native.Nat.{ℕ, ◌+◌, ◌-◌, ◌*◌, ◌/◌, ◌^◌, ◌≤◌, ◌<◌}
use native.Mathlib.Omega.{arith}
use lib.ListN.{length, get_or, drop}
use lib.Seq.{ext_get_or}
use Rattle.words.specs.Words.{words, paste_w}
use Rattle.words.specs.Tables.{part, table}
use Rattle.words.proofs.Laws.{Words, length-words, words-paste_w, length-paste_w}
use Rattle.monomial.proofs.Canon.{canon-of}
use Rattle.words.proofs.Tables.{part-mid, Small, small-append, small-nil, small-cons, small-zeros, small-table, small-each, table-iff, row_fits, split_rows, length-table}
use Rattle.words.proofs.Lists.{listed, length-listed}
use Rattle.fast_compare.specs.Labels.{sorted, Labelled}
use Rattle.fast_compare.specs.Map.{Value, cmp, Good, Row, State, row, value, label, Valid}
use Rattle.fast_compare.specs.Layout.{row_words, encode, size, row_at, order_at, Is, Sound, SoundFor, value_at, TablesOk, HeadOk}
use Rattle.fast_compare.proofs.Ranks.{sorted-ranked, sorted_ext, ranked-unique}
use Rattle.fast_compare.proofs.Maps.{cmp-lawful}
use Rattle.fast_compare.proofs.Images.{canon-small, of_row, four, together, ranked, encode-length, header, row_is, tables, found-ranked, found-distinct, found-labelled, row_listed, length-row}

-- ---- what passes
module _ (W : List ℕ) (m c : ℕ) (len : ℕ) (small : Words W) (lw : length W ≡ len / 4) (hd : HeadOk W m c len) (ok : TablesOk W m c (get_or W 3 0)) where
  abbrev n : ℕ
  n = get_or W 3 0

  abbrev found : ℕ → Row
  found i = record { value = value_at W m (row_at m i); label = get_or W (row_at m i + (m + 2)) 0 }

  abbrev rs : List Row
  rs = listed n found

  pub state_of : State
  state_of = record { variables = m; capacity = c; rows = listed n found }

  fits : size m c ≤ length W
  fits = omega (arith, hd.room)

  few : n ≤ c
  few = hd.few

  long : length rs ≡ n
  long = length-listed n found

  value-rs : (i : ℕ) → i < n → value rs i ≡ value_at W m (row_at m i)
  value-rs i h = ap (λ (r : Row). r.value) (row_listed n found i h)

  label-rs : (i : ℕ) → i < n → label rs i ≡ get_or W (row_at m i + (m + 2)) 0
  label-rs i h = ap (λ (r : Row). r.label) (row_listed n found i h)

  row_ok : (i : ℕ) → i < n → (part W (row_at m i) (m + 3) ≡ row_words m (found i)) × Good m (value_at W m (row_at m i))
  row_ok i h =
      of_row W m (row_at m i) (omega (arith, hd.vars-to)) (omega (arith, fits, few, row_fits i n (m + 3) h, split_rows n c (m + 3) few)) (ok.rows i h)

  good : (i : ℕ) → i < n → Good m (value rs i)
  good i h = rw (value-rs i h) (row_ok i h).1

  labelled : Labelled cmp (value rs) (label rs) n
  labelled =
      let lab = found-labelled W m c n ok fits few small in
      record {
        distinct = λ i j hi hj e. lab.distinct i j hi hj (rw (value-rs i hi, value-rs j hj) at e);
        rising = λ i j hi hj e. rw (label-rs i hi, label-rs j hj) (lab.rising i j hi hj (rw (value-rs i hi, value-rs j hj) at e));
        small = λ i hi. rw (label-rs i hi) (lab.small i hi);
      }

  state-valid : Valid state_of
  unfolding state_of
  state-valid = record {
    vars-from = hd.vars-from;
    vars-to = hd.vars-to;
    cap-from = hd.cap-from;
    cap-to = hd.cap-to;
    few = omega (arith, long, few);
    good = λ i h. good i (omega (arith, long));
    labelled = rw long labelled;
  }

  order_is : part W (order_at m c) n ≡ sorted cmp (value rs) n
  order_is =
      let g : ℕ → Value = λ i. value_at W m (row_at m i) in
      let d = found-distinct W m c n ok fits few in
      ranked-unique cmp-lawful g n (part W (order_at m c) n) (sorted cmp g n) d (found-ranked W m c n ok fits few) (sorted-ranked cmp-lawful g n d)
      ∙ sorted_ext cmp-lawful g (value rs) n (λ i h. sym (value-rs i h))

  rows_are : part W 4 (n * (m + 3)) ≡ table n (λ i. row_words m (row rs i))
  rows_are =
      (table-iff W 4 n (m + 3) (λ i. row_words m (row rs i)) (omega (arith, fits, few, split_rows n c (m + 3) few))
      (λ i h. length-row m (row rs i) (omega (arith, hd.vars-to)) (good i h))
      ).1 (λ i h. (row_ok i h).0 ∙ ap (row_words m) (sym (row_listed n found i h)))

  head-is : part W 0 4 ≡ 1 ∷ m ∷ c ∷ n ∷ []
  head-is = four W (omega (arith, fits)) ∙ rw (hd.layout, hd.variables, hd.capacity)

  state-is : part W 0 (size m c) ≡ encode state_of
  unfolding encode state_of
  state-is =
      rw long (together W m c n (1 ∷ m ∷ c ∷ n ∷ []) (table n (λ i. row_words m (row rs i))) (sorted cmp (value rs) n) few fits refl
      (length-table n (m + 3) (λ i. row_words m (row rs i)) (λ i h. length-row m (row rs i) (omega (arith, hd.vars-to)) (good i h)))
      (sorted-ranked cmp-lawful (value rs) n labelled.distinct).long
      (record { head-is = head-is; rows_are = rows_are; rows-rest = ok.rows-rest; order_is = order_is; order-rest = ok.order-rest }))

pub passes : (bs : List ℕ) (m c : ℕ) → Words (words bs) → HeadOk (words bs) m c (length bs) → TablesOk (words bs) m c (get_or (words bs) 3 0) → SoundFor m c bs
unfolding state_of
passes bs m c small hd ok =
    let W = words bs in
    let lw = length-words bs in
    record {
      state = state_of W m c (length bs) small lw hd ok;
      is = record {
        valid = state-valid W m c (length bs) small lw hd ok;
        room = hd.room;
        is = state-is W m c (length bs) small lw hd ok;
      };
      vars = refl;
      cap = refl;
    }

-- ---- what a sound map's words are
module _ (bs : List ℕ) (st : State) (i : Is st bs) where
  pub fits-words : size st.variables st.capacity ≤ length (words bs)
  fits-words = omega (arith, i.room, length-words bs)

  pub head_of : HeadOk (words bs) st.variables st.capacity (length bs)
  head_of =
      let h = header st i.valid (words bs) fits-words i.is in
      record {
        vars-from = i.valid.vars-from;
        vars-to = i.valid.vars-to;
        cap-from = i.valid.cap-from;
        cap-to = i.valid.cap-to;
        room = i.room;
        layout = h.h0;
        variables = h.h1;
        capacity = h.h2;
        few = omega (arith, h.h3, i.valid.few);
      }

  pub count_of : get_or (words bs) 3 0 ≡ length st.rows
  count_of = (header st i.valid (words bs) fits-words i.is).h3

  pub tables-of : TablesOk (words bs) st.variables st.capacity (get_or (words bs) 3 0)
  tables-of = rw count_of (tables st i.valid (words bs) fits-words i.is)

-- the checks pass exactly for a sound map
pub sound-for-iff : (bs : List ℕ) (m c : ℕ) → Words (words bs) → (HeadOk (words bs) m c (length bs) × TablesOk (words bs) m c (get_or (words bs) 3 0)) ↔ SoundFor m c bs
sound-for-iff bs m c small = (
  λ (p : HeadOk (words bs) m c (length bs) × TablesOk (words bs) m c (get_or (words bs) 3 0)). passes bs m c small p.0 p.1,
  λ (s : SoundFor m c bs).
      (rw (s.vars, s.cap) at (head_of bs s.state s.is), rw (s.vars, s.cap) at (tables-of bs s.state s.is)),
)

-- bytes that hold a map hold that one only
row-eq : (a b : Row) → a.value ≡ b.value → a.label ≡ b.label → a ≡ b
row-eq a b e g = λ i. record { value = e i; label = g i }

state-eq : (a b : State) → a.variables ≡ b.variables → a.capacity ≡ b.capacity → a.rows ≡ b.rows → a ≡ b
state-eq a b d e f = λ i. record { variables = d i; capacity = e i; rows = f i }

row-at : (rs : List Row) (i : ℕ) → get_or rs i (record { value = record { index = 0; ratio = [] }; label = 0 }) ≡ row rs i
unfolding row
row-at rs i = refl

pub state-unique : (bs : List ℕ) (a b : State) → Is a bs → Is b bs → a ≡ b
state-unique bs a b p q =
    let W = words bs in
    let ha = header a p.valid W (fits-words bs a p) p.is in
    let hb = header b q.valid W (fits-words bs b q) q.is in
    let ev : a.variables ≡ b.variables = sym ha.h1 ∙ hb.h1 in
    let ec : a.capacity ≡ b.capacity = sym ha.h2 ∙ hb.h2 in
    let en : length a.rows ≡ length b.rows = sym ha.h3 ∙ hb.h3 in
    state-eq a b ev ec (ext_get_or (record { value = record { index = 0; ratio = [] }; label = 0 }) a.rows b.rows en (λ i h.
    let ra = row_is a p.valid W (fits-words bs a p) p.is i h in
    let rb = rw (← ev) at (row_is b q.valid W (fits-words bs b q) q.is i (omega arith)) in
    row-at a.rows i ∙ row-eq (row a.rows i) (row b.rows i) (sym ra.value-is ∙ rb.value-is) (sym ra.label_is ∙ rb.label_is) ∙ sym (row-at b.rows i)))

-- ---- the image of a valid map, pasted into bytes with room, is there
row_small : (m : ℕ) (r : Row) → Good m r.value → r.label < 2 ^ 32 → Small (row_words m r)
unfolding row_words
row_small m r g h =
    let ratio : Small r.value.ratio = record { each = canon-small m 0 r.value.ratio (canon-of g.canonical) } in
    small-cons (omega (arith, g.index-small))
    (small-append ratio
    (small-append (small-zeros (m + 1 - length r.value.ratio)) (small-cons h small-nil)))

module _ (st : State) (val : Valid st) where
  encode-fits : Small (encode st)
  unfolding encode
  encode-fits =
      let n = length st.rows in
      let o = sorted cmp (value st.rows) n in
      let r = ranked st val in
      let few : n ≤ 4096 = omega (arith, val.few, val.cap-to) in
      let head : Small (1 ∷ st.variables ∷ st.capacity ∷ n ∷ []) = small-cons (omega arith) (small-cons (omega (arith, val.vars-to)) (small-cons (omega (arith, val.cap-to)) (small-cons (omega arith) small-nil))) in
      small-append head
      (small-append (small-table n (λ i. row_words st.variables (row st.rows i)) (λ i h. row_small st.variables (row st.rows i) (val.good i h) (val.labelled.small i h)))
      (small-append (small-zeros ((st.capacity - n) * (st.variables + 3)))
      (small-append (small-each o (λ i h. omega (arith, r.inside i (omega (arith, r.long))))) (small-zeros (st.capacity - n)))))

  pub encode-small : Words (encode st)
  encode-small = encode-fits.each

  pub pasted : (bs : List ℕ) → 4 * size st.variables st.capacity ≤ length bs → Is st (paste_w bs 0 (encode st))
  pasted bs h =
      let l = encode-length st val in
      record {
        valid = val;
        room = omega (arith, length-paste_w bs 0 (encode st) (omega arith));
        is = rw (words-paste_w bs 0 (encode st) encode-small (omega arith)) (part-mid [] (encode st) (drop (0 + length (encode st)) (words bs)) 0 (size st.variables st.capacity) refl l);
      }

pub sound-long : (bs : List ℕ) (st : State) → Is st bs → 16 ≤ length bs
sound-long bs st i = omega (arith, i.room)

-- soundness is a proposition, since the state is unique
is-prop : (st : State) (bs : List ℕ) → IsProp (Is st bs)
is-prop st bs = hlevel props

pub sound-prop : (bs : List ℕ) → IsProp (Sound bs)
sound-prop bs a b =
    let p = state-unique bs a.state b.state a.is b.is in
    λ i. record { state = p i; is = is_prop→PathP (λ j. Is (p j) bs) (λ j. is-prop (p j) bs) a.is b.is i }

-- so a map that is known to be sound somehow gives its state
pub sound-known : {bs : List ℕ} → ∥ Sound bs ∥₁ → Sound bs
sound-known {bs} s = ∥∥₁_elim s (sound-prop bs) (λ x. x)
