-- The image of a map by its words, table by table. Assumes nothing.
use mathlib.Core.Path.{◌≡◌, refl, sym, ap, ◌∙◌}
use mathlib.Core.List.{List, [], ◌∷◌, ◌++◌}
use mathlib.Core.Logic.{◌⊎◌, inl, inr}
use Prim.Native.Nat.{ℕ, zero, suc, ◌+◌, ◌-◌, ◌*◌, ◌≤◌, ◌<◌}
use native.Mathlib.Omega.{arith}
use lib.ListN.{length, get_or, take, drop, length-append, length-drop, take-append-drop}
use lib.Seq.{length-take-le}
use Rattle.words.specs.Kinds.{payload, ident, index_word}
use Rattle.words.specs.Tables.{part, zeros, table}
use Rattle.words.proofs.Lists.{listed, get_d-listed}
use Rattle.words.proofs.Laws.{Words}
use Rattle.words.proofs.Tables.{length_part, part-get, part-nil, part-cons, part-one, part-append, length-zeros, length-table, table-iff, row_fits, split_rows}
use Rattle.words.proofs.Joined.{joined, Stand, moved, moved_back}
use Rattle.words.proofs.Joined.{apart as pieces-apart, together as pieces-together}
use Rattle.monomial.specs.Monomial.{front}
use Rattle.std.specs.declared.cmp.Ordering.TheVariants.{Less}
use Rattle.monomial.proofs.Canon.{Canon, IsVar, IsEnd, front-short}
use Rattle.monomial.proofs.Powers.{canonical-length}
use Rattle.monomial.proofs.Laws.{front-canonical, canonical-front}
use Rattle.fast_compare.specs.Labels.{below, sorted, Labelled}
use Rattle.fast_compare.specs.Map.{Value, cmp, Good, Row, State, row, value, Valid}
use Rattle.fast_compare.specs.Layout.{row_words, encode, size, row_at, order_at, ratio_words, value_at, RowOk, Rises, TablesOk}
use Rattle.fast_compare.proofs.Ranks.{below_less, below_top, Distinct, Ranked, less-place, place_of, sorted-ranked, rising-ranked, rising-distinct}
use Rattle.fast_compare.proofs.Maps.{cmp-lawful}

-- ---- canonical ratios
-- the ratio found at a place has at most m + 1 words, which stand in the image
pub ratio-within : (W : List ℕ) (m at : ℕ) → m ≤ 4096 → (ratio_words W m at ≡ 0 → ⊥) → (ratio_words W m at ≤ m + 1) × (at + ratio_words W m at ≤ length W)
ratio-within W m at h s =
    let f = ratio_words W m at in
    let short : f ≤ length (drop at W) = omega (arith, front-short 2 m 0 (drop at W)) in
    let l : length (take f (drop at W)) ≡ f = length-take-le f (drop at W) short in
    (omega (arith, canonical-length 2 m (take f (drop at W)) (omega arith) h (front-canonical 2 m (drop at W) (omega arith) s)), omega (arith, length-drop at W))

pub canon-small : (b n : ℕ) (ws : List ℕ) → Canon 2 b n ws → Words ws
unfolding Canon
canon-small b n [] c = λ k. omega arith
canon-small b n (w ∷ ws) c = go (canon-small (ident w) (suc n) ws) c
  where
    go : (Canon 2 (ident w) (suc n) ws → Words ws) → IsEnd n w ws ⊎ (IsVar 2 b w × Canon 2 (ident w) (suc n) ws) → Words (w ∷ ws)
    go rec (inl e) zero = omega (arith, e.kinded)
    go rec (inl e) (suc k) = rw e.last (omega arith)
    go rec (inr (v, r)) zero = omega (arith, v.kinded)
    go rec (inr (v, r)) (suc k) = rec r k

-- ---- one row
pub length-row : (m : ℕ) (r : Row) → m ≤ 4096 → Good m r.value → length (row_words m r) ≡ m + 3
unfolding row_words
length-row m r h g = simp (length-append, length-zeros) (omega (arith, canonical-length 2 m r.value.ratio (omega arith) h g.canonical))

-- what stands in the m + 3 words of a row
pub record RowIs (W : List ℕ) (m at : ℕ) (r : Row) : Type 0 where
  pub ok : RowOk W m at
  pub value-is : value_at W m at ≡ r.value
  pub label_is : get_or W (at + (m + 2)) 0 ≡ r.label

same-value : (v : Value) (i : ℕ) (r : List ℕ) → i ≡ v.index → r ≡ v.ratio → record { index = i; ratio = r } ≡ v
same-value v i r a b = λ j. record { index = a j; ratio = b j }

-- a part, as the list's own functions give it
pub part-is : (W : List ℕ) (a k : ℕ) → part W a k ≡ take k (drop a W)
unfolding part
part-is W a k = refl

module _ (W : List ℕ) (m at : ℕ) (few : m ≤ 4096) (fits : at + (m + 3) ≤ length W) where
  pub row-of : (r : Row) → Good m r.value → part W at (m + 3) ≡ row_words m r → RowIs W m at r
  unfolding row_words value_at
  row-of r g e =
      let rt = r.value.ratio in
      let k = length rt in
      let lk = canonical-length 2 m rt (omega arith) few g.canonical in
      let z = m + 1 - k in
      let e1 : m + 3 ≡ 1 + (k + (z + 1)) = omega arith in
      let p1 = (part-append W at 1 (k + (z + 1)) (index_word r.value.index ∷ []) (rt ++ (zeros z ++ (r.label ∷ []))) (omega arith) refl).0 (ap (part W at) (sym e1) ∙ e) in
      let p2 = (part-append W (at + 1) k (z + 1) rt (zeros z ++ (r.label ∷ [])) (omega arith) refl).0 p1.1 in
      let p3 = (part-append W (at + 1 + k) z 1 (zeros z) (r.label ∷ []) (omega arith) (length-zeros z)).0 p2.1 in
      let q1 : get_or W at 0 ∷ [] ≡ index_word r.value.index ∷ [] = sym (part-one W at (omega arith)) ∙ p1.0 in
      let i1 : get_or W at 0 ≡ index_word r.value.index = cc in
      let q3 : get_or W (at + 1 + k + z) 0 ∷ [] ≡ r.label ∷ [] = sym (part-one W (at + 1 + k + z) (omega arith)) ∙ p3.1 in
      let i3 : get_or W (at + 1 + k + z) 0 ≡ r.label = cc in
      let split : drop (at + 1) W ≡ rt ++ drop k (drop (at + 1) W) = sym (take-append-drop k (drop (at + 1) W)) ∙ ap (λ (l : List ℕ). l ++ drop k (drop (at + 1) W)) (sym (part-is W (at + 1) k) ∙ p2.0) in
      let fr : ratio_words W m (at + 1) ≡ k = ap (front 2 m 0) split ∙ canonical-front 2 m rt (drop k (drop (at + 1) W)) (omega arith) g.canonical in
      let pl : at + 1 + k + z ≡ at + (m + 2) = omega arith in
      record {
        ok = record {
          kinded = omega (arith, i1, g.index-small);
          some = λ y. omega (arith, g.canonical.some);
          rest = rw fr p3.0;
        };
        value-is = same-value r.value (payload (get_or W at 0)) (part W (at + 1) (ratio_words W m (at + 1))) (omega (arith, i1, g.index-small)) (rw fr p2.0);
        label_is = rw pl at i3;
      }

  pub of_row : RowOk W m at → (part W at (m + 3) ≡ row_words m (record { value = value_at W m at; label = get_or W (at + (m + 2)) 0 })) × Good m (value_at W m at)
  unfolding row_words value_at
  of_row ok =
      let k = ratio_words W m (at + 1) in
      let b = ratio-within W m (at + 1) few ok.some in
      let z = m + 1 - k in
      let e1 : m + 3 ≡ 1 + (k + (z + 1)) = omega (arith, b.0) in
      let rt = part W (at + 1) k in
      let lr : length rt ≡ k = length_part W (at + 1) k b.1 in
      let lb = get_or W (at + (m + 2)) 0 in
      let pl : at + 1 + k + z ≡ at + (m + 2) = omega (arith, b.0) in
      let p3 : part W (at + 1 + k + z) 1 ≡ lb ∷ [] = rw pl (part-one W (at + (m + 2)) (omega arith)) in
      let p2 = (part-append W (at + 1 + k) z 1 (zeros z) (lb ∷ []) (omega (arith, b.0)) (length-zeros z)).1 (ok.rest, p3) in
      let p1 = (part-append W (at + 1) k (z + 1) rt (zeros z ++ (lb ∷ [])) b.1 lr).1 (refl, p2) in
      let iw : part W at 1 ≡ index_word (payload (get_or W at 0)) ∷ [] = part-one W at (omega arith) ∙ ap (λ (x : ℕ). x ∷ []) (omega (arith, ok.kinded)) in
      let p0 = (part-append W at 1 (k + (z + 1)) (index_word (payload (get_or W at 0)) ∷ []) (rt ++ (zeros z ++ (lb ∷ []))) (omega arith) refl).1 (iw, p1) in
      let lz : m + 1 - length rt ≡ z = rw lr in (
        ap (part W at) e1 ∙ p0 ∙ rw lz,
        record { index-small = omega arith; canonical = rw (part-is W (at + 1) (ratio_words W m (at + 1))) (front-canonical 2 m (drop (at + 1) W) (omega arith) ok.some) },
      )

-- ---- the whole image
-- its five pieces
pub record Pieces (W : List ℕ) (m c n : ℕ) (head rows order : List ℕ) : Type 0 where
  pub head-is : part W 0 4 ≡ head
  pub rows_are : part W 4 (n * (m + 3)) ≡ rows
  pub rows-rest : part W (row_at m n) ((c - n) * (m + 3)) ≡ zeros ((c - n) * (m + 3))
  pub order_is : part W (order_at m c) n ≡ order
  pub order-rest : part W (order_at m c + n) (c - n) ≡ zeros (c - n)

module _ (W : List ℕ) (m c n : ℕ) (head rows order : List ℕ) (few : n ≤ c) (fits : size m c ≤ length W)
    (lh : length head ≡ 4) (lr : length rows ≡ n * (m + 3)) (lo : length order ≡ n) where
  abbrev five : List (List ℕ)
  five = head ∷ rows ∷ zeros ((c - n) * (m + 3)) ∷ order ∷ zeros (c - n) ∷ []

  whole : joined five ≡ head ++ (rows ++ (zeros ((c - n) * (m + 3)) ++ (order ++ zeros (c - n))))
  unfolding joined
  whole = refl

  five-long : length (joined five) ≡ size m c
  five-long = ap length whole ∙ simp (length-append, length-zeros) (omega (arith, split_rows n c (m + 3) few))

  -- where the pieces begin
  at1 : 0 + length head ≡ 4
  at1 = omega arith

  at2 : 0 + length head + length rows ≡ row_at m n
  at2 = omega arith

  at3 : 0 + length head + length rows + length (zeros ((c - n) * (m + 3))) ≡ order_at m c
  at3 = omega (arith, length-zeros ((c - n) * (m + 3)), split_rows n c (m + 3) few)

  at4 : 0 + length head + length rows + length (zeros ((c - n) * (m + 3))) + length order ≡ order_at m c + n
  at4 = omega (arith, at3)

  pub apart : part W 0 (size m c) ≡ head ++ (rows ++ (zeros ((c - n) * (m + 3)) ++ (order ++ zeros (c - n)))) → Pieces W m c n head rows order
  apart e =
      let s = pieces-apart W 0 five (omega (arith, five-long)) (rw (five-long, whole) e) in
      record {
        head-is = moved W s.0 refl lh;
        rows_are = moved W s.1.0 at1 lr;
        rows-rest = moved W s.1.1.0 at2 (length-zeros ((c - n) * (m + 3)));
        order_is = moved W s.1.1.1.0 at3 lo;
        order-rest = moved W s.1.1.1.1 at4 (length-zeros (c - n));
      }

  pub together : Pieces W m c n head rows order → part W 0 (size m c) ≡ head ++ (rows ++ (zeros ((c - n) * (m + 3)) ++ (order ++ zeros (c - n))))
  together p =
      let s : Stand W 0 five = (
        moved_back W p.head-is refl lh,
        (
          moved_back W p.rows_are at1 lr,
          (moved_back W p.rows-rest at2 (length-zeros ((c - n) * (m + 3))), (moved_back W p.order_is at3 lo, moved_back W p.order-rest at4 (length-zeros (c - n)))),
        ),
      ) in
      rw (five-long, whole) at (pieces-together W 0 five (omega arith) (omega (arith, five-long)) s)

pub four : (W : List ℕ) → 4 ≤ length W → part W 0 4 ≡ get_or W 0 0 ∷ get_or W 1 0 ∷ get_or W 2 0 ∷ get_or W 3 0 ∷ []
four W h = rw (part-cons W 0 3 (omega arith), part-cons W 1 2 (omega arith), part-cons W 2 1 (omega arith), part-cons W 3 0 (omega arith), part-nil W 4)

-- ---- the image of a valid map passes
module _ (st : State) (val : Valid st) where
  abbrev m : ℕ
  m = st.variables

  abbrev c : ℕ
  c = st.capacity

  abbrev n : ℕ
  n = length st.rows

  abbrev f : ℕ → Value
  f = value st.rows

  pub ranked : Ranked cmp-lawful f n (sorted cmp f n)
  ranked = sorted-ranked cmp-lawful f n val.labelled.distinct

  row-long : (i : ℕ) → i < n → length (row_words m (row st.rows i)) ≡ m + 3
  row-long i h = length-row m (row st.rows i) (omega (arith, val.vars-to)) (val.good i h)

  pub rows_long : length (table n (λ i. row_words m (row st.rows i))) ≡ n * (m + 3)
  rows_long = length-table n (m + 3) (λ i. row_words m (row st.rows i)) row-long

  pub encode-length : length (encode st) ≡ size m c
  unfolding encode
  encode-length =
      simp (length-append, length-zeros) (omega (arith, rows_long, ranked.long, split_rows n c (m + 3) val.few, val.few))

  module _ (W : List ℕ) (fits : size m c ≤ length W) (is : part W 0 (size m c) ≡ encode st) where
    pub pieces : Pieces W m c n (1 ∷ m ∷ c ∷ n ∷ []) (table n (λ i. row_words m (row st.rows i))) (sorted cmp f n)
    unfolding encode
    pieces = apart W m c n _ _ _ val.few fits refl rows_long ranked.long is

    -- the header
    pub record Header : Type 0 where
      pub h0 : get_or W 0 0 ≡ 1
      pub h1 : get_or W 1 0 ≡ m
      pub h2 : get_or W 2 0 ≡ c
      pub h3 : get_or W 3 0 ≡ n

    pub header : Header
    header =
        let z : get_or W 0 0 ∷ get_or W 1 0 ∷ get_or W 2 0 ∷ get_or W 3 0 ∷ [] ≡ 1 ∷ m ∷ c ∷ n ∷ [] = sym (four W (omega arith)) ∙ pieces.head-is in
        record { h0 = cc; h1 = cc; h2 = cc; h3 = cc }

    pub row-fit : (i : ℕ) → i < n → row_at m i + (m + 3) ≤ length W
    row-fit i h = omega (arith, row_fits i n (m + 3) h, split_rows n c (m + 3) val.few)

    pub row_is : (i : ℕ) → i < n → RowIs W m (row_at m i) (row st.rows i)
    row_is i h =
        row-of W m (row_at m i) (omega (arith, val.vars-to)) (row-fit i h) (row st.rows i) (val.good i h)
        ((table-iff W 4 n (m + 3) (λ i. row_words m (row st.rows i)) (omega (arith, split_rows n c (m + 3) val.few)) row-long).0 pieces.rows_are i h)

    -- word k of the order
    pub order-get : (k : ℕ) → k < n → get_or W (order_at m c + k) 0 ≡ get_or (sorted cmp f n) k 0
    order-get k h = sym (part-get W (order_at m c) n k h) ∙ ap (λ (l : List ℕ). get_or l k 0) pieces.order_is

    pub order-inside : (k : ℕ) → k < n → get_or W (order_at m c + k) 0 < n
    order-inside k h = rw (order-get k h) (ranked.inside k h)

    pub tables : TablesOk W m c n
    tables = record {
      rows = λ i h. (row_is i h).ok;
      rows-rest = pieces.rows-rest;
      order = record { inside = order-inside; up = up };
      order-rest = pieces.order-rest;
    }
      where
        up : (k : ℕ) → suc k < n → Rises W m (row_at m (get_or W (order_at m c + k) 0)) (row_at m (get_or W (order_at m c + suc k) 0))
        up k h =
            let o = sorted cmp f n in
            let a = get_or o k 0 in
            let b = get_or o (suc k) 0 in
            let ha = ranked.inside k (omega arith) in
            let hb = ranked.inside (suc k) h in
            let ra = row_is a ha in
            let rb = row_is b hb in
            let less : cmp (f a) (f b) ≡ Less = less-place cmp-lawful f n o ranked (f b) k (omega arith) (omega (arith, ranked.rank (suc k) h)) in
            rw (order-get k (omega arith), order-get (suc k) h) (record {
              values = rw (ra.value-is, rb.value-is) less;
              labels = rw (ra.label_is, rb.label_is) (val.labelled.rising a b ha hb less);
            })

-- the label of a place lies below those of later places
module _ (W : List ℕ) (m c n : ℕ) (ok : TablesOk W m c n) where
  abbrev g : ℕ → Value
  g i = value_at W m (row_at m i)

  abbrev k' : ℕ → ℕ
  k' i = get_or W (row_at m i + (m + 2)) 0

  abbrev o : List ℕ
  o = part W (order_at m c) n

  at : (k : ℕ) → k < n → get_or o k 0 ≡ get_or W (order_at m c + k) 0
  at k h = part-get W (order_at m c) n k h

  module _ (fits : size m c ≤ length W) (few : n ≤ c) where
    long : length o ≡ n
    long = length_part W (order_at m c) n (omega arith)

    inside : (k : ℕ) → k < n → get_or o k 0 < n
    inside k h = rw (at k h) (ok.order.inside k h)

    up : (k : ℕ) → suc k < n → cmp (g (get_or o k 0)) (g (get_or o (suc k) 0)) ≡ Less
    up k h = rw (at k (omega arith), at (suc k) h) (ok.order.up k h).values

    pub found-ranked : Ranked cmp-lawful g n o
    found-ranked = rising-ranked cmp-lawful g n o inside long up

    pub found-distinct : Distinct cmp-lawful g n
    found-distinct = rising-distinct cmp-lawful g n o inside long up

    later : (d k : ℕ) → suc k + d < n → k' (get_or o k 0) < k' (get_or o (suc k + d) 0)
    later zero k h =
        let e : suc k + 0 ≡ suc k = omega arith in
        rw (e, at k (omega arith), at (suc k) (omega arith)) (ok.order.up k (omega arith)).labels
    later (suc d) k h =
        let e : suc k + suc d ≡ suc (suc k + d) = omega arith in
        let z : k' (get_or o (suc k + d) 0) < k' (get_or o (suc (suc k + d)) 0) = rw (at (suc k + d) (omega arith), at (suc (suc k + d)) (omega arith)) (ok.order.up (suc k + d) (omega arith)).labels in
        rw e (omega (arith, later d k (omega arith), z))

    pub found-labelled : Words W → Labelled cmp g k' n
    found-labelled small = record { distinct = found-distinct; rising = rising; small = λ i h. small (row_at m i + (m + 2)) }
      where
        rising : (i j : ℕ) → i < n → j < n → cmp (g i) (g j) ≡ Less → k' i < k' j
        rising i j hi hj e =
            let a = below cmp g n (g i) in
            let b = below cmp g n (g j) in
            let l : a < b = below_less cmp-lawful g n i (g j) hi e in
            let hb : b < n = below_top cmp-lawful g n j hj in
            let d = b - suc a in
            let eb : suc a + d ≡ b = omega arith in
            let z = later d a (omega arith) in
            rw (eb, place_of cmp-lawful g n o found-distinct found-ranked i hi, place_of cmp-lawful g n o found-distinct found-ranked j hj) at z

-- ---- what passes is the image of a valid map
pub row_listed : (n : ℕ) (f : ℕ → Row) (i : ℕ) → i < n → row (listed n f) i ≡ f i
unfolding row
row_listed n f i h = get_d-listed n f (record { value = record { index = 0; ratio = [] }; label = 0 }) i h
