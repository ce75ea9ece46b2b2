-- What a new row's words leave of the image: the image of the map with the row. Assumes nothing.
use mathlib.Core.Path.{◌≡◌, refl, sym, ap, ◌∙◌}
use mathlib.Core.List.{List, [], ◌∷◌, ◌++◌, append_assoc}
use Prim.Native.Nat.{ℕ, suc, ◌+◌, ◌-◌, ◌*◌, ◌≤◌, ◌<◌}
use native.Mathlib.Nat.{suc-mul}
use native.Mathlib.Omega.{arith}
use lib.ListN.{length, take, drop, length-append, length-drop, take-append-drop}
use lib.Seq.{length-take-le}
use Rattle.std.proofs.Common.{Ok}
use Rattle.words.specs.Kinds.{index_word}
use Rattle.words.specs.Words.{words, put_w, paste_w}
use Rattle.words.specs.Tables.{part, zeros, table, over}
use Rattle.words.proofs.Laws.{Bytes, length-paste_w, put_w-paste}
use Rattle.words.proofs.Tables.{part-append, length-zeros, zeros-nil, zeros-suc, zeros-add, table-agree, table-suc, split_rows, row_fits, length_over, over-mid, over-inside, paste-own, paste-over}
use Rattle.fast_compare.specs.Labels.{insert_at, below, sorted}
use Rattle.fast_compare.specs.Map.{Value, cmp, Good, Row, State, row, value, Valid, stored}
use Rattle.fast_compare.specs.declared.Comparer.TheVariants.{New}
use Rattle.fast_compare.specs.Layout.{row_words, encode, size, row_at, order_at, Is}
use Rattle.fast_compare.proofs.Ranks.{below-ext, below-most, sorted_ext, sorted_suc}
use Rattle.fast_compare.proofs.Maps.{cmp-lawful, row_old, row_new, value-old, value-new, stored-new}
use Rattle.monomial.proofs.Powers.{canonical-length}
use Rattle.fast_compare.proofs.Images.{ranked, rows_long, encode-length, pieces}
use Rattle.fast_compare.proofs.Exact.{fits-words}

-- ---- a row written into a slot of zeros, word by word
pub slot_row : (m : ℕ) (r : Row) → m ≤ 4096 → Good m r.value
    → over (over (over (zeros (m + 3)) 0 (index_word r.value.index ∷ [])) 1 r.value.ratio) (m + 2) (r.label ∷ []) ≡ row_words m r
unfolding row_words
slot_row m r h g =
    let rt = r.value.ratio in
    let k = length rt in
    let z = m + 1 - k in
    let lk = canonical-length 2 m rt (omega arith) h g.canonical in
    let iw = index_word r.value.index in
    let e : m + 3 ≡ suc (k + (z + 1)) = omega arith in
    let s0 : zeros (m + 3) ≡ 0 ∷ (zeros k ++ (zeros z ++ (0 ∷ []))) = ap zeros e ∙ zeros-suc (k + (z + 1)) ∙ rw (zeros-add k (z + 1), zeros-add z 1, zeros-suc 0, zeros-nil) in
    let s1 : over (0 ∷ (zeros k ++ (zeros z ++ (0 ∷ [])))) 0 (iw ∷ []) ≡ iw ∷ (zeros k ++ (zeros z ++ (0 ∷ []))) = over-mid [] (0 ∷ []) (zeros k ++ (zeros z ++ (0 ∷ []))) (iw ∷ []) 0 refl refl in
    let s2 : over (iw ∷ (zeros k ++ (zeros z ++ (0 ∷ [])))) 1 rt ≡ iw ∷ (rt ++ (zeros z ++ (0 ∷ []))) = over-mid (iw ∷ []) (zeros k) (zeros z ++ (0 ∷ [])) rt 1 refl (sym (length-zeros k)) in
    let a = iw ∷ (rt ++ zeros z) in
    let la : length a ≡ m + 2 = simp (length-append, length-zeros) (omega arith) in
    let sp : iw ∷ (rt ++ (zeros z ++ (0 ∷ []))) ≡ a ++ ((0 ∷ []) ++ []) = simp append_assoc in
    let s3 : over (iw ∷ (rt ++ (zeros z ++ (0 ∷ [])))) (m + 2) (r.label ∷ []) ≡ a ++ ((r.label ∷ []) ++ []) = ap (λ (l : List ℕ). over l (m + 2) (r.label ∷ [])) sp ∙ over-mid a (0 ∷ []) [] (r.label ∷ []) (m + 2) la refl in
    rw (s0, s1, s2) (s3 ∙ simp append_assoc)

module _ (st : State) (val : Valid st) (room : length st.rows < st.capacity) where
  abbrev m : ℕ
  m = st.variables

  abbrev c : ℕ
  c = st.capacity

  abbrev n : ℕ
  n = length st.rows

  abbrev H : List ℕ
  H = 1 ∷ m ∷ c ∷ n ∷ []

  abbrev T : List ℕ
  T = table n (λ i. row_words m (row st.rows i))

  abbrev O : List ℕ
  O = sorted cmp (value st.rows) n

  -- ---- the order, with the new row's number at its place
  order-stored : (p : ℕ) → p ≤ n → over (encode st) (order_at m c + p) (n ∷ drop p O) ≡ H ++ (T ++ (zeros ((c - n) * (m + 3)) ++ (insert_at p n O ++ zeros (c - suc n))))
  unfolding encode insert_at
  order-stored p h =
      let Z = zeros ((c - n) * (m + 3)) in
      let Y = zeros (c - suc n) in
      let lo = (ranked st val).long in
      let ey : c - n ≡ suc (c - suc n) = omega arith in
      let y : zeros (c - n) ≡ 0 ∷ Y = ap zeros ey ∙ zeros-suc (c - suc n) in
      let so : O ≡ take p O ++ drop p O = sym (take-append-drop p O) in
      let a = H ++ (T ++ (Z ++ take p O)) in
      let lt : length (take p O) ≡ p = length-take-le p O (omega arith) in
      let la : length a ≡ order_at m c + p = simp (length-append, length-zeros) (omega (arith, rows_long st val, split_rows n c (m + 3) val.few)) in
      let e0 : H ++ (T ++ (Z ++ (O ++ zeros (c - n)))) ≡ a ++ ((drop p O ++ (0 ∷ [])) ++ Y) =
      ap (λ (l : List ℕ). H ++ (T ++ (Z ++ (O ++ l)))) y ∙ ap (λ (l : List ℕ). H ++ (T ++ (Z ++ (l ++ (0 ∷ Y))))) so ∙ simp append_assoc in
      let ld : length (n ∷ drop p O) ≡ length (drop p O ++ (0 ∷ [])) = rw (length-append) (omega arith) in
      ap (λ (l : List ℕ). over l (order_at m c + p) (n ∷ drop p O)) e0 ∙ over-mid a (drop p O ++ (0 ∷ [])) Y (n ∷ drop p O) (order_at m c + p) la ld
      ∙ simp append_assoc

  -- ---- the row, in three writes
  module _ (R : List ℕ) where
    start : H ++ (T ++ (zeros ((c - n) * (m + 3)) ++ R)) ≡ (H ++ T) ++ (zeros (m + 3) ++ (zeros ((c - suc n) * (m + 3)) ++ R))
    start =
        let e : (c - n) * (m + 3) ≡ (m + 3) + (c - suc n) * (m + 3) = ap (λ (z : ℕ). z * (m + 3)) (omega arith) ∙ suc-mul (c - suc n) (m + 3) ∙ omega arith in
        ap (λ (l : List ℕ). H ++ (T ++ (l ++ R))) (ap zeros e ∙ zeros-add (m + 3) ((c - suc n) * (m + 3))) ∙ simp append_assoc

    la : length (H ++ T) ≡ row_at m n
    la = length-append H T ∙ omega (arith, rows_long st val)

    row-stored : (r : Row) → Good m r.value
        → over (over (over (H ++ (T ++ (zeros ((c - n) * (m + 3)) ++ R))) (row_at m n) (index_word r.value.index ∷ [])) (row_at m n + 1) r.value.ratio) (row_at m n + (m + 2)) (r.label ∷ [])
        ≡ H ++ (T ++ (row_words m r ++ (zeros ((c - suc n) * (m + 3)) ++ R)))
    row-stored r g =
        let Q = zeros ((c - suc n) * (m + 3)) ++ R in
        let iw = index_word r.value.index in
        let few : m ≤ 4096 = omega (arith, val.vars-to) in
        let lk = canonical-length 2 m r.value.ratio (omega arith) few g.canonical in
        let l0 = length-zeros (m + 3) in
        let b1 = over (zeros (m + 3)) 0 (iw ∷ []) in
        let l1 : length b1 ≡ m + 3 = length_over (zeros (m + 3)) 0 (iw ∷ []) (omega arith) ∙ l0 in
        let b2 = over b1 1 r.value.ratio in
        let l2 : length b2 ≡ m + 3 = length_over b1 1 r.value.ratio (omega arith) ∙ l1 in
        let p1 = over-inside (H ++ T) (zeros (m + 3)) Q (iw ∷ []) (row_at m n) 0 (omega (arith, la)) (omega arith) in
        let p2 = over-inside (H ++ T) b1 Q r.value.ratio (row_at m n + 1) 1 (omega (arith, la)) (omega arith) in
        let p3 = over-inside (H ++ T) b2 Q (r.label ∷ []) (row_at m n + (m + 2)) (m + 2) (omega (arith, la)) (omega arith) in
        rw (start, p1, p2, p3, slot_row m r few g) (append_assoc H T (row_words m r ++ Q))

  -- ---- the count
  count-stored : (R : List ℕ) → over (H ++ R) 3 ((n + 1) ∷ []) ≡ (1 ∷ m ∷ c ∷ (n + 1) ∷ []) ++ R
  count-stored R = over-mid (1 ∷ m ∷ c ∷ []) (n ∷ []) R ((n + 1) ∷ []) 3 refl refl

  -- ---- all of it is the image with the row
  module _ (q : Value) (x : ℕ) where
    abbrev r : Row
    r = record { value = q; label = x }

    abbrev rs : List Row
    rs = st.rows ++ (record { value = q; label = x } ∷ [])

    abbrev next : State
    next = record { variables = st.variables; capacity = st.capacity; rows = st.rows ++ (record { value = q; label = x } ∷ []) }

    ln : length rs ≡ suc n
    ln = length-append st.rows (r ∷ []) ∙ omega arith

    rows_next : table (suc n) (λ i. row_words m (row rs i)) ≡ T ++ row_words m r
    rows_next =
        table-suc n (λ i. row_words m (row rs i))
        ∙ rw (table-agree n (λ i. row_words m (row rs i)) (λ i. row_words m (row st.rows i)) (λ i h. ap (row_words m) (row_old st.rows r i h)), row_new st.rows r)

    order-next : sorted cmp (value rs) (suc n) ≡ insert_at (below cmp (value st.rows) n q) n O
    order-next =
        sorted_suc cmp-lawful (value rs) n
        ∙ rw (value-new st.rows r, below-ext cmp-lawful (value rs) (value st.rows) n q (value-old st.rows r), sorted_ext cmp-lawful (value rs) (value st.rows) n (value-old st.rows r))

    encode-next : encode next ≡ (1 ∷ m ∷ c ∷ (n + 1) ∷ []) ++ (T ++ (row_words m r ++ (zeros ((c - suc n) * (m + 3)) ++ (insert_at (below cmp (value st.rows) n q) n O ++ zeros (c - suc n)))))
    unfolding encode
    encode-next =
        let e : suc n ≡ n + 1 = omega arith in
        rw (ln, rows_next, order-next) (rw e (simp append_assoc))

    pub stored-words : (p : ℕ) → p ≡ below cmp (value st.rows) n q → Good m q
        → over (over (over (over (over (encode st) (order_at m c + p) (n ∷ drop p O)) (row_at m n) (index_word q.index ∷ [])) (row_at m n + 1) q.ratio) (row_at m n + (m + 2)) (x ∷ [])) 3 ((n + 1) ∷ []) ≡ encode next
    stored-words p e g =
        let h : p ≤ n = omega (arith, below-most cmp-lawful (value st.rows) n q) in
        let R = insert_at p n O ++ zeros (c - suc n) in
        rw (order-stored p h, row-stored R r g, count-stored (T ++ (row_words m r ++ (zeros ((c - suc n) * (m + 3)) ++ R))), e) (sym encode-next)

-- ---- the same in bytes
-- words pasted into bytes that hold E
pub wrote : (bs b E : List ℕ) (at : ℕ) (ws : List ℕ) → b ≡ paste_w bs 0 E → 4 * length E ≤ length bs → at + length ws ≤ length E → paste_w b at ws ≡ paste_w bs 0 (over E at ws)
wrote bs b E at ws e h k = rw e (paste-over bs E at ws k h)

pub put-wrote : (bs b E : List ℕ) (at w : ℕ) → b ≡ paste_w bs 0 E → 4 * length E ≤ length bs → at + 1 ≤ length E → put_w b at w ≡ paste_w bs 0 (over E at (w ∷ []))
put-wrote bs b E at w e h k =
    put_w-paste b at w (omega (arith, ap length e, length-paste_w bs 0 E (omega arith))) ∙ wrote bs b E at (w ∷ []) e h k

-- bytes that hold a map
pub holds : (bs : List ℕ) (st : State) → Bytes bs → Is st bs → bs ≡ paste_w bs 0 (encode st)
holds bs st b i = sym (paste-own bs (size st.variables st.capacity) b i.room) ∙ ap (paste_w bs 0) i.is

module _ (bs : List ℕ) (st : State) (b : Bytes bs) (i : Is st bs) (room : length st.rows < st.capacity) (q : Value) (x p : ℕ) (good : Good st.variables q)
    (e : p ≡ below cmp (value st.rows) (length st.rows) q) where
  abbrev m' : ℕ
  m' = st.variables

  abbrev c' : ℕ
  c' = st.capacity

  abbrev n' : ℕ
  n' = length st.rows

  abbrev O' : List ℕ
  O' = sorted cmp (value st.rows) (length st.rows)

  -- the words that move up
  pub moved : part (words bs) (order_at m' c' + p) (n' - p) ≡ drop p O'
  moved =
      let h : p ≤ n' = omega (arith, below-most cmp-lawful (value st.rows) n' q) in
      let lo = (ranked st i.valid).long in
      let o = (pieces st i.valid (words bs) (fits-words bs st i) i.is).order_is in
      let s : part (words bs) (order_at m' c') (p + (n' - p)) ≡ take p O' ++ drop p O' = ap (part (words bs) (order_at m' c')) (omega arith) ∙ o ∙ sym (take-append-drop p O') in
      ((part-append (words bs) (order_at m' c') p (n' - p) (take p O') (drop p O') (omega (arith, fits-words bs st i, i.valid.few)) (length-take-le p O' (omega arith))).0 s).1

  pub stored_bytes : (b1 b2 b3 b4 b5 : List ℕ) → b1 ≡ paste_w bs (order_at m' c' + p) (n' ∷ part (words bs) (order_at m' c' + p) (n' - p))
      → b2 ≡ put_w b1 (row_at m' n') (index_word q.index) → b3 ≡ paste_w b2 (row_at m' n' + 1) q.ratio → b4 ≡ put_w b3 (row_at m' n' + (m' + 2)) x → b5 ≡ put_w b4 3 (n' + 1)
      → b5 ≡ paste_w bs 0 (encode (next st i.valid room q x))
  stored_bytes b1 b2 b3 b4 b5 e1 e2 e3 e4 e5 =
      let h : p ≤ n' = omega (arith, below-most cmp-lawful (value st.rows) n' q) in
      let lo = (ranked st i.valid).long in
      let lk = canonical-length 2 m' q.ratio (omega arith) (omega (arith, i.valid.vars-to)) good.canonical in
      let rf = row_fits n' c' (m' + 3) room in
      let E0 = encode st in
      let l0 : length E0 ≡ size m' c' = encode-length st i.valid in
      let big : 4 * size m' c' ≤ length bs = i.room in
      let ld : length (n' ∷ drop p O') ≡ suc (n' - p) = ap suc (length-drop p O' ∙ rw lo) in
      let E1 = over E0 (order_at m' c' + p) (n' ∷ drop p O') in
      let f1 : order_at m' c' + p + length (n' ∷ drop p O') ≤ length E0 = omega arith in
      let q1 : b1 ≡ paste_w bs 0 E1 = e1 ∙ rw moved (wrote bs bs E0 (order_at m' c' + p) (n' ∷ drop p O') (holds bs st b i) (omega arith) f1) in
      let l1 : length E1 ≡ size m' c' = length_over E0 (order_at m' c' + p) (n' ∷ drop p O') f1 ∙ l0 in
      let E2 = over E1 (row_at m' n') (index_word q.index ∷ []) in
      let q2 : b2 ≡ paste_w bs 0 E2 = e2 ∙ put-wrote bs b1 E1 (row_at m' n') (index_word q.index) q1 (omega arith) (omega arith) in
      let l2 : length E2 ≡ size m' c' = length_over E1 (row_at m' n') (index_word q.index ∷ []) (omega arith) ∙ l1 in
      let E3 = over E2 (row_at m' n' + 1) q.ratio in
      let q3 : b3 ≡ paste_w bs 0 E3 = e3 ∙ wrote bs b2 E2 (row_at m' n' + 1) q.ratio q2 (omega arith) (omega arith) in
      let l3 : length E3 ≡ size m' c' = length_over E2 (row_at m' n' + 1) q.ratio (omega arith) ∙ l2 in
      let E4 = over E3 (row_at m' n' + (m' + 2)) (x ∷ []) in
      let q4 : b4 ≡ paste_w bs 0 E4 = e4 ∙ put-wrote bs b3 E3 (row_at m' n' + (m' + 2)) x q3 (omega arith) (omega arith) in
      let l4 : length E4 ≡ size m' c' = length_over E3 (row_at m' n' + (m' + 2)) (x ∷ []) (omega arith) ∙ l3 in
      e5 ∙ put-wrote bs b4 E4 3 (n' + 1) q4 (omega arith) (omega arith) ∙ ap (paste_w bs 0) (stored-words st i.valid room q x p e good)

  -- as the code writes it: v variables, capacity k, t rows
  pub stored-call : (v k t iw : ℕ) (b1 b2 b3 b4 b5 : List ℕ) → v ≡ st.variables → k ≡ st.capacity → t ≡ length st.rows → iw ≡ index_word q.index
      → b1 ≡ paste_w bs (4 + k * (v + 3) + p) (t ∷ part (words bs) (4 + k * (v + 3) + p) (4 + k * (v + 3) + t - (4 + k * (v + 3) + p)))
      → b2 ≡ put_w b1 (4 + t * (v + 3)) iw → b3 ≡ paste_w b2 (4 + t * (v + 3) + 1) q.ratio → b4 ≡ put_w b3 (4 + t * (v + 3) + (v + 2)) x → b5 ≡ put_w b4 3 (t + 1)
      → b5 ≡ paste_w bs 0 (encode (stored (Ok (New x)) st q))
  stored-call v k t iw b1 b2 b3 b4 b5 ev ek et ei e1 e2 e3 e4 e5 =
      let d : 4 + k * (v + 3) + t - (4 + k * (v + 3) + p) ≡ t - p = omega arith in
      rw (stored-new st q x) (stored_bytes b1 b2 b3 b4 b5 (e1 ∙ rw d (rw (ev, ek, et))) (e2 ∙ rw (ev, et, ei)) (e3 ∙ rw (ev, et)) (e4 ∙ rw (ev, et)) (e5 ∙ rw et))
