-- A rebuild, row by row in rising order of value. Assumes nothing.
use mathlib.Core.Path.{◌≡◌, refl, sym, ap, ◌∙◌}
use mathlib.Core.Bool.{cond}
use mathlib.Core.List.{List, [], ◌∷◌, ◌++◌, append_assoc}
use Prim.Native.Nat.{ℕ, ◌+◌, ◌-◌, ◌*◌, ◌^◌, ◌≤◌, ◌<◌}
use native.Mathlib.Omega.{arith}
use native.Mathlib.Decide.{dec_lt}
use lib.Dec.{ltb}
use lib.ListN.{length, get_or, length-append}
use lib.Seq.{get_or-set_other}
use borrow.Author.Tests.{lt-ltb, le-ltb}
use Rattle.words.specs.Kinds.{index_word}
use Rattle.words.specs.Words.{words, put_w, paste_w}
use Rattle.words.specs.Tables.{zeros, table, over}
use Rattle.words.proofs.Laws.{Bytes, words-put_w, length-put_w}
use Rattle.words.proofs.Tables.{length-zeros, length-table, table-agree, split_rows, row_fits, over-mid, over-inside, over-table}
use Rattle.fast_compare.specs.Labels.{below, sorted, spaced, rebuilt}
use Rattle.fast_compare.specs.Map.{Value, cmp, Good, Row, State, row, value, label, Valid, relabelled, rebuild}
use Rattle.fast_compare.specs.Layout.{row_words, encode, size, row_at, Is, Sound}
use Rattle.fast_compare.proofs.Ranks.{below_top, place_of, sorted_ext}
use Rattle.fast_compare.proofs.Maps.{cmp-lawful, length-relabelled, value-relabelled, label-relabelled}
use Rattle.monomial.proofs.Powers.{canonical-length}
use Rattle.fast_compare.proofs.Images.{length-row, ranked}
use Rattle.fast_compare.proofs.Exact.{count_of}
use Rattle.fast_compare.proofs.Reading.{HeadOf, head, vars-of, cap-of, place_at, place_inside, row-used}
use Rattle.label_insert.proofs.Storing.{holds, put-wrote}

-- the image of a map with other labels
unfoldable pub with_labels : State → (ℕ → ℕ) → List ℕ
with_labels st l =
    (1 ∷ st.variables ∷ st.capacity ∷ length st.rows ∷ [])
    ++ (table (length st.rows) (λ i. row_words st.variables (record { value = value st.rows i; label = l i }))
    ++ (zeros ((st.capacity - length st.rows) * (st.variables + 3))
    ++ (sorted cmp (value st.rows) (length st.rows) ++ zeros (st.capacity - length st.rows))))

pub own-labels : (st : State) → encode st ≡ with_labels st (label st.rows)
unfolding encode with_labels
own-labels st = refl

pub labels-agree : (st : State) (l k : ℕ → ℕ) → ((i : ℕ) → i < length st.rows → l i ≡ k i) → with_labels st l ≡ with_labels st k
unfolding with_labels
labels-agree st l k h =
    rw (table-agree (length st.rows) (λ i. row_words st.variables (record { value = value st.rows i; label = l i })) (λ i. row_words st.variables (record { value = value st.rows i; label = k i })) (λ i j. rw (h i j)))

row-relabelled : (l : ℕ → ℕ) (rs : List Row) (i : ℕ) → i < length rs → row (relabelled l rs) i ≡ record { value = value rs i; label = l i }
row-relabelled l rs i h = λ j. record { value = value-relabelled l rs i j; label = label-relabelled l rs i h j }

pub relabelled-image : (st : State) (l : ℕ → ℕ) → encode (record { variables = st.variables; capacity = st.capacity; rows = relabelled l st.rows }) ≡ with_labels st l
unfolding encode with_labels
relabelled-image st l =
    let rs = st.rows in
    rw (
      length-relabelled l rs,
      table-agree (length rs) (λ i. row_words st.variables (row (relabelled l rs) i)) (λ i. row_words st.variables (record { value = value rs i; label = l i })) (λ i h. ap (row_words st.variables) (row-relabelled l rs i h)),
      sorted_ext cmp-lawful (value (relabelled l rs)) (value rs) (length rs) (λ i h. value-relabelled l rs i),
    )

-- a label written anew
label-written : (m : ℕ) (v : Value) (x y : ℕ) → m ≤ 4096 → Good m v → row_words m (record { value = v; label = y }) ≡ over (row_words m (record { value = v; label = x })) (m + 2) (y ∷ [])
unfolding row_words
label-written m v x y h g =
    let z = zeros (m + 1 - length v.ratio) in
    let a = index_word v.index ∷ (v.ratio ++ z) in
    let la : length a ≡ m + 2 = simp (length-append, length-zeros) (omega (arith, canonical-length 2 m v.ratio (omega arith) h g.canonical)) in
    let sx : index_word v.index ∷ (v.ratio ++ (z ++ (x ∷ []))) ≡ a ++ ((x ∷ []) ++ []) = simp append_assoc in
    let sy : index_word v.index ∷ (v.ratio ++ (z ++ (y ∷ []))) ≡ a ++ ((y ∷ []) ++ []) = simp append_assoc in
    sy ∙ sym (ap (λ (l : List ℕ). over l (m + 2) (y ∷ [])) sx ∙ over-mid a (x ∷ []) [] (y ∷ []) (m + 2) la refl)

module _ (st : State) (val : Valid st) where
  abbrev m : ℕ
  m = st.variables

  abbrev n : ℕ
  n = length st.rows

  abbrev f : ℕ → Value
  f = value st.rows

  abbrev o : List ℕ
  o = sorted cmp (value st.rows) (length st.rows)

  few : m ≤ 4096
  few = omega (arith, val.vars-to)

  pub label-set : (l k : ℕ → ℕ) (j x : ℕ) → j < n → ((i : ℕ) → i < n → (i ≡ j → ⊥) → l i ≡ k i) → k j ≡ x → over (with_labels st l) (row_at m j + (m + 2)) (x ∷ []) ≡ with_labels st k
  unfolding with_labels
  label-set l k j x h e g =
      let F : ℕ → List ℕ = λ i. row_words m (record { value = f i; label = l i }) in
      let G : ℕ → List ℕ = λ i. row_words m (record { value = f i; label = k i }) in
      let H : List ℕ = 1 ∷ m ∷ st.capacity ∷ n ∷ [] in
      let R = zeros ((st.capacity - n) * (m + 3)) ++ (o ++ zeros (st.capacity - n)) in
      let lf : (i : ℕ) → i < n → length (F i) ≡ m + 3 = λ i q. length-row m (record { value = f i; label = l i }) few (val.good i q) in
      let lt : length (table n F) ≡ n * (m + 3) = length-table n (m + 3) F lf in
      over-inside H (table n F) R (x ∷ []) (row_at m j + (m + 2)) (j * (m + 3) + (m + 2)) (omega arith) (omega (arith, row_fits j n (m + 3) h))
      ∙ rw (over-table n (m + 3) j (m + 2) F G (x ∷ []) h lf (λ i q d. rw (e i q d)) (rw g (label-written m (f j) (l j) x few (val.good j h))) (omega arith))

  pub length-with : (l : ℕ → ℕ) → length (with_labels st l) ≡ size m st.capacity
  unfolding with_labels
  length-with l =
      let F : ℕ → List ℕ = λ i. row_words m (record { value = f i; label = l i }) in
      let lt : length (table n F) ≡ n * (m + 3) = length-table n (m + 3) F (λ i q. length-row m (record { value = f i; label = l i }) few (val.good i q)) in
      simp (length-append, length-zeros) (omega (arith, (ranked st val).long, split_rows n st.capacity (m + 3) val.few, val.few))

  -- the labels when the first k values are done
  pub mixed : ℕ → ℕ → ℕ
  mixed k i = cond (ltb (below cmp f n (f i)) k) (rebuilt cmp f n i) (label st.rows i)

  mixed-done : (k i : ℕ) → below cmp f n (f i) < k → mixed k i ≡ rebuilt cmp f n i
  unfolding mixed
  mixed-done k i h = rw (lt-ltb (below cmp f n (f i)) k h)

  mixed-left : (k i : ℕ) → k ≤ below cmp f n (f i) → mixed k i ≡ label st.rows i
  unfolding mixed
  mixed-left k i h = rw (le-ltb (below cmp f n (f i)) k h)

  pub mixed-start : with_labels st (mixed 0) ≡ encode st
  mixed-start = labels-agree st (mixed 0) (label st.rows) (λ i h. mixed-left 0 i (omega arith)) ∙ sym (own-labels st)

  pub mixed-end : with_labels st (mixed n) ≡ encode (rebuild st)
  unfolding rebuild
  mixed-end =
      labels-agree st (mixed n) (rebuilt cmp f n) (λ i h. mixed-done n i (below_top cmp-lawful f n i h))
      ∙ sym (relabelled-image st (rebuilt cmp f n))

  pub mixed-step : (k : ℕ) → k < n → over (with_labels st (mixed k)) (row_at m (get_or o k 0) + (m + 2)) (spaced n (k + 1) ∷ []) ≡ with_labels st (mixed (k + 1))
  unfolding rebuilt
  mixed-step k h =
      let r = ranked st val in
      let j = get_or o k 0 in
      let b : below cmp f n (f j) ≡ k = r.rank k h in
      let x : mixed (k + 1) j ≡ spaced n (k + 1) = mixed-done (k + 1) j (omega arith) ∙ rw b in
      label-set (mixed k) (mixed (k + 1)) j (spaced n (k + 1)) (r.inside k h) (λ i q d.
      elim (dec_lt (below cmp f n (f i)) k) [
        | yes y ↦ mixed-done k i y ∙ sym (mixed-done (k + 1) i (omega arith))
        | no y ↦
            let other : below cmp f n (f i) ≡ k → ⊥ = λ z. d (sym (place_of cmp-lawful f n o val.labelled.distinct r i q) ∙ ap (λ (t : ℕ). get_or o t 0) z) in
            mixed-left k i (omega arith) ∙ sym (mixed-left (k + 1) i (omega arith))
      ]) x

-- ---- in bytes
pub record Respacing (bs b : List ℕ) (k : ℕ) : Type 0 where
  pub done : k ≤ get_or (words bs) 3 0
  pub long : length b ≡ length bs
  pub order : (j : ℕ) → 4 + get_or (words bs) 2 0 * (get_or (words bs) 1 0 + 3) ≤ j → get_or (words b) j 0 ≡ get_or (words bs) j 0
  pub holds-now : (st : State) (i : Is st bs) → b ≡ paste_w bs 0 (with_labels st (mixed st i.valid k))

pub respace-start : (bs : List ℕ) → Bytes bs → Respacing bs bs 0
respace-start bs b = record {
  done = omega arith;
  long = refl;
  order = λ j h. refl;
  holds-now = λ st i. holds bs st b i ∙ ap (paste_w bs 0) (sym (mixed-start st i.valid));
}

pub respace-end : (bs b : List ℕ) (k : ℕ) → Respacing bs b k → get_or (words bs) 3 0 ≤ k → (st : State) → Is st bs → b ≡ paste_w bs 0 (encode (rebuild st))
respace-end bs b k r h st i =
    let e : k ≡ length st.rows = omega (arith, r.done, count_of bs st i) in
    rw e at (r.holds-now st i) ∙ ap (paste_w bs 0) (mixed-end st i.valid)

-- the row at place k, and that its label's word fits
pub record Spot (bs : List ℕ) (v c x : ℕ) : Type 0 where
  pub below-c : x * (v + 3) + (v + 3) ≤ c * (v + 3)
  pub rows : c * (v + 3) ≤ 274432
  pub vars : v ≤ 64
  pub room : 16 + 4 * (c * (v + 3)) + 4 * c ≤ length bs

module _ (bs b : List ℕ) (k : ℕ) (r : Respacing bs b k) (s : Sound bs) (h : k < get_or (words bs) 3 0) (v c n x : ℕ)
    (ev : v ≡ get_or (words bs) 1 0) (ec : c ≡ get_or (words bs) 2 0) (en : n ≡ get_or (words bs) 3 0) (ex : x ≡ get_or (words b) (4 + c * (v + 3) + k) 0) where
  read : x ≡ get_or (words bs) (4 + get_or (words bs) 2 0 * (get_or (words bs) 1 0 + 3) + k) 0
  read = ex ∙ rw (ev, ec) (r.order _ (omega arith))

  row_is : (st : State) (i : Is st bs) → x ≡ get_or (sorted cmp (value st.rows) (length st.rows)) k 0
  row_is st i = read ∙ place_at bs st i k (omega (arith, count_of bs st i))

  inside : x < get_or (words bs) 3 0
  inside =
      let st = s.state in
      let i = s.is in
      omega (arith, row_is st i, place_inside bs st i k (omega (arith, count_of bs st i)), count_of bs st i)

  pub spot : Spot bs v c x
  spot =
      let hd : HeadOf bs = head bs s in
      let u = row-used (get_or (words bs) 1 0) (get_or (words bs) 3 0) x inside in
      rw (ev, ec) (record { below-c = omega (arith, hd.used); rows = hd.rows; vars = hd.vars; room = hd.room })

  pub respace-more : (b' : List ℕ) (y : ℕ) → y ≡ spaced n (k + 1) → y < 2 ^ 32 → b' ≡ put_w b (4 + x * (v + 3) + (v + 2)) y → Respacing bs b' (k + 1)
  respace-more b' y ey small e =
      let p = spot in
      let at = 4 + x * (v + 3) + (v + 2) in
      let fit : 4 * at + 4 ≤ length b = omega (arith, p.below-c, p.room, r.long) in
      record {
        done = omega arith;
        long = ap length e ∙ length-put_w b at y ∙ r.long;
        order = λ j g. ap (λ (l : List ℕ). get_or (words l) j 0) e ∙ ap (λ (l : List ℕ). get_or l j 0) (words-put_w b at y small fit)
            ∙ get_or-set_other (words b) at j y 0 (λ z. past j g z p.below-c) ∙ r.order j g;
        holds-now = λ st i.
            let val = i.valid in
            let em : v ≡ st.variables = ev ∙ vars-of bs st i in
            let nn : n ≡ length st.rows = en ∙ count_of bs st i in
            let kn : k < length st.rows = omega (arith, count_of bs st i) in
            let lw = length-with st val (mixed st val k) in
            let xr = row_is st i in
            let q = p.below-c in
            let cc' : c ≡ st.capacity = ec ∙ cap-of bs st i in
            let fits : at + 1 ≤ length (with_labels st (mixed st val k)) = rw (lw, ← em, ← cc') (omega arith) in
            let big : 4 * length (with_labels st (mixed st val k)) ≤ length bs = rw lw i.room in
            e ∙ put-wrote bs b (with_labels st (mixed st val k)) at y (r.holds-now st i) big fits
            ∙ ap (paste_w bs 0) (rw (ey, em, nn, xr) (mixed-step st val k kn));
      }
    where
      past : (j : ℕ) → 4 + get_or (words bs) 2 0 * (get_or (words bs) 1 0 + 3) ≤ j → j ≡ 4 + x * (v + 3) + (v + 2) → x * (v + 3) + (v + 3) ≤ c * (v + 3) → ⊥
      past j g z q = let w : c * (v + 3) ≡ get_or (words bs) 2 0 * (get_or (words bs) 1 0 + 3) = rw (ev, ec) in omega arith
