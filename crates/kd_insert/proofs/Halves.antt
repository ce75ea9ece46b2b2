-- The first half of an insert: labels, maxima and the entry's row. Assumes nothing.
use mathlib.Core.Path.{◌≡◌, refl, sym, ap, ◌∙◌}
use mathlib.Core.List.{List, [], ◌∷◌, ◌++◌, append_assoc}
use Prim.Native.Nat.{ℕ, suc, ◌+◌, ◌-◌, ◌*◌, ◌<◌}
use native.Mathlib.Omega.{arith}
use native.Mathlib.Nat.{add-mul, suc-mul}
use lib.ListN.{length, length-append}
use Rattle.words.specs.Words.{words, paste_w}
use Rattle.words.specs.Tables.{zeros, table, over}
use Rattle.words.proofs.Laws.{Bytes, length-words}
use Rattle.words.proofs.Tables.{length-zeros, zeros-add, length-table, table-agree, table-suc, split_rows, over-mid, over-all}
use Rattle.monomial.specs.declared.ordered_ops.Op.{Op}
use Rattle.monomial.proofs.Laws.{canonical-result}
use Rattle.fast_compare.specs.Map as map
use Rattle.kd_theory.specs.Tree.{Tree, inorder, nodes}
use Rattle.index_theory.specs.Entries.{Entry, entry_at, quotient_of, ratio_of}
use Rattle.index_theory.specs.State.{Kind, monomials, ratioed, State, GoodEntry, OfKind, LabelsOf, power_in}
use Rattle.index_theory.specs.Calls.{labelled, tracked, numbered}
use Rattle.index_theory.proofs.Places.{entry_old, entry_new}
use Rattle.index_theory.proofs.Labels.{Settled, relabelled, rows_few}
use Rattle.index_image.specs.Layout.{header, sign_words, entry_words, label_words, tree_words, Is, shape_of}
use Rattle.index_theory.specs.State.{row_of}
use Rattle.index_image.specs.Shape as at
use Rattle.index_image.specs.declared.Shape.{Shape}
use Rattle.index_image.proofs.Encoding.{Fits, coarse, coarse-whole, image-length, entry_length}
use Rattle.index_image.proofs.Lengths.{valid-fits}
use Rattle.index_image.proofs.Rows.{row-of}
use Rattle.words.proofs.Drafts.{Draft, draft-start, draft-step}
use Rattle.kd_insert.proofs.Inserts.{half, Lengths, lengths}

-- one row more in a table with zeros behind it
pub row_more : (n c w : ℕ) (f g : ℕ → List ℕ) → n < c → ((i : ℕ) → i < n → length (f i) ≡ w) → length (g n) ≡ w → ((i : ℕ) → i < n → f i ≡ g i)
    → over (table n f ++ zeros ((c - n) * w)) (n * w) (g n) ≡ table (n + 1) g ++ zeros ((c - (n + 1)) * w)
row_more n c w f g h lf lg same =
    let z : (c - n) * w ≡ w + (c - (n + 1)) * w = rows_left in
    let e : n + 1 ≡ suc n = omega arith in
    let ts : table (n + 1) g ≡ table n g ++ g n = ap (λ (x : ℕ). table x g) e ∙ table-suc n g in
    rw (z, zeros-add w ((c - (n + 1)) * w), table-agree n f g same)
    (over-mid (table n g) (zeros w) (zeros ((c - (n + 1)) * w)) (g n) (n * w) (length-table n w g (λ i k. ap length (sym (same i k)) ∙ lf i k)) (lg ∙ sym (length-zeros w))
    ∙ sym (ap (λ (x : List ℕ). x ++ zeros ((c - (n + 1)) * w)) ts ∙ append_assoc (table n g) (g n) (zeros ((c - (n + 1)) * w))))
  where
    rows_left : (c - n) * w ≡ w + (c - (n + 1)) * w
    rows_left =
        let q : c - n ≡ suc (c - (n + 1)) = omega arith in
        ap (λ (x : ℕ). x * w) q ∙ suc-mul (c - (n + 1)) w ∙ omega arith

-- the row of a ratio that was there stays
row_stays : (x y : map.State) (v q : map.Value) → map.Valid x → Settled x y v → (j : ℕ) → j < length x.rows → map.value x.rows j ≡ q → row_of y q ≡ row_of x q
row_stays x y v q val s j h e =
    let o = s.old j h in
    row-of y s.valid q j o.0 (o.1 ∙ e) ∙ sym (row-of x val q j h e)

words-stay : (k : Kind) (m : ℕ) (xs : List ℕ) (l l' : map.State) (e : Entry) → (k ≡ ratioed → row_of l' (ratio_of e) ≡ row_of l (ratio_of e)) → entry_words k m xs l e ≡ entry_words k m xs l' e
unfolding entry_words sign_words
words-stay monomials m xs l l' e h = refl
words-stay ratioed m xs l l' e h = rw (h refl)

-- the number of an entry is not in its row
number-free : (k : Kind) (m : ℕ) (xs : List ℕ) (l : map.State) (n : ℕ) (e : Entry) → entry_words k m xs l (numbered n e) ≡ entry_words k m xs l e
unfolding entry_words sign_words
number-free monomials m xs l n e = refl
number-free ratioed m xs l n e = refl

module _ {bs : List ℕ} {st : State} (I : Is st bs) {e : Entry} (good : GoodEntry st.variables e) (ofk : OfKind st.kind e) (room : length st.entries < st.capacity) where
  abbrev s : Shape
  s = shape_of st

  abbrev m : ℕ
  m = st.variables

  abbrev c : ℕ
  c = st.capacity

  abbrev xs : List ℕ
  xs = st.map_maxima

  abbrev es : List Entry
  es = st.entries

  abbrev n : ℕ
  n = length st.entries

  abbrev t : Tree
  t = st.tree

  abbrev l' : map.State
  l' = labelled st.kind st.labels e

  abbrev es' : List Entry
  es' = st.entries ++ (numbered (length st.entries) e ∷ [])

  abbrev w : ℕ
  w = at.entry_width (shape_of st)

  F : Fits st
  F = valid-fits st I.valid

  -- a label map that has the entry's ratio
  ratio-good : map.Good m (ratio_of e)
  unfolding quotient_of
  ratio-good = record {
    index-small = good.index-small;
    canonical = canonical-result m e.sign e.lm good.sign-canonical good.lm-canonical Op.Ratio (omega (arith, F.vars-to)) (λ z. absurd (let q : ◌≡◌ {A = ℕ} 0 1 = cc in omega arith));
  }

  pub settled : st.kind ≡ ratioed → Settled st.labels (labelled st.kind st.labels e) (ratio_of e)
  unfolding labelled
  settled k =
      let of : LabelsOf ratioed es st.labels = rw k at I.valid.labels-of in
      let few = rows_few es st.labels I.valid.labels-valid of in
      rw k (relabelled st.labels (ratio_of e) I.valid.labels-valid (rw I.valid.labels-vars ratio-good) (omega (arith, I.valid.labels-cap)))

  -- the rows of the entries that were there stay
  pub entry-same : (i : ℕ) → i < n → entry_words st.kind m xs st.labels (entry_at es i) ≡ entry_words st.kind m xs l' (entry_at es' i)
  entry-same i h = words-stay st.kind m xs st.labels l' (entry_at es i) stays ∙ rw (entry_old es (numbered n e) i h)
    where
      stays : st.kind ≡ ratioed → row_of l' (ratio_of (entry_at es i)) ≡ row_of st.labels (ratio_of (entry_at es i))
      stays k =
          let of : LabelsOf ratioed es st.labels = rw k at I.valid.labels-of in
          let o = of.0 i h in
          row_stays st.labels l' (ratio_of e) (ratio_of (entry_at es i)) I.valid.labels-valid (settled k) o.0 o.1 o.2

  row_new : entry_words st.kind m xs l' (entry_at es' n) ≡ entry_words st.kind m xs l' e
  row_new = rw (entry_new es (numbered n e)) (number-free st.kind m xs l' n e)

  -- ---- from table to table
  pub start : Bytes bs → Draft bs bs (coarse st)
  start B =
      draft-start bs (coarse st) (at.size (shape_of st)) B I.room
      (ap length (coarse-whole st) ∙ image-length (words bs) st F (omega (arith, I.room, length-words bs)))
      (I.is ∙ sym (coarse-whole st))

  abbrev pub old-rows : List ℕ
  old-rows = table n (λ i. entry_words st.kind m xs st.labels (entry_at es i)) ++ zeros ((c - n) * w)

  abbrev nodes-table : List ℕ
  nodes-table = tree_words m xs (power_in es) t ++ zeros ((2 * c - 1 - nodes t) * at.node_width m)

  abbrev pub with_labels : List (List ℕ)
  with_labels =
      header st ∷ st.maxima ∷ st.map_maxima
      ∷ (table (length st.entries) (λ i. entry_words st.kind st.variables st.map_maxima st.labels (entry_at st.entries i))
      ++ zeros ((st.capacity - length st.entries) * at.entry_width (shape_of st)))
      ∷ (inorder st.tree ++ zeros (st.capacity - length st.entries)) ∷ label_words st.kind (labelled st.kind st.labels e)
      ∷ (tree_words st.variables st.map_maxima (power_in st.entries) st.tree
      ++ zeros ((2 * st.capacity - 1 - nodes st.tree) * at.node_width st.variables)) ∷ []

  abbrev Ls : Lengths I good ofk room
  Ls = lengths I good ofk room

  pub rows_long : length old-rows ≡ c * w
  rows_long =
      length-append (table n (λ i. entry_words st.kind m xs st.labels (entry_at es i))) _
      ∙ omega (
        arith,
        length-table n w (λ i. entry_words st.kind m xs st.labels (entry_at es i))
            (λ i h. entry_length st.kind m xs st.labels (entry_at es i) F.vars-to (F.good i h)),
        length-zeros ((c - n) * w),
        split_rows n c w F.few,
      )

  row-wide : length (entry_words st.kind m xs l' e) ≡ w
  row-wide = entry_length st.kind m xs l' e F.vars-to good

  pub half-made : {im0 im1 im2 : List ℕ} → Draft bs im0 with_labels → im1 ≡ paste_w im0 at.maxima_at (tracked st.kind e st.maxima)
      → im2 ≡ paste_w im1 (at.entry_at (shape_of st) (length st.entries)) (entry_words st.kind st.variables st.map_maxima (labelled st.kind st.labels e) e)
      → Draft bs im2 (half I good ofk room)
  half-made {im0} {im1} {im2} D e1 e2 =
      let mx = tracked st.kind e st.maxima in
      let row = entry_words st.kind m xs l' e in
      let lm = Ls.maxima in
      let D1 = draft-step bs im0 im1 with_labels 1 0 at.maxima_at mx D e1 (omega (arith, Ls.head)) (omega arith) (omega (arith, F.maxima)) in
      let one : over st.maxima 0 mx ≡ mx = over-all st.maxima mx (omega (arith, F.maxima)) in
      let D1' : Draft bs im1 (header st ∷ mx ∷ st.map_maxima ∷ old-rows ∷ (inorder t ++ zeros (c - n)) ∷ label_words st.kind l' ∷ nodes-table ∷ []) = rw one at D1 in
      let D2 = draft-step bs im1 im2 (header st ∷ mx ∷ st.map_maxima ∷ old-rows ∷ (inorder t ++ zeros (c - n)) ∷ label_words st.kind l' ∷ nodes-table ∷ []) 3 (n * w) (at.entry_at s n) row D1' e2
      (omega (arith, Ls.head, lm, Ls.map_is)) (omega arith) (omega (arith, rows_long, row-wide, split_rows (n + 1) c w (omega arith), add-mul n 1 w)) in
      let more : over old-rows (n * w) row ≡ table (n + 1) (λ i. entry_words st.kind m xs l' (entry_at es' i)) ++ zeros ((c - (n + 1)) * w) =
      ap (over old-rows (n * w)) (sym row_new)
      ∙ row_more n c w (λ i. entry_words st.kind m xs st.labels (entry_at es i)) (λ i. entry_words st.kind m xs l' (entry_at es' i)) room
      (λ i h. entry_length st.kind m xs st.labels (entry_at es i) F.vars-to (F.good i h)) (ap length row_new ∙ row-wide) entry-same in
      rw more at D2
