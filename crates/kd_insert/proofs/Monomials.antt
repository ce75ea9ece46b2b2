-- The insert of a monomial index. Assumes nothing.
use mathlib.Core.Path.{◌≡◌, refl, sym, ap, ◌∙◌, subst}
use mathlib.Core.List.{List, []}
use Prim.Native.Nat.{ℕ, ◌+◌, ◌*◌, ◌≤◌, ◌<◌}
use native.Mathlib.Omega.{arith}
use native.Mathlib.Nat.{zero-mul}
use lib.ListN.{length}
use Rattle.words.specs.Words.{words, paste_w}
use Rattle.words.specs.Tables.{part}
use Rattle.words.proofs.Laws.{Bytes, Words, length-paste_w}
use Rattle.words.proofs.Tables.{small-each}
use Rattle.words.proofs.Joined.{moved}
use Rattle.monomial.specs.Monomial.{Canonical}
use Rattle.monomial.proofs.Canon.{front-end}
use Rattle.monomial.proofs.Powers.{canonical-length}
use Rattle.divmask.specs.Tracker.{Maxima, updated}
use Rattle.divmask.proofs.Growth.{updated-length, updated-good}
use Rattle.fast_compare.specs.Map as map
use Rattle.kd_theory.specs.Tree.{inorder, nodes}
use Rattle.index_theory.specs.Entries.{Entry, one}
use Rattle.index_theory.specs.State.{Kind, monomials, State, GoodEntry, OfKind, power_in}
use Rattle.index_theory.specs.Calls.{plain, labelled, tracked, inserted}
use Rattle.index_image.specs.Layout.{code, masked, entry_words, sign_words, tree_words, encode, Is, shape_of}
use Rattle.index_image.specs.Shape as at
use Rattle.index_image.specs.Walk.{map_maxima}
use Rattle.index_image.specs.Head.{HeadOk}
use Rattle.index_image.specs.declared.Shape.{Shape}
use Rattle.index_image.proofs.Bounds.{entry-inside, width-least}
use Rattle.kd_slots.specs.Slots.{Mapped}
use Rattle.kd_slots.proofs.Writing.{masked-length}
use Rattle.index_image.proofs.Heads.{same_shape}
use Rattle.index_image.proofs.Shapes.{code-monomial}
use Rattle.index_image.proofs.Images as of
use Rattle.kd_insert.specs.Inserting.{Room, Inserted, Hangs, hung}
use Rattle.words.proofs.Pasting.{part-before, part-after, part-pasted}
use Rattle.words.proofs.Drafts.{Draft}
use Rattle.kd_insert.proofs.Inserts.{half, hangs, finish}
use Rattle.kd_insert.proofs.Halves.{start, half-made}

-- ---- what an image with room tells
pub record Basics (bs : List ℕ) (s : Shape) : Type 0 where
  pub mapped : Mapped bs s
  pub present : Maxima s.variables (part (words bs) at.maxima_at s.variables)

pub basics-of : (bs : List ℕ) (st : State) (I : Is st bs) → Basics bs (shape_of st)
basics-of bs st I = record {
  mapped = record { range = of.range bs st I; room = I.room; map = rw (of.pieces bs st I).map I.valid.map-good };
  present = rw (of.pieces bs st I).maxima I.valid.maxima-good;
}

pub shape_is : (bs : List ℕ) (s : Shape) → HeadOk (words bs) (length bs) s → (st : State) → Is st bs → shape_of st ≡ s
shape_is bs s h st I = same_shape (words bs) (length bs) (shape_of st) s (of.head_ok bs st I) h

pub basics : {bs : List ℕ} {s : Shape} → Room bs s → Basics bs s
basics {bs} {s} R = rw (shape_is bs s R.head R.sound.state R.sound.is) at (basics-of bs R.sound.state R.sound.is)

-- ---- the maxima of the map stay when the present ones are raised
pub map-tracked : (bs im : List ℕ) (s : Shape) (lm : List ℕ) → Basics bs s → im ≡ paste_w bs at.maxima_at (updated lm (part (words bs) at.maxima_at s.variables))
    → (length im ≡ length bs) × (map_maxima (words im) s ≡ map_maxima (words bs) s)
map-tracked bs im s lm b e =
    let m = s.variables in
    let us = updated lm (part (words bs) at.maxima_at m) in
    let l : length us ≡ m = updated-length lm (part (words bs) at.maxima_at m) ∙ b.present.one_each in
    let r = b.mapped.room in
    (ap length e ∙ length-paste_w bs at.maxima_at us (omega arith), rw e (part-after bs at.maxima_at us (at.map_at m) m (omega arith) (omega arith)))

-- the stages keep what the next one needs
maxima-small : (m : ℕ) (xs : List ℕ) → Maxima m xs → Words xs
maxima-small m xs h = (small-each xs (λ i k. omega (arith, h.high i (omega (arith, h.one_each))))).each

pub tracked-is : (im im' : List ℕ) (s : Shape) (ws : List ℕ) → Basics im s → Canonical 1 s.variables ws → im' ≡ paste_w im at.maxima_at (updated ws (part (words im) at.maxima_at s.variables))
    → part (words im') at.maxima_at s.variables ≡ updated ws (part (words im) at.maxima_at s.variables)
tracked-is im im' s ws b can e =
    let m = s.variables in
    let us = updated ws (part (words im) at.maxima_at m) in
    let good = updated-good m ws (part (words im) at.maxima_at m) can b.present in
    let l : length us ≡ m = good.one_each in
    rw e (ap (part (words (paste_w im at.maxima_at us)) at.maxima_at) (sym l) ∙ part-pasted im at.maxima_at us (maxima-small m us good) (omega (arith, b.mapped.room)))

pub basics-tracked : {im im' : List ℕ} {s : Shape} {ws : List ℕ} → Basics im s → Canonical 1 s.variables ws
    → im' ≡ paste_w im at.maxima_at (updated ws (part (words im) at.maxima_at s.variables)) → Basics im' s
basics-tracked {im} {im'} {s} {ws} b can e =
    let t = map-tracked im im' s ws b e in record {
      mapped = record { range = b.mapped.range; room = omega (arith, t.0, b.mapped.room); map = rw t.1 b.mapped.map };
      present = rw (tracked-is im im' s ws b can e) (updated-good s.variables ws (part (words im) at.maxima_at s.variables) can b.present);
    }

-- ---- a monomial index has no labels
no-labels : (k : Kind) (l : map.State) (e : Entry) → k ≡ monomials → labelled k l e ≡ l
unfolding labelled
no-labels k l e h = rw h

only-lm : (k : Kind) (e : Entry) (xs : List ℕ) → k ≡ monomials → tracked k e xs ≡ updated e.lm xs
unfolding tracked
only-lm k e xs h = rw h

only-slot : (k : Kind) (m : ℕ) (xs : List ℕ) (l : map.State) (e : Entry) → k ≡ monomials → entry_words k m xs l e ≡ masked m xs e.lm []
unfolding entry_words sign_words
only-slot k m xs l e h = rw h

pub of_plain : (k : Kind) (lm : List ℕ) → k ≡ monomials → OfKind k (plain lm)
of_plain k lm h = rw h (refl, refl)

one-canonical : (m : ℕ) → Canonical 1 m one
one-canonical m = record { some = omega arith; whole = front-end 1 m 0 0 [] refl refl }

pub good-plain : (m : ℕ) (lm : List ℕ) → Canonical 1 m lm → GoodEntry m (plain lm)
good-plain m lm c = record { index-small = omega arith; sign-canonical = one-canonical m; lm-canonical = c }

module _ {bs : List ℕ} (B : Bytes bs) {st : State} (I : Is st bs) {lm : List ℕ} (can : Canonical 1 st.variables lm) (k : st.kind ≡ monomials) (few : length st.entries < st.capacity)
    {im1 im2 : List ℕ} (e1 : im1 ≡ paste_w bs at.maxima_at (updated lm (part (words bs) at.maxima_at st.variables)))
    (e2 : im2 ≡ paste_w im1 (at.entry_at (shape_of st) (length st.entries)) (masked st.variables (map_maxima (words im1) (shape_of st)) lm [])) where
  abbrev s : Shape
  s = shape_of st

  abbrev m : ℕ
  m = st.variables

  abbrev n : ℕ
  n = length st.entries

  abbrev e : Entry
  e = plain lm

  abbrev good : GoodEntry st.variables (plain lm)
  good = good-plain st.variables lm can

  abbrev ofk : OfKind st.kind (plain lm)
  ofk = of_plain st.kind lm k

  abbrev l' : map.State
  l' = labelled st.kind st.labels (plain lm)

  b : Basics bs s
  b = basics-of bs st I

  map1 : (length im1 ≡ length bs) × (map_maxima (words im1) s ≡ st.map_maxima)
  map1 = let q = map-tracked bs im1 s lm b e1 in (q.0, q.1 ∙ (of.pieces bs st I).map)

  e1' : im1 ≡ paste_w bs at.maxima_at (tracked st.kind e st.maxima)
  e1' = e1 ∙ rw ((of.pieces bs st I).maxima, only-lm st.kind e st.maxima k)

  row_is : masked m st.map_maxima lm [] ≡ entry_words st.kind m st.map_maxima l' e
  row_is = sym (only-slot st.kind m st.map_maxima l' e k)

  e2' : im2 ≡ paste_w im1 (at.entry_at s n) (entry_words st.kind m st.map_maxima l' e)
  e2' = e2 ∙ rw (map1.1, row_is)

  pub made : Draft bs im2 (half I good ofk few)
  made = half-made I good ofk few (rw (no-labels st.kind st.labels e k) (start I good ofk few B)) e1' e2'

  row-long : length (entry_words st.kind m st.map_maxima l' e) ≡ at.masked_width m
  row-long = ap length (sym row_is) ∙ masked-length m st.map_maxima lm [] (canonical-length 1 m lm (omega arith) (omega (arith, b.mapped.map.few)) can) ∙ omega arith

  row-in : at.entry_at s n + at.masked_width m ≤ at.permutation_at s
  row-in = omega (arith, entry-inside s b.mapped.range n few, width-least s b.mapped.range)

  fits : 4 * (at.entry_at s n + length (entry_words st.kind m st.map_maxima l' e)) ≤ length im1
  fits = omega (arith, row-long, row-in, map1.0, b.mapped.room)

  long2 : length im2 ≡ length bs
  long2 = ap length e2' ∙ length-paste_w im1 (at.entry_at s n) _ (omega (arith, fits)) ∙ map1.0

  map2 : map_maxima (words im2) s ≡ st.map_maxima
  map2 = ap (λ (x : List ℕ). map_maxima (words x) s) e2' ∙ part-before im1 (at.entry_at s n) _ (at.map_at m) m (omega (arith, fits)) (omega arith) ∙ map1.1

  -- what stands behind the entries is as it was
  kept : (i j : ℕ) → at.permutation_at s ≤ i → part (words im2) i j ≡ part (words bs) i j
  kept i j h =
      let us = updated lm (part (words bs) at.maxima_at m) in
      let l : length us ≡ m = updated-length lm (part (words bs) at.maxima_at m) ∙ b.present.one_each in
      let r = b.mapped.room in
      ap (λ (x : List ℕ). part (words x) i j) e2'
      ∙ part-after im1 (at.entry_at s n) (entry_words st.kind m st.map_maxima l' e) i j (omega (arith, row-long, row-in)) fits
      ∙ ap (λ (x : List ℕ). part (words x) i j) e1 ∙ part-after bs at.maxima_at us i j (omega arith) (omega arith)

  nodes2 : part (words im2) (at.node_at s 0) (nodes st.tree * at.node_width m) ≡ tree_words m st.map_maxima (power_in st.entries) st.tree
  nodes2 = kept (at.node_at s 0) (nodes st.tree * at.node_width m) (omega arith) ∙ moved (words bs) (of.pieces bs st I).nodes-are (omega (arith, zero-mul (at.node_width m))) refl

  perm2 : part (words im2) (at.permutation_at s) n ≡ inorder st.tree
  perm2 = kept (at.permutation_at s) n (omega arith) ∙ (of.pieces bs st I).permutation

  not-one : {A : Type 0} → s.kind ≡ 1 → A
  not-one z = absurd (omega (arith, ap code k))

  pub hangs2 : Hangs (words im2) (shape_of st) lm 0
  hangs2 = hangs I good ofk few made map2 nodes2 perm2 long2 0 not-one (λ z. not-one z) (λ z. not-one z)

  pub finish2 : (d : List ℕ) → ((h : Hangs (words im2) (shape_of st) lm 0) → d ≡ hung im2 (shape_of st) lm 0 h.growth) → d ≡ paste_w bs 0 (encode (inserted st (plain lm)))
  unfolding hangs2
  finish2 d f = finish I good ofk few made map2 nodes2 perm2 long2 0 not-one (λ z. not-one z) (λ z. not-one z) d (f hangs2)

-- ---- the same for the shape in the header
abbrev pub First : List ℕ → List ℕ → List ℕ → List ℕ → Shape → Type 0
First bs lm im1 im2 s =
    (im1 ≡ paste_w bs at.maxima_at (updated lm (part (words bs) at.maxima_at s.variables)))
    × ((im2 ≡ paste_w im1 (at.entry_at s s.entries) (masked s.variables (map_maxima (words im1) s) lm []))
    × ((Canonical 1 s.variables lm) × ((s.kind ≡ 0) × (s.entries < s.capacity))))

pub monomial-hangs : {bs im1 im2 lm : List ℕ} {s : Shape} → Room bs s → Bytes bs → First bs lm im1 im2 s → Hangs (words im2) s lm 0
monomial-hangs {bs} {im1} {im2} {lm} {s} R B f =
    let st = R.sound.state in
    let q = shape_is bs s R.head st R.sound.is in
    let g : First bs lm im1 im2 (shape_of st) = subst (λ (x : Shape). First bs lm im1 im2 x) (sym q) f in
    subst (λ (x : Shape). Hangs (words im2) x lm 0) q (hangs2 B R.sound.is g.1.1.0 (code-monomial st.kind g.1.1.1.0) g.1.1.1.1 g.0 g.1.0)

pub monomial-inserted : {bs im1 im2 im3 lm : List ℕ} {s : Shape} → Room bs s → Bytes bs → First bs lm im1 im2 s
    → ((h : Hangs (words im2) s lm 0) → im3 ≡ hung im2 s lm 0 h.growth) → Inserted (plain lm) s.entries bs im3
monomial-inserted {bs} {im1} {im2} {im3} {lm} {s} R B f h = record {
  number = λ st I. ap (λ (x : Shape). x.entries) (sym (shape_is bs s R.head st I));
  bytes = λ st I.
      let q = shape_is bs s R.head st I in
      let g : First bs lm im1 im2 (shape_of st) = subst (λ (x : Shape). First bs lm im1 im2 x) (sym q) f in
      let h' : (z : Hangs (words im2) (shape_of st) lm 0) → im3 ≡ hung im2 (shape_of st) lm 0 z.growth = subst
      (λ (x : Shape). (z : Hangs (words im2) x lm 0) → im3 ≡ hung im2 x lm 0 z.growth) (sym q) h in
      finish2 B I g.1.1.0 (code-monomial st.kind g.1.1.1.0) g.1.1.1.1 g.0 g.1.0 im3 h';
}
