-- The insert of a ratio index. Assumes nothing.
use mathlib.Core.Path.{◌≡◌, refl, sym, ap, ◌∙◌, subst}
use mathlib.Core.List.{List, [], ◌∷◌, ◌++◌}
use Prim.Native.Nat.{ℕ, ◌+◌, ◌*◌, ◌≤◌, ◌<◌}
use native.Mathlib.Omega.{arith}
use native.Mathlib.Nat.{zero-mul}
use lib.ListN.{length, get_or}
use Rattle.words.specs.Words.{words, paste_w}
use Rattle.words.specs.Tables.{part, over}
use Rattle.words.proofs.Laws.{Bytes, length-paste_w, paste_w-before}
use Rattle.words.proofs.Joined.{moved}
use Rattle.words.proofs.Tables.{row_fits, over-all}
use Rattle.monomial.specs.Monomial.{Canonical}
use Rattle.divmask.specs.Tracker.{updated}
use Rattle.divmask.proofs.Growth.{updated-length}
use Rattle.fast_compare.specs.Map as map
use Rattle.fast_compare.specs.Layout as labels
use Rattle.fast_compare.proofs.Exact.{encode-small}
use Rattle.fast_compare.proofs.Images.{encode-length}
use Rattle.kd_theory.specs.Tree.{inorder, nodes}
use Rattle.index_theory.specs.Entries.{Entry, entry_at, quotient_of, ratio_of}
use Rattle.index_theory.specs.State.{Kind, ratioed, State, GoodEntry, OfKind, LabelsOf, power_in, label_of}
use Rattle.index_theory.specs.Calls.{labelled, tracked, numbered, inserted}
use Rattle.index_theory.proofs.Places.{entry_old, entry_new}
use Rattle.index_theory.proofs.Labels.{Settled}
use Rattle.index_image.specs.Layout.{entry_words, sign_words, label_words, tree_words, encode, Is, shape_of}
use Rattle.index_theory.specs.State.{row_of}
use Rattle.index_image.specs.Shape as at
use Rattle.index_image.specs.Walk as walk
use Rattle.index_image.specs.Walk.{map_maxima, row_in}
use Rattle.index_image.specs.declared.Shape.{Shape}
use Rattle.index_image.proofs.Bounds.{entry-inside, ratio-width, ratio-labels}
use Rattle.index_image.proofs.Encoding.{coarse, entry_length}
use Rattle.index_image.proofs.Shapes.{code-ratio}
use Rattle.index_image.specs.Door.{label_bytes}
use Rattle.index_image.proofs.Labels.{MapIs, of_map, label-at}
use Rattle.index_image.proofs.Rows.{row-of, label-of}
use Rattle.index_image.proofs.Images as of
use Rattle.kd_insert.specs.Inserting.{Room, Inserted, signed, Hangs, hung}
use Rattle.kd_labelling.specs.Labelling.{settled, Labels}
use Rattle.kd_slots.specs.Slots.{ratio_row}
use Rattle.words.proofs.Pasting.{part-before, part-after, get_after, part-pasted, paste-in}
use Rattle.words.proofs.Drafts.{Draft, draft-step}
use Rattle.kd_insert.proofs.Inserts.{half, lengths, hangs, finish}
use Rattle.kd_insert.proofs.Halves as halves
use Rattle.kd_insert.proofs.Halves.{start, with_labels, half-made}
use Rattle.kd_insert.proofs.Monomials.{Basics, basics-of, tracked-is, shape_is}

-- the map and the maxima stay when the labels are written
pub basics-labelled : (bs im : List ℕ) (s : Shape) (ws : List ℕ) → Basics bs s → length im ≡ length bs → im ≡ paste_w bs (at.labels_at s) ws → Basics im s
basics-labelled bs im s ws b l e =
    let r = b.mapped.room in
    let fit : 4 * at.labels_at s ≤ length bs = omega arith in
    let present : part (words im) at.maxima_at s.variables ≡ part (words bs) at.maxima_at s.variables = rw e (part-before bs (at.labels_at s) ws at.maxima_at s.variables fit (omega arith)) in
    let map_is : map_maxima (words im) s ≡ map_maxima (words bs) s = rw e (part-before bs (at.labels_at s) ws (at.map_at s.variables) s.variables fit (omega arith)) in
    record { mapped = record { range = b.mapped.range; room = omega arith; map = rw map_is b.mapped.map }; present = rw present b.present }

-- ---- a ratio index
has-label : (k : Kind) (l : map.State) (e : Entry) → k ≡ ratioed → labelled k l e ≡ settled l (ratio_of e)
unfolding labelled
has-label k l e h = rw h

both : (k : Kind) (e : Entry) (xs : List ℕ) → k ≡ ratioed → tracked k e xs ≡ updated e.lm (updated e.sign xs)
unfolding tracked
both k e xs h = rw h

whole_row : (k : Kind) (m : ℕ) (xs : List ℕ) (l : map.State) (e : Entry) → k ≡ ratioed → entry_words k m xs l e ≡ ratio_row m xs e.index e.sign e.lm (row_of l (ratio_of e))
unfolding entry_words sign_words
whole_row k m xs l e h = rw h

map-words : (k : Kind) (l : map.State) → k ≡ ratioed → label_words k l ≡ labels.encode l
unfolding label_words
map-words k l h = rw h

pub of-signed : (k : Kind) (e : Entry) → k ≡ ratioed → OfKind k e
of-signed k e h = rw h tt

-- what the calls of an insert have done, with the shape x
pub record Calls (bs : List ℕ) (i : ℕ) (sign lm im0 : List ℕ) (r lab : ℕ) (ima im1 im2 : List ℕ) (x : Shape) : Type 0 where
  pub one : x.kind ≡ 1
  pub few : x.entries < x.capacity
  pub index-small : i < 268435456
  pub sign-canonical : Canonical 1 x.variables sign
  pub lm-canonical : Canonical 1 x.variables lm
  pub labels-done : (l : map.State) → MapIs (words bs) x l → Labels x l (quotient_of i sign lm) r bs im0
  pub label-read : lab ≡ get_or (words im0) (at.label_at x r) 0
  pub sign-tracked : ima ≡ paste_w im0 at.maxima_at (updated sign (part (words im0) at.maxima_at x.variables))
  pub lm-tracked : im1 ≡ paste_w ima at.maxima_at (updated lm (part (words ima) at.maxima_at x.variables))
  pub row_written : im2 ≡ paste_w im1 (at.entry_at x x.entries) (ratio_row x.variables (map_maxima (words im1) x) i sign lm r)

module _ {bs : List ℕ} (B : Bytes bs) {st : State} (I : Is st bs) {i : ℕ} {sign lm im0 : List ℕ} {r lab : ℕ} {ima im1 im2 : List ℕ} (C : Calls bs i sign lm im0 r lab ima im1 im2 (shape_of st)) where
  abbrev s : Shape
  s = shape_of st

  abbrev m : ℕ
  m = st.variables

  abbrev n : ℕ
  n = length st.entries

  abbrev es : List Entry
  es = st.entries

  abbrev e : Entry
  e = signed i sign lm

  abbrev v : map.Value
  v = quotient_of i sign lm

  k : st.kind ≡ ratioed
  k = code-ratio st.kind C.one

  abbrev pub good : GoodEntry st.variables (signed i sign lm)
  good = record { index-small = C.index-small; sign-canonical = C.sign-canonical; lm-canonical = C.lm-canonical }

  pub ofk : OfKind st.kind (signed i sign lm)
  ofk = of-signed st.kind (signed i sign lm) k

  abbrev few : n < st.capacity
  few = C.few

  abbrev l : map.State
  l = st.labels

  abbrev l' : map.State
  l' = labelled st.kind st.labels (signed i sign lm)

  b : Basics bs s
  b = basics-of bs st I

  settles : Settled st.labels l' (ratio_of (signed i sign lm))
  settles = halves.settled I good ofk few k

  vars' : l'.variables ≡ m
  vars' = settles.vars ∙ I.valid.labels-vars

  cap' : l'.capacity ≡ st.capacity
  cap' = settles.cap ∙ I.valid.labels-cap

  map-long : length (labels.encode l') ≡ at.labels_size s
  map-long = encode-length l' settles.valid ∙ rw (vars', cap') (sym (ratio-labels s b.mapped.range C.one))

  done : Labels s l v r bs im0
  done = C.labels-done l (of.map_is bs st I k)

  row_is : r ≡ row_of l' (ratio_of e)
  row_is = done.row ∙ rw (has-label st.kind l e k)

  e0 : im0 ≡ paste_w bs (at.labels_at s) (labels.encode l')
  e0 = done.bytes ∙ rw (has-label st.kind l e k)

  map-in : at.labels_at s + length (labels.encode l') ≤ at.node_at s 0
  map-in = omega (arith, map-long)

  map-fits : 4 * (at.labels_at s + length (labels.encode l')) ≤ length bs
  map-fits = omega (arith, map-long, b.mapped.room)

  long0 : length im0 ≡ length bs
  long0 = ap length e0 ∙ length-paste_w bs (at.labels_at s) (labels.encode l') (omega (arith, map-fits))

  pub b0 : Basics im0 (shape_of st)
  b0 = basics-labelled bs im0 s (labels.encode l') b long0 e0

  -- ---- the maxima
  present0 : part (words im0) at.maxima_at m ≡ st.maxima
  present0 = ap (λ (x : List ℕ). part (words x) at.maxima_at m) e0 ∙ part-before bs (at.labels_at s) (labels.encode l') at.maxima_at m (omega (arith, map-fits)) (omega arith) ∙ (of.pieces bs st I).maxima

  abbrev mx : List ℕ
  mx = tracked st.kind (signed i sign lm) st.maxima

  e1 : im1 ≡ paste_w im0 at.maxima_at (tracked st.kind (signed i sign lm) st.maxima)
  e1 =
      let us = updated sign (part (words im0) at.maxima_at m) in
      let ws = updated lm us in
      let lu : length us ≡ m = updated-length sign (part (words im0) at.maxima_at m) ∙ b0.present.one_each in
      let lw : length ws ≡ m = updated-length lm us ∙ lu in
      let r0 = b0.mapped.room in
      let z : im1 ≡ paste_w (paste_w im0 at.maxima_at us) at.maxima_at ws = C.lm-tracked ∙ rw (tracked-is im0 ima s sign b0 C.sign-canonical C.sign-tracked, C.sign-tracked) in
      let t : paste_w (paste_w im0 at.maxima_at us) at.maxima_at ws ≡ paste_w im0 at.maxima_at (over us 0 ws) = paste-in im0 at.maxima_at us 0 ws (omega arith) (omega arith) in
      z ∙ t ∙ ap (paste_w im0 at.maxima_at) (over-all us ws (omega arith)) ∙ rw (present0, both st.kind e st.maxima k)

  mx-long : length mx ≡ m
  mx-long = (lengths I good ofk few).maxima

  mx-fits : 4 * (at.maxima_at + length mx) ≤ length im0
  mx-fits = omega (arith, mx-long, b0.mapped.room)

  long1 : length im1 ≡ length bs
  long1 = ap length e1 ∙ length-paste_w im0 at.maxima_at mx (omega (arith, mx-fits)) ∙ long0

  map1 : map_maxima (words im1) s ≡ st.map_maxima
  map1 =
      ap (λ (x : List ℕ). map_maxima (words x) s) e1 ∙ part-after im0 at.maxima_at mx (at.map_at m) m (omega (arith, mx-long)) (omega (arith, mx-fits))
      ∙ ap (λ (x : List ℕ). map_maxima (words x) s) e0 ∙ part-before bs (at.labels_at s) (labels.encode l') (at.map_at m) m (omega (arith, map-fits)) (omega arith) ∙ (of.pieces bs st I).map

  -- ---- the row
  abbrev row : List ℕ
  row = entry_words st.kind st.variables st.map_maxima l' (signed i sign lm)

  e2 : im2 ≡ paste_w im1 (at.entry_at s n) row
  e2 = C.row_written ∙ rw (map1, row_is, whole_row st.kind m st.map_maxima l' e k)

  row-long : length row ≡ at.entry_width s
  row-long = entry_length st.kind m st.map_maxima l' e b.mapped.range.vars-to good

  row-in : at.entry_at s n + at.entry_width s ≤ at.permutation_at s
  row-in = entry-inside s b.mapped.range n few

  row-fits-in : 4 * (at.entry_at s n + length row) ≤ length im1
  row-fits-in = omega (arith, row-long, row-in, long1, b.mapped.room)

  long2 : length im2 ≡ length bs
  long2 = ap length e2 ∙ length-paste_w im1 (at.entry_at s n) row (omega (arith, row-fits-in)) ∙ long1

  map2 : map_maxima (words im2) s ≡ st.map_maxima
  map2 = ap (λ (x : List ℕ). map_maxima (words x) s) e2 ∙ part-before im1 (at.entry_at s n) row (at.map_at m) m (omega (arith, row-fits-in)) (omega arith) ∙ map1

  -- ---- the draft
  first : Draft bs im0 (with_labels I good ofk few)
  first =
      let L = lengths I good ofk few in
      let old : length (label_words st.kind l) ≡ at.labels_size (shape_of st) = (of.fits bs st I).label-words in
      let ml : length (labels.encode l') ≡ at.labels_size (shape_of st) = map-long in
      let D = draft-step bs bs im0 (coarse st) 5 0 (at.labels_at s) (labels.encode l') (start I good ofk few B) e0
      (omega (arith, L.head, (of.fits bs st I).maxima, L.map_is, halves.rows_long I good ofk few, L.permutation)) (omega arith) (omega (arith, old, ml)) in
      let z : over (label_words st.kind l) 0 (labels.encode l') ≡ label_words st.kind l' = over-all (label_words st.kind l) (labels.encode l')
      (omega (arith, old, ml)) ∙ sym (map-words st.kind l' k) in
      rw z at D

  made : Draft bs im2 (half I good ofk few)
  made = half-made I good ofk few first e1 e2

  -- ---- what stands behind the entries
  kept : (a j : ℕ) → at.permutation_at s ≤ a → part (words im2) a j ≡ part (words im0) a j
  kept a j h =
      ap (λ (x : List ℕ). part (words x) a j) e2 ∙ part-after im1 (at.entry_at s n) row a j (omega (arith, row-long, row-in)) row-fits-in
      ∙ ap (λ (x : List ℕ). part (words x) a j) e1 ∙ part-after im0 at.maxima_at mx a j (omega (arith, mx-long)) (omega (arith, mx-fits))

  nodes2 : part (words im2) (at.node_at s 0) (nodes st.tree * at.node_width m) ≡ tree_words m st.map_maxima (power_in es) st.tree
  nodes2 =
      kept (at.node_at s 0) (nodes st.tree * at.node_width m) (omega arith) ∙ ap (λ (x : List ℕ). part (words x) (at.node_at s 0) (nodes st.tree * at.node_width m)) e0
      ∙ part-after bs (at.labels_at s) (labels.encode l') (at.node_at s 0) (nodes st.tree * at.node_width m) map-in map-fits
      ∙ moved (words bs) (of.pieces bs st I).nodes-are (omega (arith, zero-mul (at.node_width m))) refl

  perm2 : part (words im2) (at.permutation_at s) n ≡ inorder st.tree
  perm2 =
      kept (at.permutation_at s) n (omega arith) ∙ ap (λ (x : List ℕ). part (words x) (at.permutation_at s) n) e0
      ∙ part-before bs (at.labels_at s) (labels.encode l') (at.permutation_at s) n (omega (arith, map-fits)) (omega (arith, b.mapped.range.few))
      ∙ (of.pieces bs st I).permutation

  -- ---- the label map
  there : part (words im0) (at.labels_at s) (at.labels_size s) ≡ labels.encode l'
  there = ap (λ (x : List ℕ). part (words x) (at.labels_at s) (at.labels_size s)) e0
      ∙ ap (part (words (paste_w bs (at.labels_at s) (labels.encode l'))) (at.labels_at s)) (sym map-long)
      ∙ part-pasted bs (at.labels_at s) (labels.encode l') (encode-small l' settles.valid) map-fits

  map0 : MapIs (words im0) s l'
  map0 = record { valid = settles.valid; vars = vars'; cap = cap'; is = there }

  maps2 : MapIs (words im2) s l'
  maps2 = record { valid = settles.valid; vars = vars'; cap = cap'; is = kept (at.labels_at s) (at.labels_size s) (omega arith) ∙ there }

  room0 : 4 * at.size s ≤ length im0
  room0 = omega (arith, long0, b.mapped.room)

  room2 : 4 * at.size s ≤ length im2
  room2 = omega (arith, long2, b.mapped.room)

  has : (j : ℕ) × (j < length l'.rows) × (map.value l'.rows j ≡ ratio_of e)
  has = settles.has

  row-at : r ≡ has.0
  row-at = row_is ∙ row-of l' settles.valid (ratio_of e) has.0 has.1 has.2

  pub row_small : r < st.capacity
  row_small = omega (arith, row-at, has.1, settles.valid.few, cap')

  abbrev lb : ℕ → ℕ
  lb x = label_of l' (ratio_of (entry_at (st.entries ++ (numbered (length st.entries) (signed i sign lm) ∷ [])) x))

  lab2 : s.kind ≡ 1 → lb n ≡ lab
  lab2 z =
      rw (entry_new es (numbered n e))
      (label-of l' settles.valid (ratio_of e) has.0 has.1 has.2
      ∙ sym (label-at im0 s b.mapped.range room0 C.one l' map0 has.0 has.1)
      ∙ ap (λ (j : ℕ). get_or (words im0) (at.label_at s j) 0) (sym row-at) ∙ sym C.label-read)

  -- ---- the entries that were there
  module _ (x : ℕ) (h : x < n) where
    o : (j : ℕ) × (j < length l.rows) × (map.value l.rows j ≡ ratio_of (entry_at es x))
    o = let of : LabelsOf ratioed es l = rw k at I.valid.labels-of in (of).0 x h

    abbrev q : ℕ
    q = at.row_at s x

    q-in : q < at.entry_at s n
    q-in = omega (arith, ratio-width s b.mapped.range C.one, row_fits x n (at.entry_width s) h)

    row_kept : row_in (words im2) s x ≡ row_in (words bs) s x
    row_kept =
        ap (λ (y : List ℕ). get_or (words y) q 0) e2 ∙ paste_w-before im1 (at.entry_at s n) row q (omega (arith, row-fits-in)) q-in
        ∙ ap (λ (y : List ℕ). get_or (words y) q 0) e1 ∙ get_after im0 at.maxima_at mx q (omega (arith, mx-long)) (omega (arith, mx-fits))
        ∙ ap (λ (y : List ℕ). get_or (words y) q 0) e0 ∙ paste_w-before bs (at.labels_at s) (labels.encode l') q (omega (arith, map-fits)) (omega (arith, q-in, row-in))

    row_here : row_in (words im2) s x ≡ o.0
    row_here = row_kept ∙ ((of.entry-is bs st I x h).ratio k).row_is ∙ row-of l I.valid.labels-valid (ratio_of (entry_at es x)) o.0 o.1 o.2

    rows2 : row_in (words im2) s x < st.capacity
    rows2 = omega (arith, row_here, o.1, I.valid.labels-valid.few, I.valid.labels-cap)

    labels2 : lb x ≡ walk.label (words im2) s x
    unfolding walk.label
    labels2 =
        let z = settles.old o.0 o.1 in
        rw (entry_old es (numbered n e) x h, row_here)
        (label-of l' settles.valid (ratio_of (entry_at es x)) o.0 z.0 (z.1 ∙ o.2) ∙ sym (label-at im2 s b.mapped.range room2 C.one l' maps2 o.0 z.0))

  pub ratio-hangs : Hangs (words im2) (shape_of st) lm lab
  ratio-hangs = hangs I good ofk few made map2 nodes2 perm2 long2 lab lab2 (λ z. labels2) (λ z. rows2)

  pub ratio-finish : (d : List ℕ) → ((h : Hangs (words im2) (shape_of st) lm lab) → d ≡ hung im2 (shape_of st) lm lab h.growth) → d ≡ paste_w bs 0 (encode (inserted st (signed i sign lm)))
  unfolding ratio-hangs
  ratio-finish d f =
      finish I good ofk few made map2 nodes2 perm2 long2 lab lab2 (λ z. labels2) (λ z. rows2) d (f ratio-hangs)

-- ---- the same for the shape in the header
pub label-ready : {bs : List ℕ} {s : Shape} → Room bs s → s.kind ≡ 1 → labels.SoundFor s.variables s.capacity (label_bytes bs s)
label-ready {bs} {s} R one =
    let st = R.sound.state in
    let I = R.sound.is in
    let q = shape_is bs s R.head st I in
    let one' : (shape_of st).kind ≡ 1 = subst (λ (x : Shape). x.kind ≡ 1) (sym q) one in
    subst (λ (x : Shape). labels.SoundFor x.variables x.capacity (label_bytes bs x)) q
    (of_map bs (shape_of st) (of.range bs st I) I.room one' st.labels (of.map_is bs st I (code-ratio st.kind one')))

-- once the labels are done
pub record Early (im0 : List ℕ) (s : Shape) (r : ℕ) : Type 0 where
  pub small : r < s.capacity
  pub basics : Basics im0 s

module _ {bs : List ℕ} {s : Shape} (R : Room bs s) (B : Bytes bs) {i : ℕ} {sign lm im0 : List ℕ} {r : ℕ} where
  pub early : s.kind ≡ 1 → i < 268435456 → Canonical 1 s.variables sign → Canonical 1 s.variables lm
      → ((l : map.State) → MapIs (words bs) s l → Labels s l (quotient_of i sign lm) r bs im0) → Early im0 s r
  early one hi cs cl d =
      let st = R.sound.state in
      let I = R.sound.is in
      let q = shape_is bs s R.head st I in
      let lab = get_or (words im0) (at.label_at s r) 0 in
      let ima = paste_w im0 at.maxima_at (updated sign (part (words im0) at.maxima_at s.variables)) in
      let im1 = paste_w ima at.maxima_at (updated lm (part (words ima) at.maxima_at s.variables)) in
      let im2 = paste_w im1 (at.entry_at s s.entries) (ratio_row s.variables (map_maxima (words im1) s) i sign lm r) in
      let C : Calls bs i sign lm im0 r lab ima im1 im2 s = record {
        one = one;
        few = R.few;
        index-small = hi;
        sign-canonical = cs;
        lm-canonical = cl;
        labels-done = d;
        label-read = refl;
        sign-tracked = refl;
        lm-tracked = refl;
        row_written = refl;
      } in
      let C' : Calls bs i sign lm im0 r lab ima im1 im2 (shape_of st) = subst (λ (x : Shape). Calls bs i sign lm im0 r lab ima im1 im2 x) (sym q) C in
      record {
        small = subst (λ (x : Shape). r < x.capacity) q (row_small B I C');
        basics = subst (λ (x : Shape). Basics im0 x) q (b0 B I C');
      }

  -- ---- once all is written but the tree
  module _ {lab : ℕ} {ima im1 im2 : List ℕ} (C : Calls bs i sign lm im0 r lab ima im1 im2 s) where
    calls-for : (st : State) → Is st bs → Calls bs i sign lm im0 r lab ima im1 im2 (shape_of st)
    calls-for st I = subst (λ (x : Shape). Calls bs i sign lm im0 r lab ima im1 im2 x) (sym (shape_is bs s R.head st I)) C

    pub late : Hangs (words im2) s lm lab
    late =
        let st = R.sound.state in
        let I = R.sound.is in
        subst (λ (x : Shape). Hangs (words im2) x lm lab) (shape_is bs s R.head st I) (ratio-hangs B I (calls-for st I))

    pub ratio-inserted : {im3 : List ℕ} → ((h : Hangs (words im2) s lm lab) → im3 ≡ hung im2 s lm lab h.growth) → Inserted (signed i sign lm) s.entries bs im3
    ratio-inserted {im3} h = record {
      number = λ st I. ap (λ (x : Shape). x.entries) (sym (shape_is bs s R.head st I));
      bytes = λ st I.
          let q = shape_is bs s R.head st I in
          let h' : (z : Hangs (words im2) (shape_of st) lm lab) → im3 ≡ hung im2 (shape_of st) lm lab z.growth = subst
          (λ (x : Shape). (z : Hangs (words im2) x lm lab) → im3 ≡ hung im2 x lm lab z.growth) (sym q) h in
          ratio-finish B I (calls-for st I) im3 h';
    }
