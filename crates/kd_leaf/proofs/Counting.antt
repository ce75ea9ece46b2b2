-- What a search makes of an entry, by the words that its loops test. Assumes nothing.
use mathlib.Core.Path.{◌≡◌, refl, sym, ap, ◌∙◌}
use mathlib.Core.Bool.{Bool, true, false, not, cond, ◌&&◌}
use mathlib.Core.Option.{Option, none, some}
use mathlib.Core.Logic.{◌⊎◌, inl, inr, ∥∥₁_elim}
use Rattle.std.proofs.Props.{props}
use mathlib.Core.List.{List, [], ◌∷◌}
use Prim.Native.Nat.{ℕ, zero, suc, ◌+◌, ◌*◌, ◌/◌, ◌%◌, ◌≤◌, ◌<◌, max}
use native.Mathlib.Omega.{arith}
use native.Mathlib.Decide.{dec_le}
use lib.Dec.{leb, ltb}
use lib.ListN.{length, get_or, take, drop}
use borrow.Author.Tests.{lt-ltb, le-ltb, le-leb, lt-leb}
use Rattle.words.specs.Words.{words}
use Rattle.words.proofs.Laws.{length-words}
use Rattle.words.proofs.Tables.{row_fits}
use Rattle.monomial.specs.Monomial.{Canonical, Starts, first, front, pow}
use Rattle.monomial.specs.Operations.{divides}
use Rattle.divmask.proofs.Masks.{mask-small}
use Rattle.divmask.specs.Mask.{mask, bit_counts, vector, within}
use Rattle.kd_theory.specs.Bag.{Step}
use Rattle.kd_theory.specs.Bifurcate.{least, least_of}
use Rattle.kd_theory.specs.Tree.{leaf, start}
use Rattle.kd_theory.proofs.BagLaws.{here}
use Rattle.index_theory.specs.Entries.{Entry, entry_at, above}
use Rattle.index_theory.specs.State.{monomials, ratioed, State, power_in}
use Rattle.index_theory.specs.Searches.{Query, containment, reducing, high, low, singular, kind_for, node_mask, may, ratio_at, sought, process}
use Rattle.index_theory.specs.Ranges.{dividend, by_lm, divisor_of, not_below, not_past, replaces, goes_on}
use Rattle.index_theory.proofs.Orders.{false-true, labels-agree}
use Rattle.index_theory.proofs.Prunes.{ruled_out}
use Rattle.index_theory.proofs.Ranging.{sought-is, process-is}
use Rattle.index_image.specs.Door as door
use Rattle.index_image.specs.Shape as at
use Rattle.index_image.specs.Rows.{monomial_in}
use Rattle.index_image.specs.Walk as walk
use Rattle.index_image.specs.Walk.{label, lm_in}
use Rattle.index_image.specs.declared.Shape.{Shape}
use Rattle.monomial.proofs.Firsts.{starts-wide, starts-whole, first-whole}
use Rattle.index_image.proofs.Bounds.{ratio-width, size_small, width-least}
use Rattle.index_image.proofs.EntryWords.{no-ratio}
use Rattle.kd_image.specs.HasTree.{Holds}
use Rattle.kd_image.proofs.Reading.{entry-fits, entry-is, kind-one, ratios, label-of-entry, holds-ready, lm-of, mask-of}
use Rattle.index_image.proofs.Asking.{rest-starts, rest-first}
use Rattle.query_words.specs.Asked.{shape_in, search_in, mask_in, from_in, to_in, floor_in, slot_in, mask_at_in, option_of, search_number, search_of, label_at, slot_at, lowered, Asks}
use Rattle.query_words.specs.declared.Search.{Search}
use Rattle.query_words.specs.declared.Search.TheVariants.{High, Low}
use Rattle.kd_leaf.specs.Visited.{Known, ReadyEntries}
use Rattle.kd_leaf.specs.Counted.{may_at, divisor_at, counted, least_above}

-- ---- masks
one-may : (st : State) (q : List ℕ) (e : ℕ) → within (mask st.variables st.map_maxima (pow 1 (entry_at st.entries e).lm))
    (mask st.variables st.map_maxima (pow 1 q)) ≡ false → may st q (e ∷ []) ≡ false
unfolding may node_mask power_in least least_of
one-may st q e h = h

-- a monomial that the masks of some map rule out does not divide
ruled : (m : ℕ) (xs a q : List ℕ) → within (mask m xs (pow 1 a)) (mask m xs (pow 1 q)) ≡ false → divides a q ≡ false
unfolding entry_at
ruled m xs a q h =
    let one : State = record {
      kind = monomials;
      variables = m;
      capacity = 1;
      maxima = xs;
      map_maxima = xs;
      entries = record { number = 0; index = 0; sign = a; lm = a } ∷ [];
      tree = leaf [];
      labels = record { variables = m; capacity = 1; rows = [] };
    } in
    ruled_out one q (0 ∷ []) 0 (one-may one q 0 h) (here 0 [])

-- nor one that the short exponent vectors rule out
unruled : (m : ℕ) (a q : List ℕ) → within (vector m (pow 1 a)) (vector m (pow 1 q)) ≡ false → divides a q ≡ false
unfolding vector
unruled m a q h = ruled m (bit_counts m) a q h

-- ---- the slot of an entry: lm or signature monomial
pub record SlotIs (st : State) (W : List ℕ) (s : Shape) (b : Bool) (e : ℕ) : Type 0 where
  pub some : front 1 s.variables 0 (drop (slot_at s b e) W) ≡ 0 → ⊥
  pub is : monomial_in W s.variables (slot_at s b e) ≡ cond b (entry_at st.entries e).lm (entry_at st.entries e).sign
  pub masked : get_or W (at.mask_at s.variables (slot_at s b e)) 0 ≡ mask st.variables st.map_maxima (pow 1 (cond b (entry_at st.entries e).lm (entry_at st.entries e).sign))
  pub vectored : get_or W (at.vector_at s.variables (slot_at s b e)) 0 ≡ vector st.variables (pow 1 (cond b (entry_at st.entries e).lm (entry_at st.entries e).sign))
  pub room : slot_at s b e + at.masked_width s.variables ≤ length W
  pub small : slot_at s b e + at.masked_width s.variables ≤ 1413206

sign-slot : (W : List ℕ) (s : Shape) (e : ℕ) → door.slot_in W s.variables (at.sign_at s e) ≡ door.sign_in W s e
unfolding door.sign_in
sign-slot W s e = refl

entry-small : (s : Shape) (e : ℕ) → at.InRange s → e < s.entries → at.entry_at s e + at.entry_width s ≤ 1413206
entry-small s e R h = omega (arith, size_small s R, row_fits e s.capacity (at.entry_width s) (omega (arith, R.few)))

slot_is : (st : State) (W : List ℕ) (s : Shape) → Holds st W s → (b : Bool) (e : ℕ) → e < s.entries → (b ≡ false → st.kind ≡ ratioed) → SlotIs st W s b e
unfolding slot_at lm_in door.slot_in monomial_in
slot_is st W s H true e h k = record {
  some = (entry-is st W s H e h).lm-slot.some;
  is = lm-of st W s H e h;
  masked = mask-of st W s H e h;
  vectored = (entry-is st W s H e h).lm-slot.vectored ∙ rw (lm-of st W s H e h, H.vars);
  room = omega (arith, entry-fits st W s H e h, width-least s H.range);
  small = omega (arith, entry-small s e H.range h, width-least s H.range);
}
slot_is st W s H false e h k =
    let r = (entry-is st W s H e h).ratio (k refl) in
    let i : door.slot_in W s.variables (at.sign_at s e) ≡ (entry_at st.entries e).sign = sign-slot W s e ∙ r.sign-is in
    let w = ratio-width s H.range (kind-one st W s H (k refl)) in
    record {
      some = r.sign-slot.some;
      is = i;
      masked = r.sign-slot.masked ∙ rw (i, H.map, H.vars);
      vectored = r.sign-slot.vectored ∙ rw (i, H.vars);
      room = omega (arith, entry-fits st W s H e h, w);
      small = omega (arith, entry-small s e H.range h, w);
    }

slot-from : (s : Shape) (b : Bool) (e : ℕ) → slot_at s b 0 + e * at.entry_width s ≡ slot_at s b e
unfolding slot_at
slot-from s true e = omega arith
slot-from s false e = omega arith

-- ---- requests by their number
sign-home : (r : Query) → by_lm r ≡ false → kind_for r ≡ ratioed
unfolding by_lm
sign-home (containment q) h = false-true (sym h)
sign-home (reducing v q) h = refl
sign-home (high v q) h = refl
sign-home (low i s) h = refl
sign-home (singular i s l) h = refl

pub labels-home : (r : Query) → (search_of r ≡ 0 → ⊥) → kind_for r ≡ ratioed
labels-home (containment q) h = absurd (h refl)
labels-home (reducing v q) h = refl
labels-home (high v q) h = refl
labels-home (low i s) h = refl
labels-home (singular i s l) h = refl

-- an entry that is sought is taken, but by the two searches for the largest
pub taken-always : (es : List Entry) (r : Query) (a : Option ℕ) (e : ℕ) → (2 ≤ search_of r → search_of r ≤ 3 → ⊥) → replaces es r a e ≡ true
unfolding replaces
taken-always es (containment q) a e h = refl
taken-always es (reducing v q) a e h = refl
taken-always es (high v q) a e h = absurd (h (omega arith) (omega arith))
taken-always es (low i s) a e h = absurd (h (omega arith) (omega arith))
taken-always es (singular i s l) a e h = refl

taken-first : (es : List Entry) (r : Query) (e : ℕ) → replaces es r none e ≡ true
unfolding replaces
taken-first es (containment q) e = refl
taken-first es (reducing v q) e = refl
taken-first es (high v q) e = refl
taken-first es (low i s) e = refl
taken-first es (singular i s l) e = refl

taken-larger : (es : List Entry) (r : Query) (b e : ℕ) → 2 ≤ search_of r → search_of r ≤ 3 → replaces es r (some b) e ≡ above (ratio_at es e) (ratio_at es b)
unfolding replaces
taken-larger es (containment q) b e h l = absurd (omega arith)
taken-larger es (reducing v q) b e h l = absurd (omega arith)
taken-larger es (high v q) b e h l = refl
taken-larger es (low i s) b e h l = refl
taken-larger es (singular i s k) b e h l = absurd (omega arith)

pub stops : (es : List Entry) (r : Query) (e : ℕ) → (search_of r ≡ 1 → ⊥) → (2 ≤ search_of r → search_of r ≤ 3 → ⊥) → goes_on es r e ≡ false
unfolding goes_on
stops es (containment q) e h l = refl
stops es (reducing v q) e h l = absurd (h refl)
stops es (high v q) e h l = absurd (l (omega arith) (omega arith))
stops es (low i s) e h l = absurd (l (omega arith) (omega arith))
stops es (singular i s k) e h l = refl

pub goes_on_lem : (es : List Entry) (r : Query) (e : ℕ) → 2 ≤ search_of r → search_of r ≤ 3 → goes_on es r e ≡ true
unfolding goes_on
goes_on_lem es (containment q) e h l = absurd (omega arith)
goes_on_lem es (reducing v q) e h l = absurd (omega arith)
goes_on_lem es (high v q) e h l = refl
goes_on_lem es (low i s) e h l = refl
goes_on_lem es (singular i s k) e h l = absurd (omega arith)

regular-stops : (st : State) (r : Query) (e : ℕ) → search_of r ≡ 1 → goes_on st.entries r e ≡ not (lowered st r e)
unfolding goes_on lowered
regular-stops st (containment q) e h = absurd (omega arith)
regular-stops st (reducing v q) e h = refl
regular-stops st (high v q) e h = absurd (omega arith)
regular-stops st (low i s) e h = absurd (omega arith)
regular-stops st (singular i s k) e h = absurd (omega arith)

plain-range : (es : List Entry) (r : Query) (e : ℕ) → kind_for r ≡ monomials → not_below es r e && not_past es r e ≡ true
unfolding not_below not_past
plain-range es (containment q) e h = refl
plain-range es (reducing v q) e h = no-ratio (sym h)
plain-range es (high v q) e h = no-ratio (sym h)
plain-range es (low i s) e h = no-ratio (sym h)
plain-range es (singular i s l) e h = no-ratio (sym h)

-- ---- two bounds at once
both-above : (a f b : ℕ) → ltb b a && leb f a ≡ leb (max f (suc b)) a
both-above a f b =
    elim (dec_le a b) [
      | yes h ↦ rw (le-ltb b a h, lt-leb (max f (suc b)) a (omega arith)) refl
      | no h ↦ elim (dec_le f a) [
        | yes l ↦ rw (lt-ltb b a (omega arith), le-leb f a l, le-leb (max f (suc b)) a (omega arith)) refl
        | no l ↦ rw (lt-ltb b a (omega arith), lt-leb f a (omega arith), lt-leb (max f (suc b)) a (omega arith)) refl
      ]
    ]

four : (x a b d : Bool) → x && ((a && b) && d) ≡ ((x && a) && b) && d
four true a b d = refl
four false a b d = refl

and-true : (b : Bool) → true && b ≡ b
and-true b = refl

-- ---- an entry that is asked
module _ (st : State) (r : Query) (ms : List ℕ) (s : Shape) (Q W : List ℕ) (A : Asks st r ms s Q) (H : Holds st W s) (e : ℕ) (h : e < s.entries) where
  abbrev es : List Entry
  es = st.entries

  in-state : e < length st.entries
  in-state = omega (arith, H.size)

  pub my-slot : SlotIs st W s (by_lm r) e
  my-slot = slot_is st W s H (by_lm r) e h (λ z. A.home ∙ sign-home r z)

  pub slot-word : slot_in Q + e * at.entry_width s ≡ slot_at s (by_lm r) e
  slot-word = omega (arith, A.slot, slot-from s (by_lm r) e)

  pub mask_word : mask_at_in Q + e * get_or Q 83 0 ≡ at.mask_at s.variables (slot_at s (by_lm r) e)
  mask_word =
      let w : e * get_or Q 83 0 ≡ e * at.entry_width s = ap (λ (x : ℕ). e * x) A.laid.entry-width in
      omega (arith, A.mask_at, w, slot-from s (by_lm r) e)

  pub divisor-is : divisor_at W s Q (words ms) e ≡ divides (divisor_of r (entry_at st.entries e)) (dividend r)
  unfolding divisor_at divisor_of
  divisor-is = rw (slot-word, my-slot.is, A.monomial) refl

  pub masked-out : may_at W Q e ≡ false → divisor_at W s Q (words ms) e ≡ false
  unfolding divisor_of may_at
  masked-out w =
      let x = cond (by_lm r) (entry_at st.entries e).lm (entry_at st.entries e).sign in
      let m : get_or W (mask_at_in Q + e * get_or Q 83 0) 0 ≡ mask st.variables st.map_maxima
      (pow 1 (cond (by_lm r) (entry_at st.entries e).lm (entry_at st.entries e).sign)) = ap (λ (j : ℕ). get_or W j 0) mask_word ∙ my-slot.masked in
      let f : mask_at_in Q + e * get_or Q 83 0 + 1 ≡ at.vector_at s.variables (slot_at s (by_lm r) e) = omega (arith, mask_word) in
      let v : get_or W (mask_at_in Q + e * get_or Q 83 0 + 1) 0 ≡ vector st.variables (pow 1 (cond (by_lm r) (entry_at st.entries e).lm (entry_at st.entries e).sign)) =
      ap (λ (j : ℕ). get_or W j 0) f ∙ my-slot.vectored in
      divisor-is ∙ either (within (mask st.variables st.map_maxima (pow 1 x)) (mask st.variables st.map_maxima (pow 1 (dividend r)))) refl (rw (m, v, A.masked, A.vectored) at w)
    where
      either : (b : Bool) → within (mask st.variables st.map_maxima (pow 1 (cond (by_lm r) (entry_at st.entries e).lm (entry_at st.entries e).sign)))
          (mask st.variables st.map_maxima (pow 1 (dividend r))) ≡ b
          → b && within (vector st.variables (pow 1 (cond (by_lm r) (entry_at st.entries e).lm (entry_at st.entries e).sign))) (vector st.variables (pow 1 (dividend r))) ≡ false
          → divides (cond (by_lm r) (entry_at st.entries e).lm (entry_at st.entries e).sign) (dividend r) ≡ false
      either true z u = unruled st.variables (cond (by_lm r) (entry_at st.entries e).lm (entry_at st.entries e).sign) (dividend r) u
      either false z u = ruled st.variables st.map_maxima (cond (by_lm r) (entry_at st.entries e).lm (entry_at st.entries e).sign) (dividend r) z

  sought-plain : st.kind ≡ monomials → sought st.entries r e ≡ divisor_at W s Q (words ms) e
  sought-plain k = sought-is es r e ∙ rw (plain-range es r e (sym A.home ∙ k), divisor-is) refl

  module _ (k : st.kind ≡ ratioed) where
    label_is : label W s e ≡ label_at st e
    label_is = label-of-entry st W s H k e h

    sought-label : sought st.entries r e ≡ (leb (from_in Q) (label W s e) && ltb (label W s e) (to_in Q)) && divisor_at W s Q (words ms) e
    sought-label =
        let R = A.range k in
        sought-is es r e ∙ rw (R.from_is e in-state, R.to_is e in-state, label_is, divisor-is) refl

    pub floor-goes : search_of r ≡ 1 → goes_on st.entries r e ≡ not (ltb (label W s e) (floor_in Q))
    floor-goes z = regular-stops st r e z ∙ ap not ((A.range k).floor-is z e in-state) ∙ rw label_is refl

    -- what is taken, of those so far
    larger-is : (b : ℕ) → b < s.entries → 2 ≤ search_of r → search_of r ≤ 3 → replaces st.entries r (some b) e ≡ ltb (label W s b) (label W s e)
    larger-is b l x y =
        taken-larger es r b e x y
        ∙ labels-agree st.entries st.labels H.valid.labels-valid (ratios st W s H k) b e (omega (arith, H.size)) (omega (arith, H.size))
        ∙ rw (label_is, label-of-entry st W s H k b l) refl

    pub largest-is : (best : ℕ) → best ≤ s.entries → 2 ≤ search_of r → search_of r ≤ 3
        → replaces st.entries r (option_of best) e && sought st.entries r e ≡ counted W s Q (words ms) (least_above (label W s) (from_in Q) best) e
    unfolding option_of counted least_above
    largest-is zero l x y = rw (taken-first es r e) sought-label
    largest-is (suc b) l x y =
        let f = leb (from_in Q) (label W s e) in
        let t = ltb (label W s e) (to_in Q) in
        let d = divisor_at W s Q (words ms) e in
        rw (larger-is b (omega arith) x y, sought-label) (four (ltb (label W s b) (label W s e)) f t d ∙ rw (both-above (label W s e) (from_in Q) (label W s b)) refl)

    pub counted_is : (best : ℕ) → (2 ≤ search_of r → search_of r ≤ 3 → ⊥) → replaces st.entries r (option_of best) e && sought st.entries r e ≡ counted W s Q (words ms) (from_in Q) e
    unfolding counted
    counted_is best n = rw (taken-always es r (option_of best) e n) sought-label

  pub contained-is : (best : ℕ) → search_of r ≡ 0 → replaces st.entries r (option_of best) e && sought st.entries r e ≡ divisor_at W s Q (words ms) e
  contained-is best z = rw (taken-always es r (option_of best) e (λ x y. omega arith)) (sought-plain (A.home ∙ plain r z))
    where
      plain : (r : Query) → search_of r ≡ 0 → kind_for r ≡ monomials
      plain (containment q) z = refl
      plain (reducing v q) z = absurd (omega arith)
      plain (high v q) z = absurd (omega arith)
      plain (low i s) z = absurd (omega arith)
      plain (singular i s l) z = absurd (omega arith)

  -- ---- the step
  pub step-miss : (best : ℕ) (b : Bool) → replaces st.entries r (option_of best) e && sought st.entries r e ≡ b → b ≡ false → start (option_of best) ≡ process st.entries r (option_of best) e
  step-miss best b t f = sym (process-is es r (option_of best) e ∙ rw (t, f) refl)

  pub step-hit : (best : ℕ) (b on : Bool) → replaces st.entries r (option_of best) e && sought st.entries r e ≡ b → b ≡ true → goes_on st.entries r e ≡ on
      → record { acc = option_of (e + 1); on = on } ≡ process st.entries r (option_of best) e
  unfolding option_of
  step-hit best b on t f g = sym (process-is es r (option_of best) e ∙ rw (t, f, g) some_one)
    where
      some_one : ◌≡◌ {A = Step (Option ℕ)} (record { acc = some e; on = on }) (record { acc = option_of (e + 1); on = on })
      some_one = let z : e + 1 ≡ suc e = omega arith in rw (z, option_of) refl

-- ---- what the tests of an entry ask and tell
pub record Tested (bs qs : List ℕ) (s : Shape) (e : ℕ) : Type 0 where
  pub mask-small : mask_at_in (words qs) + e * get_or (words qs) 83 0 ≤ 1413206
  pub mask-room : 4 * (mask_at_in (words qs) + e * get_or (words qs) 83 0) + 8 ≤ length bs
  pub mask-fits : get_or (words bs) (mask_at_in (words qs) + e * get_or (words qs) 83 0) 0 < 4294967296
  pub slot_small : slot_in (words qs) + e * get_or (words qs) 83 0 ≤ 1413206
  pub slot-room : 4 * (slot_in (words qs) + e * get_or (words qs) 83 0) ≤ length bs
  pub width : e * get_or (words qs) 83 0 ≡ e * at.entry_width s
  pub slot : front 1 s.variables 0 (drop (slot_in (words qs) + e * at.entry_width s) (words bs)) ≡ 0 → ⊥

-- what is known of an image and of what is asked of it
pub record Facts (bs qs ms : List ℕ) (s : Shape) : Type 0 where
  pub ready : walk.Ready (words bs) s
  pub few : s.entries ≤ 4096
  pub searches : search_in (words qs) ≤ 4
  pub labelled : (search_in (words qs) ≡ 0 → ⊥) → s.kind ≡ 1
  pub canonical : Canonical 1 s.variables (words ms)
  pub mask-fits : mask_in (words qs) < 4294967296
  pub tested : (e : ℕ) → e < s.entries → Tested bs qs s e
  pub out : (e : ℕ) → e < s.entries → may_at (words bs) (words qs) e ≡ false → divisor_at (words bs) s (words qs) (words ms) e ≡ false

module _ (bs qs ms : List ℕ) (s : Shape) (K : Known bs ms s (words qs)) where
  module _ (e : ℕ) (h : e < s.entries) where
    abbrev S : SlotIs K.state (words bs) s (by_lm K.request) e
    S = my-slot K.state K.request ms s (words qs) (words bs) K.asks K.holds e h

    pub tested_at : Tested bs qs s e
    tested_at =
        let Q = words qs in
        let sw = slot-word K.state K.request ms s Q (words bs) K.asks K.holds e h in
        let mw = mask_word K.state K.request ms s Q (words bs) K.asks K.holds e h in
        let w : e * get_or Q 83 0 ≡ e * at.entry_width s = ap (λ (x : ℕ). e * x) K.asks.laid.entry-width in
        record {
          mask-small = omega (arith, mw, S.small);
          mask-room = omega (arith, mw, S.room, length-words bs);
          mask-fits = rw (mw, S.masked) (mask-small K.state.variables K.state.map_maxima (pow 1 (cond (by_lm K.request) (entry_at K.state.entries e).lm (entry_at K.state.entries e).sign)));
          slot_small = omega (arith, sw, w, S.small);
          slot-room = omega (arith, sw, w, S.room, length-words bs);
          width = w;
          slot = rw sw S.some;
        }

  pub facts-of : Facts bs qs ms s
  facts-of = record {
    ready = holds-ready K.state (words bs) s K.holds;
    few = omega (arith, K.holds.range.few, K.holds.range.cap-to);
    searches = omega (arith, K.asks.search, at_most K.request);
    labelled = λ n. kind-one K.state (words bs) s K.holds (K.asks.home ∙ labels-home K.request (λ y. n (K.asks.search ∙ y)));
    canonical = rw (K.holds.vars, K.asks.monomial) K.asks.canonical;
    mask-fits = rw K.asks.masked (mask-small K.state.variables K.state.map_maxima (pow 1 (dividend K.request)));
    tested = tested_at;
    out = λ e h. masked-out K.state K.request ms s (words qs) (words bs) K.asks K.holds e h;
  }
    where
      at_most : (r : Query) → search_of r ≤ 4
      at_most (containment q) = omega arith
      at_most (reducing v q) = omega arith
      at_most (high v q) = omega arith
      at_most (low i s) = omega arith
      at_most (singular i s l) = omega arith

pub known : (bs ms : List ℕ) (s : Shape) (Q : List ℕ) (lo c best : ℕ) → ReadyEntries bs ms s Q lo c best → Known bs ms s Q
known bs ms s Q lo c best w = record { state = w.state; request = w.request; asks = w.asks; holds = w.holds }

-- whichever the state and the request are
pub facts : (bs qs ms : List ℕ) → ∥ Known bs ms (shape_in (words qs)) (words qs) ∥₁ → Facts bs qs ms (shape_in (words qs))
facts bs qs ms k = ∥∥₁_elim k (hlevel props) (λ K. facts-of bs qs ms (shape_in (words qs)) K)

and-false : (a : Bool) → a && false ≡ false
and-false true = refl
and-false false = refl

module _ (W : List ℕ) (s : Shape) (Q M : List ℕ) (least e : ℕ) where
  pub count_masked : divisor_at W s Q M e ≡ false → false ≡ counted W s Q M least e
  unfolding counted
  count_masked d = rw d (sym (and-false (leb least (label W s e) && ltb (label W s e) (to_in Q))))

  pub count-below : (l : ℕ) → l ≡ label W s e → l < least → false ≡ counted W s Q M least e
  unfolding counted
  count-below l el h = let z : leb least (label W s e) ≡ false = lt-leb least (label W s e) (omega arith) in rw z refl

  pub count_past : (l : ℕ) → l ≡ label W s e → to_in Q ≤ l → false ≡ counted W s Q M least e
  unfolding counted
  count_past l el h =
      let z : ltb (label W s e) (to_in Q) ≡ false = le-ltb (label W s e) (to_in Q) (omega arith) in
      rw (z, and-false (leb least (label W s e))) refl

  pub count-divides : (l : ℕ) (b : Bool) → l ≡ label W s e → least ≤ l → l < to_in Q → b ≡ divisor_at W s Q M e → b ≡ counted W s Q M least e
  unfolding counted
  count-divides l b el h k d =
      let y : leb least (label W s e) ≡ true = le-leb least (label W s e) (omega arith) in
      let z : ltb (label W s e) (to_in Q) ≡ true = lt-ltb (label W s e) (to_in Q) (omega arith) in
      d ∙ rw (y, z) refl

-- ---- a pair of words, taken apart
pub pair-within : (a b c d x y : ℕ) → a < 4294967296 → c < 4294967296 → x ≡ a + 4294967296 * b → y ≡ c + 4294967296 * d
    → within (x % 4294967296) (y % 4294967296) && within (x / 4294967296) (y / 4294967296) ≡ within a c && within b d
pair-within a b c d x y h k e f =
    let p : x % 4294967296 ≡ a = omega arith in
    let q : y % 4294967296 ≡ c = omega arith in
    let u : x / 4294967296 ≡ b = omega arith in
    let v : y / 4294967296 ≡ d = omega arith in
    rw (p, q, u, v) refl

pub may-is : (W Q : List ℕ) (e p x y : ℕ) (b : Bool) → get_or W (mask_at_in Q + e * get_or Q 83 0) 0 < 4294967296 → get_or Q 68 0 < 4294967296 → p ≡ mask_at_in Q + e * get_or Q 83 0
    → x ≡ get_or W p 0 + 4294967296 * get_or W (p + 1) 0 → y ≡ get_or Q 68 0 + 4294967296 * get_or Q 69 0
    → b ≡ within (x % 4294967296) (y % 4294967296) && within (x / 4294967296) (y / 4294967296) → b ≡ may_at W Q e
unfolding may_at
may-is W Q e p x y b hw hq ep ex ey eb = eb ∙ pair-within (get_or W p 0) (get_or W (p + 1) 0) (get_or Q 68 0) (get_or Q 69 0) x y (rw ep hw) hq ex ey ∙ rw ep refl

-- ---- the monomial that is divided by
module _ (bs qs ms : List ℕ) (s : Shape) (e : ℕ) (E : Facts bs qs ms s) (he : e < s.entries) (p k : ℕ) (h : length bs ≤ 4 * p + k) (ep : p ≡ slot_in (words qs) + e * get_or (words qs) 83 0) where
  place_is : p ≡ slot_in (words qs) + e * at.entry_width s
  place_is = omega (arith, (E.tested e he).width)

  some-there : front 1 s.variables 0 (drop p (words bs)) ≡ 0 → ⊥
  some-there = rw place_is (E.tested e he).slot

  pub both-start : Starts 1 4096 (words (take k (drop (4 * p) bs))) × Starts 1 4096 (words ms)
  both-start = (rest-starts bs s.variables p k h some-there, starts-wide (starts-whole E.canonical))

  pub divides-read : (b : Bool) → b ≡ divides (first 1 (words (take k (drop (4 * p) bs)))) (first 1 (words ms)) → b ≡ divisor_at (words bs) s (words qs) (words ms) e
  unfolding divisor_at
  divides-read b d = d ∙ rw (rest-first bs s.variables p k h some-there, first-whole E.canonical, place_is) refl

-- ---- the searches for the largest label
pub of_the_largest : (s : Search) → (s ≡ High) ⊎ (s ≡ Low) → (2 ≤ search_number s) × (search_number s ≤ 3)
unfolding search_number
of_the_largest s (inl h) = rw h (omega arith, omega arith)
of_the_largest s (inr l) = rw l (omega arith, omega arith)
