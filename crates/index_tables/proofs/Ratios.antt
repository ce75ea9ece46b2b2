-- The ratio of an entry, and the value of the label map's row that it names. Assumes nothing.
use mathlib.Core.Path.{◌≡◌, refl, sym, ap, ◌∙◌}
use mathlib.Core.Bool.{Bool, true}
use mathlib.Core.List.{List, ◌++◌}
use mathlib.Core.Logic.{◌↔◌}
use Prim.Native.Nat.{ℕ, ◌+◌, ◌-◌, ◌*◌, ◌≤◌}
use native.Mathlib.Omega.{arith}
use lib.ListN.{length, get_or, take, drop, take-append-drop, length-drop}
use lib.Seq.{get_or-drop, drop-drop, length-take-le}
use Rattle.words.specs.Kinds.{kind, payload}
use Rattle.words.specs.Words.{words}
use Rattle.words.specs.Tables.{part}
use Rattle.monomial.specs.Monomial.{front, Starts, first, Canonical}
use Rattle.monomial.specs.Operations.{result_words, equal}
use Rattle.monomial.specs.declared.ordered_ops.Op.{Op}
use Rattle.monomial.proofs.Divisions.{equal-iff}
use Rattle.monomial.proofs.Canon.{front-short}
use Rattle.monomial.proofs.Firsts.{starts-wide, first_part}
use Rattle.monomial.proofs.Laws.{canonical-front, canonical-result, length-result}
use Rattle.fast_compare.specs.Map as map
use Rattle.fast_compare.specs.Layout as labels
use Rattle.index_theory.specs.Entries.{quotient_of}
use Rattle.index_image.specs.Shape as at
use Rattle.index_image.specs.Walk.{lm_in, row_in}
use Rattle.index_image.specs.Door.{slot_in, index_in, sign_in, row_value, HasRatio, RatioReady}
use Rattle.index_image.specs.declared.Shape.{Shape}
use Rattle.index_image.proofs.Slots.{slot-canonical, rest, rest-is, rest-words}

-- they start with the monomial there
pub record Lent (bs ws : List ℕ) : Type 0 where
  pub starts : Starts 1 4096 (words bs)
  pub is : first 1 (words bs) ≡ ws

lent-slot : (bs : List ℕ) (m g x : ℕ) → x ≡ 4 * g → (front 1 m 0 (drop g (words bs)) ≡ 0 → ⊥)
    → Lent (rest bs x) (part (words bs) g (front 1 m 0 (drop g (words bs))))
lent-slot bs m g x e h =
    let st : Starts 1 m (drop g (words bs)) = record { some = h } in
    let w : words (rest bs x) ≡ drop g (words bs) = rest-words bs x g e in
    record { starts = rw w (starts-wide st); is = ap (first 1) w ∙ first_part (words bs) g st }

module _ (bs : List ℕ) (s : Shape) (i : ℕ) (n : RatioReady (words bs) s i) where
  lm-lent : (x : ℕ) → x ≡ 4 * at.lm_at s i → Lent (rest bs x) (lm_in (words bs) s i)
  unfolding lm_in
  lm-lent x e = lent-slot bs s.variables (at.lm_at s i) x e n.lm

  sign-lent : (x : ℕ) → x ≡ 4 * at.sign_at s i → Lent (rest bs x) (sign_in (words bs) s i)
  unfolding sign_in slot_in
  sign-lent x e = lent-slot bs s.variables (at.sign_at s i) x e n.sign

-- the value of a row, by the words of the whole image
row-value : (W : List ℕ) (s : Shape) (j r : ℕ) → r ≡ at.labels_at s + labels.row_at s.variables j
    → row_value W s j ≡ record { index = payload (get_or W r 0); ratio = part W (at.ratio_at r) (front 2 s.variables 0 (drop (at.ratio_at r) W)) }
unfolding labels.value_at part
row-value W s j r e =
    let a = labels.row_at s.variables j in
    let q : at.labels_at s + at.ratio_at a ≡ at.ratio_at r = omega arith in
    rw (get_or-drop (at.labels_at s) W a 0, drop-drop (at.ratio_at a) (at.labels_at s) W, q, ← e)

-- the signature monomial and lm of an entry are canonical
pub parts-canonical : (W : List ℕ) (s : Shape) (i : ℕ) → s.variables ≤ 64 → RatioReady W s i
    → Canonical 1 s.variables (sign_in W s i) × Canonical 1 s.variables (lm_in W s i)
unfolding sign_in lm_in slot_in
parts-canonical W s i few n = (
  slot-canonical W s.variables (at.sign_at s i) (omega arith) n.sign,
  slot-canonical W s.variables (at.lm_at s i) (omega arith) n.lm,
)

-- the ratio's words are as many as a slot has, and words that start with it have it there
module _ (m : ℕ) (A B : List ℕ) (few : m ≤ 64) (ca : Canonical 1 m A) (cb : Canonical 1 m B) where
  pub ratio-short : length (result_words Op.Ratio A B) ≤ at.slot_width m
  ratio-short = length-result m A B ca cb Op.Ratio (omega arith)

  pub front-ratio : (D : List ℕ) → (front 2 m 0 D ≡ 0 → ⊥) → HasRatio A B D ↔ (take (front 2 m 0 D) D ≡ result_words Op.Ratio A B)
  unfolding part
  front-ratio D some = (to, from)
    where
      to : take (length (result_words Op.Ratio A B)) D ≡ result_words Op.Ratio A B → take (front 2 m 0 D) D ≡ result_words Op.Ratio A B
      to e =
          let r = result_words Op.Ratio A B in
          let can : Canonical 2 m r = canonical-result m A B ca cb Op.Ratio (omega arith) (λ z. absurd (let y : ◌≡◌ {A = ℕ} 0 1 = cc in omega arith)) in
          let split : D ≡ r ++ drop (length r) D = sym (take-append-drop (length r) D) ∙ ap (λ (l : List ℕ). l ++ drop (length r) D) e in
          let f : front 2 m 0 D ≡ length r = ap (front 2 m 0) split ∙ canonical-front 2 m r (drop (length r) D) (omega arith) can in
          rw f e

      from : take (front 2 m 0 D) D ≡ result_words Op.Ratio A B → take (length (result_words Op.Ratio A B)) D ≡ result_words Op.Ratio A B
      from e =
          let l : length (result_words Op.Ratio A B) ≡ front 2 m 0 D = ap length (sym e) ∙ length-take-le (front 2 m 0 D) D (omega (arith, front-short 2 m 0 D)) in
          rw l e

-- what is read of entry i before its ratio is compared: the word e that it starts at, the row r of the label map that it names, and both index words
pub record Read (bs : List ℕ) (s : Shape) (i e r x y : ℕ) : Type 0 where
  pub few : s.variables ≤ 64
  pub ready : RatioReady (words bs) s i
  pub entry : e ≡ at.entry_at s i
  pub row : r ≡ at.labels_at s + labels.row_at s.variables (row_in (words bs) s i)
  pub index : x ≡ get_or (words bs) (at.index_at s i) 0
  pub index-of-row : y ≡ get_or (words bs) r 0

module _ {bs : List ℕ} {s : Shape} {i e r x y : ℕ} (k : Read bs s i e r x y) where
  abbrev W : List ℕ
  W = words bs

  abbrev m : ℕ
  m = s.variables

  abbrev sign : List ℕ
  sign = sign_in W s i

  abbrev lm : List ℕ
  lm = lm_in W s i

  abbrev place : ℕ
  place = labels.row_at m (row_in W s i)

  -- the row's ratio, and whether the row has the entry's
  abbrev ratio : List ℕ
  ratio = part W (at.ratio_at r) (front 2 m 0 (drop (at.ratio_at r) W))

  abbrev Same : Type 0
  Same = row_value W s (row_in W s i) ≡ quotient_of (index_in W s i) sign lm

  can : Canonical 1 m sign × Canonical 1 m lm
  can = parts-canonical W s i k.few k.ready

  value : row_value W s (row_in W s i) ≡ record { index = payload (get_or W r 0); ratio = ratio }
  value = row-value W s (row_in W s i) r k.row

  -- both index words are of kind 3, so they are the same where their payloads are
  kinds : (kind x ≡ 3) × (kind y ≡ 3)
  kinds = (rw k.index k.ready.kinded, rw (k.index-of-row, k.row) (rw (get_or-drop (at.labels_at s) W place 0) at k.ready.row_ok.kinded))

  pub other-index : (x ≡ y → ⊥) → Same → ⊥
  unfolding quotient_of
  other-index h q =
      let p = ap (λ (v : map.Value). v.index) (sym value ∙ q) in
      h (omega (arith, kinds.0, kinds.1, ap payload k.index, ap payload k.index-of-row))

  same-ratio : x ≡ y → (equal (result_words Op.Ratio sign lm) ratio ≡ true) ↔ Same
  unfolding quotient_of
  same-ratio h =
      let p : payload (get_or W r 0) ≡ index_in W s i = ap payload (sym k.index-of-row ∙ sym h ∙ k.index) in (
        λ (q : equal (result_words Op.Ratio sign lm) ratio ≡ true). value ∙ (λ j. record { index = p j; ratio = sym ((equal-iff _ ratio).0 q) j }),
        λ (q : row_value W s (row_in W s i) ≡ record { index = index_in W s i; ratio = result_words Op.Ratio sign lm }).
            (equal-iff _ ratio).1 (sym (ap (λ (v : map.Value). v.ratio) (sym value ∙ q))),
      )

  -- as it is compared while it is merged
  by-merge : x ≡ y → (t : Bool) → (t ≡ true) ↔ HasRatio sign lm (drop (at.ratio_at r) W) → (t ≡ true) ↔ Same
  unfolding part
  by-merge h t q =
      let next : at.labels_at s + at.ratio_at place ≡ at.ratio_at r = omega (arith, k.row) in
      let some : front 2 m 0 (drop (at.ratio_at r) W) ≡ 0 → ⊥ = rw (drop-drop (at.ratio_at place) (at.labels_at s) W, next) at k.ready.row_ok.some in
      let f = front-ratio m sign lm k.few can.0 can.1 (drop (at.ratio_at r) W) some in
      let g = same-ratio h in
      let eq = equal-iff (result_words Op.Ratio sign lm) ratio in
      (λ (z : t ≡ true). g.0 (eq.1 (sym (f.0 (q.0 z)))), λ z. q.1 (f.1 (sym (eq.0 (g.1 z)))))

  -- what is lent to the comparison, and what its answer says
  abbrev sign-lent-at : List ℕ
  sign-lent-at = rest bs (4 * at.sign_from m e)

  abbrev lm-lent-at : List ℕ
  lm-lent-at = rest bs (4 * e)

  abbrev row-lent-at : List ℕ
  row-lent-at = rest bs (4 * at.ratio_at r)

  sl : Lent sign-lent-at sign
  sl = sign-lent bs s i k.ready (4 * at.sign_from m e) (omega (arith, k.entry))

  ll : Lent lm-lent-at lm
  ll = lm-lent bs s i k.ready (4 * e) (omega (arith, k.entry))

  pub record Asks : Type 0 where
    pub sign-starts : Starts 1 4096 (words sign-lent-at)
    pub lm-starts : Starts 1 4096 (words lm-lent-at)
    pub fits : 4 * length (result_words Op.Ratio (first 1 (words sign-lent-at)) (first 1 (words lm-lent-at))) ≤ length row-lent-at

  pub asks : 4 * at.label_at s (row_in W s i) ≤ length bs → Asks
  asks room =
      let l : length row-lent-at ≡ length bs - 4 * at.ratio_at r = ap length (rest-is bs (4 * at.ratio_at r)) ∙ length-drop (4 * at.ratio_at r) bs in
      record {
        sign-starts = sl.starts;
        lm-starts = ll.starts;
        fits = rw (sl.is, ll.is) (omega (arith, l, k.row, ratio-short m sign lm k.few can.0 can.1));
      }

  pub answered : x ≡ y → (t : Bool) → (t ≡ true) ↔ HasRatio (first 1 (words sign-lent-at)) (first 1 (words lm-lent-at)) (words row-lent-at) → (t ≡ true) ↔ Same
  answered h t q = by-merge h t (rw (sl.is, ll.is, rest-words bs (4 * at.ratio_at r) (at.ratio_at r) refl) at q)
