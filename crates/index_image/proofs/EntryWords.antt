-- An entry and the words at its place, both ways. Assumes nothing.
use mathlib.Core.Path.{◌≡◌, refl, sym, ap, ◌∙◌}
use mathlib.Core.List.{List, [], ◌∷◌, ◌++◌}
use mathlib.Core.Logic.{◌↔◌}
use Prim.Native.Nat.{ℕ, suc, ◌+◌, ◌-◌, ◌≤◌, ◌<◌}
use native.Mathlib.Omega.{arith}
use lib.ListN.{length, get_or, drop, take-append-drop}
use Rattle.words.specs.Kinds.{kind, index_word}
use Rattle.words.specs.Tables.{part, zeros}
use Rattle.words.proofs.Tables.{part-nil, part-cons, part-append}
use Rattle.monomial.specs.Monomial.{front, Canonical, pow}
use Rattle.monomial.proofs.Canon.{front-end}
use Rattle.monomial.proofs.Powers.{canonical-length}
use Rattle.monomial.proofs.Laws.{canonical-front}
use Rattle.divmask.specs.Mask.{mask, vector}
use Rattle.fast_compare.specs.Map as map
use Rattle.fast_compare.proofs.Images.{part-is}
use Rattle.index_theory.specs.Entries.{Entry, one, ratio_of}
use Rattle.index_theory.specs.State.{Kind, monomials, ratioed, GoodEntry, row_of}
use Rattle.index_image.specs.Layout.{code, slot, masked, sign_words, entry_words}
use Rattle.index_image.specs.Shape as at
use Rattle.index_image.specs.Shape.{slot_width, masked_width, mask_at, vector_at, width_of}
use Rattle.index_image.specs.Walk.{lm_in, row_in, map_maxima}
use Rattle.index_image.specs.Door.{slot_length, slot_in, MaskedSlot, index_in, sign_in}
use Rattle.index_image.specs.declared.Shape.{Shape}
use Rattle.index_image.proofs.Slots as found
use Rattle.index_image.proofs.Encoding as lengths

-- w words are a first word and n words from `next` on
first : (W : List ℕ) (at next w n x : ℕ) (v : List ℕ) → at < length W → at + 1 ≡ next → w ≡ suc n → (part W at w ≡ x ∷ v) ↔ ((get_or W at 0 ≡ x) × (part W next n ≡ v))
first W at next w n x v h en ew =
    let c : part W at w ≡ get_or W at 0 ∷ part W next n = ap (part W at) ew ∙ part-cons W at n h ∙ rw en in (
      λ (q : part W at w ≡ x ∷ v). let z = sym c ∙ q in (cc, cc),
      λ q. c ∙ rw (q.0, q.1),
    )

-- ---- a slot with its mask and short exponent vector, as words
module _ (W : List ℕ) (m : ℕ) (xs : List ℕ) (i : ℕ) (few : m ≤ 64) (fits : i + masked_width m ≤ length W) where
  slot-iff : (ws : List ℕ) → length ws ≤ slot_width m
      → (part W i (slot_width m) ≡ slot m ws) ↔ ((part W i (length ws) ≡ ws) × (part W (i + length ws) (slot_width m - length ws) ≡ zeros (slot_width m - length ws)))
  unfolding slot
  slot-iff ws h =
      let e : length ws + (m + 1 - length ws) ≡ m + 1 = omega arith in
      rw e at (part-append W i (length ws) (m + 1 - length ws) ws (zeros (m + 1 - length ws)) (omega arith) refl)

  -- the words of a canonical monomial's slot, mask and vector are read back as that monomial
  pub slot_read : (ws : List ℕ) → Canonical 1 m ws → part W i (slot_width m) ≡ slot m ws → get_or W (mask_at m i) 0 ≡ mask m xs (pow 1 ws)
      → get_or W (vector_at m i) 0 ≡ vector m (pow 1 ws)
      → MaskedSlot W m xs i × (slot_in W m i ≡ ws)
  unfolding slot_in
  slot_read ws can e em ev =
      let p = (slot-iff ws (canonical-length 1 m ws (omega arith) (omega arith) can)).0 e in
      let k = length ws in
      let split : drop i W ≡ ws ++ drop k (drop i W) =
      sym (take-append-drop k (drop i W)) ∙ ap (λ (l : List ℕ). l ++ drop k (drop i W)) (sym (part-is W i k) ∙ p.0) in
      let f : slot_length W m i ≡ k = ap (front 1 m 0) split ∙ canonical-front 1 m ws (drop k (drop i W)) (omega arith) can in
      let is : part W i (slot_length W m i) ≡ ws = rw f p.0 in
      (record { some = λ z. omega (arith, can.some); rest = rw f p.1; masked = rw is em; vectored = rw is ev }, is)

  -- a slot that passes is the slot of what is read there
  pub read-slot : MaskedSlot W m xs i → part W i (slot_width m) ≡ slot m (slot_in W m i)
  unfolding slot_in
  read-slot s =
      let l : length (part W i (slot_length W m i)) ≡ slot_length W m i = found.slot-length W m i (omega arith) s.some in
      let short = found.slot-short W m i (omega arith) s.some in
      (slot-iff (part W i (slot_length W m i)) (omega arith)).1 (rw l, rw l s.rest)

  -- w words are a slot, its mask and vector, and n words from `next` on
  slot-first : (next w n : ℕ) (ws v : List ℕ) → i + masked_width m ≡ next → w ≡ masked_width m + n → Canonical 1 m ws
      → (part W i w ≡ masked m xs ws v) ↔ ((MaskedSlot W m xs i × (slot_in W m i ≡ ws)) × (part W next n ≡ v))
  unfolding masked
  slot-first next w n ws v en ew can =
      let x = mask m xs (pow 1 ws) in
      let y = vector m (pow 1 ws) in
      let e : w ≡ slot_width m + suc (suc n) = omega arith in
      let l = lengths.slot-length m ws (canonical-length 1 m ws (omega arith) (omega arith) can) in
      let p = part-append W i (slot_width m) (suc (suc n)) (slot m ws) (x ∷ y ∷ v) (omega arith) l in
      let f = first W (mask_at m i) (vector_at m i) (suc (suc n)) (suc n) x (y ∷ v) (omega arith) (omega arith) refl in
      let g = first W (vector_at m i) next (suc n) n y v (omega arith) (omega arith) refl in (
        λ (q : part W i w ≡ slot m ws ++ (x ∷ y ∷ v)).
            let r = p.0 (ap (part W i) (sym e) ∙ q) in
            let t = f.0 r.1 in
            let u = g.0 t.1 in
            (slot_read ws can r.0 t.0 u.0, u.1),
        λ q. ap (part W i) e ∙ p.1 (read-slot q.0.0 ∙ rw q.0.1, f.1 (q.0.0.masked ∙ rw q.0.1, g.1 (q.0.0.vectored ∙ rw q.0.1, q.1))),
      )

-- ---- an entry
-- the entry at place i, as it is read
abbrev pub read_entry : List ℕ → Shape → Kind → ℕ → Entry
read_entry W s monomials i = record { number = i; index = 0; sign = one; lm = lm_in W s i }
read_entry W s ratioed i = record { number = i; index = index_in W s i; sign = sign_in W s i; lm = lm_in W s i }

-- what a ratio index has at place i where the entry e stands, behind lm and its mask
pub record RatioIs (W : List ℕ) (s : Shape) (l : map.State) (i : ℕ) (e : Entry) : Type 0 where
  pub kinded : kind (get_or W (at.index_at s i) 0) ≡ 3
  pub index_is : index_in W s i ≡ e.index
  pub sign-slot : MaskedSlot W s.variables (map_maxima W s) (at.sign_at s i)
  pub sign-is : sign_in W s i ≡ e.sign
  pub row_is : row_in W s i ≡ row_of l (ratio_of e)

-- what stands at place i where the entry e does. In a monomial index nothing is said of index and signature.
pub record EntryIs (W : List ℕ) (s : Shape) (k : Kind) (l : map.State) (i : ℕ) (e : Entry) : Type 0 where
  pub lm-slot : MaskedSlot W s.variables (map_maxima W s) (at.lm_at s i)
  pub lm-is : lm_in W s i ≡ e.lm
  pub ratio : k ≡ ratioed → RatioIs W s l i e

-- the words behind the masked lm
abbrev sign_width : Kind → ℕ → ℕ
sign_width monomials m = 0
sign_width ratioed m = masked_width m + 2

width-sign : (k : Kind) (m : ℕ) → width_of (code k) m ≡ masked_width m + sign_width k m
width-sign monomials m = omega arith
width-sign ratioed m = omega arith

pub no-ratio : {X : Type 0} → monomials ≡ ratioed → X
no-ratio e = absurd (let z : ◌≡◌ {A = ℕ} 0 1 = cc in omega arith)

module _ (W : List ℕ) (s : Shape) (few : s.variables ≤ 64) (i : ℕ) where
  abbrev m : ℕ
  m = s.variables

  abbrev a : ℕ
  a = at.entry_at s i

  abbrev xs : List ℕ
  xs = map_maxima W s

  lm-in : lm_in W s i ≡ slot_in W m a
  unfolding lm_in slot_in
  lm-in = refl

  sign-iff : (k : Kind) (l : map.State) (e : Entry) → GoodEntry m e → a + (masked_width m + sign_width k m) ≤ length W
      → (part W (at.index_at s i) (sign_width k m) ≡ sign_words k m xs l e) ↔ (k ≡ ratioed → RatioIs W s l i e)
  unfolding sign_words sign_in
  sign-iff monomials l e g fits = (λ (q : part W (at.index_at s i) 0 ≡ []). λ z. no-ratio z, λ h. part-nil W (at.index_at s i))
  sign-iff ratioed l e g fits =
      let row = row_of l (ratio_of e) in
      let sign = masked m xs e.sign (row ∷ []) in
      let p1 = first W (at.index_at s i) (at.sign_at s i) (masked_width m + 2) (masked_width m + 1) (index_word e.index) sign (omega arith)
      (omega arith) (omega arith) in
      let p2 = slot-first W m xs (at.sign_at s i) few (omega arith) (at.row_at s i) (masked_width m + 1) 1 e.sign (row ∷ []) (omega arith)
      (omega arith) g.sign-canonical in
      let p3 = first W (at.row_at s i) (at.row_at s i + 1) 1 0 row [] (omega arith) (omega arith) refl in (
        λ (q : part W (at.index_at s i) (masked_width m + 2) ≡ index_word e.index ∷ sign). λ z.
            let q1 = p1.0 q in
            let q2 = p2.0 q1.1 in
            record {
              kinded = omega (arith, q1.0, g.index-small);
              index_is = omega (arith, q1.0, g.index-small);
              sign-slot = q2.0.0;
              sign-is = q2.0.1;
              row_is = (p3.0 q2.1).0;
            },
        λ h.
            let r = h refl in
            p1.1 (omega (arith, r.kinded, r.index_is), p2.1 ((r.sign-slot, r.sign-is), p3.1 (r.row_is, part-nil W (at.row_at s i + 1)))),
      )

  -- what is read is good
  lm-canonical : MaskedSlot W m xs a → Canonical 1 m (lm_in W s i)
  lm-canonical h = rw lm-in (found.slot-canonical W m a (omega arith) h.some)

  read-good : (k : Kind) (l : map.State) → EntryIs W s k l i (read_entry W s k i) → GoodEntry m (read_entry W s k i)
  unfolding sign_in
  read-good monomials l h = record {
    index-small = omega arith;
    sign-canonical = record { some = omega arith; whole = front-end 1 m 0 0 [] refl refl };
    lm-canonical = lm-canonical h.lm-slot;
  }
  read-good ratioed l h = record {
    index-small = omega arith;
    sign-canonical = found.slot-canonical W m (at.sign_at s i) (omega arith) (h.ratio refl).sign-slot.some;
    lm-canonical = lm-canonical h.lm-slot;
  }

module _ (W : List ℕ) (s : Shape) (k : Kind) (ek : s.kind ≡ code k) (few : s.variables ≤ 64) (i : ℕ) (fits : at.entry_at s i + at.entry_width s ≤ length W) where
  entry-iff : (l : map.State) (e : Entry) → GoodEntry s.variables e
      → (part W (at.entry_at s i) (at.entry_width s) ≡ entry_words k s.variables (map_maxima W s) l e) ↔ EntryIs W s k l i e
  unfolding entry_words
  entry-iff l e g =
      let n = s.variables in
      let w : at.entry_width s ≡ masked_width n + sign_width k n = ap (λ (x : ℕ). width_of x n) ek ∙ width-sign k n in
      let b = at.index_at s i in
      let p = slot-first W n (map_maxima W s) (at.entry_at s i) few (omega arith) b (at.entry_width s) (sign_width k n) e.lm
      (sign_words k n (map_maxima W s) l e) refl w g.lm-canonical in
      let q = sign-iff W s few i k l e g (omega arith) in
      let lm = lm-in W s few i in (
        λ h. let r = p.0 h in record { lm-slot = r.0.0; lm-is = lm ∙ r.0.1; ratio = q.0 r.1 },
        λ h. p.1 ((h.lm-slot, sym lm ∙ h.lm-is), q.1 h.ratio),
      )

  pub entry_of : (l : map.State) (e : Entry) → GoodEntry s.variables e
      → part W (at.entry_at s i) (at.entry_width s) ≡ entry_words k s.variables (map_maxima W s) l e → EntryIs W s k l i e
  entry_of l e g = (entry-iff l e g).0

  pub of_entry : (l : map.State) → EntryIs W s k l i (read_entry W s k i)
      → (part W (at.entry_at s i) (at.entry_width s) ≡ entry_words k s.variables (map_maxima W s) l (read_entry W s k i)) × GoodEntry s.variables (read_entry W s k i)
  of_entry l h = let g = read-good W s few i k l h in ((entry-iff l (read_entry W s k i) g).1 h, g)
