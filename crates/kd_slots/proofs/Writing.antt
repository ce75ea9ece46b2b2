-- What the writers of slots leave. Assumes nothing.
use mathlib.Core.Path.{◌≡◌, refl, ap, ◌∙◌}
use mathlib.Core.List.{List, [], ◌∷◌, ◌++◌, append_assoc}
use Prim.Native.Nat.{ℕ, ◌+◌, ◌-◌, ◌*◌, ◌/◌, ◌%◌, ◌≤◌}
use native.Mathlib.Omega.{arith}
use lib.ListN.{length, length-append}
use Rattle.words.specs.Words.{words, put_w, paste_w}
use Rattle.words.specs.Tables.{zeros}
use Rattle.words.proofs.Laws.{length-words, paste_w-snoc, put_w-paste}
use Rattle.words.proofs.Tables.{paste_w-append}
use Rattle.words.proofs.Pasting.{part-before}
use Rattle.monomial.specs.Monomial.{pow}
use Rattle.monomial.proofs.Powers.{canonical-length}
use Rattle.divmask.specs.Mask.{mask, vector}
use Rattle.divmask.proofs.Masks.{mask-small}
use Rattle.index_image.specs.Layout.{slot, masked}
use Rattle.index_image.specs.Shape as at
use Rattle.index_image.specs.Walk.{map_maxima}
use Rattle.index_image.specs.declared.Shape.{Shape}
use Rattle.index_image.proofs.Encoding.{slot-length}
use Rattle.kd_slots.specs.Slots.{Mapped, Lent, gcd_words}

-- a monomial fits into a slot
pub lent_short : (m : ℕ) (bs : List ℕ) → m ≤ 64 → Lent m bs → length (words bs) ≤ at.slot_width m
lent_short m bs few l = canonical-length 1 m (words bs) (omega arith) (omega arith) l.canonical

pub lent_bytes : (m : ℕ) (bs : List ℕ) → m ≤ 64 → Lent m bs → length bs ≤ 4 * at.slot_width m
lent_bytes m bs few l = omega (arith, lent_short m bs few l, length-words bs, l.whole)

-- words written behind the map leave it as it is
pub map-entered : (im im' : List ℕ) (s : Shape) (a : ℕ) (ws : List ℕ) → 4 * a ≤ length im → at.entries_at s.variables ≤ a → im' ≡ paste_w im a ws → map_maxima (words im') s ≡ map_maxima (words im) s
map-entered im im' s a ws h l e = rw e (part-before im a ws (at.map_at s.variables) s.variables h (omega arith))

pub mapped_still : (im im' : List ℕ) (s : Shape) (a : ℕ) (ws : List ℕ) → Mapped im s → at.entries_at s.variables ≤ a → a ≤ at.size s → length im' ≡ length im → im' ≡ paste_w im a ws → Mapped im' s
mapped_still im im' s a ws M l h long e =
    record { range = M.range; room = omega (arith, M.room); map = rw (map-entered im im' s a ws (omega (arith, M.room)) l e) M.map }

pub slot-written : (im : List ℕ) (i m : ℕ) (bs a b : List ℕ) → m ≤ 64 → Lent m bs → 4 * (i + at.slot_width m) ≤ length im → a ≡ paste_w im i (words bs)
    → b ≡ paste_w a (i + length bs / 4) (zeros (at.slot_width m - length bs / 4)) → b ≡ paste_w im i (slot m (words bs))
unfolding slot
slot-written im i m bs a b few l h ea eb =
    let n = length-words bs in
    eb ∙ rw (ea, ← n) (paste_w-append im i (words bs) (i + length (words bs)) (zeros (at.slot_width m - length (words bs))) refl (omega (arith, lent_short m bs few l)))

pub masked-length : (m : ℕ) (xs ws rest : List ℕ) → length ws ≤ at.slot_width m → length (masked m xs ws rest) ≡ at.masked_width m + length rest
unfolding masked
masked-length m xs ws rest h = length-append (slot m ws) _ ∙ omega (arith, slot-length m ws h)

-- a slot, its mask and its vector, the two given as one number
pub masked-written : (im : List ℕ) (s : Shape) (i x : ℕ) (bs a b : List ℕ) → Mapped im s → Lent s.variables bs → i + at.masked_width s.variables ≤ at.size s
    → x ≡ mask s.variables (map_maxima (words im) s) (pow 1 (words bs)) + 4294967296 * vector s.variables (pow 1 (words bs)) → a ≡ paste_w im i (slot s.variables (words bs))
    → b ≡ put_w (put_w a (at.mask_at s.variables i) (x % 4294967296)) (at.mask_at s.variables i + 1) (x / 4294967296)
    → b ≡ paste_w im i (masked s.variables (map_maxima (words im) s) (words bs) [])
unfolding masked
masked-written im s i x bs a b M L h ex ea eb =
    let m = s.variables in
    let ws = words bs in
    let y = mask m (map_maxima (words im) s) (pow 1 ws) in
    let z = vector m (pow 1 ws) in
    let low : x % 4294967296 ≡ y = omega (arith, mask-small m (map_maxima (words im) s) (pow 1 ws)) in
    let high : x / 4294967296 ≡ z = omega (arith, mask-small m (map_maxima (words im) s) (pow 1 ws)) in
    let ls = slot-length m ws (lent_short m bs M.range.vars-to L) in
    let one : put_w a (at.mask_at m i) y ≡ paste_w im i (slot m ws ++ (y ∷ [])) = rw ea (paste_w-snoc im i (slot m ws) (at.mask_at m i) y (omega arith) (omega (arith, M.room))) in
    let l1 : length (slot m ws ++ (y ∷ [])) ≡ m + 2 = length-append (slot m ws) _ ∙ omega arith in
    eb ∙ rw (low, one, high) (paste_w-snoc im i (slot m ws ++ (y ∷ [])) (at.mask_at m i + 1) z (omega arith) (omega (arith, M.room)))
    ∙ ap (paste_w im i) (append_assoc (slot m ws) (y ∷ []) (z ∷ []))

pub gcd-written : (im : List ℕ) (i m : ℕ) (xs ws a b : List ℕ) (x : ℕ) → 4 * at.gcd_at i ≤ length im → x ≡ mask m xs (pow 1 ws) → a ≡ put_w im (at.node_mask_at i) x
    → b ≡ paste_w a (at.gcd_at i) (slot m ws) → b ≡ paste_w im (at.node_mask_at i) (gcd_words m xs ws)
unfolding gcd_words
gcd-written im i m xs ws a b x l ex ea eb =
    eb ∙ rw (ea, put_w-paste im (at.node_mask_at i) x (omega arith), ex) (paste_w-append im (at.node_mask_at i) (mask m xs (pow 1 ws) ∷ []) (at.gcd_at i) (slot m ws) (omega arith) (omega arith))

-- ---- the row of an entry, written piece by piece
pub record AtRow (im : List ℕ) (s : Shape) (i : ℕ) : Type 0 where
  pub mapped : Mapped im s
  pub behind : at.entries_at s.variables ≤ i
  pub inside : i + at.width_of 1 s.variables ≤ at.size s

module _ (im a b : List ℕ) (s : Shape) (i ix : ℕ) (lm : List ℕ) (R : AtRow im s i) (long-a : length a ≡ length im) (long-b : length b ≡ length a)
    (ea : a ≡ paste_w im i (masked s.variables (map_maxima (words im) s) lm [])) (eb : b ≡ put_w a (i + (s.variables + 3)) ix) where
  abbrev p : ℕ
  p = i + (s.variables + 3)

  index-entered : b ≡ paste_w a p (ix ∷ [])
  index-entered = eb ∙ put_w-paste a p ix (omega (arith, R.mapped.room, R.inside))

  -- the map is as it was when the lm and the index are written
  pub map-between : map_maxima (words b) s ≡ map_maxima (words im) s
  map-between =
      map-entered a b s p (ix ∷ []) (omega (arith, R.mapped.room, R.inside)) (omega (arith, R.behind)) index-entered
      ∙ map-entered im a s i _ (omega (arith, R.mapped.room, R.inside)) R.behind ea

  pub mapped_between : Mapped b s
  mapped_between = record { range = R.mapped.range; room = omega (arith, R.mapped.room); map = rw map-between R.mapped.map }

  pub ratio-row-written : (c d sign : List ℕ) (row : ℕ) → length sign ≤ at.slot_width s.variables → length lm ≤ at.slot_width s.variables
      → c ≡ paste_w b (i + (s.variables + 4)) (masked s.variables (map_maxima (words b) s) sign []) → d ≡ put_w c (i + (2 * s.variables + 7)) row
      → d ≡ paste_w im i (masked s.variables (map_maxima (words im) s) lm (ix ∷ masked s.variables (map_maxima (words im) s) sign (row ∷ [])))
  unfolding masked
  ratio-row-written c d sign row hs hl ec ed =
      let m = s.variables in
      let xs = map_maxima (words im) s in
      let u1 = slot m lm ++ (mask m xs (pow 1 lm) ∷ vector m (pow 1 lm) ∷ []) in
      let v = slot m sign ++ (mask m xs (pow 1 sign) ∷ vector m (pow 1 sign) ∷ []) in
      let l1 : length u1 ≡ m + 3 = length-append (slot m lm) _ ∙ omega (arith, slot-length m lm hl) in
      let lv : length v ≡ m + 3 = length-append (slot m sign) _ ∙ omega (arith, slot-length m sign hs) in
      let u2 = u1 ++ (ix ∷ []) in
      let l2 : length u2 ≡ m + 4 = length-append u1 _ ∙ omega arith in
      let u3 = u2 ++ v in
      let l3 : length u3 ≡ 2 * m + 7 = length-append u2 v ∙ omega arith in
      let h : 4 * (i + at.width_of 1 m) ≤ length im = omega (arith, R.mapped.room, R.inside) in
      let b2 : b ≡ paste_w im i u2 = eb ∙ rw ea (paste_w-snoc im i u1 (i + (m + 3)) ix (omega arith) (omega arith)) in
      let c3 : c ≡ paste_w im i u3 = rw map-between at ec ∙ rw b2 (paste_w-append im i u2 (i + (m + 4)) v (omega arith) (omega arith)) in
      let d4 : d ≡ paste_w im i (u3 ++ (row ∷ [])) = ed ∙ rw c3 (paste_w-snoc im i u3 (i + (2 * m + 7)) row (omega arith) (omega arith)) in
      d4 ∙ ap (paste_w im i) (simp append_assoc)
