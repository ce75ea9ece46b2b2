-- Monomials written one behind the other. Assumes nothing.
use mathlib.Core.Path.{◌≡◌, refl, sym, ap, ◌∙◌}
use mathlib.Core.List.{List, [], ◌∷◌, ◌++◌, append_assoc, append-nil}
use Prim.Native.Nat.{ℕ, suc, ◌+◌, ◌-◌, ◌*◌, ◌≤◌, ◌<◌}
use native.Mathlib.Omega.{arith}
use lib.ListN.{length, get_or, take, drop, length-append, length-drop}
use borrow.Rule.Slice.PartMut.{put_mid}
use Rattle.words.specs.Words.{words, paste_w}
use Rattle.words.specs.Tables.{part}
use Rattle.words.proofs.Laws.{length-paste_w, paste_w-nil, paste_w-part}
use Rattle.words.proofs.Tables.{length_part, part-nil, part-add, part-snoc, paste_w-append}
use Rattle.monomial.specs.Monomial.{to_end}
use Rattle.monomial.proofs.Canon.{front-short}
use Rattle.monomial.proofs.Ends.{front_ends}
use Rattle.monomial.proofs.Laws.{front-canonical}
use Rattle.monomial.proofs.Powers.{canonical-length}
use Rattle.index_theory.specs.Listing.{monomials_at}
use Rattle.index_image.specs.Shape as at
use Rattle.index_image.specs.Rows.{monomial_in, Taken, entries_from}
use Rattle.index_image.specs.Walk.{lm_length, lm_in, Ready}
use Rattle.index_image.specs.declared.Shape.{Shape}
use Rattle.index_image.proofs.Places.{entry-at-place, place-fits, place-room}
use Rattle.listing.specs.Listed.{lms}

pub at-append : (f : ℕ → List ℕ) (a b : List ℕ) → monomials_at f (a ++ b) ≡ monomials_at f a ++ monomials_at f b
unfolding monomials_at
at-append f [] b = refl
at-append f (x ∷ a) b = ap (λ (z : List ℕ). f x ++ z) (at-append f a b) ∙ sym (append_assoc (f x) (monomials_at f a) (monomials_at f b))

at_one : (f : ℕ → List ℕ) (e : ℕ) → monomials_at f (e ∷ []) ≡ f e
unfolding monomials_at
at_one f e = append-nil (f e)

at_none : (f : ℕ → List ℕ) → monomials_at f [] ≡ []
unfolding monomials_at
at_none f = refl

pub at-ext : (f g : ℕ → List ℕ) (es : List ℕ) → ((i : ℕ) → i < length es → f (get_or es i 0) ≡ g (get_or es i 0)) → monomials_at f es ≡ monomials_at g es
unfolding monomials_at
at-ext f g [] h = refl
at-ext f g (e ∷ es) h = rw (h 0 (omega arith), at-ext f g es (λ i l. h (suc i) (omega arith)))

-- ---- words written behind the first n: `&mut out[4 * n..]` was lent and came back
pub behind : (out out' a b ys : List ℕ) (n k : ℕ) → out' ≡ paste_w out 0 a → n ≡ length a → k ≡ length out' - 4 * n → 4 * length (a ++ b) ≤ length out → ys ≡ paste_w (take k (drop (4 * n) out')) 0 b
    → put_mid (4 * n) k out' ys ≡ paste_w out 0 (a ++ b)
behind out out' a b ys n k eo en ek h ey =
    let l = length-append a b in
    let lo : length out' ≡ length out = ap length eo ∙ length-paste_w out 0 a (omega arith) in
    let e : n + 0 ≡ 0 + length a = omega arith in
    rw ey (paste_w-part out' n k 0 b (omega arith) (omega arith) ∙ rw (e, eo) (paste_w-append out 0 a (0 + length a) b refl (omega arith)))

-- n words are written at the front: the monomials of the first i entries from place lo on
pub record Written (W : List ℕ) (s : Shape) (lo : ℕ) (out₀ out : List ℕ) (n i : ℕ) : Type 0 where
  pub long : n ≡ length (lms W s (entries_from W s lo i))
  pub bytes : out ≡ paste_w out₀ 0 (lms W s (entries_from W s lo i))
  pub same : length out ≡ length out₀

-- ---- the monomial of an entry
module _ (bs : List ℕ) (s : Shape) (R : Ready (words bs) s) where
  abbrev W : List ℕ
  W = words bs

  pub lm-held : (e a : ℕ) (r : List ℕ) → a ≡ at.lm_at s e → Taken r (monomial_in W s.variables a) → length r ≡ 4 * length (lm_in W s e)
  unfolding lm_in monomial_in
  lm-held e a r ea t = rw ea at t.long

  -- it goes from the entry's place up to the first end word
  lm-long : (e : ℕ) → e < s.entries → length (lm_in W s e) ≡ lm_length W s e
  unfolding lm_in
  lm-long e h =
      let some = R.lms e h in
      let l = front-short 1 s.variables 0 (drop (at.lm_at s e) W) in
      length_part W (at.lm_at s e) (lm_length W s e) (omega (arith, some, l, length-drop (at.lm_at s e) W))

  module _ (e a : ℕ) (h : e < s.entries) (ea : a ≡ at.lm_at s e) where
    pub lm-to-end : to_end 0 (drop a W) ≡ length (lm_in W s e)
    lm-to-end = rw ea (sym (front_ends 1 s.variables 0 (drop (at.lm_at s e) W) (R.lms e h)) ∙ sym (lm-long e h))

    pub lm-some : 0 < to_end 0 (drop a W)
    lm-some =
        let some = R.lms e h in
        omega (arith, some, lm-long e h, lm-to-end)

    pub lm-part : (n : ℕ) → n ≡ to_end 0 (drop a W) → part W a n ≡ lm_in W s e
    unfolding lm_in
    lm-part n en = rw ea (ap (part W (at.lm_at s e)) (en ∙ lm-to-end ∙ lm-long e h))

  pub lm-short : (e : ℕ) → e < s.entries → length (lm_in W s e) ≤ 65
  unfolding lm_in part
  lm-short e h =
      let d = drop (at.lm_at s e) W in
      omega (arith, canonical-length 1 s.variables _ (omega arith) (omega (arith, R.range.vars-to)) (front-canonical 1 s.variables d (omega arith) (R.lms e h)), R.range.vars-to)

  -- ---- the entries from place lo on, one after the other
  pub places_lent : 4 * (at.permutation_at s + s.entries) ≤ length bs
  places_lent = place-room bs s R s.entries (omega arith)

  pub none_yet : (lo : ℕ) → lms W s (entries_from W s lo 0) ≡ []
  none_yet lo = rw (part-nil W (at.permutation_at s + lo)) (at_none (lm_in W s))

  pub record Next (lo i x : ℕ) : Type 0 where
    pub small : x < s.entries
    pub more : lms W s (entries_from W s lo (i + 1)) ≡ lms W s (entries_from W s lo i) ++ lm_in W s x
    pub long : length (lms W s (entries_from W s lo (i + 1))) ≡ length (lms W s (entries_from W s lo i)) + length (lm_in W s x)

  pub next : (lo i p x : ℕ) → p ≡ at.permutation_at s + lo + i → lo + i < s.entries → x ≡ get_or W p 0 → Next lo i x
  next lo i p x ep h ex =
      let q = entry-at-place W s R lo i p x (omega arith) h ex in
      let fit : at.permutation_at s + lo + i < length W = omega (arith, place-fits W s R (lo + i + 1) (omega arith)) in
      let more : lms W s (entries_from W s lo (i + 1)) ≡ lms W s (entries_from W s lo i) ++ lm_in W s x =
      ap (monomials_at (lm_in W s)) (part-snoc W (at.permutation_at s + lo) i fit ∙ rw q.is)
      ∙ at-append (lm_in W s) (entries_from W s lo i) (x ∷ []) ∙ ap (λ (z : List ℕ). lms W s (entries_from W s lo i) ++ z) (at_one (lm_in W s) x) in
      record { small = q.small; more = more; long = ap length more ∙ length-append (lms W s (entries_from W s lo i)) (lm_in W s x) }

  pub front-shorter : (lo i c : ℕ) → i ≤ c → length (lms W s (entries_from W s lo i)) ≤ length (lms W s (entries_from W s lo c))
  front-shorter lo i c h =
      let a = entries_from W s lo i in
      let b = part W (at.permutation_at s + lo + i) (c - i) in
      let e : c ≡ i + (c - i) = omega arith in
      let all : lms W s (entries_from W s lo c) ≡ lms W s a ++ lms W s b =
      ap (λ (n : ℕ). lms W s (entries_from W s lo n)) e ∙ ap (monomials_at (lm_in W s)) (part-add W (at.permutation_at s + lo) i (c - i)) ∙ at-append (lm_in W s) a b in
      omega (arith, ap length all, length-append (lms W s a) (lms W s b))

  -- ---- a leaf's monomials, written one behind the other
  pub written-none : (lo : ℕ) (out : List ℕ) → Written W s lo out out 0 0
  written-none lo out = record { long = sym (ap length (none_yet lo)); bytes = sym (ap (paste_w out 0) (none_yet lo) ∙ paste_w-nil out 0); same = refl }

  module _ {lo c : ℕ} {out₀ : List ℕ} (fits : 4 * length (lms W s (entries_from W s lo c)) ≤ length out₀) {out : List ℕ} {n i : ℕ} (w : Written W s lo out₀ out n i) where
    pub written-inside : i ≤ c → 4 * n ≤ length out
    written-inside h = omega (arith, w.long, w.same, front-shorter lo i c h, fits)

    module _ (l : i < c) {x : ℕ} (e : Next lo i x) where
      pub written-room : 4 * (n + length (lm_in W s x)) ≤ length out
      written-room = omega (arith, w.long, w.same, e.long, front-shorter lo (i + 1) c (omega arith), fits)

      pub written-more : (k m : ℕ) (ys : List ℕ) → k ≡ length out - 4 * n → m ≡ length (lm_in W s x) → ys ≡ paste_w (take k (drop (4 * n) out)) 0 (lm_in W s x)
          → Written W s lo out₀ (put_mid (4 * n) k out ys) (n + m) (i + 1)
      written-more k m ys ek em ey =
          let p = lms W s (entries_from W s lo i) in
          let b : put_mid (4 * n) k out ys ≡ paste_w out₀ 0 (lms W s (entries_from W s lo (i + 1))) =
          behind out₀ out p (lm_in W s x) ys n k w.bytes w.long ek (omega (arith, length-append p (lm_in W s x), written-room, w.long, w.same)) ey
          ∙ ap (paste_w out₀ 0) (sym e.more) in
          record {
            long = omega (arith, e.long, w.long);
            bytes = b;
            same = ap length b ∙ length-paste_w out₀ 0 (lms W s (entries_from W s lo (i + 1))) (omega (arith, e.long, written-room, w.long, w.same));
          }
