-- What the tests on entries and rows answer, from what they read. Assumes nothing.
use mathlib.Core.Path.{◌≡◌, refl, sym, ap, ◌∙◌}
use mathlib.Core.Bool.{true}
use mathlib.Core.List.{List, [], ◌∷◌, ◌++◌}
use Prim.Native.Nat.{ℕ, zero, suc, ◌+◌, ◌*◌, ◌≤◌, ◌<◌}
use native.Mathlib.Omega.{arith}
use lib.ListN.{length, get_or, take, drop, length-take, length-drop}
use lib.Seq.{take_at}
use Rattle.words.specs.Words.{words, bytes, put_w, paste_w}
use Rattle.words.specs.Tables.{part}
use Rattle.words.proofs.Laws.{Bytes, Words, length-words, length-bytes, words_take, words-part, words-bytes, paste_w-front, put_w-paste}
use Rattle.words.proofs.Tables.{length_part, part-nil, part-one, part-snoc, paste-own}
use Rattle.monomial.specs.Monomial.{front, found, Canonical, Starts, first}
use Rattle.monomial.specs.Operations.{result_words, divides}
use Rattle.monomial.specs.declared.ordered_ops.Op.TheVariants.{Gcd}
use Rattle.monomial.proofs.Canon.{front-short}
use Rattle.monomial.proofs.Powers.{canonical-length}
use Rattle.monomial.proofs.Laws.{canonical-more, result-small, length-result, gcd-divided}
use Rattle.fast_compare.specs.Layout as labels
use Rattle.index_image.specs.declared.Shape.{Shape}
use Rattle.index_image.specs.Shape as at
use Rattle.index_image.specs.Layout.{gcd_of}
use Rattle.index_image.specs.Walk.{lm_length, lm_in, power, label, Ready}
use Rattle.index_image.specs.Rows.{monomial_in, Taken, Begins}
use Rattle.monomial.proofs.Firsts.{first_part}
use Rattle.index_image.proofs.Slots.{rest, rest-words}
use Rattle.index_image.proofs.Gcds.{lm-is, lm-canonical, lm-powers, Powers, image-powers, gcd-none, gcd-one, gcd-more, gcd-words, gcd-canonical}

-- ---- monomials
pub taken : (bs : List ℕ) (m g : ℕ) (r : List ℕ) → r ≡ found 1 m bs g → Taken r (monomial_in (words bs) m g)
unfolding found monomial_in part
taken bs m g r e =
    let n = front 1 m 0 (drop g (words bs)) in
    record {
      is = ap words e ∙ words-part bs g n (4 * n) refl;
      long = ap length e ∙ simp (length-take, length-drop) (omega (arith, front-short 1 m 0 (drop g (words bs)), length-drop g (words bs), length-words bs));
    }

pub begins : (bs : List ℕ) (m g x : ℕ) → x ≡ 4 * g → (front 1 m 0 (drop g (words bs)) ≡ 0 → ⊥) → Begins m (rest bs x) (monomial_in (words bs) m g)
unfolding monomial_in
begins bs m g x e h =
    let st : Starts 1 m (drop g (words bs)) = record { some = h } in
    let w : words (rest bs x) ≡ drop g (words bs) = rest-words bs x g e in
    record { starts = rw w st; is = ap (first 1) w ∙ first_part (words bs) g st }

-- the words that were pasted at the front
pub front-pasted : (bs ws : List ℕ) (r : ℕ) → Words ws → r ≡ length ws → words (take (4 * r) (paste_w bs 0 ws)) ≡ ws
front-pasted bs ws r h e =
    rw (paste_w-front bs ws, take_at (bytes ws) (drop (4 * length ws) bs) (4 * r) (omega (arith, length-bytes ws))) (words-bytes ws h)

pub pasted : (bs ws : List ℕ) (r : ℕ) → Words ws → r ≡ length ws → part (words (paste_w bs 0 ws)) 0 r ≡ ws
unfolding part
pasted bs ws r h e = sym (words_take (paste_w bs 0 ws) r) ∙ front-pasted bs ws r h e

pub front-words : (bs : List ℕ) (n : ℕ) → words (take (4 * n) bs) ≡ part (words bs) 0 n
unfolding part
front-words bs n = words_take bs n

-- ---- the gcd of two monomials in at most 64 variables
module _ (a b : List ℕ) (ca : Canonical 1 64 a) (cb : Canonical 1 64 b) where
  pub gcd-fits : length (result_words Gcd a b) ≤ 65
  gcd-fits = length-result 64 a b ca cb Gcd (omega arith)

  pub gcd-small : Words (result_words Gcd a b)
  gcd-small = result-small 64 a b ca cb Gcd

-- bytes whose first n words are a monomial hold its gcd with a multiple of it
pub record AtFront (acc : List ℕ) (n : ℕ) (ws : List ℕ) : Type 0 where
  pub long : n ≡ length ws
  pub kept : acc ≡ paste_w acc 0 ws

pub gcd-held : (acc : List ℕ) (n : ℕ) (b : List ℕ) → Bytes acc → 4 * n ≤ length acc → Canonical 1 64 (part (words acc) 0 n) → Canonical 1 64 b
    → divides (part (words acc) 0 n) b ≡ true → AtFront acc n (result_words Gcd (part (words acc) 0 n) b)
gcd-held acc n b by room ca cb d =
    let e : result_words Gcd (part (words acc) 0 n) b ≡ part (words acc) 0 n = gcd-divided 64 (part (words acc) 0 n) b ca cb (omega arith) d in
    rw e (record { long = sym (length_part (words acc) 0 n (omega (arith, length-words acc))); kept = sym (paste-own acc n by room) })

-- ---- one entry
pub label-at : (W : List ℕ) (s : Shape) (e a r l x : ℕ) → a ≡ at.entry_at s e → r ≡ get_or W (at.row_from s.variables a) 0 → l ≡ at.labels_at s
    → x ≡ get_or W (l + (labels.row_at s.variables r + at.label_in s.variables)) 0 → x ≡ label W s e
unfolding label
label-at W s e a r l x ea er el ex = ex ∙ rw (el, er, ea)

pub lm-read : (W : List ℕ) (s : Shape) (e a : ℕ) (ws : List ℕ) → a ≡ at.entry_at s e → ws ≡ monomial_in W s.variables a → ws ≡ lm_in W s e
lm-read W s e a ws ea ew = ew ∙ rw ea (sym (lm-is W s e))

-- ---- the gcd of some entries, one after the other
pub record Folding (W : List ℕ) (s : Shape) (q c : ℕ) (acc : List ℕ) (n i : ℕ) : Type 0 where
  pub from : 1 ≤ i
  pub to : i ≤ c
  pub room : length acc ≡ 260
  pub few : n ≤ 65
  pub is : part (words acc) 0 n ≡ gcd_of (power W s) (part W q i)

module _ (W : List ℕ) (s : Shape) (R : Ready W s) where
  abbrev few : s.variables ≤ 64
  few = R.range.vars-to

  abbrev P : Powers s.variables (power W s)
  P = image-powers W s R.range.vars-to

  pub fold-none : (q c : ℕ) (acc : List ℕ) → 4 ≤ length acc → c ≡ 0 → (acc' : List ℕ) → acc' ≡ put_w acc 0 0 → part (words acc') 0 1 ≡ gcd_of (power W s) (part W q c)
  fold-none q c acc l z acc' e =
      rw (e, z, part-nil W q, gcd-none s.variables (power W s) P, put_w-paste acc 0 0 (omega arith)) (pasted acc (0 ∷ []) 1 (λ k. zero_word k) refl)
    where
      zero_word : Words (0 ∷ [])
      zero_word zero = omega arith
      zero_word (suc k) = omega arith

  pub fold-canonical : (q c : ℕ) (acc : List ℕ) (n i : ℕ) → Folding W s q c acc n i → Canonical 1 64 (part (words acc) 0 n)
  fold-canonical q c acc n i f = rw f.is (canonical-more (omega arith) few (gcd-canonical s.variables (power W s) P (part W q i)))

  module _ (q c : ℕ) (fits : q + c ≤ length W) (e : ℕ) (some : lm_length W s e ≡ 0 → ⊥) where
    pub lm-64 : (ws : List ℕ) → ws ≡ lm_in W s e → Canonical 1 64 ws
    lm-64 ws ew = rw ew (canonical-more (omega arith) few (lm-canonical W s e some))

    alone : gcd_of (power W s) (e ∷ []) ≡ lm_in W s e
    alone = gcd-one s.variables (power W s) P e (lm_in W s e) (lm-canonical W s e some) (λ v. lm-powers W s v e)

    -- the first entry
    pub fold-one : 1 ≤ c → e ≡ get_or W q 0 → (acc acc' ws : List ℕ) (n : ℕ) → length acc' ≡ 260 → ws ≡ lm_in W s e → n ≡ length ws → acc' ≡ paste_w acc 0 ws
        → Folding W s q c acc' n 1
    fold-one h ee acc acc' ws n l' ew en ea =
        let on : part W q 1 ≡ e ∷ [] = part-one W q (omega arith) ∙ ap (λ (x : ℕ). x ∷ []) (sym ee) in
        let sm : Words ws = rw (ew ∙ sym alone) (gcd-words s.variables (power W s) P (e ∷ [])) in
        let pa : part (words acc') 0 n ≡ ws = rw ea (pasted acc ws n sm en) in
        record {
          from = omega arith;
          to = h;
          room = l';
          few = omega (arith, canonical-length 1 s.variables (lm_in W s e) (omega arith) (omega (arith, few)) (lm-canonical W s e some), ap length ew);
          is = pa ∙ ew ∙ sym alone ∙ ap (gcd_of (power W s)) (sym on);
        }

    -- one more
    pub fold_more : (acc : List ℕ) (n i : ℕ) → Folding W s q c acc n i → i < c → e ≡ get_or W (q + i) 0 → (acc' ws : List ℕ) (n' : ℕ)
        → length acc' ≡ 260 → ws ≡ lm_in W s e
        → n' ≡ length (result_words Gcd (part (words acc) 0 n) ws) → acc' ≡ paste_w acc 0 (result_words Gcd (part (words acc) 0 n) ws) → Folding W s q c acc' n' (i + 1)
    fold_more acc n i f h ee acc' ws n' l' ew en ea =
        let A = part (words acc) 0 n in
        let ca : Canonical 1 64 A = fold-canonical q c acc n i f in
        let cb : Canonical 1 64 ws = lm-64 ws ew in
        let li : length (part W q i) ≡ i = length_part W q i (omega (arith, f.to)) in
        let pa : part (words acc') 0 n' ≡ result_words Gcd A ws = rw ea (pasted acc (result_words Gcd A ws) n' (gcd-small A ws ca cb) en) in
        let ga : result_words Gcd A ws ≡ gcd_of (power W s) (part W q i ++ e ∷ []) =
        rw (f.is, ew) (gcd-more s.variables (power W s) P (part W q i) e (lm_in W s e) (omega (arith, f.from)) (lm-canonical W s e some)
        (λ v. lm-powers W s v e)) in
        let sn : part W q (i + 1) ≡ part W q i ++ (e ∷ []) = part-snoc W q i (omega arith) ∙ rw ee in
        record {
          from = omega arith;
          to = omega arith;
          room = l';
          few = omega (arith, gcd-fits A ws ca cb);
          is = pa ∙ ga ∙ ap (gcd_of (power W s)) (sym sn);
        }
