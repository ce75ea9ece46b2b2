-- The laws of `specs/Tables.antt`: parts, tables, and words written over words. Assumes nothing.
use mathlib.Core.Path.{◌≡◌, refl, sym, ap, ◌∙◌}
use mathlib.Core.Bool.{true, false}
use mathlib.Core.List.{List, [], ◌∷◌, ◌++◌, append_assoc, append-nil}
use mathlib.Core.Logic.{◌↔◌}
use Prim.Native.Nat.{ℕ, zero, suc, ◌+◌, ◌-◌, ◌*◌, ◌^◌, ◌≤◌, ◌<◌}
use native.Mathlib.Nat.{mul-le-mul_right, add-mul, suc-mul, zero-mul}
use native.Mathlib.Numerals.{add-one}
use native.Mathlib.Omega.{arith}
use native.Mathlib.Decide.{dec_le}
use lib.ListN.{length, get_or, take, drop, length-append, length-take, length-drop, take-append-drop}
use lib.Bits.{bit_or, or_add_and, and_le_l, and_le_r}
use lib.Seq.{take_at, drop_at, take-add, drop-drop, drop-cons, get_or-take, get_or-drop, drop-append-le, take-append-le, drop-append-add, take-append-add, take-take, length-take-le}
use Rattle.words.specs.Words.{words, bytes, put_w, paste_w}
use Rattle.words.specs.Tables.{part, zeros, table, over}
use Rattle.words.proofs.Laws.{Bytes, Words, length-words, length-bytes, bytes-append, bytes-words, words_take, put_w-split}

pub never : {X : Type 0} → false ≡ true → X
never e = absurd (let z : ◌≡◌ {A = ℕ} 0 1 = cc in omega arith)

-- ---- parts
pub length_part : (W : List ℕ) (at n : ℕ) → at + n ≤ length W → length (part W at n) ≡ n
unfolding part
length_part W at n h = simp (length-take, length-drop) (omega arith)

-- word j of a part is word at + j of the whole
pub part-get : (W : List ℕ) (at n j : ℕ) → j < n → get_or (part W at n) j 0 ≡ get_or W (at + j) 0
unfolding part
part-get W at n j h = rw (get_or-take n (drop at W) j 0 h, get_or-drop)

pub part-nil : (W : List ℕ) (at : ℕ) → part W at 0 ≡ []
unfolding part
part-nil W at = refl

-- a part is its first word and the rest
pub part-cons : (W : List ℕ) (at n : ℕ) → at < length W → part W at (suc n) ≡ get_or W at 0 ∷ part W (at + 1) n
unfolding part
part-cons W at n h = rw (drop-cons W at 0 h, add-one)

pub part-one : (W : List ℕ) (at : ℕ) → at < length W → part W at 1 ≡ get_or W at 0 ∷ []
part-one W at h = part-cons W at 0 h ∙ rw (part-nil W (at + 1))

-- a part is two parts
pub part-add : (W : List ℕ) (at a b : ℕ) → part W at (a + b) ≡ part W at a ++ part W (at + a) b
unfolding part
part-add W at a b = rw (take-add a b (drop at W), drop-drop)

-- one word more at the end
pub part-snoc : (W : List ℕ) (at n : ℕ) → at + n < length W → part W at (n + 1) ≡ part W at n ++ (get_or W (at + n) 0 ∷ [])
part-snoc W at n h = part-add W at n 1 ∙ rw (part-one W (at + n) h)

pub same_left : (p q r s : List ℕ) → length p ≡ length r → p ++ q ≡ r ++ s → p ≡ r
same_left p q r s h e = sym (take_at p q (length p) refl) ∙ ap (take (length p)) e ∙ take_at r s (length p) (sym h)

pub same-right : (p q r s : List ℕ) → length p ≡ length r → p ++ q ≡ r ++ s → q ≡ s
same-right p q r s h e = sym (drop_at p q (length p) refl) ∙ ap (drop (length p)) e ∙ drop_at r s (length p) (sym h)

-- what stands there is u and then v exactly when u stands in the one part and v in the next
pub part-append : (W : List ℕ) (at a b : ℕ) (u v : List ℕ) → at + a ≤ length W → length u ≡ a
    → (part W at (a + b) ≡ u ++ v) ↔ ((part W at a ≡ u) × (part W (at + a) b ≡ v))
part-append W at a b u v h l = (
  λ (e : part W at (a + b) ≡ u ++ v).
      let z : part W at a ++ part W (at + a) b ≡ u ++ v = sym (part-add W at a b) ∙ e in
      let k : length (part W at a) ≡ length u = length_part W at a h ∙ sym l in
      (same_left (part W at a) (part W (at + a) b) u v k z, same-right (part W at a) (part W (at + a) b) u v k z),
  λ (e : (part W at a ≡ u) × (part W (at + a) b ≡ v)). part-add W at a b ∙ rw (e.0, e.1),
)

-- part of a list that is in three pieces
pub part-mid : (a b c : List ℕ) (at n : ℕ) → length a ≡ at → length b ≡ n → part (a ++ (b ++ c)) at n ≡ b
unfolding part
part-mid a b c at n h k = rw (drop_at a (b ++ c) at h, take_at b c n k)

-- ---- zeros
pub length-zeros : (n : ℕ) → length (zeros n) ≡ n
unfolding zeros
length-zeros zero = refl
length-zeros (suc n) = ap suc (length-zeros n)

pub zeros-nil : zeros 0 ≡ []
unfolding zeros
zeros-nil = refl

pub zeros-suc : (n : ℕ) → zeros (suc n) ≡ 0 ∷ zeros n
unfolding zeros
zeros-suc n = refl

pub zeros-add : (a b : ℕ) → zeros (a + b) ≡ zeros a ++ zeros b
unfolding zeros
zeros-add zero b = let e : 0 + b ≡ b = omega arith in rw e
zeros-add (suc a) b = let e : suc a + b ≡ suc (a + b) = omega arith in rw (e, zeros-add a b)

pub zeros-get : (n i : ℕ) → get_or (zeros n) i 0 ≡ 0
unfolding zeros
zeros-get zero i = refl
zeros-get (suc n) zero = refl
zeros-get (suc n) (suc i) = zeros-get n i

-- ---- tables
pub length-table : (n w : ℕ) (f : ℕ → List ℕ) → ((i : ℕ) → i < n → length (f i) ≡ w) → length (table n f) ≡ n * w
unfolding table
length-table zero w f h = omega arith
length-table (suc n) w f h =
    simp length-append (omega (arith, length-table n w f (λ i l. h i (omega arith)), h n (omega arith), suc-mul n w))

-- row i of a table is where it should be, for each i
pub table-iff : (W : List ℕ) (at n w : ℕ) (f : ℕ → List ℕ) → at + n * w ≤ length W → ((i : ℕ) → i < n → length (f i) ≡ w)
    → (part W at (n * w) ≡ table n f) ↔ ((i : ℕ) → i < n → part W (at + i * w) w ≡ f i)
unfolding table
table-iff W at zero w f h l = (λ (e : part W at (0 * w) ≡ []). λ i k. absurd (omega arith), λ k. rw zero-mul (part-nil W at))
table-iff W at (suc n) w f h l =
    let e : suc n * w ≡ n * w + w = suc-mul n w in
    let ih = table-iff W at n w f (omega arith) (λ i k. l i (omega arith)) in
    let sp = part-append W at (n * w) w (table n f) (f n) (omega arith) (length-table n w f (λ i k. l i (omega arith))) in (
      λ (q : part W at (suc n * w) ≡ table n f ++ f n). λ i k.
          let z = sp.0 (rw e at q) in
          elim (dec_le n i) [
            | yes y ↦ let ei : i ≡ n = omega arith in rw ei z.1
            | no y ↦ ih.0 z.0 i (omega arith)
          ],
      λ (q : (i : ℕ) → i < suc n → part W (at + i * w) w ≡ f i). rw e (sp.1 (ih.1 (λ i k. q i (omega arith)), q n (omega arith))),
    )

pub table-agree : (n : ℕ) (f g : ℕ → List ℕ) → ((i : ℕ) → i < n → f i ≡ g i) → table n f ≡ table n g
unfolding table
table-agree zero f g h = refl
table-agree (suc n) f g h = rw (table-agree n f g (λ i k. h i (omega arith)), h n (omega arith))

pub table-suc : (n : ℕ) (f : ℕ → List ℕ) → table (suc n) f ≡ table n f ++ f n
unfolding table
table-suc n f = refl

-- row i of n rows of w words ends within them
pub row_fits : (i n w : ℕ) → i < n → i * w + w ≤ n * w
row_fits i n w h = omega (arith, mul-le-mul_right {m = suc i} {n = n} w h, suc-mul i w)

-- the first a of b rows, and the others
pub split_rows : (a b w : ℕ) → a ≤ b → a * w + (b - a) * w ≡ b * w
split_rows a b w h =
    let e : b ≡ a + (b - a) = omega arith in
    let m : (a + (b - a)) * w ≡ a * w + (b - a) * w = add-mul a (b - a) w in
    sym (ap (λ (z : ℕ). z * w) e ∙ m)

-- ---- words written over words
pub length_over : (W : List ℕ) (at : ℕ) (ws : List ℕ) → at + length ws ≤ length W → length (over W at ws) ≡ length W
unfolding over
length_over W at ws h = simp (length-append, length-take, length-drop) (omega arith)

-- the piece b of three is replaced
pub over-mid : (a b c d : List ℕ) (at : ℕ) → length a ≡ at → length d ≡ length b → over (a ++ (b ++ c)) at d ≡ a ++ (d ++ c)
unfolding over
over-mid a b c d at h k =
    let e : at + length d ≡ length a + length b = omega arith in
    rw (take_at a (b ++ c) at h, e, drop-append-add a (b ++ c) (length b), drop_at b c (length b) refl)

-- words written within the piece b of three
pub over-inside : (a b c ws : List ℕ) (at t : ℕ) → at ≡ length a + t → t + length ws ≤ length b → over (a ++ (b ++ c)) at ws ≡ a ++ (over b t ws ++ c)
unfolding over
over-inside a b c ws at t e h =
    let d : at + length ws ≡ length a + (t + length ws) = omega arith in
    rw (e, take-append-add a (b ++ c) t, take-append-le t b c (omega arith))
    (rw (← e, d, drop-append-add a (b ++ c) (t + length ws), drop-append-le (t + length ws) b c h) (simp append_assoc))

-- words written over the whole piece
pub over-all : (b ws : List ℕ) → length ws ≡ length b → over b 0 ws ≡ ws
over-all b ws h = ap (λ (l : List ℕ). over l 0 ws) (sym (append-nil b)) ∙ over-mid [] b [] ws 0 refl h ∙ append-nil ws

-- a row of a table written anew
pub over-table : (n w j t : ℕ) (f g : ℕ → List ℕ) (ws : List ℕ) → j < n → ((i : ℕ) → i < n → length (f i) ≡ w) → ((i : ℕ) → i < n → (i ≡ j → ⊥) → f i ≡ g i) → g j ≡ over (f j) t ws
    → t + length ws ≤ w → over (table n f) (j * w + t) ws ≡ table n g
unfolding table
over-table zero w j t f g ws h l e k r = absurd (omega arith)
over-table (suc n) w j t f g ws h l e k r =
    let lt : length (table n f) ≡ n * w = length-table n w f (λ i q. l i (omega arith)) in
    elim (dec_le n j) [
      | yes y ↦
          let ej : j ≡ n = omega arith in
          let same : table n f ≡ table n g = table-agree n f g (λ i q. e i (omega arith) (λ z. omega arith)) in
          let p : j * w + t ≡ length (table n f) + t = rw (ej, lt) in
          ap (λ (z : List ℕ). over (table n f ++ z) (j * w + t) ws) (sym (append-nil (f n)))
          ∙ over-inside (table n f) (f n) [] ws (j * w + t) t p (omega (arith, l n (omega arith)))
          ∙ rw (append-nil (over (f n) t ws), same) (ap (λ (z : List ℕ). table n g ++ z) (sym (rw ej at k)))
      | no y ↦
          let fit : j * w + t + length ws ≤ length (table n f) = omega (arith, row_fits j n w (omega arith)) in
          over-inside [] (table n f) (f n) ws (j * w + t) (j * w + t) (omega arith) fit
          ∙ rw (over-table n w j t f g ws (omega arith) (λ i q. l i (omega arith)) (λ i q. e i (omega arith)) k r, e n (omega arith) (λ z. omega arith))
    ]

-- one word more in front
pub paste_w-cons : (bs : List ℕ) (i : ℕ) (ws : List ℕ) (w : ℕ) → 4 * i + 4 + 4 * length ws ≤ length bs → put_w (paste_w bs (i + 1) ws) i w ≡ paste_w bs i (w ∷ ws)
unfolding paste_w
paste_w-cons bs i ws w h =
    let e4 : 4 * (i + 1) ≡ 4 * i + 4 = omega arith in
    let r = bytes ws ++ drop (4 * (i + 1) + 4 * length ws) bs in
    let p = take (4 * (i + 1)) bs in
    let lp : length p ≡ 4 * i + 4 = length-take-le (4 * (i + 1)) bs (omega arith) ∙ e4 in
    let full : 4 * i + 4 ≤ length (p ++ r) = rw (length-append) (omega arith) in
    let tk : take (4 * i) (p ++ r) ≡ take (4 * i) bs = take-append-le (4 * i) p r (omega arith) ∙ take-take (4 * i) (4 * (i + 1)) bs (omega arith) in
    let dr : drop (4 * i + 4) (p ++ r) ≡ r = drop_at p r (4 * i + 4) lp in
    let el : 4 * i + 4 * length (w ∷ ws) ≡ 4 * (i + 1) + 4 * length ws = omega arith in
    let wb : bytes (w ∷ ws) ≡ bytes (w ∷ []) ++ bytes ws = bytes-append (w ∷ []) ws in
    put_w-split (p ++ r) i w full ∙ rw (tk, dr, el, wb) (simp append_assoc)

-- ---- bytes and words
-- bytes with room hold their own first n words
pub paste-own : (bs : List ℕ) (n : ℕ) → Bytes bs → 4 * n ≤ length bs → paste_w bs 0 (part (words bs) 0 n) ≡ bs
unfolding paste_w part
paste-own bs n b h =
    let lp : length (take n (words bs)) ≡ n = length-take-le n (words bs) (omega (arith, length-words bs)) in
    let lt : length (take (4 * n) bs) ≡ 4 * n = length-take-le (4 * n) bs h in
    let small : Bytes (take (4 * n) bs) = λ k. elim (dec_le (4 * n) k) [
      | yes y ↦ rw (past k y lt) (omega arith)
      | no y ↦ rw (get_or-take (4 * n) bs k 0 (omega arith)) (b k)
    ] in
    let e : 4 * 0 + 4 * n ≡ 4 * n = omega arith in
    let own : bytes (take n (words bs)) ≡ take (4 * n) bs =
    ap bytes (sym (words_take bs n)) ∙ bytes-words (take (4 * n) bs) small (omega arith) in
    rw (lp, own, e) (take-append-drop (4 * n) bs)
  where
    out : (l : List ℕ) (k : ℕ) → length l ≤ k → get_or l k 0 ≡ 0
    out [] k h = refl
    out (x ∷ l) zero h = absurd (omega arith)
    out (x ∷ l) (suc k) h = out l k (omega arith)

    past : (k : ℕ) → 4 * n ≤ k → length (take (4 * n) bs) ≡ 4 * n → get_or (take (4 * n) bs) k 0 ≡ 0
    past k y l = out (take (4 * n) bs) k (omega arith)

-- words pasted within words pasted
pub paste-over : (bs E : List ℕ) (at : ℕ) (ws : List ℕ) → at + length ws ≤ length E → 4 * length E ≤ length bs
    → paste_w (paste_w bs 0 E) at ws ≡ paste_w bs 0 (over E at ws)
unfolding paste_w over
paste-over bs E at ws h k =
    let d = drop (4 * 0 + 4 * length E) bs in
    let a = take at E in
    let m = take (length ws) (drop at E) in
    let r = drop (at + length ws) E in
    let la : length a ≡ at = length-take-le at E (omega arith) in
    let lm : length m ≡ length ws = length-take-le (length ws) (drop at E) (rw length-drop (omega arith)) in
    let split : bytes E ≡ bytes a ++ (bytes m ++ bytes r) =
    ap bytes (sym (take-append-drop at E) ∙ ap (λ (l : List ℕ). a ++ l) (sym (take-append-drop (length ws) (drop at E)) ∙ rw (drop-drop (length ws) at E)))
    ∙ bytes-append a (m ++ r) ∙ rw (bytes-append m r) in
    let lo : length (a ++ (ws ++ r)) ≡ length E = length_over E at ws h in
    let e1 : 4 * at ≡ length (bytes a) = omega (arith, length-bytes a) in
    let e2 : 4 * at + 4 * length ws ≡ length (bytes a) + length (bytes m) = omega (arith, length-bytes a, length-bytes m) in
    let front : take (4 * at) (bytes E ++ d) ≡ bytes a =
    rw (split, append_assoc) (take_at (bytes a) ((bytes m ++ bytes r) ++ d) (4 * at) (sym e1)) in
    let back : drop (4 * at + 4 * length ws) (bytes E ++ d) ≡ bytes r ++ d =
    rw (split, append_assoc, e2, drop-append-add (bytes a) ((bytes m ++ bytes r) ++ d) (length (bytes m)), append_assoc) (drop_at (bytes m) (bytes r ++ d) (length (bytes m)) refl) in
    let wl : bytes (a ++ (ws ++ r)) ≡ bytes a ++ (bytes ws ++ bytes r) = bytes-append a (ws ++ r) ∙ rw (bytes-append ws r) in
    rw (front, back, lo, wl) (simp append_assoc)

-- an image pasted over an image
pub paste-again : (bs a b E F : List ℕ) → length E ≡ length F → 4 * length E ≤ length bs → a ≡ paste_w bs 0 E → b ≡ paste_w a 0 F → b ≡ paste_w bs 0 F
paste-again bs a b E F l h ea eb = eb ∙ rw ea (paste-over bs E 0 F (omega arith) h ∙ ap (paste_w bs 0) (over-all E F (sym l)))

-- ---- words that fit 32 bits; a record, so that the list is inferred
pub record Small (l : List ℕ) : Type 0 where
  pub each : Words l

both_small : (a b : List ℕ) → Words a → Words b → Words (a ++ b)
both_small [] b h k = k
both_small (x ∷ a) b h k = go (both_small a b (λ j. h (suc j)) k)
  where
    go : Words (a ++ b) → Words (x ∷ (a ++ b))
    go r zero = h 0
    go r (suc i) = r i

one-small : (x : ℕ) (l : List ℕ) → x < 2 ^ 32 → Words l → Words (x ∷ l)
one-small x l h k zero = h
one-small x l h k (suc i) = k i

pub small-append : {a b : List ℕ} → Small a → Small b → Small (a ++ b)
small-append {a} {b} h k = record { each = both_small a b h.each k.each }

pub small-nil : Small []
small-nil = record { each = λ i. omega arith }

pub small-cons : {x : ℕ} {l : List ℕ} → x < 2 ^ 32 → Small l → Small (x ∷ l)
small-cons {x} {l} h k = record { each = one-small x l h k.each }

pub small-zeros : (n : ℕ) → Small (zeros n)
small-zeros n = record { each = λ i. rw (zeros-get n i) (omega arith) }

pub small-table : (n : ℕ) (f : ℕ → List ℕ) → ((i : ℕ) → i < n → Small (f i)) → Small (table n f)
unfolding table
small-table zero f h = small-nil
small-table (suc n) f h = small-append (small-table n f (λ i k. h i (omega arith))) (h n (omega arith))

-- numbers that are small at each place
pub small-each : (l : List ℕ) → ((i : ℕ) → i < length l → get_or l i 0 < 2 ^ 32) → Small l
small-each [] h = small-nil
small-each (x ∷ l) h = small-cons (h 0 (omega arith)) (small-each l (λ i k. h (suc i) (omega arith)))

-- ---- a run of zeros, word by word
-- the words so far are 0
pub blank-more : (W : List ℕ) (at i : ℕ) → at + i < length W → part W at i ≡ zeros i → get_or W (at + i) 0 ≡ 0 → part W at (i + 1) ≡ zeros (i + 1)
blank-more W at i h e z = part-snoc W at i h ∙ rw (e, z) (sym (zeros-add i 1 ∙ rw (zeros-suc 0, zeros-nil)))

-- words joined by or are 0 where all of them are
or-zero : (a b : ℕ) → (bit_or a b ≡ 0) ↔ ((a ≡ 0) × (b ≡ 0))
or-zero a b = (
  λ (e : bit_or a b ≡ 0). (omega (arith, or_add_and a b, and_le_r a b), omega (arith, or_add_and a b, and_le_l a b)),
  λ h. omega (arith, or_add_and a b, h.0, h.1),
)

pub bits_none : (W : List ℕ) (at : ℕ) → (◌≡◌ {A = ℕ} 0 0) ↔ (part W at 0 ≡ zeros 0)
bits_none W at = (λ (e : ◌≡◌ {A = ℕ} 0 0). part-nil W at ∙ sym zeros-nil, λ e. refl)

pub bits-more : (W : List ℕ) (at i b w : ℕ) → at + i < length W → w ≡ get_or W (at + i) 0 → (b ≡ 0) ↔ (part W at i ≡ zeros i) → (bit_or b w ≡ 0) ↔ (part W at (i + 1) ≡ zeros (i + 1))
bits-more W at i b w h ew e = (
  λ (z : bit_or b w ≡ 0). let q = (or-zero b w).0 z in blank-more W at i h (e.0 q.0) (sym ew ∙ q.1),
  λ p. (or-zero b w).1 (
    e.1 (fewer p),
    ew ∙ sym (part-get W at (i + 1) i (omega arith)) ∙ ap (λ (l : List ℕ). get_or l i 0) p ∙ zeros-get (i + 1) i,
  ),
)
  where
    fewer : part W at (i + 1) ≡ zeros (i + 1) → part W at i ≡ zeros i
    fewer p =
        let a = (part-append W at i 1 (zeros i) (zeros 1) (omega arith) (length-zeros i)).0 (p ∙ zeros-add i 1) in
        a.0

-- words pasted behind words pasted
pub paste_w-append : (bs : List ℕ) (at : ℕ) (a : List ℕ) (i : ℕ) (b : List ℕ) → i ≡ at + length a → 4 * i ≤ length bs → paste_w (paste_w bs at a) i b ≡ paste_w bs at (a ++ b)
unfolding paste_w
paste_w-append bs at a i b e h =
    let p = take (4 * at) bs ++ bytes a in
    let q = drop (4 * at + 4 * length a) bs in
    let el : length p ≡ 4 * i = simp (length-append, length-take, length-bytes) (omega arith) in
    let e4 : 4 * at + 4 * length (a ++ b) ≡ 4 * at + 4 * length a + 4 * length b = simp length-append (omega arith) in
    let e5 : 4 * i + 4 * length b ≡ length p + 4 * length b = omega arith in
    let ed : drop (4 * i + 4 * length b) (p ++ q) ≡ drop (4 * at + 4 * length a + 4 * length b) bs =
    ap (λ (n : ℕ). drop n (p ++ q)) e5 ∙ drop-append-add p q (4 * length b) ∙ drop-drop (4 * length b) (4 * at + 4 * length a) bs in
    let ep : take (4 * at) bs ++ (bytes a ++ q) ≡ p ++ q = sym (append_assoc (take (4 * at) bs) (bytes a) q) in
    ap (λ (l : List ℕ). take (4 * i) l ++ (bytes b ++ drop (4 * i + 4 * length b) l)) ep
    ∙ rw (e4, take_at p q (4 * i) el, ed, bytes-append) (simp append_assoc)
