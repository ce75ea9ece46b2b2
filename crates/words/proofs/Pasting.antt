-- Words pasted into bytes: what stays, and what is pasted over again. Assumes nothing.
use mathlib.Core.Path.{◌≡◌, refl, sym, ap, ◌∙◌}
use mathlib.Core.List.{List, [], ◌∷◌, ◌++◌, append_assoc}
use Prim.Native.Nat.{ℕ, zero, suc, ◌+◌, ◌-◌, ◌*◌, ◌≤◌}
use native.Mathlib.Omega.{arith}
use native.Mathlib.Decide.{dec_le}
use lib.ListN.{length, get_or, take, drop, length-append, length-take, length-drop, take-append-drop, get_or-eq_default}
use lib.Seq.{take_at, drop_at, drop-drop, take-take, get_or-take, get_or-drop, drop-append-add, take-append-add, length-take-le}
use Rattle.words.specs.Words.{words, bytes, paste_w}
use Rattle.words.specs.Tables.{part, over}
use Rattle.words.proofs.Laws.{Bytes, Words, length-words, length-bytes, words_take, words-drop, bytes-words, words-part, words-paste_w}
use Rattle.words.proofs.Tables.{paste-over}

-- ---- words in front of and behind what is pasted
front_kept : (bs : List ℕ) (at : ℕ) (ws : List ℕ) → 4 * at ≤ length bs → take at (words (paste_w bs at ws)) ≡ take at (words bs)
unfolding paste_w
front_kept bs at ws h =
    sym (words_take (paste_w bs at ws) at)
    ∙ ap words (take_at (take (4 * at) bs) (bytes ws ++ drop (4 * at + 4 * length ws) bs) (4 * at) (length-take-le (4 * at) bs h))
    ∙ words_take bs at

part-take : (W : List ℕ) (c i n : ℕ) → i + n ≤ c → part (take c W) i n ≡ part W i n
unfolding part
part-take W c zero n h = take-take n c W (omega arith)
part-take [] zero (suc i) n h = refl
part-take [] (suc c) (suc i) n h = refl
part-take (x ∷ W) zero (suc i) n h = absurd (omega arith)
part-take (x ∷ W) (suc c) (suc i) n h = part-take W c i n (omega arith)

pub part-before : (bs : List ℕ) (at : ℕ) (ws : List ℕ) (i n : ℕ) → 4 * at ≤ length bs → i + n ≤ at → part (words (paste_w bs at ws)) i n ≡ part (words bs) i n
part-before bs at ws i n h l =
    sym (part-take (words (paste_w bs at ws)) at i n l) ∙ ap (λ (W : List ℕ). part W i n) (front_kept bs at ws h) ∙ part-take (words bs) at i n l

drop-kept : (bs : List ℕ) (at : ℕ) (ws : List ℕ) (i : ℕ) → at + length ws ≤ i → 4 * (at + length ws) ≤ length bs → drop (4 * i) (paste_w bs at ws) ≡ drop (4 * i) bs
unfolding paste_w
drop-kept bs at ws i h l =
    let p = take (4 * at) bs ++ bytes ws in
    let j = 4 * i - (4 * at + 4 * length ws) in
    let q = drop (4 * at + 4 * length ws) bs in
    let lp : length p ≡ 4 * at + 4 * length ws = length-append (take (4 * at) bs) (bytes ws) ∙ omega (arith, length-take-le (4 * at) bs (omega arith), length-bytes ws) in
    let e : 4 * i ≡ length p + j = omega arith in
    let e2 : 4 * at + 4 * length ws + j ≡ 4 * i = omega arith in
    ap (drop (4 * i)) (sym (append_assoc (take (4 * at) bs) (bytes ws) q))
    ∙ ap (λ (n : ℕ). drop n (p ++ q)) e ∙ drop-append-add p q j ∙ drop-drop j (4 * at + 4 * length ws) bs ∙ ap (λ (n : ℕ). drop n bs) e2

pub drop-after : (bs : List ℕ) (at : ℕ) (ws : List ℕ) (i : ℕ) → at + length ws ≤ i → 4 * (at + length ws) ≤ length bs → drop i (words (paste_w bs at ws)) ≡ drop i (words bs)
drop-after bs at ws i h l = sym (words-drop (paste_w bs at ws) i) ∙ ap words (drop-kept bs at ws i h l) ∙ words-drop bs i

pub part-after : (bs : List ℕ) (at : ℕ) (ws : List ℕ) (i n : ℕ) → at + length ws ≤ i → 4 * (at + length ws) ≤ length bs → part (words (paste_w bs at ws)) i n ≡ part (words bs) i n
unfolding part
part-after bs at ws i n h l = ap (take n) (drop-after bs at ws i h l)

pub get_after : (bs : List ℕ) (at : ℕ) (ws : List ℕ) (i : ℕ) → at + length ws ≤ i → 4 * (at + length ws) ≤ length bs → get_or (words (paste_w bs at ws)) i 0 ≡ get_or (words bs) i 0
get_after bs at ws i h l =
    let e : i + 0 ≡ i = omega arith in
    ap (λ (n : ℕ). get_or (words (paste_w bs at ws)) n 0) (sym e) ∙ sym (get_or-drop i (words (paste_w bs at ws)) 0 0)
    ∙ ap (λ (l : List ℕ). get_or l 0 0) (drop-after bs at ws i h l) ∙ get_or-drop i (words bs) 0 0 ∙ ap (λ (n : ℕ). get_or (words bs) n 0) e

-- ---- bytes hold their own words
small-part : (bs : List ℕ) (a n : ℕ) → Bytes bs → Bytes (take n (drop a bs))
small-part bs a n b k =
    elim (dec_le n k) [
      | yes y ↦ rw (get_or-eq_default (take n (drop a bs)) 0 {n = k} (simp length-take (omega arith))) (omega arith)
      | no y ↦ rw (get_or-take n (drop a bs) k 0 (omega arith), get_or-drop) (b (a + k))
    ]

pub paste-same : (bs : List ℕ) (at n : ℕ) → Bytes bs → 4 * (at + n) ≤ length bs → paste_w bs at (part (words bs) at n) ≡ bs
unfolding paste_w part
paste-same bs at n b h =
    let p = take (4 * n) (drop (4 * at) bs) in
    let lp : length p ≡ 4 * n = simp (length-take, length-drop) (omega arith) in
    let lw : length (take n (drop at (words bs))) ≡ n = simp (length-take, length-drop) (omega (arith, length-words bs)) in
    let own : bytes (take n (drop at (words bs))) ≡ p = ap bytes (sym (words-part bs at n (4 * n) refl)) ∙ bytes-words p (small-part bs (4 * at) (4 * n) b) (omega arith) in
    rw (own, lw) (ap (λ (l : List ℕ). take (4 * at) bs ++ (p ++ l)) (sym (drop-drop (4 * n) (4 * at) bs))
    ∙ rw (take-append-drop (4 * n) (drop (4 * at) bs)) (take-append-drop (4 * at) bs))

-- ---- words pasted within words pasted
behind : (p q : List ℕ) (at t : ℕ) (ws : List ℕ) → length p ≡ 4 * at → paste_w (p ++ q) (at + t) ws ≡ p ++ paste_w q t ws
unfolding paste_w
behind p q at t ws h =
    let e1 : 4 * (at + t) ≡ length p + 4 * t = omega arith in
    let e2 : length p + 4 * t + 4 * length ws ≡ length p + (4 * t + 4 * length ws) = omega arith in
    rw (e1, e2, take-append-add p q (4 * t), drop-append-add p q (4 * t + 4 * length ws)) (append_assoc p (take (4 * t) q) (bytes ws ++ drop (4 * t + 4 * length ws) q))

from-there : (bs : List ℕ) (at t : ℕ) (ws : List ℕ) → 4 * at ≤ length bs → paste_w bs (at + t) ws ≡ take (4 * at) bs ++ paste_w (drop (4 * at) bs) t ws
from-there bs at t ws h =
    ap (λ (l : List ℕ). paste_w l (at + t) ws) (sym (take-append-drop (4 * at) bs))
    ∙ behind (take (4 * at) bs) (drop (4 * at) bs) at t ws (length-take-le (4 * at) bs h)

pub paste-in : (bs : List ℕ) (at : ℕ) (E : List ℕ) (t : ℕ) (ws : List ℕ) → t + length ws ≤ length E → 4 * (at + length E) ≤ length bs
    → paste_w (paste_w bs at E) (at + t) ws ≡ paste_w bs at (over E t ws)
paste-in bs at E t ws h l =
    let e : at ≡ at + 0 = omega arith in
    let p = take (4 * at) bs in
    let q = drop (4 * at) bs in
    let hp : length p ≡ 4 * at = length-take-le (4 * at) bs (omega arith) in
    let hq : 4 * length E ≤ length q = rw length-drop (omega arith) in
    ap (λ (l : List ℕ). paste_w l (at + t) ws) (ap (λ (n : ℕ). paste_w bs n E) e ∙ from-there bs at 0 E (omega arith))
    ∙ behind p (paste_w q 0 E) at t ws hp
    ∙ ap (λ (l : List ℕ). p ++ l) (paste-over q E t ws h hq)
    ∙ sym (ap (λ (n : ℕ). paste_w bs n (over E t ws)) e ∙ from-there bs at 0 (over E t ws) (omega arith))

-- ---- the words that were pasted
pub part-pasted : (bs : List ℕ) (at : ℕ) (ws : List ℕ) → Words ws → 4 * (at + length ws) ≤ length bs → part (words (paste_w bs at ws)) at (length ws) ≡ ws
unfolding part
part-pasted bs at ws s h =
    rw (words-paste_w bs at ws s (omega arith), drop_at (take at (words bs)) (ws ++ drop (at + length ws) (words bs)) at (length-take-le at (words bs) (omega (arith, length-words bs))))
    (take_at ws _ (length ws) refl)
