-- Words written by copying or filling bytes: what came back in a part of a slice. Assumes nothing.
use mathlib.Core.Path.{◌≡◌, refl, sym, ap, ◌∙◌}
use mathlib.Core.List.{List, ◌∷◌, ◌++◌, append_assoc}
use Prim.Native.Nat.{ℕ, zero, suc, ◌+◌, ◌-◌, ◌*◌, ◌/◌, ◌%◌, ◌≤◌}
use native.Mathlib.Omega.{arith}
use lib.ListN.{length, take, drop, replicate, length-take, length-drop, get_or-eq_default}
use lib.Seq.{drop-drop, drop_at, take_all, take_at, get_or-take, get_or-drop, paste}
use native.Mathlib.Decide.{dec_le}
use borrow.Rule.Slice.PartMut.{put_mid}
use Rattle.words.specs.Words.{words, bytes, paste_w}
use Rattle.words.specs.Tables.{part, zeros}
use Rattle.words.proofs.Laws.{Bytes, length-words, words_take, words-drop, bytes-words}
use Rattle.words.proofs.Tables.{length_part}

-- a part `&mut s[4 * at..4 * at + k]` that came back as the bytes of words
pub copied : (bs : List ℕ) (at k : ℕ) (ys ws : List ℕ) → k ≡ 4 * length ws → ys ≡ bytes ws → put_mid (4 * at) k bs ys ≡ paste_w bs at ws
unfolding paste_w
copied bs at k ys ws e y = rw (y, e, drop-drop (4 * length ws) (4 * at) bs)

-- ---- the bytes that were copied
pub bytes-zeros : (n : ℕ) → replicate (4 * n) 0 ≡ bytes (zeros n)
unfolding bytes zeros
bytes-zeros zero = refl
bytes-zeros (suc n) = let e : 4 * suc n ≡ suc (suc (suc (suc (4 * n)))) = omega arith in rw e (ap (λ (l : List ℕ). 0 ∷ 0 ∷ 0 ∷ 0 ∷ l) (bytes-zeros n))

pub bytes-front : (bs : List ℕ) (n : ℕ) → Bytes (take (4 * n) bs) → 4 * n ≤ length bs → take (4 * n) bs ≡ bytes (take n (words bs))
bytes-front bs n h l =
    let m : length (take (4 * n) bs) % 4 ≡ 0 = simp length-take (omega arith) in
    sym (bytes-words (take (4 * n) bs) h m) ∙ ap bytes (words_take bs n)

pub bytes-taken : (bs : List ℕ) (n : ℕ) → Bytes bs → Bytes (take n bs)
bytes-taken bs n h k =
    elim (dec_le n k) [
      | yes l ↦ omega (arith, get_or-eq_default (take n bs) 0 {n = k} (omega (arith, length-take n bs)))
      | no l ↦ omega (arith, get_or-take n bs k 0 (omega arith), h k)
    ]

bytes-dropped : (bs : List ℕ) (n : ℕ) → Bytes bs → Bytes (drop n bs)
bytes-dropped bs n h k = omega (arith, get_or-drop n bs k 0, h (n + k))

pub bytes-all : (bs : List ℕ) → Bytes bs → take (4 * (length bs / 4)) bs ≡ bytes (words bs)
bytes-all bs h = bytes-front bs (length bs / 4) (bytes-taken bs (4 * (length bs / 4)) h) (omega arith) ∙ ap bytes (take_all (length bs / 4) (words bs) (omega (arith, length-words bs)))

-- words copied within the bytes: each stands in what came of it, so it is known to be of bytes
pub moved-up : (bs new : List ℕ) (at end d : ℕ) → Bytes new → at ≤ end → 4 * (end + d) ≤ length bs
    → new ≡ paste bs (4 * (at + d)) (drop (4 * at) bs) (4 * end - 4 * at) → new ≡ paste_w bs (at + d) (part (words bs) at (end - at))
unfolding paste_w part
moved-up bs new at end d h l b q =
    let n = end - at in
    let e : 4 * end - 4 * at ≡ 4 * n = omega arith in
    let lp : length (take n (drop at (words bs))) ≡ n = length_part (words bs) at n (omega (arith, length-words bs)) in
    let row = take (4 * n) (drop (4 * at) bs) in
    let lr : length row ≡ 4 * n = simp (length-take, length-drop) (omega arith) in
    let lf : length (take (4 * (at + d)) bs) ≡ 4 * (at + d) = simp length-take (omega arith) in
    let p : new ≡ take (4 * (at + d)) bs ++ (row ++ drop (4 * (at + d) + 4 * n) bs) = q ∙ rw e (append_assoc (take (4 * (at + d)) bs) row _) in
    let r : take (4 * n) (drop (4 * (at + d)) new) ≡ row = rw (p, drop_at (take (4 * (at + d)) bs) _ (4 * (at + d)) lf) (take_at row _ (4 * n) lr) in
    let y : row ≡ bytes (take n (drop at (words bs))) =
    bytes-front (drop (4 * at) bs) n (rw r at (bytes-taken (drop (4 * (at + d)) new) (4 * n) (bytes-dropped new (4 * (at + d)) h))) (simp length-drop (omega arith)) ∙ rw (words-drop bs at) in
    p ∙ rw (y, lp) refl
