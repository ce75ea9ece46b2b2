-- Bytes whose front is pieces one behind the other, written piece by piece: a write to a piece keeps its length and the others. Assumes nothing.
use mathlib.Core.Path.{◌≡◌, sym, ap, ◌∙◌}
use mathlib.Core.List.{List, [], ◌∷◌}
use Prim.Native.Nat.{ℕ, zero, suc, ◌+◌, ◌*◌, ◌≤◌, ◌<◌}
use native.Mathlib.Omega.{arith}
use lib.ListN.{length, get_or, set, take, drop, length-append}
use borrow.Rule.Slice.PartMut.{put_mid}
use Rattle.words.specs.Words.{words, paste_w}
use Rattle.words.specs.Tables.{part, over}
use Rattle.words.proofs.Laws.{Bytes, paste_w-part, words-part}
use Rattle.words.proofs.Tables.{paste-own, paste-over, length_over}
use Rattle.words.proofs.Joined.{joined, before, over-joined}

-- ---- a part of a slice that was lent and came back pasted
pub lent_back : (bs : List ℕ) (o n k : ℕ) (ys ws : List ℕ) → k ≡ 4 * n → 4 * (o + n) ≤ length bs → length ws ≤ n → ys ≡ paste_w (take k (drop (4 * o) bs)) 0 ws → put_mid (4 * o) k bs ys ≡ paste_w bs o ws
lent_back bs o n k ys ws ek h l ey =
    let e : o + 0 ≡ o = omega arith in
    rw ey (paste_w-part bs o k 0 ws (omega arith) (omega arith) ∙ ap (λ (i : ℕ). paste_w bs i ws) e)

pub part_of : (bs : List ℕ) (o n k : ℕ) → k ≡ 4 * n → words (take k (drop (4 * o) bs)) ≡ part (words bs) o n
unfolding part
part_of bs o n k e = words-part bs o n k e

-- ---- tables one behind the other, pasted at the front
pub record Draft (bs im : List ℕ) (us : List (List ℕ)) : Type 0 where
  pub now : im ≡ paste_w bs 0 (joined us)
  pub fits : 4 * length (joined us) ≤ length bs

before-fits : (us : List (List ℕ)) (k : ℕ) → k < length us → before us k + length (get_or us k []) ≤ length (joined us)
unfolding joined
before-fits [] k h = absurd (omega arith)
before-fits (u ∷ []) zero h = omega arith
before-fits (u ∷ []) (suc k) h = absurd (omega arith)
before-fits (u ∷ v ∷ us) zero h = omega (arith, length-append u (joined (v ∷ us)))
before-fits (u ∷ v ∷ us) (suc k) h = omega (arith, length-append u (joined (v ∷ us)), before-fits (v ∷ us) k (omega arith))

pub draft-start : (bs : List ℕ) (us : List (List ℕ)) (n : ℕ) → Bytes bs → 4 * n ≤ length bs → length (joined us) ≡ n → part (words bs) 0 n ≡ joined us → Draft bs bs us
draft-start bs us n b h l e = record { now = sym (ap (paste_w bs 0) (sym e) ∙ paste-own bs n b h); fits = omega arith }

-- a write of words ws to table k, from its word t on
pub draft-step : (bs im im' : List ℕ) (us : List (List ℕ)) (k t at : ℕ) (ws : List ℕ) → Draft bs im us → im' ≡ paste_w im at ws → at ≡ before us k + t → k < length us → t + length ws ≤ length (get_or us k [])
    → Draft bs im' (set us k (over (get_or us k []) t ws))
draft-step bs im im' us k t at ws D e ea hk ht =
    let b = before-fits us k hk in
    let o = over-joined us k t ws hk ht in
    let fit : before us k + t + length ws ≤ length (joined us) = omega arith in
    let now : im' ≡ paste_w bs 0 (joined (set us k (over (get_or us k []) t ws))) =
    e ∙ rw (D.now, ea) (paste-over bs (joined us) (before us k + t) ws fit D.fits ∙ ap (paste_w bs 0) o) in
    let len : length (joined (set us k (over (get_or us k []) t ws))) ≡ length (joined us) = ap length (sym o) ∙ length_over (joined us) (before us k + t) ws fit in
    record { now = now; fits = omega (arith, len, D.fits) }
