-- The maxima of an image, lent and updated. Assumes nothing.
use mathlib.Core.Path.{◌≡◌, ◌∙◌}
use mathlib.Core.List.{List}
use Prim.Native.Nat.{ℕ, ◌*◌, ◌≤◌}
use native.Mathlib.Omega.{arith}
use lib.ListN.{length, take, drop}
use borrow.Rule.Slice.PartMut.{put_mid}
use Rattle.words.specs.Words.{words, paste_w}
use Rattle.words.specs.Tables.{part}
use Rattle.words.proofs.Laws.{length-words}
use Rattle.words.proofs.Tables.{length_part}
use Rattle.index_image.specs.Shape as at
use Rattle.words.proofs.Drafts.{part_of, lent_back}
use Rattle.divmask.specs.Tracker.{updated}
use Rattle.divmask.proofs.Growth.{updated-length}

pub tracked-back : (bs : List ℕ) (m k : ℕ) (ys A : List ℕ) → k ≡ 4 * m → 4 * (at.map_at m) ≤ length bs
    → ys ≡ paste_w (take k (drop (4 * at.maxima_at) bs)) 0 (updated A (words (take k (drop (4 * at.maxima_at) bs))))
    → put_mid (4 * at.maxima_at) k bs ys ≡ paste_w bs at.maxima_at (updated A (part (words bs) at.maxima_at m))
tracked-back bs m k ys A ek h ey =
    let p = part_of bs at.maxima_at m k ek in
    let l : length (updated A (part (words bs) at.maxima_at m)) ≤ m =
    omega (arith, updated-length A (part (words bs) at.maxima_at m), length_part (words bs) at.maxima_at m (omega (arith, length-words bs))) in
    lent_back bs at.maxima_at m k ys (updated A (part (words bs) at.maxima_at m)) ek h l (ey ∙ rw p)
