-- What the readers of an entry ask. Assumes nothing.
use mathlib.Core.Path.{◌≡◌}
use mathlib.Core.List.{List}
use Prim.Native.Nat.{ℕ, ◌+◌, ◌*◌, ◌≤◌, ◌<◌}
use native.Mathlib.Omega.{arith}
use lib.ListN.{length, take, drop}
use Rattle.words.specs.Words.{words}
use Rattle.words.proofs.Laws.{length-words, words-rest}
use Rattle.monomial.specs.Monomial.{front, Starts, first}
use Rattle.monomial.proofs.Firsts.{starts-wide, first_part}
use Rattle.index_image.specs.Rows.{monomial_in}
use Rattle.index_image.specs.Shape as at
use Rattle.index_image.specs.Walk as walk
use Rattle.index_image.specs.declared.Shape.{Shape}

-- what the reader of an entry's label asks
pub label-asked : (bs : List ℕ) (s : Shape) → walk.Ready (words bs) s → (e : ℕ) → s.kind ≡ 1 → e < s.entries
    → at.InRange s × ((4 * at.size s ≤ length bs) × (((s.kind ≡ 1) × (e < s.capacity)) × (walk.row_in (words bs) s e < s.capacity)))
label-asked bs s R e k h = (R.range, (omega (arith, R.room, length-words bs), ((k, omega (arith, R.range.few)), R.rows k e h)))

-- the monomial at the front of the image's rest from word p on
module _ (bs : List ℕ) (m p k : ℕ) (h : length bs ≤ 4 * p + k) (t : front 1 m 0 (drop p (words bs)) ≡ 0 → ⊥) where
  pub rest-starts : Starts 1 4096 (words (take k (drop (4 * p) bs)))
  rest-starts = rw (words-rest bs p k h) (starts-wide (record { some = t }))

  pub rest-first : first 1 (words (take k (drop (4 * p) bs))) ≡ monomial_in (words bs) m p
  unfolding monomial_in
  rest-first = rw (words-rest bs p k h) (first_part (words bs) p (record { some = t }))
