-- A table of the bits that small powers set. Assumes nothing.
use Rattle.std.specs.Prelude.{◌≡◌, ℕ, ◌+◌, ◌-◌, ◌*◌, ◌<◌, ◌≤◌, List, drop, ◌≢◌, slice_index, Option, MatchOption}
use Rattle.words.specs.Tables.{part}
use Rattle.monomial.specs.Monomial.{front, pow}
use Rattle.divmask.specs.Mask.{mask, vector, both}
use Rattle.divmask_table.specs.declared.Slot.{Slot}

-- the k-th pair of words, the first in the lower half
abbrev pub pair_at : List ℕ → ℕ → ℕ
pair_at T k = slice_index T (2 * k) + 4294967296 * slice_index T (2 * k + 1)

-- the pairs of each variable's powers from 1 up to a limit, 16 pairs a variable
pub record Tabled (m : ℕ) (xs T : List ℕ) (limit : ℕ) : Type 0 where
  pub few : limit ≤ 16
  pub has : (v q : ℕ) → v < m → 1 ≤ q → q ≤ limit → pair_at T (16 * v + (q - 1)) ≡ both m xs v q

-- r has the length of the canonical monomial at word `at`, and its mask and vector
pub record Stands (m : ℕ) (xs W : List ℕ) (at : ℕ) (r : Slot) : Type 0 where
  pub some : r.words ≢ 0
  pub words : r.words ≡ front 1 m 0 (drop at W)
  pub masks : r.masks ≡ mask m xs (pow 1 (part W at r.words)) + 4294967296 * vector m (pow 1 (part W at r.words))

-- the canonical monomial at word `at`, or that there is none
abbrev pub Judged : ℕ → List ℕ → List ℕ → ℕ → Option Slot → Type 0
Judged m xs W at r = MatchOption r (front 1 m 0 (drop at W) ≡ 0) (Stands m xs W at)
