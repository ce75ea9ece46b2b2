-- What the answers of the checks come to. Assumes nothing.
use mathlib.Core.List.{List}
use Prim.Native.Nat.{ℕ, suc, ◌+◌, ◌-◌, ◌≤◌, ◌<◌}
use native.Mathlib.Omega.{arith}
use native.Mathlib.Decide.{ℕ_discrete}
use lib.ListN.{get_or}
use Rattle.words.proofs.Tables.{row_fits}
use Rattle.fast_compare.specs.Layout.{row_at, order_at, Rises}

-- a row stands within the rows, behind which the sorted order begins
pub row_inside : (m c i : ℕ) → i < c → row_at m i + (m + 3) ≤ order_at m c
row_inside m c i h = omega (arith, row_fits i c (m + 3) h)

-- what holds below i and at i − 1, said of neighbours
pub pairs-more : (P : ℕ → Type 0) (i : ℕ) → 1 ≤ i → ((k : ℕ) → suc k < i → P k) → P (i - 1) → (k : ℕ) → suc k < i + 1 → P k
pairs-more P i h all here k l =
    elim (ℕ_discrete k (i - 1)) [ yes e ↦ rw e here | no e ↦ all k (omega arith) ]

-- neighbours of the order rise
abbrev pub Up : List ℕ → ℕ → ℕ → ℕ → Type 0
Up W m at k = Rises W m (row_at m (get_or W (at + k) 0)) (row_at m (get_or W (at + suc k) 0))
