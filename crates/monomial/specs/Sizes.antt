-- Question 1 of document 01, what it asks of the numbers: 1 to 64 variables, a capacity of 1 to 4,096. Assumes nothing.
use Rattle.std.specs.Prelude.{Bool, ◌&&◌, ℕ, ◌≤◌, leb}

unfoldable pub variables_fit : ℕ → Bool
variables_fit m = leb 1 m && leb m 64

unfoldable pub sizes_fit : ℕ → ℕ → Bool
sizes_fit m c = variables_fit m && (leb 1 c && leb c 4096)

-- the same as facts
pub record Sizes (m c : ℕ) : Type 0 where
  pub vars-from : 1 ≤ m
  pub vars-to : m ≤ 64
  pub cap-from : 1 ≤ c
  pub cap-to : c ≤ 4096
