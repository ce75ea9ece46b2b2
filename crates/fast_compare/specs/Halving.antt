-- What halving a range finds. Assumes nothing.
use Rattle.std.specs.Prelude.{ℕ, ◌-◌, ◌<◌, ◌≤◌, Result, Ok, Err}
use Rattle.std.specs.declared.cmp.Ordering.{Ordering}
use Rattle.std.specs.declared.cmp.Ordering.TheVariants.{Less, Equal, Greater}

-- A number below n that answers Equal; or else, where the number before answers Less and this one Greater, if they are below n.
pub data Halved (answers : ℕ → Ordering → Type 0) (n : ℕ) : Result ℕ ℕ → Type 0 where
  found : (p : ℕ) → p < n → answers p Equal → Halved answers n (Ok p)
  between : (p : ℕ) → p ≤ n → (0 < p → answers (p - 1) Less) → (p < n → answers p Greater) → Halved answers n (Err p)
