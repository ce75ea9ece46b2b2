-- The powers of a monomial, one word a variable. Assumes nothing.
use Rattle.std.specs.Prelude.{◌≡◌, List, ℕ, ◌<◌, get_or}
use Rattle.monomial.specs.Monomial.{pow}

-- word v of the table is the power of variable v in m
pub record Powers (table m : List ℕ) : Type 0 where
  pub each : (v : ℕ) → v < 64 → get_or table v 0 ≡ pow 1 m v
