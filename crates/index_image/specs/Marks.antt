-- Words that name places: which places are named. Assumes nothing.
use Rattle.std.specs.Prelude.{◌≡◌, List, ℕ, ◌+◌, ◌*◌, ◌<◌, get_or}

-- the i-th of the words that stand w words apart from word `at` on
abbrev pub name_at : List ℕ → ℕ → ℕ → ℕ → ℕ
name_at W at w i = get_or W (at + i * w) 0

-- one of the first n of them names place j
pub record Named (W : List ℕ) (at w n j : ℕ) : Type 0 where
  pub i : ℕ
  pub below : i < n
  pub is : name_at W at w i ≡ j

-- the marks of the places that they name
pub record Marked (W : List ℕ) (at w n : ℕ) (seen : List ℕ) : Type 0 where
  pub named : (i : ℕ) → i < n → get_or seen (name_at W at w i) 0 ≡ 1
  pub only : (j : ℕ) → get_or seen j 0 ≡ 1 → Named W at w n j
