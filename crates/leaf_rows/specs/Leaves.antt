-- What the tests of a leaf's row and of its entries decide. Assumes nothing.
use Rattle.std.specs.Prelude.{◌≡◌, List, ℕ, ◌*◌, ◌≤◌, ◌<◌, length, get_or}
use Rattle.words.specs.Words.{words}
use Rattle.kd_theory.specs.Bag.{◌∈◌}
use Rattle.index_image.specs.Layout.{gcd_of}
use Rattle.index_image.specs.Shape as at
use Rattle.index_image.specs.Walk.{power, label}
use Rattle.index_image.specs.Rows.{entries_from, NodeOk}
use Rattle.index_image.specs.declared.Shape.{Shape}

-- entry e is within the bounds
pub record Inside (W : List ℕ) (s : Shape) (H : List ℕ) (ll lh e : ℕ) : Type 0 where
  pub powers : (v : ℕ) → v < s.variables → power W s v e < get_or H v 0
  pub labels : s.kind ≡ 1 → (ll ≤ label W s e) × (label W s e < lh)

-- every entry has powers below H and, in a ratio index, a label from ll on and below lh
pub record Bounded (W : List ℕ) (s : Shape) (H : List ℕ) (ll lh : ℕ) (es : List ℕ) : Type 0 where
  pub powers : (e : ℕ) → e ∈ es → (v : ℕ) → v < s.variables → power W s v e < get_or H v 0
  pub labels : s.kind ≡ 1 → (e : ℕ) → e ∈ es → (ll ≤ label W s e) × (label W s e < lh)

-- upper bounds of powers: one word a variable, none of them 0, which an absent variable would not be below
pub record Uppers (m : ℕ) (hi : List ℕ) : Type 0 where
  pub one_each : length hi ≡ 4 * m
  pub some : (v : ℕ) → v < m → 1 ≤ get_or (words hi) v 0

-- the row at word `i` is that of a leaf whose c entries start at lo
pub record LeafOk (W : List ℕ) (s : Shape) (H : List ℕ) (ll lh i lo c : ℕ) : Type 0 where
  pub key : get_or W (at.key_at i) 0 ≡ 0
  pub skip : get_or W (at.skip_at i) 0 ≡ 0
  pub node : NodeOk W s i (gcd_of (power W s) (entries_from W s lo c))
  pub bounded : Bounded W s H ll lh (entries_from W s lo c)
