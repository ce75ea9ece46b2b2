-- How long an image may be, from document 01. Assumes nothing.
use Rattle.std.specs.Prelude.{◌≡◌, ℕ, ◌+◌, ◌*◌, ◌≤◌, ◌<◌}
use Rattle.index_image.specs.Shape.{size}
use Rattle.index_image.specs.declared.Shape.{Shape}

-- the shape of an index of this kind, variables and capacity while it is empty
abbrev pub empty_shape : ℕ → ℕ → ℕ → Shape
empty_shape kind m c = record { kind = kind; variables = m; capacity = c; entries = 0; nodes = 1 }

-- the length of its image in bytes
abbrev pub bytes : ℕ → ℕ → ℕ → ℕ
bytes kind m c = 4 * size (empty_shape kind m c)

-- above 16, and at most 256 × (variables + 2) × (capacity + 1)
pub record LengthOk (kind m c : ℕ) : Type 0 where
  pub above : 16 < bytes kind m c
  pub bounded : bytes kind m c ≤ 256 * ((m + 2) * (c + 1))

-- r is the length of the image of an index of this kind, and within the bounds
abbrev pub IsLength : ℕ → ℕ → ℕ → ℕ → Type 0
IsLength kind m c r = (r ≡ bytes kind m c) × LengthOk kind m c
