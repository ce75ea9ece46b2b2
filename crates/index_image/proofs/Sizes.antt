-- The length of an image is within document 01's bounds. Assumes nothing.
use mathlib.Core.Path.{◌≡◌}
use Prim.Native.Nat.{ℕ, ◌+◌, ◌-◌, ◌*◌, ◌≤◌}
use native.Mathlib.Omega.{arith}
use native.Mathlib.Nat.{mul-le-mul, add-mul, mul-add, mul_comm}
use Rattle.fast_compare.specs.Layout as labels
use Rattle.index_image.specs.Shape.{masked_width, width_of, node_width}
use Rattle.index_image.specs.Size.{LengthOk}

module _ (m c : ℕ) where
  bound : (m + 2) * (c + 1) ≡ c * m + c * 2 + m + 2
  bound = omega (arith, mul-add (m + 2) c 1, add-mul m 2 c, mul_comm m c, mul_comm 2 c)

  -- c rows of m and some more words
  row : (x : ℕ) → c * (m + x) ≡ c * m + c * x
  row x = mul-add c m x

  nodes : (2 * c - 1) * node_width m ≤ c * m + c * m + c * 12
  nodes =
      let most : (2 * c - 1) * node_width m ≤ (c + c) * node_width m = mul-le-mul (omega arith) (omega arith) in
      omega (arith, most, add-mul c c (node_width m), row 6)

  entries : (kind : ℕ) → kind ≤ 1 → c * width_of kind m ≤ c * m + c * m + c * 8
  entries kind h =
      let wide : (kind + 1) * masked_width m ≤ 2 * masked_width m = mul-le-mul (omega arith) (omega arith) in
      let most : c * width_of kind m ≤ c * ((m + 4) + (m + 4)) = mul-le-mul (omega arith) (omega arith) in
      omega (arith, most, mul-add c (m + 4) (m + 4), row 4)

  label-map : (kind : ℕ) → kind ≤ 1 → kind * labels.size m c ≤ labels.size m c
  label-map kind h =
      let most : kind * labels.size m c ≤ 1 * labels.size m c = mul-le-mul h (omega arith) in
      omega arith

pub length-ok : (kind m c : ℕ) → kind ≤ 1 → 1 ≤ m → 1 ≤ c → LengthOk kind m c
length-ok kind m c h v l = record {
  above = omega arith;
  bounded = omega (arith, bound m c, nodes m c, entries m c kind h, label-map m c kind h, row m c 3);
}
