-- How large the numbers of a shape can be. Assumes nothing.
use mathlib.Core.Path.{◌≡◌, ap, ◌∙◌}
use Prim.Native.Nat.{ℕ, ◌+◌, ◌-◌, ◌*◌, ◌≤◌, ◌<◌}
use native.Mathlib.Omega.{arith}
use native.Mathlib.Nat.{mul-le-mul}
use Rattle.words.proofs.Tables.{row_fits, split_rows}
use Rattle.index_image.specs.declared.Shape.{Shape}
use Rattle.index_image.specs.Shape.{InRange, width_of, entry_width, entry_at, masked_width, label_row_width, row_at, map_at, permutation_at, labels_size, label_at, node_width, size}
use Rattle.fast_compare.specs.Layout as labels

-- a product of two numbers with known bounds
pub times : (a b x y : ℕ) → a ≤ x → b ≤ y → a * b ≤ x * y
times a b x y h l = mul-le-mul h l

module _ (s : Shape) (r : InRange s) where
  pub width_small : entry_width s ≤ 136
  width_small = omega (arith, r.kind-to, times (s.kind + 1) (masked_width s.variables) 2 67 (omega (arith, r.kind-to)) (omega (arith, r.vars-to)))

  pub entries-small : (i : ℕ) → i ≤ s.capacity → i * entry_width s ≤ 557056
  entries-small i h = omega (arith, times i (entry_width s) 4096 136 (omega (arith, r.cap-to)) width_small)

  pub rows-small : s.capacity * label_row_width s.variables ≤ 274432
  rows-small = omega (arith, times s.capacity (label_row_width s.variables) 4096 67 r.cap-to (omega (arith, r.vars-to)))

  pub labels-small : labels_size s ≤ 278532
  labels-small =
      omega (arith, times s.kind (labels.size s.variables s.capacity) 1 278532 r.kind-to (omega (arith, rows-small, r.cap-to)))

  pub nodes-small : (k : ℕ) → k ≤ 8191 → k * node_width s.variables ≤ 573370
  nodes-small k h = omega (arith, times k (node_width s.variables) 8191 70 h (omega (arith, r.vars-to)))

  -- ---- in a ratio index
  pub ratio-width : s.kind ≡ 1 → entry_width s ≡ width_of 1 s.variables
  ratio-width e = ap (λ (k : ℕ). width_of k s.variables) e

  pub ratio-labels : s.kind ≡ 1 → labels_size s ≡ labels.size s.variables s.capacity
  ratio-labels e = ap (λ (k : ℕ). k * labels.size s.variables s.capacity) e ∙ omega arith

  pub size_small : size s ≤ 1413206
  size_small =
      omega (arith, entries-small s.capacity (omega arith), labels-small, nodes-small (2 * s.capacity - 1) (omega (arith, r.cap-to)), r.vars-to, r.cap-to)

  -- an entry's row lies within the entries, whatever the kind
  pub entry-inside : (i : ℕ) → i < s.capacity → entry_at s i + entry_width s ≤ permutation_at s
  entry-inside i h = omega (arith, row_fits i s.capacity (entry_width s) h)

  -- the entry at place i of a ratio index, and the label map's row j, lie within the image
  pub record Spots (i j : ℕ) : Type 0 where
    pub entry : row_at s i < size s
    pub row : label_at s j < size s
    pub small : size s ≤ 1413206
    pub row_small : j * label_row_width s.variables ≤ 274432

  pub spots : s.kind ≡ 1 → (i j : ℕ) → i < s.capacity → j < s.capacity → Spots i j
  spots e i j h l =
      let w = ratio-width e in
      let z = ratio-labels e in
      let f = row_fits j s.capacity (label_row_width s.variables) l in
      record {
        entry = omega (arith, entry-inside i h);
        row = omega arith;
        small = size_small;
        row_small = omega (arith, rows-small);
      }

  -- ---- in any index
  pub width-least : masked_width s.variables ≤ entry_width s
  width-least = omega (arith, times 1 (masked_width s.variables) (s.kind + 1) (masked_width s.variables) (omega arith) (omega arith))

  -- the entry at place i, the map's maxima and the first words of the label map lie within the image
  pub record Inside (i : ℕ) : Type 0 where
    pub entry : entry_at s i + masked_width s.variables ≤ size s
    pub maxima : map_at s.variables + s.variables ≤ size s
    pub small : size s ≤ 1413206

  pub inside : (i : ℕ) → i < s.capacity → Inside i
  inside i h = record { entry = omega (arith, entry-inside i h, width-least); maxima = omega arith; small = size_small }

  -- the unused rows of the entries
  pub record Rest : Type 0 where
    pub fits : (s.capacity - s.entries) * entry_width s ≤ 557056
    pub room : entry_at s s.entries + (s.capacity - s.entries) * entry_width s ≤ size s

  pub rest : Rest
  rest =
      let e = split_rows s.entries s.capacity (entry_width s) r.few in
      record { fits = omega (arith, entries-small s.capacity (omega arith)); room = omega arith }
