-- Where the parts of an image begin, by the numbers of its header, and where the fields of its rows stand, all in words. Assumes nothing.
use Rattle.std.specs.Prelude.{ℕ, ◌+◌, ◌-◌, ◌*◌, ◌≤◌}
use Rattle.fast_compare.specs.Layout as labels
use Rattle.index_image.specs.declared.Shape.{Shape}

-- question 1's numbers, and as many entries and nodes as there can be
pub record InRange (s : Shape) : Type 0 where
  pub kind-to : s.kind ≤ 1
  pub vars-from : 1 ≤ s.variables
  pub vars-to : s.variables ≤ 64
  pub cap-from : 1 ≤ s.capacity
  pub cap-to : s.capacity ≤ 4096
  pub few : s.entries ≤ s.capacity
  pub nodes-from : 1 ≤ s.nodes
  pub nodes-to : s.nodes ≤ 2 * s.capacity - 1

-- ---- the header: layout number, index kind, variables, capacity, entries, nodes; the words from `kept_at` on are kept for later use
abbrev pub layout_at : ℕ
layout_at = 0

abbrev pub kind_at : ℕ
kind_at = 1

abbrev pub variables_at : ℕ
variables_at = 2

abbrev pub capacity_at : ℕ
capacity_at = 3

abbrev pub length_at : ℕ
length_at = 4

abbrev pub nodes_count_at : ℕ
nodes_count_at = 5

abbrev pub kept_at : ℕ
kept_at = 6

abbrev pub kept : ℕ
kept = 18

abbrev pub header_width : ℕ
header_width = 24

-- ---- the present maxima, and the map: the maxima that masks were made from
abbrev pub maxima_at : ℕ
maxima_at = header_width

abbrev pub map_at : ℕ → ℕ
map_at m = maxima_at + m

-- ---- entries. A slot of m + 1 words holds a monomial and then zeros. Behind the slot of a masked monomial stand its mask and its short exponent vector.
abbrev pub slot_width : ℕ → ℕ
slot_width m = m + 1

abbrev pub mask_at : ℕ → ℕ → ℕ
mask_at m at = at + (m + 1)

abbrev pub vector_at : ℕ → ℕ → ℕ
vector_at m at = at + (m + 2)

abbrev pub masked_width : ℕ → ℕ
masked_width m = m + 3

-- an entry: its lm, masked; in a ratio index also index, signature monomial, masked, and the row of its ratio in the label map
abbrev pub width_of : ℕ → ℕ → ℕ
width_of kind m = (kind + 1) * masked_width m + 2 * kind

abbrev pub entry_width : Shape → ℕ
entry_width s = width_of s.kind s.variables

-- where index, signature monomial and row of the entry at word `at` stand
abbrev pub index_from : ℕ → ℕ → ℕ
index_from m at = at + (m + 3)

abbrev pub sign_from : ℕ → ℕ → ℕ
sign_from m at = at + (m + 4)

abbrev pub row_from : ℕ → ℕ → ℕ
row_from m at = at + (2 * m + 7)

abbrev pub entries_at : ℕ → ℕ
entries_at m = header_width + 2 * m

abbrev pub entry_at : Shape → ℕ → ℕ
entry_at s e = entries_at s.variables + e * entry_width s

abbrev pub lm_at : Shape → ℕ → ℕ
lm_at s e = entry_at s e

abbrev pub index_at : Shape → ℕ → ℕ
index_at s e = index_from s.variables (entry_at s e)

abbrev pub sign_at : Shape → ℕ → ℕ
sign_at s e = sign_from s.variables (entry_at s e)

abbrev pub row_at : Shape → ℕ → ℕ
row_at s e = row_from s.variables (entry_at s e)

-- ---- the places of the entries in the order of the leaves; in a ratio index the image of the label map
abbrev pub permutation_at : Shape → ℕ
permutation_at s = entry_at s s.capacity

abbrev pub labels_at : Shape → ℕ
labels_at s = permutation_at s + s.capacity

abbrev pub labels_size : Shape → ℕ
labels_size s = s.kind * labels.size s.variables s.capacity

-- a row of the label map, index, ratio and label: where the ratio of the row at word `at` stands, and the place of the label in a row
abbrev pub ratio_at : ℕ → ℕ
ratio_at at = at + 1

abbrev pub label_row_width : ℕ → ℕ
label_row_width m = m + 3

abbrev pub label_in : ℕ → ℕ
label_in m = m + 2

-- the label of row j of the label map
abbrev pub label_at : Shape → ℕ → ℕ
label_at s j = labels_at s + (labels.row_at s.variables j + label_in s.variables)

abbrev pub rows_count_at : Shape → ℕ
rows_count_at s = labels_at s + 3

-- ---- nodes: tag, key, number of entries, skip, mask, and the slot of the gcd
abbrev pub tag_at : ℕ → ℕ
tag_at at = at

abbrev pub key_at : ℕ → ℕ
key_at at = at + 1

abbrev pub count_at : ℕ → ℕ
count_at at = at + 2

abbrev pub skip_at : ℕ → ℕ
skip_at at = at + 3

abbrev pub node_mask_at : ℕ → ℕ
node_mask_at at = at + 4

abbrev pub gcd_at : ℕ → ℕ
gcd_at at = at + 5

abbrev pub node_width : ℕ → ℕ
node_width m = m + 6

abbrev pub nodes_at : Shape → ℕ
nodes_at s = labels_at s + labels_size s

abbrev pub node_at : Shape → ℕ → ℕ
node_at s k = nodes_at s + k * node_width s.variables

-- the whole: a capacity of c never needs more than 2 c − 1 nodes
abbrev pub size : Shape → ℕ
size s = node_at s (2 * s.capacity - 1)
