-- One entry more in the node rows of an image: the way from the root to a leaf, and the rows on it. Assumes nothing.
use Rattle.std.specs.Prelude.{◌≡◌, Bool, cond, List, [], ◌∷◌, ℕ, zero, suc, ◌+◌, ◌-◌, ◌*◌, ◌≤◌, ◌<◌, ltb, eqb, length, get_or, drop}
use Rattle.words.specs.Words.{paste_w}
use Rattle.words.specs.Tables.{part}
use Rattle.monomial.specs.Monomial.{front, pow}
use Rattle.monomial.specs.Operations.{result_words}
use Rattle.monomial.specs.declared.ordered_ops.Op.TheVariants.{Gcd}
use Rattle.kd_theory.specs.Tree.{Tree, leaf, branch, nodes, count, Keys, insert, place_of}
use Rattle.index_image.specs.Layout.{tree_words}
use Rattle.index_image.specs.Shape as at
use Rattle.index_image.specs.Walk as walk
use Rattle.index_image.specs.Walk.{map_maxima, row_in, dims, KeyOk}
use Rattle.index_image.specs.Rows.{monomial_in}
use Rattle.index_image.specs.declared.Shape.{Shape}
use Rattle.kd_slots.specs.Slots.{gcd_width, gcd_words}
use Rattle.kd_descent.specs.declared.Way.{Way}
use Rattle.kd_descent.specs.declared.Way.TheVariants.{Leaf, On}

-- ---- keys by numbers: pw v e is a power, lb e a label
unfoldable pub below_in : ℕ → (ℕ → ℕ → ℕ) → (ℕ → ℕ) → ℕ → ℕ → ℕ → Bool
below_in zero pw lb d k e = ltb (pw d e) k
below_in (suc x) pw lb zero k e = ltb (lb e) (lb k)
below_in (suc x) pw lb (suc v) k e = ltb (pw v e) k

abbrev pub keys_by : ℕ → (ℕ → ℕ → ℕ) → (ℕ → ℕ) → Keys
keys_by x pw lb = record { good = λ e. Unit {0}; valid = λ d k. Unit {0}; below = below_in x pw lb }

-- the dimensions and keys of all branches are in range
unfoldable pub Keyed : Shape → Tree → Type 0
Keyed s (leaf es) = Unit {0}
Keyed s (branch d k l r) = ((d < dims s) × KeyOk s.kind s.entries d k) × (Keyed s l × Keyed s r)

-- ---- where an entry goes
-- one step of the way: it stops at a leaf, behind all its entries; else how many rows on, and how many entries are passed over
unfoldable pub way_of : Keys → ℕ → Tree → Way
way_of K e (leaf es) = Leaf (length es)
way_of K e (branch d k l r) = cond (K.below d k e) (On 1 0) (On (suc (nodes l)) (count l))

-- ---- a row with one entry more, whose lm is `lm`
-- the row at word i is within the image, and has a gcd and the gcd's mask
pub record Row (W : List ℕ) (s : Shape) (i : ℕ) : Type 0 where
  pub inside : i + at.node_width s.variables ≤ at.size s
  pub gcd : front 1 s.variables 0 (drop (at.gcd_at i) W) ≡ 0 → ⊥
  pub masked : part W (at.node_mask_at i) (gcd_width s.variables) ≡ gcd_words s.variables (map_maxima W s) (monomial_in W s.variables (at.gcd_at i))

-- the gcd of a row's c entries and lm; of no entries it is lm
unfoldable pub grown_gcd : List ℕ → ℕ → ℕ → ℕ → List ℕ → List ℕ
grown_gcd W m i c lm = cond (eqb c 0) lm (result_words Gcd (monomial_in W m (at.gcd_at i)) lm)

-- the bytes with the row at word i grown
unfoldable pub grown : List ℕ → List ℕ → Shape → ℕ → List ℕ → List ℕ
grown bs W s i lm =
    paste_w (paste_w bs (at.node_mask_at i) (gcd_words s.variables (map_maxima W s) (grown_gcd W s.variables i (get_or W (at.count_at i) 0) lm))) (at.count_at i) ((get_or W (at.count_at i) 0 + 1) ∷ [])

-- whether an entry with this lm and label lies below a branch's key. The tag of the ratio is the kind of a ratio index, and no other tag is.
unfoldable pub below_key : List ℕ → Shape → List ℕ → ℕ → ℕ → ℕ → Bool
below_key W s lm lab tag key = cond (eqb tag s.kind) (ltb lab (walk.label W s key)) (ltb (pow 1 lm (tag - 1 - s.kind)) key)

-- the tree in the rows from row k on, the powers and labels of its entries, and the entry that comes to it
pub record Growth (W : List ℕ) (s : Shape) (lm : List ℕ) (lab k : ℕ) : Type 0 where
  pub entry : ℕ
  pub power : ℕ → ℕ → ℕ
  pub label : ℕ → ℕ
  pub tree : Tree
  pub rows : part W (at.node_at s k) (nodes tree * at.node_width s.variables) ≡ tree_words s.variables (map_maxima W s) power tree
  pub inside : k + nodes tree ≤ s.nodes
  pub keyed : Keyed s tree
  pub few : count tree < s.capacity
  pub power-is : (v : ℕ) → power v entry ≡ pow 1 lm v
  pub power_small : (v e : ℕ) → power v e ≤ 32767
  pub power-absent : (v e : ℕ) → s.variables ≤ v → power v e ≡ 0
  pub label_is : s.kind ≡ 1 → label entry ≡ lab
  pub labels-are : s.kind ≡ 1 → (k : ℕ) → k < s.entries → label k ≡ walk.label W s k
  pub rows_in : s.kind ≡ 1 → (k : ℕ) → k < s.entries → row_in W s k < s.capacity

module _ {W : List ℕ} {s : Shape} {lm : List ℕ} {lab k : ℕ} (g : Growth W s lm lab k) where
  abbrev pub keys : Keys
  keys = keys_by s.kind g.power g.label

  -- the tree after, its rows, and the entry's place in the permutation
  abbrev pub grown_tree : Tree
  grown_tree = insert keys g.entry g.tree

  abbrev pub grown_rows : List ℕ
  grown_rows = tree_words s.variables (map_maxima W s) g.power grown_tree

  abbrev pub place : ℕ
  place = place_of keys g.entry g.tree
