-- Entries and trees in the image, by its words. Assumes nothing.
use Rattle.std.specs.Prelude.{◌≡◌, List, ℕ, zero, suc, ◌+◌, ◌*◌, ◌≤◌, ◌<◌, length, get_or, drop}
use Rattle.words.specs.Tables.{part}
use Rattle.monomial.specs.Monomial.{front, pow}
use Rattle.divmask.specs.Tracker.{Maxima}
use Rattle.kd_theory.specs.Bag.{◌∈◌}
use Rattle.kd_theory.specs.Tree.{Tree, leaf, branch, inorder, nodes}
use Rattle.index_image.specs.Layout.{tree_words}
use Rattle.index_image.specs.Shape as at
use Rattle.index_image.specs.declared.Shape.{Shape}

-- ---- entries by place
-- how many words the lm of the entry at place e has; 0 where no canonical monomial stands there
abbrev pub lm_length : List ℕ → Shape → ℕ → ℕ
lm_length W s e = front 1 s.variables 0 (drop (at.lm_at s e) W)

unfoldable pub lm_in : List ℕ → Shape → ℕ → List ℕ
lm_in W s e = part W (at.lm_at s e) (lm_length W s e)

-- the power of variable v in it
unfoldable pub power : List ℕ → Shape → ℕ → ℕ → ℕ
power W s v e = pow 1 (lm_in W s e) v

-- in a ratio index, the row of its ratio in the label map, and the label there
abbrev pub row_in : List ℕ → Shape → ℕ → ℕ
row_in W s e = get_or W (at.row_at s e) 0

unfoldable pub label : List ℕ → Shape → ℕ → ℕ
label W s e = get_or W (at.label_at s (row_in W s e)) 0

abbrev pub map_maxima : List ℕ → Shape → List ℕ
map_maxima W s = part W (at.map_at s.variables) s.variables

-- what is known before the walk: the words that it reads are there and make sense
pub record Ready (W : List ℕ) (s : Shape) : Type 0 where
  pub range : at.InRange s
  pub room : at.size s ≤ length W
  pub map : Maxima s.variables (map_maxima W s)
  pub lms : (e : ℕ) → e < s.entries → lm_length W s e ≡ 0 → ⊥
  pub places : (i : ℕ) → i < s.entries → get_or W (at.permutation_at s + i) 0 < s.entries
  pub rows : s.kind ≡ 1 → (e : ℕ) → e < s.entries → row_in W s e < s.capacity

-- ---- trees by numbers: pw v e is a power, lb e a label, n the number of entries
-- the dimensions: dimension 0 of a ratio index is the ratio
abbrev pub dims : Shape → ℕ
dims s = s.variables + s.kind

-- entry e lies below the key k of dimension d
unfoldable pub Below : ℕ → (ℕ → ℕ → ℕ) → (ℕ → ℕ) → ℕ → ℕ → ℕ → Type 0
Below zero pw lb d k e = pw d e < k
Below (suc x) pw lb zero k e = lb e < lb k
Below (suc x) pw lb (suc v) k e = pw v e < k

-- a key of dimension 0 of a ratio index is the place of an entry
unfoldable pub KeyOk : ℕ → ℕ → ℕ → ℕ → Type 0
KeyOk zero n d k = Unit {0}
KeyOk (suc x) n zero k = k < n
KeyOk (suc x) n (suc v) k = Unit {0}

pub record Sides (s : Shape) (pw : ℕ → ℕ → ℕ) (lb : ℕ → ℕ) (d k : ℕ) (l r : List ℕ) : Type 0 where
  pub dim : d < dims s
  pub key : KeyOk s.kind s.entries d k
  pub some-less : 0 < length l
  pub some-other : 0 < length r
  pub less : (e : ℕ) → e ∈ l → Below s.kind pw lb d k e
  pub other : (e : ℕ) → e ∈ r → Below s.kind pw lb d k e → ⊥

unfoldable pub Ordered : Shape → (ℕ → ℕ → ℕ) → (ℕ → ℕ) → Tree → Type 0
Ordered s pw lb (leaf es) = Unit {0}
Ordered s pw lb (branch d k l r) = Sides s pw lb d k (inorder l) (inorder r) × (Ordered s pw lb l × Ordered s pw lb r)

-- the rows of the tree t, by a map and powers, stand at node row k, its entries from place lo of the permutation on
pub record Stands (W : List ℕ) (s : Shape) (xs : List ℕ) (pw : ℕ → ℕ → ℕ) (k lo : ℕ) (t : Tree) : Type 0 where
  pub rows : part W (at.node_at s k) (nodes t * at.node_width s.variables) ≡ tree_words s.variables xs pw t
  pub perm : part W (at.permutation_at s + lo) (length (inorder t)) ≡ inorder t

-- the same by the image's own map and powers, in order
pub record TreeAt (W : List ℕ) (s : Shape) (k lo : ℕ) (t : Tree) : Type 0 where
  pub stands : Stands W s (map_maxima W s) (power W s) k lo t
  pub ordered : Ordered s (power W s) (label W s) t
