-- The image of an index: one valid state, one list of words. docs/LAYOUT.md has the tables. Assumes nothing.
use Rattle.std.specs.Prelude.{◌≡◌, List, [], ◌∷◌, ◌++◌, ℕ, suc, ◌-◌, ◌*◌, ◌≤◌, length}
use Rattle.words.specs.Kinds.{index_word}
use Rattle.words.specs.Words.{words}
use Rattle.words.specs.Tables.{part, zeros, table}
use Rattle.monomial.specs.Monomial.{pow, monomial_of}
use Rattle.divmask.specs.Mask.{mask, vector}
use Rattle.fast_compare.specs.Map as map
use Rattle.fast_compare.specs.Layout as labels
use Rattle.kd_theory.specs.Bifurcate.{least}
use Rattle.kd_theory.specs.Tree.{Tree, leaf, branch, inorder, nodes}
use Rattle.index_theory.specs.Entries.{Entry, entry_at, ratio_of}
use Rattle.index_theory.specs.State.{Kind, monomials, ratioed, State, Valid, power_in, row_of}
use Rattle.index_image.specs.Shape as at
use Rattle.index_image.specs.declared.Shape.{Shape}

-- ---- the words
abbrev pub code : Kind → ℕ
code monomials = 0
code ratioed = 1

-- the numbers of a state's header, which say where its tables begin
abbrev pub shape_of : State → Shape
shape_of st = record {
  kind = code st.kind;
  variables = st.variables;
  capacity = st.capacity;
  entries = length st.entries;
  nodes = nodes st.tree;
}

unfoldable pub header : State → List ℕ
header st = 1 ∷ code st.kind ∷ st.variables ∷ st.capacity ∷ length st.entries ∷ nodes st.tree ∷ zeros at.kept

-- a monomial in its slot
unfoldable pub slot : ℕ → List ℕ → List ℕ
slot m ws = ws ++ zeros (at.slot_width m - length ws)

-- and with its mask and short exponent vector behind it, before the words `rest`
unfoldable pub masked : ℕ → List ℕ → List ℕ → List ℕ → List ℕ
masked m xs ws rest = slot m ws ++ (mask m xs (pow 1 ws) ∷ vector m (pow 1 ws) ∷ rest)

-- what a ratio index adds to an entry
unfoldable pub sign_words : Kind → ℕ → List ℕ → map.State → Entry → List ℕ
sign_words monomials m xs l e = []
sign_words ratioed m xs l e = index_word e.index ∷ masked m xs e.sign (row_of l (ratio_of e) ∷ [])

unfoldable pub entry_words : Kind → ℕ → List ℕ → map.State → Entry → List ℕ
entry_words k m xs l e = masked m xs e.lm (sign_words k m xs l e)

-- Nodes speak of entries by their places. pw v e is the power of variable v in the lm of the entry at place e.
-- the powers of the gcd of the entries at some places; of none it is one
unfoldable pub gcd_powers : (ℕ → ℕ → ℕ) → List ℕ → ℕ → ℕ
gcd_powers pw places v = least (pw v) places

abbrev pub gcd_of : (ℕ → ℕ → ℕ) → List ℕ → List ℕ
gcd_of pw places = monomial_of 1 (gcd_powers pw places)

unfoldable pub node_words : ℕ → List ℕ → (ℕ → ℕ → ℕ) → ℕ → ℕ → ℕ → List ℕ → List ℕ
node_words m xs pw tag key skip places =
    tag ∷ key ∷ length places ∷ skip ∷ mask m xs (gcd_powers pw places) ∷ slot m (gcd_of pw places)

-- the nodes in preorder: a leaf has tag, key and skip 0; a branch on dimension d has tag 1 + d, and skips the nodes of its less side
unfoldable pub tree_words : ℕ → List ℕ → (ℕ → ℕ → ℕ) → Tree → List ℕ
tree_words m xs pw (leaf places) = node_words m xs pw 0 0 0 places
tree_words m xs pw (branch d k l r) =
    node_words m xs pw (suc d) k (nodes l) (inorder l ++ inorder r) ++ (tree_words m xs pw l ++ tree_words m xs pw r)

unfoldable pub label_words : Kind → map.State → List ℕ
label_words monomials l = []
label_words ratioed l = labels.encode l

-- the places of the entries stand in the order of the leaves; what is not used is 0
unfoldable pub encode : State → List ℕ
encode st =
    let k = st.kind in
    let m = st.variables in
    let n = length st.entries in
    let xs = st.map_maxima in
    header st
    ++ (st.maxima
    ++ (xs
    ++ (table n (λ i. entry_words k m xs st.labels (entry_at st.entries i))
    ++ (zeros ((st.capacity - n) * at.entry_width (shape_of st))
    ++ (inorder st.tree
    ++ (zeros (st.capacity - n)
    ++ (label_words k st.labels
    ++ (tree_words m xs (power_in st.entries) st.tree
    ++ zeros ((2 * st.capacity - 1 - nodes st.tree) * at.node_width m)))))))))

-- ---- which bytes hold an index
-- the bytes begin with the image of st; bytes past its length are not judged
pub record Is (st : State) (bs : List ℕ) : Type 0 where
  pub valid : Valid st
  pub room : 4 * at.size (shape_of st) ≤ length bs
  pub is : part (words bs) 0 (at.size (shape_of st)) ≡ encode st

-- sound: the bytes begin with the image of some valid state
pub record Sound (bs : List ℕ) : Type 0 where
  pub state : State
  pub is : Is state bs
