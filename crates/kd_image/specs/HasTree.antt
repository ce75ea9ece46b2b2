-- A tree somewhere in an image whose other tables are those of a state, and what it means that it became another. Assumes nothing.
use Rattle.std.specs.Prelude.{◌≡◌, List, ℕ, ◌+◌, ◌*◌, ◌≤◌, ◌<◌, length, get_or, drop}
use Rattle.words.specs.Words.{words}
use Rattle.words.specs.Tables.{part}
use Rattle.kd_theory.specs.Tree.{Tree, inorder, count, nodes, Ordered}
use Rattle.index_theory.specs.Entries.{entry_at}
use Rattle.index_theory.specs.State.{State, Valid, power_in, keys}
use Rattle.index_image.specs.Layout.{code, entry_words, tree_words, label_words}
use Rattle.index_image.specs.Shape as at
use Rattle.index_image.specs.declared.Shape.{Shape}

-- the tables of st but its tree: what no search changes
pub record Holds (st : State) (W : List ℕ) (s : Shape) : Type 0 where
  pub valid : Valid st
  pub kind : s.kind ≡ code st.kind
  pub vars : s.variables ≡ st.variables
  pub cap : s.capacity ≡ st.capacity
  pub size : s.entries ≡ length st.entries
  pub range : at.InRange s
  pub room : at.size s ≤ length W
  pub map : part W (at.map_at s.variables) s.variables ≡ st.map_maxima
  pub entries : (i : ℕ) → i < s.entries → part W (at.entry_at s i) (at.entry_width s) ≡ entry_words st.kind s.variables st.map_maxima st.labels (entry_at st.entries i)
  pub labels : part W (at.labels_at s) (at.labels_size s) ≡ label_words st.kind st.labels
  pub places : (i : ℕ) → i < s.entries → get_or W (at.permutation_at s + i) 0 < s.entries

-- the rows of t stand from row k on, its entries from place lo of the permutation on
pub record Stands (st : State) (W : List ℕ) (s : Shape) (k lo : ℕ) (t : Tree) : Type 0 where
  pub rows : part W (at.node_at s k) (nodes t * (s.variables + 6)) ≡ tree_words s.variables st.map_maxima (power_in st.entries) t
  pub perm : part W (at.permutation_at s + lo) (count t) ≡ inorder t

-- the same, with room: `rows` rows are in use, and each entry of t may come to need two
pub record HasTree (st : State) (W : List ℕ) (s : Shape) (k lo rows : ℕ) (t : Tree) : Type 0 where
  pub holds : Holds st W s
  pub stands : Stands st W s k lo t
  pub ordered : Ordered (keys st) t
  pub fits : k + nodes t ≤ rows
  pub rows-to : rows + 1 ≤ 2 * s.capacity
  pub inside : lo + count t ≤ s.entries
  pub room : rows + 2 * count t ≤ nodes t + 2 * s.capacity

-- The tree t at row k has become u, and the bytes bs have become bs': u stands there, the rows behind t have moved behind u,
-- and no other word of the image and no byte past it is changed.
pub record Became (st : State) (bs bs' : List ℕ) (s : Shape) (k lo rows rows' : ℕ) (t u : Tree) : Type 0 where
  pub long : length bs' ≡ length bs
  pub rest : drop (4 * at.size s) bs' ≡ drop (4 * at.size s) bs
  pub grown : rows' + nodes t ≡ rows + nodes u
  pub more : nodes t ≤ nodes u
  pub same : count u ≡ count t
  pub stands : Stands st (words bs') s k lo u
  pub before : (i : ℕ) → i < at.permutation_at s + lo → get_or (words bs') i 0 ≡ get_or (words bs) i 0
  pub between : (i : ℕ) → at.permutation_at s + lo + count t ≤ i → i < at.node_at s k → get_or (words bs') i 0 ≡ get_or (words bs) i 0
  pub later : (i : ℕ) → at.node_at s (k + nodes t) + i < at.node_at s rows → get_or (words bs') (at.node_at s (k + nodes u) + i) 0 ≡ get_or (words bs) (at.node_at s (k + nodes t) + i) 0
  pub behind : (i : ℕ) → at.node_at s rows' ≤ i → get_or (words bs') i 0 ≡ get_or (words bs) i 0
