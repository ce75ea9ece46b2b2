-- What the door's checks decide, table by table; together they decide `Sound`. Assumes nothing.
use Rattle.std.specs.Prelude.{◌≡◌, List, ◌↔◌, ◌⊎◌, ℕ, ◌+◌, ◌-◌, ◌*◌, ◌≤◌, ◌<◌, get_or, Option, Some}
use Rattle.words.specs.Words.{words}
use Rattle.words.specs.Tables.{part, zeros}
use Rattle.divmask.specs.Tracker.{Maxima}
use Rattle.fast_compare.specs.Layout as labels
use Rattle.kd_theory.specs.Tree.{Tree, count, nodes}
use Rattle.index_image.specs.Layout.{Sound}
use Rattle.index_image.specs.Shape as at
use Rattle.index_image.specs.Walk.{map_maxima, TreeAt}
use Rattle.index_image.specs.Door.{label_bytes, rows_in, EntriesOk}
use Rattle.index_image.specs.Marks.{Named}
use Rattle.index_image.specs.declared.Shape.{Shape}

-- the present maxima, and those that the masks were made from
pub record MaximaOk (W : List ℕ) (s : Shape) : Type 0 where
  pub present : Maxima s.variables (part W at.maxima_at s.variables)
  pub map : Maxima s.variables (map_maxima W s)

-- a ratio index has a sound label map
abbrev pub LabelsOk : List ℕ → Shape → Type 0
LabelsOk bs s = s.kind ≡ 1 → labels.SoundFor s.variables s.capacity (label_bytes bs s)

-- each row of it is the ratio of an entry
abbrev pub RowsNamed : List ℕ → Shape → Type 0
RowsNamed W s = s.kind ≡ 1 → (j : ℕ) → j < rows_in W s → Named W (at.row_at s 0) (at.entry_width s) s.entries j

-- the permutation names each entry
pub record PermutationOk (W : List ℕ) (s : Shape) : Type 0 where
  pub places : (i : ℕ) → i < s.entries → get_or W (at.permutation_at s + i) 0 < s.entries
  pub all : (j : ℕ) → j < s.entries → Named W (at.permutation_at s) 1 s.entries j
  pub rest : part W (at.permutation_at s + s.entries) (s.capacity - s.entries) ≡ zeros (s.capacity - s.entries)

-- one tree of all entries, of as many nodes as the header says
pub record NodesOk (W : List ℕ) (s : Shape) : Type 0 where
  pub tree : Tree
  pub is : TreeAt W s 0 0 tree
  pub rows : nodes tree ≡ s.nodes
  pub all : count tree ≡ s.entries
  pub rest : part W (at.node_at s s.nodes) ((2 * s.capacity - 1 - s.nodes) * at.node_width s.variables) ≡ zeros ((2 * s.capacity - 1 - s.nodes) * at.node_width s.variables)

pub record TablesOk (bs : List ℕ) (s : Shape) : Type 0 where
  pub maxima : MaximaOk (words bs) s
  pub labels : LabelsOk bs s
  pub entries : EntriesOk (words bs) s
  pub permutation : PermutationOk (words bs) s
  pub named : RowsNamed (words bs) s
  pub nodes-ok : NodesOk (words bs) s

-- a tree of at most all entries stands at the first node row
pub record Root (W : List ℕ) (s : Shape) (t : Tree) : Type 0 where
  pub is : TreeAt W s 0 0 t
  pub inside : nodes t ≤ s.nodes
  pub few : count t ≤ s.entries

-- r is the number of its rows, or that there is none
pub record Rooted (W : List ℕ) (s : Shape) (r : Option ℕ) : Type 0 where
  pub only : (t : Tree) → Root W s t → r ≡ Some (nodes t)
  pub made : (n : ℕ) → r ≡ Some n → (t : Tree) × Root W s t

-- ---- question 3: 0 is served
pub record Judged (bs : List ℕ) (r : ℕ) : Type 0 where
  pub number : (r ≡ 0) ⊎ (r ≡ 3)
  pub sound : (r ≡ 0) ↔ Sound bs
