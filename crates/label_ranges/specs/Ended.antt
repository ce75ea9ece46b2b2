-- Where the labels of ratios above and below a value, and of indexes from one on, lie. Assumes nothing.
use Rattle.std.specs.Prelude.{◌≡◌, not, cond, ℕ, ◌≤◌, ◌<◌, leb, ltb, length, get_or}
use Rattle.fast_compare.specs.Labels.{sorted}
use Rattle.fast_compare.specs.Map as map
use Rattle.index_theory.specs.Entries.{above}

-- the values above v have the labels from `up` on, those below it the labels below `down`
pub record Ends (l : map.State) (v : map.Value) (up down : ℕ) : Type 0 where
  pub up_is : (i : ℕ) → i < length l.rows → above (map.value l.rows i) v ≡ leb up (map.label l.rows i)
  pub down_is : (i : ℕ) → i < length l.rows → above v (map.value l.rows i) ≡ ltb (map.label l.rows i) down

-- the values whose index is not below x have the labels from r on
pub record From (l : map.State) (x r : ℕ) : Type 0 where
  pub is : (i : ℕ) → i < length l.rows → not (ltb (map.value l.rows i).index x) ≡ leb r (map.label l.rows i)

-- the row with p values below its own, and its index
unfoldable pub row_of_rank : map.State → ℕ → ℕ
row_of_rank l p = get_or (sorted map.cmp (map.value l.rows) (length l.rows)) p 0

abbrev pub index_of_rank : map.State → ℕ → ℕ
index_of_rank l p = (map.value l.rows (row_of_rank l p)).index

-- the label of the row with p values below its own; 2^32 where there is none
unfoldable pub label_of_rank : map.State → ℕ → ℕ
label_of_rank l p = cond (ltb p (length l.rows)) (map.label l.rows (row_of_rank l p)) 4294967296

-- in the order of values, the rows before lo have an index below x, those from hi on have not
pub record Halved (l : map.State) (x lo hi : ℕ) : Type 0 where
  pub inside : hi ≤ length l.rows
  pub below : (p : ℕ) → p < lo → index_of_rank l p < x
  pub from : (p : ℕ) → hi ≤ p → p < length l.rows → x ≤ index_of_rank l p
