-- What the door's checks decide, table by table, by the words of the image. Assumes nothing.
use Rattle.std.specs.Prelude.{◌≡◌, List, ℕ, ◌+◌, ◌-◌, ◌*◌, ◌≤◌, ◌<◌, length, get_or, take, drop}
use Rattle.words.specs.Kinds.{kind, payload}
use Rattle.words.specs.Tables.{part, zeros}
use Rattle.monomial.specs.Monomial.{front, pow}
use Rattle.monomial.specs.Operations.{result_words}
use Rattle.monomial.specs.declared.ordered_ops.Op.{Op}
use Rattle.divmask.specs.Mask.{mask, vector}
use Rattle.divmask.specs.Tracker.{Maxima}
use Rattle.fast_compare.specs.Map as map
use Rattle.fast_compare.specs.Layout as labels
use Rattle.index_theory.specs.Entries.{quotient_of}
use Rattle.index_image.specs.Shape as at
use Rattle.index_image.specs.Walk.{lm_in, row_in, map_maxima}
use Rattle.index_image.specs.declared.Shape.{Shape}

-- ---- a slot with a canonical monomial, and its mask and short exponent vector behind it
abbrev pub slot_length : List ℕ → ℕ → ℕ → ℕ
slot_length W m i = front 1 m 0 (drop i W)

unfoldable pub slot_in : List ℕ → ℕ → ℕ → List ℕ
slot_in W m i = part W i (slot_length W m i)

pub record MaskedSlot (W : List ℕ) (m : ℕ) (xs : List ℕ) (i : ℕ) : Type 0 where
  pub some : slot_length W m i ≡ 0 → ⊥
  pub rest : part W (i + slot_length W m i) (at.slot_width m - slot_length W m i) ≡ zeros (at.slot_width m - slot_length W m i)
  pub masked : get_or W (at.mask_at m i) 0 ≡ mask m xs (pow 1 (slot_in W m i))
  pub vectored : get_or W (at.vector_at m i) 0 ≡ vector m (pow 1 (slot_in W m i))

-- ---- the entry at place i. In a ratio index its ratio is the value of a row of the label map.
abbrev pub index_in : List ℕ → Shape → ℕ → ℕ
index_in W s i = payload (get_or W (at.index_at s i) 0)

unfoldable pub sign_in : List ℕ → Shape → ℕ → List ℕ
sign_in W s i = slot_in W s.variables (at.sign_at s i)

-- the words C start with the ratio A / B
abbrev pub HasRatio : List ℕ → List ℕ → List ℕ → Type 0
HasRatio A B C = part C 0 (length (result_words Op.Ratio A B)) ≡ result_words Op.Ratio A B

-- the bytes of the label map; the words from it on, and the number of its rows
abbrev pub label_bytes : List ℕ → Shape → List ℕ
label_bytes bs s = take (4 * at.labels_size s) (drop (4 * at.labels_at s) bs)

abbrev pub labels_in : List ℕ → Shape → List ℕ
labels_in W s = drop (at.labels_at s) W

abbrev pub rows_in : List ℕ → Shape → ℕ
rows_in W s = get_or W (at.rows_count_at s) 0

abbrev pub row_value : List ℕ → Shape → ℕ → map.Value
row_value W s j = labels.value_at (labels_in W s) s.variables (labels.row_at s.variables j)

pub record RatioOk (W : List ℕ) (s : Shape) (i : ℕ) : Type 0 where
  pub kinded : kind (get_or W (at.index_at s i) 0) ≡ 3
  pub sign : MaskedSlot W s.variables (map_maxima W s) (at.sign_at s i)
  pub row : row_in W s i < rows_in W s
  pub ratio : row_value W s (row_in W s i) ≡ quotient_of (index_in W s i) (sign_in W s i) (lm_in W s i)

pub record EntryOk (W : List ℕ) (s : Shape) (i : ℕ) : Type 0 where
  pub lm : MaskedSlot W s.variables (map_maxima W s) (at.lm_at s i)
  pub ratio : s.kind ≡ 1 → RatioOk W s i

-- what is known of an entry of a ratio index before its ratio is looked at
pub record RatioReady (W : List ℕ) (s : Shape) (i : ℕ) : Type 0 where
  pub kinded : kind (get_or W (at.index_at s i) 0) ≡ 3
  pub sign : slot_length W s.variables (at.sign_at s i) ≡ 0 → ⊥
  pub lm : slot_length W s.variables (at.lm_at s i) ≡ 0 → ⊥
  pub row : row_in W s i < s.capacity
  pub row_ok : labels.RowOk (labels_in W s) s.variables (labels.row_at s.variables (row_in W s i))

-- what is known of the tables before the entries are looked at: the map's maxima, and in a ratio index the rows of the label map
pub record Tables (W : List ℕ) (s : Shape) : Type 0 where
  pub map : Maxima s.variables (map_maxima W s)
  pub few : s.kind ≡ 1 → rows_in W s ≤ s.capacity
  pub rows : s.kind ≡ 1 → (j : ℕ) → j < rows_in W s → labels.RowOk (labels_in W s) s.variables (labels.row_at s.variables j)

pub record EntriesOk (W : List ℕ) (s : Shape) : Type 0 where
  pub each : (i : ℕ) → i < s.entries → EntryOk W s i
  pub rest : part W (at.entry_at s s.entries) ((s.capacity - s.entries) * at.entry_width s) ≡ zeros ((s.capacity - s.entries) * at.entry_width s)
