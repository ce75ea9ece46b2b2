-- The image of a label map, and which bytes hold one. Assumes nothing.
use Rattle.std.specs.Prelude.{◌≡◌, Result, List, [], ◌∷◌, ◌++◌, ℕ, suc, ◌+◌, ◌-◌, ◌*◌, ◌≤◌, ◌<◌, length, get_or, drop}
use Rattle.words.specs.Kinds.{kind, payload, index_word}
use Rattle.words.specs.Words.{words, paste_w}
use Rattle.words.specs.Tables.{part, zeros, table}
use Rattle.monomial.specs.Monomial.{front, first}
use Rattle.monomial_ordering.specs.Order.{TotalOf}
use Rattle.monomial_ordering.specs.declared.Total.{Total}
use Rattle.std.specs.declared.cmp.Ordering.TheVariants.{Less}
use Rattle.fast_compare.specs.Labels.{sorted}
use Rattle.fast_compare.specs.Map.{Value, cmp, Row, State, row, value, Valid, answer, after}
use Rattle.fast_compare.specs.declared.Comparer.{Comparer}
use Rattle.fast_compare.specs.declared.Unlabelled.{Unlabelled}

-- the index, the ratio's words and zeros up to m + 1 words, the label
unfoldable pub row_words : ℕ → Row → List ℕ
row_words m r = index_word r.value.index ∷ (r.value.ratio ++ (zeros (m + 1 - length r.value.ratio) ++ (r.label ∷ [])))

-- the header, the rows in order of arrival, and the row numbers in rising order of value; what is not used is 0
unfoldable pub encode : State → List ℕ
encode st =
    (1 ∷ st.variables ∷ st.capacity ∷ length st.rows ∷ [])
    ++ (table (length st.rows) (λ i. row_words st.variables (row st.rows i))
    ++ (zeros ((st.capacity - length st.rows) * (st.variables + 3))
    ++ (sorted cmp (value st.rows) (length st.rows) ++ zeros (st.capacity - length st.rows))))

-- the length of the image in words
abbrev pub size : ℕ → ℕ → ℕ
size m c = 4 + c * (m + 3) + c

-- the first word of row i, and of the sorted order
abbrev pub row_at : ℕ → ℕ → ℕ
row_at m i = 4 + i * (m + 3)

abbrev pub order_at : ℕ → ℕ → ℕ
order_at m c = 4 + c * (m + 3)

-- the bytes begin with the image of st; bytes past its length are not judged
pub record Is (st : State) (bs : List ℕ) : Type 0 where
  pub valid : Valid st
  pub room : 4 * size st.variables st.capacity ≤ length bs
  pub is : part (words bs) 0 (size st.variables st.capacity) ≡ encode st

-- the bytes begin with the image of some valid map
pub record Sound (bs : List ℕ) : Type 0 where
  pub state : State
  pub is : Is state bs

-- the same for a map of m variables and capacity c
pub record SoundFor (m c : ℕ) (bs : List ℕ) : Type 0 where
  pub state : State
  pub is : Is state bs
  pub vars : state.variables ≡ m
  pub cap : state.capacity ≡ c

-- ---- the image by its words
-- how many words the ratio at word `at` has; 0 where no canonical ratio in m variables stands there
abbrev pub ratio_words : List ℕ → ℕ → ℕ → ℕ
ratio_words W m at = front 2 m 0 (drop at W)

-- the total of the ratio in the row at word `at`
abbrev pub TotalAt : List ℕ → ℕ → Total → Type 0
TotalAt W at t = TotalOf 2 (first 2 (drop (at + 1) W)) t

-- the value of the row that starts at word `at`
unfoldable pub value_at : List ℕ → ℕ → ℕ → Value
value_at W m at = record { index = payload (get_or W at 0); ratio = part W (at + 1) (ratio_words W m (at + 1)) }

-- a canonical ratio in some number of variables stands at word `at`
pub record HasRatio (W : List ℕ) (at : ℕ) : Type 0 where
  pub vars : ℕ
  pub few : vars ≤ 4096
  pub some : ratio_words W vars at ≡ 0 → ⊥

-- the m + 3 words from word `at` on are a row
pub record RowOk (W : List ℕ) (m at : ℕ) : Type 0 where
  pub kinded : kind (get_or W at 0) ≡ 3
  pub some : ratio_words W m (at + 1) ≡ 0 → ⊥
  pub rest : part W (at + 1 + ratio_words W m (at + 1)) (m + 1 - ratio_words W m (at + 1)) ≡ zeros (m + 1 - ratio_words W m (at + 1))

-- the row at word a lies below the row at word b, and so does its label
pub record Rises (W : List ℕ) (m a b : ℕ) : Type 0 where
  pub values : cmp (value_at W m a) (value_at W m b) ≡ Less
  pub labels : get_or W (a + (m + 2)) 0 < get_or W (b + (m + 2)) 0

-- the n words from word `at` on are row numbers in rising order of values and labels
pub record OrderOk (W : List ℕ) (m at n : ℕ) : Type 0 where
  pub inside : (k : ℕ) → k < n → get_or W (at + k) 0 < n
  pub up : (k : ℕ) → suc k < n → Rises W m (row_at m (get_or W (at + k) 0)) (row_at m (get_or W (at + suc k) 0))

-- the tables of a map of m variables, capacity c and n rows
pub record TablesOk (W : List ℕ) (m c n : ℕ) : Type 0 where
  pub rows : (i : ℕ) → i < n → RowOk W m (row_at m i)
  pub rows-rest : part W (row_at m n) ((c - n) * (m + 3)) ≡ zeros ((c - n) * (m + 3))
  pub order : OrderOk W m (order_at m c) n
  pub order-rest : part W (order_at m c + n) (c - n) ≡ zeros (c - n)

-- the header is that of a map of m variables and capacity c, which the bytes have room for
pub record HeadOk (W : List ℕ) (m c len : ℕ) : Type 0 where
  pub vars-from : 1 ≤ m
  pub vars-to : m ≤ 64
  pub cap-from : 1 ≤ c
  pub cap-to : c ≤ 4096
  pub room : 4 * size m c ≤ len
  pub layout : get_or W 0 0 ≡ 1
  pub variables : get_or W 1 0 ≡ m
  pub capacity : get_or W 2 0 ≡ c
  pub few : get_or W 3 0 ≤ c

-- ---- what a call leaves
-- the answer of `answer`, and the bytes of the map after it
pub record Gave (st : State) (q : Value) (r : Result Comparer Unlabelled) (entry exit : List ℕ) : Type 0 where
  pub answers : r ≡ answer st q
  pub bytes : exit ≡ paste_w entry 0 (encode (after st q))
