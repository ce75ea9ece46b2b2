-- The label map: its values, its rows in order of arrival, and what its calls answer and leave. Assumes nothing.
use Rattle.std.specs.Ordering.{nat_cmp, ordering_then}
use Rattle.std.specs.Prelude.{cond, Result, Ok, Err, List, [], ◌∷◌, ◌++◌, ℕ, suc, ◌≤◌, ◌<◌, ltb, length, get_or}
use Rattle.std.proofs.Math.Option.{Option, none, some}
use Rattle.monomial.specs.Monomial.{Canonical}
use Rattle.monomial_ordering.specs.Order.{order}
use Rattle.std.specs.declared.cmp.Ordering.{Ordering}
use Rattle.fast_compare.specs.Labels.{below, known, free, half, rebuilt, Labelled}
use Rattle.refusals.specs.declared.Refusal.{Refusal}
use Rattle.fast_compare.specs.declared.Comparer.{Comparer}
use Rattle.fast_compare.specs.declared.Comparer.TheVariants.{Known, New}
use Rattle.fast_compare.specs.declared.Unlabelled.{Unlabelled}
use Rattle.fast_compare.specs.declared.Unlabelled.TheVariants.{Full, NoLabel}

-- a signature index and the words of a ratio
pub record Value : Type 0 where
  pub index : ℕ
  pub ratio : List ℕ

abbrev pub value_of : ℕ → List ℕ → Value
value_of i r = record { index = i; ratio = r }

-- values compare by index, then by ratio
unfoldable pub cmp : Value → Value → Ordering
cmp a b = ordering_then (nat_cmp a.index b.index) (order 2 a.ratio b.ratio)

-- a canonical value in m variables
pub record Good (m : ℕ) (v : Value) : Type 0 where
  pub index-small : v.index < 268435456
  pub canonical : Canonical 2 m v.ratio

pub record Row : Type 0 where
  pub value : Value
  pub label : ℕ

pub record State : Type 0 where
  pub variables : ℕ
  pub capacity : ℕ
  pub rows : List Row

-- row i, in order of arrival
unfoldable pub row : List Row → ℕ → Row
row rs i = get_or rs i (record { value = record { index = 0; ratio = [] }; label = 0 })

abbrev pub value : List Row → ℕ → Value
value rs i = (row rs i).value

abbrev pub label : List Row → ℕ → ℕ
label rs i = (row rs i).label

-- what a map has to be: question 1's numbers, canonical values, each once, and labels that rise with them
pub record Valid (st : State) : Type 0 where
  pub vars-from : 1 ≤ st.variables
  pub vars-to : st.variables ≤ 64
  pub cap-from : 1 ≤ st.capacity
  pub cap-to : st.capacity ≤ 4096
  pub few : length st.rows ≤ st.capacity
  pub good : (i : ℕ) → i < length st.rows → Good st.variables (value st.rows i)
  pub labelled : Labelled cmp (value st.rows) (label st.rows) (length st.rows)

-- the map that an opening gives
abbrev pub empty : ℕ → ℕ → State
empty m c = record { variables = m; capacity = c; rows = [] }

-- ---- the place of a value: how many values lie below it; Ok where it is known
unfoldable pub placed : Option ℕ → ℕ → Result ℕ ℕ
placed (some i) p = Ok p
placed none p = Err p

unfoldable pub place : List Row → Value → Result ℕ ℕ
place rs q = placed (known cmp (value rs) (length rs) q) (below cmp (value rs) (length rs) q)

-- ---- what an answer without a label refuses
abbrev pub refusal : Unlabelled → Refusal
refusal Full = Refusal.Full
refusal NoLabel = Refusal.NoLabel

-- ---- a label for a value. A known value has its label; a new one needs a row and then a free label.
unfoldable pub given : Option ℕ → (ℕ → ℕ) → Result Comparer Unlabelled → Result Comparer Unlabelled
given (some i) l new = Ok (Known (l i))
given none l new = new

unfoldable pub answer : State → Value → Result Comparer Unlabelled
answer st q =
    given (known cmp (value st.rows) (length st.rows) q) (label st.rows)
    (cond (ltb (length st.rows) st.capacity)
    (cond (free cmp (value st.rows) (label st.rows) (length st.rows) q)
    (Ok (New (half cmp (value st.rows) (label st.rows) (length st.rows) q))) (Err NoLabel)) (Err Full))

-- a new label is stored with its value, behind all other rows; any other answer changes nothing
unfoldable pub stored : Result Comparer Unlabelled → State → Value → State
stored (Ok (Known x)) st q = st
stored (Ok (New x)) st q = record {
  variables = st.variables;
  capacity = st.capacity;
  rows = st.rows ++ (record { value = q; label = x } ∷ []);
}
stored (Err r) st q = st

unfoldable pub after : State → Value → State
after st q = stored (answer st q) st q

-- ---- rebuild: the same values, the labels spaced
unfoldable pub relabelled : (ℕ → ℕ) → List Row → List Row
relabelled l [] = []
relabelled l (r ∷ rs) = record { value = r.value; label = l 0 } ∷ relabelled (λ i. l (suc i)) rs

unfoldable pub rebuild : State → State
rebuild st = record {
  variables = st.variables;
  capacity = st.capacity;
  rows = relabelled (rebuilt cmp (value st.rows) (length st.rows)) st.rows;
}
