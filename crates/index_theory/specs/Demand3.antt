-- Demand 3, one claim: two whole lists of calls, refused ones included, on two valid states, and the query after them. Assumes nothing.
use Rattle.std.specs.Prelude.{◌≡◌, false, cond, List, [], ◌∷◌, ◌++◌, ℕ, ◌+◌, ◌<◌, eqb, length}
use Rattle.words.specs.Kinds.{kind, payload, answer_word}
use Rattle.index_theory.specs.Entries.{Entry, entry_at, ratio_of, above}
use Rattle.index_theory.specs.State.{Kind, State, Valid}
use Rattle.index_theory.specs.Searches.{Query, containment, reducing, high, low, singular}
use Rattle.index_theory.specs.Calls.{Call, insertion, query, insert_number, Asked, refused, asks, ask, numbered, step, after, answers, held}
use Rattle.index_theory.specs.Claims.{CallOf}

-- ---- what a list took: the entry of each insert that was answered by a kind 4 word, under the number answered
abbrev pub taken_by : Asked → ℕ → List Entry
taken_by (refused n) a = []
taken_by (asks (query r)) a = []
taken_by (asks (insertion e)) a = cond (eqb (kind a) 4) (numbered (payload a) e ∷ []) []

unfoldable pub taken : Kind → ℕ → List Call → List ℕ → List Entry
taken k m [] xs = []
taken k m (c ∷ cs) [] = []
taken k m (c ∷ cs) (a ∷ xs) = taken_by (ask k m c) a ++ taken k m cs xs

-- one side, after its list
pub record Side (st : State) (cs : List Call) : Type 0 where
  pub valid : Valid (after st cs)
  pub kind : (after st cs).kind ≡ st.kind
  pub variables : (after st cs).variables ≡ st.variables
  -- exactly what is held, by document 01, is stored
  pub held-stored : (after st cs).entries ≡ held st.kind st.variables st.capacity st.entries cs
  -- and that is what was held under its numbers, and what the list took under the numbers that it answered
  pub numbers : (after st cs).entries ≡ st.entries ++ taken st.kind st.variables cs (answers st cs)

-- ---- two entries are the same where index, signature monomial and lm are; numbers do not count
pub record SameEntry (e x : Entry) : Type 0 where
  pub index : e.index ≡ x.index
  pub sign : e.sign ≡ x.sign
  pub lm : e.lm ≡ x.lm

-- whatever the first holds, the second holds
abbrev pub HoldsAll : List Entry → List Entry → Type 0
HoldsAll H K = (i : ℕ) → i < length H → (j : ℕ) × (j < length K) × SameEntry (entry_at H i) (entry_at K j)

-- repeats counted: to each entry of the first its own one of the second
pub record HoldsEach (H K : List Entry) : Type 0 where
  pub to : ℕ → ℕ
  pub inside : (i : ℕ) → i < length H → to i < length K
  pub same : (i : ℕ) → i < length H → SameEntry (entry_at H i) (entry_at K (to i))
  pub apart : (i j : ℕ) → i < length H → j < length H → to i ≡ to j → i ≡ j

-- ---- not unsaid
-- the answer names the entry at place i; for a reducer, as regular or as singular
abbrev pub Names : List Entry → ℕ → ℕ → Type 0
Names H a i = (i < length H) × (a ≡ answer_word ((entry_at H i).number + 1))

abbrev pub NamesSingular : List Entry → ℕ → ℕ → Type 0
NamesSingular H a i = (i < length H) × (a ≡ answer_word ((entry_at H i).number + 1 + 134217728))

-- where the first finds one the second does, and its ratio is at least as large
pub data NoSmaller (H K : List Entry) (a b : ℕ) : Type 0 where
  finds-none : a ≡ answer_word 0 → NoSmaller H K a b
  finds-both : (i j : ℕ) → Names H a i → Names K b j → above (ratio_of (entry_at H i)) (ratio_of (entry_at K j)) ≡ false → NoSmaller H K a b

-- where the first finds a reducer the second does, and a regular one where the first's is
pub data NoWorse (H K : List Entry) (a b : ℕ) : Type 0 where
  finds-none : a ≡ answer_word 0 → NoWorse H K a b
  finds-regular : (j : ℕ) → Names K b j → NoWorse H K a b
  finds-singular : (i j : ℕ) → NamesSingular H a i → NamesSingular K b j → NoWorse H K a b

abbrev pub NotUnsaid : List Entry → List Entry → Query → ℕ → ℕ → Type 0
NotUnsaid H K (containment q) a b = a ≡ answer_word 1 → b ≡ answer_word 1
NotUnsaid H K (reducing v q) a b = NoWorse H K a b
NotUnsaid H K (high v q) a b = NoSmaller H K a b
NotUnsaid H K (low i s) a b = NoSmaller H K a b
NotUnsaid H K (singular i s l) a b = a ≡ answer_word 1 → b ≡ answer_word 1

-- the call is no insert and is not refused
pub record Answered (st : State) (c : Call) : Type 0 where
  pub no-insert : c.number ≡ insert_number st.kind → ⊥
  pub no-refusal : kind (step st c).answer ≡ 5 → ⊥

-- the call is a query, and what the first answered the second does not unsay
pub record StillSaid (st su : State) (c : Call) : Type 0 where
  pub question : Query
  pub calls : CallOf st.kind st.variables (query question) c
  pub not-unsaid : NotUnsaid st.entries su.entries question (step st c).answer (step su c).answer

pub record Demand3 (st su : State) (cs ds : List Call) : Type 0 where
  pub first : Side st cs
  pub second : Side su ds
  -- a query that the first does not refuse (the second, of the same kind, does not refuse it either)
  pub kept : (c : Call) → Answered (after st cs) c → HoldsAll (after st cs).entries (after su ds).entries → StillSaid (after st cs) (after su ds) c

abbrev pub Demand3Met : Type 0
Demand3Met = (st su : State) → Valid st → Valid su → st.kind ≡ su.kind → st.variables ≡ su.variables → (cs ds : List Call) → Demand3 st su cs ds

-- in the demand's own words: repeats counted, over what document 01 says is held
abbrev pub Demand3Counted : Type 0
Demand3Counted = (st su : State) → Valid st → Valid su → st.kind ≡ su.kind → st.variables ≡ su.variables → (cs ds : List Call) (c : Call)
    → Answered (after st cs) c → Answered (after su ds) c
    → HoldsEach (held st.kind st.variables st.capacity st.entries cs) (held su.kind su.variables su.capacity su.entries ds)
    → StillSaid (after st cs) (after su ds) c
