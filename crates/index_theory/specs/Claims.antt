-- What is claimed of the indexes, demand 2: which calls a list has, which are refused, what each answers, and what it leaves.
-- The proofs are in proofs/Theorems.antt, under the same names in small letters. Demand 3 is in Demand3.antt. Assumes nothing.
use Rattle.std.specs.Prelude.{Err, ◌≡◌, true, false, cond, List, [], ◌∷◌, ◌++◌, ◌⊎◌, ◌↔◌, ℕ, zero, suc, ◌+◌, ◌*◌, ◌≤◌, ◌<◌, ltb, length}
use Rattle.std.proofs.Math.Option.{Option, none, some}
use Rattle.words.specs.Kinds.{kind, call_word, answer_word, refusal_word}
use Rattle.monomial.specs.Monomial.{Canonical, pow}
use Rattle.monomial.specs.Operations.{Divides}
use Rattle.divmask.specs.Mask.{mask, within}
use Rattle.divmask.specs.Tracker.{Maxima, updated}
use Rattle.fast_compare.specs.Map as map
use Rattle.fast_compare.specs.declared.Unlabelled.TheVariants.{NoLabel}
use Rattle.kd_theory.specs.Bag.{◌∈◌, fold_until}
use Rattle.kd_theory.specs.Tree.{inorder, nodes, Split, start, outcome, Path, goes_less, goes_other}
use Rattle.kd_theory.specs.Bifurcate.{least, ratio_key}
use Rattle.kd_theory.specs.Queries.{NoneOf, First, Last, FirstLargest}
use Rattle.kd_theory.specs.Fixed.{IsSplit, AverageKey, RatioKey, Grown, Run, Settled, Added, Placed}
use Rattle.index_theory.specs.Entries.{Entry, entry_at, quotient_of, ratio_of, above}
use Rattle.index_theory.specs.Meaning.{SomeEntry, Contained, Reduces, Regular, High, Low, Singular, Largest}
use Rattle.index_theory.specs.State.{Kind, monomials, ratioed, State, Valid, power_in, label_of, ratios_of, dims, keys, opened}
use Rattle.index_theory.specs.Searches.{Query, containment, reducing, high, low, singular, kind_for, dense, ratio_at, path, process, find}
use Rattle.index_theory.specs.Calls.{Call, listed, Request, insertion, query, number_of, words_of, GoodQuery, GoodRequest, refused, asks, ask, numbered, step, after, answers, held}

-- ---- the calls of a list
-- a call number is a payload, and a body runs to the next kind 6 word
pub record OneCall (c : Call) : Type 0 where
  pub number_small : c.number < 268435456
  pub body-ends : (w : ℕ) → w ∈ c.body → kind w ≡ 6 → ⊥

abbrev pub AllCalls : List Call → Type 0
AllCalls [] = Unit {0}
AllCalls (c ∷ cs) = OneCall c × AllCalls cs

-- calls written out one behind the other, each the call word and then the body
abbrev pub written : List Call → List ℕ
written [] = []
written (c ∷ cs) = call_word c.number ∷ c.body ++ written cs

-- a list is exactly its calls; only a list that starts with another kind has none
pub record CallsExact : Type 0 where
  pub calls : (ws : List ℕ) (cs : List Call) → (listed ws ≡ some cs) ↔ ((written cs ≡ ws) × AllCalls cs)
  pub none : (ws : List ℕ) → (listed ws ≡ none) ↔ ((w : ℕ) × (rest : List ℕ) × (ws ≡ w ∷ rest) × (kind w ≡ 6 → ⊥))

-- ---- which calls are refused, and with which number
-- 0 and 1 belong to monomial indexes, 2 to 6 to ratio indexes
abbrev pub Serves : Kind → ℕ → Type 0
Serves monomials n = n ≤ 1
Serves ratioed n = (2 ≤ n) × (n ≤ 6)

-- the call is the request's: its number and exactly its words, canonical
pub record CallOf (k : Kind) (m : ℕ) (r : Request) (c : Call) : Type 0 where
  pub fits : GoodRequest k m r
  pub number : c.number ≡ number_of k r
  pub body : c.body ≡ words_of k r

pub record AskExact (k : Kind) (m : ℕ) (c : Call) : Type 0 where
  pub request : (r : Request) → (ask k m c ≡ asks r) ↔ CallOf k m r c
  pub six : (ask k m c ≡ refused 6) ↔ (Serves k c.number → ⊥)
  pub seven : (ask k m c ≡ refused 7) ↔ (Serves k c.number × ((r : Request) → CallOf k m r c → ⊥))
  pub no_other : (n : ℕ) → ask k m c ≡ refused n → (n ≡ 6) ⊎ (n ≡ 7)

abbrev pub AsksExact : Type 0
AsksExact = (k : Kind) (m : ℕ) → 1 ≤ m → (c : Call) → AskExact k m c

-- a call that they refuse answers the number as a kind 5 word, and changes nothing
abbrev pub RefusedKept : Type 0
RefusedKept = (st : State) (c : Call) (n : ℕ) → ask st.kind st.variables c ≡ refused n → step st c ≡ record { answer = refusal_word n; state = st }

-- ---- lists: one answer word a call, each on the state as the last left it
pub record ListsExact (st : State) : Type 0 where
  pub none : answers st [] ≡ []
  pub none_after : after st [] ≡ st
  pub one : (c : Call) → answers st (c ∷ []) ≡ (step st c).answer ∷ []
  pub one-after : (c : Call) → after st (c ∷ []) ≡ (step st c).state
  pub many : (cs : List Call) → length (answers st cs) ≡ length cs
  pub two : (cs ds : List Call) → answers st (cs ++ ds) ≡ answers st cs ++ answers (after st cs) ds
  pub two-after : (cs ds : List Call) → after st (cs ++ ds) ≡ after (after st cs) ds

-- ---- an opening's state is valid and holds nothing; every list of calls keeps a state valid
pub record OpeningIs (k : Kind) (m c : ℕ) (xs : List ℕ) (st : State) : Type 0 where
  pub valid : Valid st
  pub holds-nothing : st.entries ≡ []
  pub kind : st.kind ≡ k
  pub variables : st.variables ≡ m
  pub capacity : st.capacity ≡ c
  pub maxima : st.maxima ≡ xs
  pub map-maxima : st.map_maxima ≡ xs

abbrev pub OpeningExact : Type 0
OpeningExact = (k : Kind) (m c : ℕ) (xs : List ℕ) → Maxima m xs → 1 ≤ c → c ≤ 4096 → OpeningIs k m c xs (opened k m c xs)

abbrev pub ValidKept : Type 0
ValidKept = (st : State) → Valid st → (cs : List Call) → Valid (after st cs)

-- ---- stored is held, in order, each under its number
pub record StoredIs (st : State) (cs : List Call) : Type 0 where
  pub entries : (after st cs).entries ≡ held st.kind st.variables st.capacity st.entries cs
  pub kind : (after st cs).kind ≡ st.kind
  pub variables : (after st cs).variables ≡ st.variables
  pub capacity : (after st cs).capacity ≡ st.capacity

abbrev pub StoredHeld : Type 0
StoredHeld = (st : State) (cs : List Call) → StoredIs st cs

-- ---- answers, over the entries held
-- yes exactly where P, no exactly where not
pub data YesNo (P : Type 0) : ℕ → Type 0 where
  yes : P → YesNo P (answer_word 1)
  no : (P → ⊥) → YesNo P (answer_word 0)

-- none, a regular reducer, or, where there is no regular one, a singular one
pub data ReducerIs (H : List Entry) (v : map.Value) (q : List ℕ) : ℕ → Type 0 where
  no_reducer : (SomeEntry (Reduces v q) H → ⊥) → ReducerIs H v q (answer_word 0)
  a_regular : (i : ℕ) → i < length H → Regular v q (entry_at H i) → ReducerIs H v q (answer_word ((entry_at H i).number + 1))
  a_singular : (i : ℕ) → i < length H → Reduces v q (entry_at H i) → (SomeEntry (Regular v q) H → ⊥) → ReducerIs H v q (answer_word ((entry_at H i).number + 1 + 134217728))

-- none, or one of the largest ratio
pub data BaseIs (H : List Entry) (P : Entry → Type 0) : ℕ → Type 0 where
  no_divisor : (SomeEntry P H → ⊥) → BaseIs H P (answer_word 0)
  the_largest : (i : ℕ) → i < length H → Largest P H (entry_at H i) → BaseIs H P (answer_word ((entry_at H i).number + 1))

abbrev pub Finds : List Entry → Query → ℕ → Type 0
Finds H (containment q) a = YesNo (Contained H q) a
Finds H (reducing v q) a = ReducerIs H v q a
Finds H (high v q) a = BaseIs H (High v q) a
Finds H (low i s) a = BaseIs H (Low i s) a
Finds H (singular i s l) a = YesNo (SomeEntry (Singular i s l) H) a

-- what a call has to answer, over the entries H held: an insert the entry's number, from 0, or 8 where the capacity is reached
abbrev pub AnswerIs : ℕ → List Entry → Request → ℕ → Type 0
AnswerIs c H (insertion e) a = a ≡ cond (ltb (length H) c) (answer_word (length H)) (refusal_word 8)
AnswerIs c H (query r) a = Finds H r a

-- after any list, a call that questions 6 and 7 do not refuse is answered from what is held then
abbrev pub AnswersHeld : Type 0
AnswersHeld = (st : State) → Valid st → (cs : List Call) (c : Call) (r : Request) → ask st.kind st.variables c ≡ asks r
    → AnswerIs st.capacity (held st.kind st.variables st.capacity st.entries cs) r (step (after st cs) c).answer

-- ---- ties, by places: xs has the places of the entries H in the order in which the tree has them
-- none, or the first regular one, or, where there is no regular one, the last singular one
pub data ReducerTie (H : List Entry) (xs : List ℕ) (v : map.Value) (q : List ℕ) : ℕ → Type 0 where
  no_tied_reducer : NoneOf (λ e. Reduces v q (entry_at H e)) xs → ReducerTie H xs v q (answer_word 0)
  first_regular : (b : ℕ) → First (λ e. Regular v q (entry_at H e)) xs b → ReducerTie H xs v q (answer_word ((entry_at H b).number + 1))
  last_singular : (b : ℕ) → Last (λ e. Reduces v q (entry_at H e)) xs b → NoneOf (λ e. Regular v q (entry_at H e)) xs
      → ReducerTie H xs v q (answer_word ((entry_at H b).number + 1 + 134217728))

-- none, or the first of the largest ratio
pub data BaseTie (H : List Entry) (xs : List ℕ) (P : Entry → Type 0) : ℕ → Type 0 where
  no_tied_divisor : NoneOf (λ e. P (entry_at H e)) xs → BaseTie H xs P (answer_word 0)
  first_largest : (b : ℕ) → FirstLargest (λ e. P (entry_at H e)) above (ratio_at H) xs b → BaseTie H xs P (answer_word ((entry_at H b).number + 1))

-- the two that answer yes or no have no ties
abbrev pub Ties : List Entry → List ℕ → Query → ℕ → Type 0
Ties H xs (containment q) a = Unit {0}
Ties H xs (reducing v q) a = ReducerTie H xs v q a
Ties H xs (high v q) a = BaseTie H xs (High v q) a
Ties H xs (low i s) a = BaseTie H xs (Low i s) a
Ties H xs (singular i s l) a = Unit {0}

-- of the answer of a query, over the order of the tree that it leaves
abbrev pub TiesFixed : Type 0
TiesFixed = (st : State) → Valid st → (c : Call) (r : Query) → ask st.kind st.variables c ≡ asks (query r)
    → Ties st.entries (inorder (step st c).state.tree) r (step st c).answer

-- which entry, as the program finds it: the processor folded over all entries in that order, up to its first stop
abbrev pub FirstVisited : Type 0
FirstVisited = (st : State) → Valid st → (r : Query) → st.kind ≡ kind_for r
    → (find st r).acc ≡ (fold_until (process st.entries r) (start none) (inorder (find st r).tree)).acc

-- ---- what the Rust fixes of the tree
-- the number of an entry in a dimension: of a ratio its label
abbrev pub number_in : Kind → State → ℕ → ℕ → ℕ
number_in monomials st = power_in st.entries
number_in ratioed st = ratio_key (ratios_of st.entries st.labels)

-- how a leaf is split whose dimensions are tried from n on
abbrev pub SplitIs : Kind → State → ℕ → List ℕ → Split → Type 0
SplitIs monomials st = IsSplit (number_in monomials st) AverageKey (dims monomials st.variables)
SplitIs ratioed st = IsSplit (number_in ratioed st) (RatioKey (ratios_of st.entries st.labels)) (dims ratioed st.variables)

-- all but the tree
pub record RestKept (st u : State) : Type 0 where
  pub kind : u.kind ≡ st.kind
  pub variables : u.variables ≡ st.variables
  pub capacity : u.capacity ≡ st.capacity
  pub maxima : u.maxima ≡ st.maxima
  pub map-maxima : u.map_maxima ≡ st.map_maxima
  pub entries : u.entries ≡ st.entries
  pub labels : u.labels ≡ st.labels

-- a search changes the tree alone, by splits; what it finds stands in a leaf that needs none
pub record SearchAfter (st : State) (r : Query) (u : State) : Type 0 where
  pub rest : RestKept st u
  -- step by step, with no fuel: which leaves are visited and split, and what is found
  pub run : Run (number_in st.kind st) (dims st.kind st.variables) (SplitIs st.kind st) (path st r) (process st.entries r) true 0 st.tree (start none) u.tree (outcome (find st r))
  pub grown : Grown (SplitIs st.kind st) 0 st.tree u.tree
  pub settled : (b : ℕ) → (find st r).acc ≡ some b → Settled (number_in st.kind st) (dims st.kind st.variables) b u.tree

-- no label lies free for the ratio of e
abbrev pub Rebuilds : State → Entry → Type 0
Rebuilds st e = (st.kind ≡ ratioed) × (map.answer st.labels (ratio_of e) ≡ Err NoLabel)

-- an insert puts its entry at the end of its leaf, and keeps the map's maxima, and old labels unless it rebuilds
pub record InsertAfter (st : State) (e : Entry) (u : State) : Type 0 where
  pub entries : u.entries ≡ st.entries ++ (numbered (length st.entries) e ∷ [])
  -- the maxima see the signature monomial (one in a monomial index), then the lm; the map stays as it was made
  pub maxima : u.maxima ≡ updated e.lm (updated e.sign st.maxima)
  pub map-maxima : u.map_maxima ≡ st.map_maxima
  pub added : Added (keys u) (length st.entries) st.tree u.tree
  pub placed : Placed (length st.entries) (inorder st.tree) (inorder u.tree)
  pub nodes : nodes u.tree ≡ nodes st.tree
  pub label-given : st.kind ≡ ratioed → (Rebuilds st e → ⊥) → u.labels ≡ map.after st.labels (ratio_of e)
  pub label-retried : Rebuilds st e → u.labels ≡ map.after (map.rebuild st.labels) (ratio_of e)
  pub labels : (Rebuilds st e → ⊥) → (i : ℕ) → i < length st.entries → label_of u.labels (ratio_at st.entries i) ≡ label_of st.labels (ratio_at st.entries i)

abbrev pub StateAfter : State → Request → State → Type 0
StateAfter st (insertion e) u = (length st.entries < st.capacity → InsertAfter st e u) × (st.capacity ≤ length st.entries → u ≡ st)
StateAfter st (query r) u = SearchAfter st r u

abbrev pub TreeFixed : Type 0
TreeFixed = (st : State) → Valid st → (c : Call) (r : Request) → ask st.kind st.variables c ≡ asks r → StateAfter st r (step st c).state

-- a branch on a variable above the query's highest, which is 0 for one, leaves no side out: `dense` is the others
abbrev pub NotAboveHighest : List ℕ → ℕ → Type 0
NotAboveHighest q v = (v ≡ 0) ⊎ ((u : ℕ) × (v ≤ u) × (0 < pow 1 q u))

abbrev pub DenseExact : Type 0
DenseExact = (m : ℕ) (q : List ℕ) → Canonical 1 m q → (v : ℕ) → (dense q v ≡ true) ↔ NotAboveHighest q v

-- a search stops at a visited entry: at the first that it looks for, at a regular reducer; for a base divisor never
abbrev pub StopsAt : List Entry → Query → ℕ → Type 0
StopsAt H (containment q) e = Divides (entry_at H e).lm q
StopsAt H (reducing v q) e = Regular v q (entry_at H e)
StopsAt H (high v q) e = ⊥
StopsAt H (low i s) e = ⊥
StopsAt H (singular i s l) e = Singular i s l (entry_at H e)

abbrev pub StopsExact : Type 0
StopsExact = (H : List Entry) (r : Query) (a : Option ℕ) (e : ℕ) → ((process H r a e).on ≡ false) ↔ StopsAt H r e

-- why a search leaves out the less side, or the other side, of a branch of dimension d and key k over the entries es.
-- A node whose mask is not within the query's has neither: that of the gcd of its entries, by the map as it was last made. In a ratio index dimension 0 is the ratio, its key an entry, and 1 + v is variable v.
abbrev pub MaskOut : State → List ℕ → List ℕ → Type 0
MaskOut st q es = within (mask st.variables st.map_maxima (λ v. least (power_in st.entries v) es)) (mask st.variables st.map_maxima (pow 1 q)) ≡ false

abbrev pub PowerOut : State → List ℕ → ℕ → ℕ → List ℕ → Type 0
PowerOut st q v k es = MaskOut st q es ⊎ (NotAboveHighest q v × (pow 1 q v < k))

abbrev pub LessOut : State → Query → ℕ → ℕ → List ℕ → Type 0
LessOut st (containment q) v k es = MaskOut st q es
LessOut st (reducing w q) d k es = MaskOut st q es
LessOut st (high w q) zero k es = MaskOut st q es ⊎ (above (ratio_at st.entries k) w ≡ false)
LessOut st (high w q) (suc v) k es = MaskOut st q es
LessOut st (low i s) zero k es = (entry_at st.entries k).index < i
LessOut st (low i s) (suc v) k es = ⊥
LessOut st (singular i s l) zero k es =
    ((entry_at st.entries k).index < i) ⊎ (((entry_at st.entries k).index ≡ i) × (above (ratio_at st.entries k) (quotient_of i s l) ≡ false))
LessOut st (singular i s l) (suc v) k es = ⊥

abbrev pub OtherOut : State → Query → ℕ → ℕ → List ℕ → Type 0
OtherOut st (containment q) v k es = PowerOut st q v k es
OtherOut st (reducing w q) zero k es = MaskOut st q es ⊎ (above (ratio_at st.entries k) w ≡ true)
OtherOut st (reducing w q) (suc v) k es = PowerOut st q v k es
OtherOut st (high w q) zero k es = MaskOut st q es
OtherOut st (high w q) (suc v) k es = PowerOut st q v k es
OtherOut st (low i s) zero k es = i < (entry_at st.entries k).index
OtherOut st (low i s) (suc v) k es = ⊥
OtherOut st (singular i s l) zero k es = i < (entry_at st.entries k).index
OtherOut st (singular i s l) (suc v) k es = ⊥

pub record PathIs (st : State) (r : Query) (d k : ℕ) (es : List ℕ) (p : Path) : Type 0 where
  pub less : (goes_less p ≡ false) ↔ LessOut st r d k es
  pub other : (goes_other p ≡ false) ↔ OtherOut st r d k es

abbrev pub PathExact : Type 0
PathExact = (st : State) (r : Query) → GoodQuery st.variables r → (d k : ℕ) (es : List ℕ) → PathIs st r d k es (path st r d k es)

-- ---- room: a tree of n entries never needs more than 2 n − 1 nodes
abbrev pub FewNodes : Type 0
FewNodes = (st : State) → Valid st → 0 < length st.entries → nodes st.tree + 1 ≤ 2 * length st.entries
