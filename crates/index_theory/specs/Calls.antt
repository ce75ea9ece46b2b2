-- Call lists: the words of calls, the questions of each call in order, what a call answers, and what it leaves. Assumes nothing.
use Rattle.std.specs.Prelude.{Result, Ok, Err, ◌≡◌, cond, List, [], ◌∷◌, ◌++◌, ℕ, ◌+◌, ◌<◌, eqb, ltb, length, take, drop}
use Rattle.std.proofs.Math.Option.{Option, none, some}
use Rattle.words.specs.Kinds.{kind, payload, index_word, answer_word, refusal_word}
use Rattle.monomial.specs.Monomial.{front, Canonical}
use Rattle.divmask.specs.Tracker.{updated}
use Rattle.fast_compare.specs.Map as map
use Rattle.fast_compare.specs.declared.Comparer.{Comparer}
use Rattle.fast_compare.specs.declared.Unlabelled.{Unlabelled}
use Rattle.fast_compare.specs.declared.Unlabelled.TheVariants.{Full, NoLabel}
use Rattle.kd_theory.specs.Tree.{Tree, insert}
use Rattle.index_theory.specs.Entries.{Entry, entry_at, one, ratio_of}
use Rattle.index_theory.specs.State.{Kind, monomials, ratioed, State, GoodEntry, OfKind, keys_of}
use Rattle.index_theory.specs.Searches.{Query, containment, reducing, high, low, singular, kind_for, is_regular, find}

-- ---- the calls of a list: a kind 6 word and all words up to the next
pub record Call : Type 0 where
  pub number : ℕ
  pub body : List ℕ

unfoldable pub body_of : List ℕ → List ℕ
body_of [] = []
body_of (w ∷ ws) = cond (eqb (kind w) 6) [] (w ∷ body_of ws)

unfoldable pub calls : List ℕ → List Call
calls [] = []
calls (w ∷ ws) = cond (eqb (kind w) 6) (record { number = payload w; body = body_of ws } ∷ calls ws) (calls ws)

-- the calls of a list of words; nothing where it is not empty and does not start with kind 6
unfoldable pub listed : List ℕ → Option (List Call)
listed [] = some []
listed (w ∷ ws) = cond (eqb (kind w) 6) (some (calls (w ∷ ws))) none

-- ---- what is asked
pub data Request : Type 0 where
  insertion : Entry → Request
  query : Query → Request

-- its call number, and the words of its body
abbrev pub query_number : Query → ℕ
query_number (containment q) = 1
query_number (reducing v q) = 3
query_number (high v q) = 4
query_number (low i s) = 5
query_number (singular i s l) = 6

abbrev pub query_words : Query → List ℕ
query_words (containment q) = q
query_words (reducing v q) = index_word v.index ∷ v.ratio ++ q
query_words (high v q) = index_word v.index ∷ v.ratio ++ q
query_words (low i s) = index_word i ∷ s
query_words (singular i s l) = index_word i ∷ s ++ l

abbrev pub insert_number : Kind → ℕ
insert_number monomials = 0
insert_number ratioed = 2

abbrev pub insert_words : Kind → Entry → List ℕ
insert_words monomials e = e.lm
insert_words ratioed e = index_word e.index ∷ e.sign ++ e.lm

abbrev pub number_of : Kind → Request → ℕ
number_of k (insertion e) = insert_number k
number_of k (query r) = query_number r

abbrev pub words_of : Kind → Request → List ℕ
words_of k (insertion e) = insert_words k e
words_of k (query r) = query_words r

-- its parts are canonical, and its kind is the index's. An entry has no number yet.
abbrev pub GoodQuery : ℕ → Query → Type 0
GoodQuery m (containment q) = Canonical 1 m q
GoodQuery m (reducing v q) = map.Good m v × Canonical 1 m q
GoodQuery m (high v q) = map.Good m v × Canonical 1 m q
GoodQuery m (low i s) = (i < 268435456) × Canonical 1 m s
GoodQuery m (singular i s l) = (i < 268435456) × Canonical 1 m s × Canonical 1 m l

abbrev pub GoodRequest : Kind → ℕ → Request → Type 0
GoodRequest k m (insertion e) = GoodEntry m e × OfKind k e × (e.number ≡ 0)
GoodRequest k m (query r) = (k ≡ kind_for r) × GoodQuery m r

pub data Asked : Type 0 where
  refused : ℕ → Asked
  asks : Request → Asked

-- an index word, a monomial (kind 1) or ratio (kind 2), the end of the body; 7 where it does not stand there
unfoldable pub with_index : List ℕ → (ℕ → List ℕ → Asked) → Asked
with_index [] f = refused 7
with_index (w ∷ ws) f = cond (eqb (kind w) 3) (f (payload w) ws) (refused 7)

unfoldable pub with_part : ℕ → ℕ → List ℕ → (List ℕ → List ℕ → Asked) → Asked
with_part k m ws f = cond (eqb (front k m 0 ws) 0) (refused 7) (f (take (front k m 0 ws) ws) (drop (front k m 0 ws) ws))

unfoldable pub at_end : List ℕ → Request → Asked
at_end [] r = asks r
at_end (w ∷ ws) r = refused 7

-- the body of a call to a monomial index; the entry's number is given when it is inserted
abbrev pub plain : List ℕ → Entry
plain q = record { number = 0; index = 0; sign = one; lm = q }

unfoldable pub ask_monomials : ℕ → ℕ → List ℕ → Asked
ask_monomials m n body =
    cond (eqb n 0) (with_part 1 m body (λ q ws. at_end ws (insertion (plain q))))
    (cond (eqb n 1) (with_part 1 m body (λ q ws. at_end ws (query (containment q))))
    (refused 6))

-- the body of a call to a ratio index
unfoldable pub ask_ratioed : ℕ → ℕ → List ℕ → Asked
ask_ratioed m n body =
    cond (eqb n 2) (with_index body (λ i ws. with_part 1 m ws (λ s ws. with_part 1 m ws (λ l ws. at_end ws (insertion (record { number = 0; index = i; sign = s; lm = l }))))))
    (cond (eqb n 3) (with_index body (λ i ws. with_part 2 m ws (λ r ws. with_part 1 m ws (λ q ws. at_end ws (query (reducing (record { index = i; ratio = r }) q))))))
    (cond (eqb n 4) (with_index body (λ i ws. with_part 2 m ws (λ r ws. with_part 1 m ws (λ q ws. at_end ws (query (high (record { index = i; ratio = r }) q))))))
    (cond (eqb n 5) (with_index body (λ i ws. with_part 1 m ws (λ s ws. at_end ws (query (low i s)))))
    (cond (eqb n 6) (with_index body (λ i ws. with_part 1 m ws (λ s ws. with_part 1 m ws (λ l ws. at_end ws (query (singular i s l))))))
    (refused 6)))))

-- questions 6 and 7
unfoldable pub ask : Kind → ℕ → Call → Asked
ask monomials m c = ask_monomials m c.number c.body
ask ratioed m c = ask_ratioed m c.number c.body

-- ---- what an accepted insert does
-- a label for the ratio; where none is free the labels are dealt afresh, once
unfoldable pub relabel : Result Comparer Unlabelled → map.State → map.Value → map.State
relabel (Ok c) l v = map.after l v
relabel (Err Full) l v = map.after l v
relabel (Err NoLabel) l v = map.after (map.rebuild l) v

unfoldable pub labelled : Kind → map.State → Entry → map.State
labelled monomials l e = l
labelled ratioed l e = relabel (map.answer l (ratio_of e)) l (ratio_of e)

-- the maxima see the signature monomial, then the lm
unfoldable pub tracked : Kind → Entry → List ℕ → List ℕ
tracked monomials e xs = updated e.lm xs
tracked ratioed e xs = updated e.lm (updated e.sign xs)

-- the entry under the number that it gets
abbrev pub numbered : ℕ → Entry → Entry
numbered n e = record { number = n; index = e.index; sign = e.sign; lm = e.lm }

unfoldable pub inserted : State → Entry → State
inserted st e = record {
  kind = st.kind;
  variables = st.variables;
  capacity = st.capacity;
  maxima = tracked st.kind e st.maxima;
  map_maxima = st.map_maxima;
  entries = st.entries ++ (numbered (length st.entries) e ∷ []);
  tree = insert
      (keys_of st.kind st.variables (st.entries ++ (numbered (length st.entries) e ∷ [])) (labelled st.kind st.labels e))
      (length st.entries) st.tree;
  labels = labelled st.kind st.labels e;
}

-- ---- a call: its answer word, and the state after it
pub record Done : Type 0 where
  pub answer : ℕ
  pub state : State

-- a search changes the tree alone: it may split leaves
abbrev pub with_tree : State → Tree → State
with_tree u t = record {
  kind = u.kind;
  variables = u.variables;
  capacity = u.capacity;
  maxima = u.maxima;
  map_maxima = u.map_maxima;
  entries = u.entries;
  tree = t;
  labels = u.labels;
}

-- yes 1, no 0
unfoldable pub yes : Option ℕ → ℕ
yes none = answer_word 0
yes (some e) = answer_word 1

-- none 0, else the entry's number + 1
unfoldable pub found : List Entry → Option ℕ → ℕ
found es none = answer_word 0
found es (some e) = answer_word ((entry_at es e).number + 1)

-- for a singular reducer, 2^27 more
unfoldable pub found_reducer : List Entry → map.Value → Option ℕ → ℕ
found_reducer es v none = answer_word 0
found_reducer es v (some e) = answer_word ((entry_at es e).number + 1 + cond (is_regular es v e) 0 134217728)

-- the answer word of what a query finds
abbrev pub told : List Entry → Query → Option ℕ → ℕ
told es (containment q) a = yes a
told es (reducing v q) a = found_reducer es v a
told es (high v q) a = found es a
told es (low i s) a = found es a
told es (singular i s l) a = yes a

-- question 8 is asked of an insert: entries below capacity
unfoldable pub serve : State → Request → Done
serve st (insertion e) =
    cond (ltb (length st.entries) st.capacity)
    (record { answer = answer_word (length st.entries); state = inserted st e })
    (record { answer = refusal_word 8; state = st })
serve st (query r) = let o = find st r in record { answer = told st.entries r o.acc; state = with_tree st o.tree }

unfoldable pub reply : State → Asked → Done
reply st (refused n) = record { answer = refusal_word n; state = st }
reply st (asks r) = serve st r

unfoldable pub step : State → Call → Done
step st c = reply st (ask st.kind st.variables c)

-- ---- a list: one answer word a call, each call on the state as the last left it
unfoldable pub after : State → List Call → State
after st [] = st
after st (c ∷ cs) = after (step st c).state cs

unfoldable pub answers : State → List Call → List ℕ
answers st [] = []
answers st (c ∷ cs) = (step st c).answer ∷ answers (step st c).state cs

-- ---- held: what was held at the start, and the entry of each insert to which no question says no
unfoldable pub accepted : ℕ → List Entry → Asked → List Entry
accepted c H (refused n) = H
accepted c H (asks (insertion e)) = cond (ltb (length H) c) (H ++ (numbered (length H) e ∷ [])) H
accepted c H (asks (query r)) = H

unfoldable pub held : Kind → ℕ → ℕ → List Entry → List Call → List Entry
held k m c H [] = H
held k m c H (x ∷ xs) = held k m c (accepted c H (ask k m x)) xs
