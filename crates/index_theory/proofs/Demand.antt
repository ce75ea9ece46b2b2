-- Demand 3. Assumes nothing.
use mathlib.Core.Path.{◌≡◌, refl, sym, ap, ◌∙◌}
use mathlib.Core.Bool.{Bool, true, false, cond}
use mathlib.Core.List.{List, [], ◌∷◌, ◌++◌, append-nil, append_assoc}
use mathlib.Core.Logic.{◌⊎◌, inl, inr}
use Prim.Native.Nat.{ℕ, ◌<◌}
use native.Mathlib.Omega.{arith}
use lib.Dec.{ltb}
use lib.ListN.{length}
use borrow.Author.Tests.{eq-eqb}
use Rattle.words.specs.Kinds.{kind, payload, answer_word, refusal_word}
use Rattle.monomial.specs.Operations.{Divides}
use Rattle.fast_compare.specs.Map as map
use Rattle.index_theory.specs.Entries.{Entry, entry_at, quotient_of, ratio_of}
use Rattle.index_theory.specs.Meaning.{SomeEntry, Reduces, Regular, High, Low, Singular}
use Rattle.index_theory.specs.State.{Kind, State, Valid}
use Rattle.index_theory.specs.Searches.{Query, containment, reducing, high, low, singular}
use Rattle.index_theory.specs.Calls.{Call, Request, insertion, query, Asked, refused, asks, ask, inserted, Done, serve, reply, step, after, answers}
use Rattle.index_theory.specs.Claims as claims
use Rattle.index_theory.specs.Claims.{CallOf, StoredIs, YesNo, ReducerIs, no_reducer, a_regular, a_singular, BaseIs, no_divisor, the_largest, Finds}
use Rattle.index_theory.specs.Demand3 as demand
use Rattle.index_theory.specs.Demand3.{taken_by, taken, Side, SameEntry, HoldsAll, HoldsEach, NoSmaller, finds-both, NoWorse, finds-regular, finds-singular, NotUnsaid, Answered, StillSaid, Demand3, Demand3Met, Demand3Counted}
use Rattle.index_theory.proofs.Orders.{above-order}
use Rattle.index_theory.proofs.Asks.{reads, ask-exact}
use Rattle.index_theory.proofs.Keeps.{step-valid}
use Rattle.index_theory.proofs.Answering.{serve-answers}
use Rattle.index_theory.proofs.Theorems.{valid-kept, stored-held, step-serves, step-stores, same-ask}

-- ---- what a list took
module _ (st : State) (val : Valid st) where
  insert-takes : (e : Entry) → (serve st (insertion e)).state.entries ≡ st.entries ++ taken_by (asks (insertion e)) (serve st (insertion e)).answer
  unfolding serve inserted
  insert-takes e = go (ltb (length st.entries) st.capacity) refl
    where
      go : (b : Bool) → ltb (length st.entries) st.capacity ≡ b
          → (cond {A = Done} b (record { answer = answer_word (length st.entries); state = inserted st e }) (record { answer = refusal_word 8; state = st })).state.entries
          ≡ st.entries ++ taken_by (asks (insertion e)) (cond {A = Done} b (record { answer = answer_word (length st.entries); state = inserted st e }) (record { answer = refusal_word 8; state = st })).answer
      go true w =
          let few : length st.entries < 268435456 = omega (arith, val.few, val.cap-to) in
          let k : kind (answer_word (length st.entries)) ≡ 4 = omega arith in
          let p : payload (answer_word (length st.entries)) ≡ length st.entries = omega arith in
          rw (eq-eqb _ _ k, p) refl
      go false w = sym (append-nil st.entries)

  serve-takes : (r : Request) → (serve st r).state.entries ≡ st.entries ++ taken_by (asks r) (serve st r).answer
  unfolding serve
  serve-takes (insertion e) = insert-takes e
  serve-takes (query r) = sym (append-nil st.entries)

  step-takes : (c : Call) → (step st c).state.entries ≡ st.entries ++ taken_by (ask st.kind st.variables c) (step st c).answer
  unfolding step reply
  step-takes c = go (ask st.kind st.variables c)
    where
      go : (a : Asked) → (reply st a).state.entries ≡ st.entries ++ taken_by a (reply st a).answer
      go (refused n) = sym (append-nil st.entries)
      go (asks r) = serve-takes r

same_taken : (k j : Kind) (m n : ℕ) (cs : List Call) (xs : List ℕ) → k ≡ j → m ≡ n → taken k m cs xs ≡ taken j n cs xs
same_taken k j m n cs xs p q = rw (p, q)

pub all-taken : (cs : List Call) (st : State) → Valid st → (after st cs).entries ≡ st.entries ++ taken st.kind st.variables cs (answers st cs)
unfolding after answers taken
all-taken [] st val = sym (append-nil st.entries)
all-taken (c ∷ cs) st val =
    let u = (step st c).state in
    let s = step-stores st c in
    all-taken cs u (step-valid st val c)
    ∙ ap (λ (l : List Entry). u.entries ++ l) (same_taken u.kind st.kind u.variables st.variables cs (answers u cs) s.kind s.variables)
    ∙ ap (λ (l : List Entry). l ++ taken st.kind st.variables cs (answers u cs)) (step-takes st val c)
    ∙ append_assoc st.entries _ _

pub side : (st : State) → Valid st → (cs : List Call) → Side st cs
side st val cs = record {
  valid = valid-kept st val cs;
  kind = (stored-held st cs).kind;
  variables = (stored-held st cs).variables;
  held-stored = (stored-held st cs).entries;
  numbers = all-taken cs st val;
}

-- what an entry is to a query, a same entry is
module _ {e x : Entry} (s : SameEntry e x) where
  same-ratio : ratio_of e ≡ ratio_of x
  unfolding quotient_of
  same-ratio = rw (s.index, s.sign, s.lm)

  reduces-too : (v : map.Value) (q : List ℕ) → Reduces v q e → Reduces v q x
  reduces-too v q h = record { divides = rw s.lm at h.divides; not-above = rw same-ratio at h.not-above }

  regular-too : (v : map.Value) (q : List ℕ) → Regular v q e → Regular v q x
  regular-too v q h = record { divides = rw s.lm at h.divides; lower = rw same-ratio at h.lower }

  high-too : (v : map.Value) (q : List ℕ) → High v q e → High v q x
  high-too v q h = record { divides = rw s.lm at h.divides; higher = rw same-ratio at h.higher }

  low-too : (i : ℕ) (t : List ℕ) → Low i t e → Low i t x
  low-too i t h = record { same = sym s.index ∙ h.same; divides = rw s.sign at h.divides }

  singular-too : (i : ℕ) (t l : List ℕ) → Singular i t l e → Singular i t l x
  singular-too i t l h = record { same = sym s.index ∙ h.same; divides = rw s.sign at h.divides; higher = rw same-ratio at h.higher }

-- ---- more held, no less said
module _ (H K : List Entry) (all : HoldsAll H K) where
  held-too : (P : Entry → Type 0) → ((e x : Entry) → SameEntry e x → P e → P x) → SomeEntry P H → SomeEntry P K
  held-too P law h = let o = all h.place h.inside in record { place = o.0; inside = o.1; so = law _ _ o.2 h.so }

  yes-too : (P : Entry → Type 0) → ((e x : Entry) → SameEntry e x → P e → P x) → (a b : ℕ) → YesNo (SomeEntry P H) a → YesNo (SomeEntry P K) b → a ≡ answer_word 1 → b ≡ answer_word 1
  yes-too P law _ _ (claims.yes h) (claims.yes k) e = refl
  yes-too P law _ _ (claims.yes h) (claims.no k) e = absurd (k (held-too P law h))
  yes-too P law _ _ (claims.no h) k e = absurd (omega arith)

  module _ (v : map.Value) (q : List ℕ) where
    a-reducer : SomeEntry (Regular v q) K → SomeEntry (Reduces v q) K
    a-reducer g = record { place = g.place; inside = g.inside; so = record { divides = g.so.divides; not-above = above-order.turn v _ g.so.lower } }

    regular-held : (i : ℕ) → i < length H → Regular v q (entry_at H i) → SomeEntry (Regular v q) K
    regular-held i l h = held-too (Regular v q) (λ e x s. regular-too s v q) (record { place = i; inside = l; so = h })

    reducer-too : (a b : ℕ) → ReducerIs H v q a → ReducerIs K v q b → NoWorse H K a b
    reducer-too _ b (no_reducer h) y = demand.NoWorse.finds-none refl
    reducer-too _ _ (a_regular i l h) (no_reducer k) = absurd (k (a-reducer (regular-held i l h)))
    reducer-too _ _ (a_regular i l h) (a_regular j l' k) = finds-regular j (l', refl)
    reducer-too _ _ (a_regular i l h) (a_singular j l' k none) = absurd (none (regular-held i l h))
    reducer-too _ _ (a_singular i l h free) (no_reducer k) = absurd (k (held-too (Reduces v q) (λ e x s. reduces-too s v q) (record { place = i; inside = l; so = h })))
    reducer-too _ _ (a_singular i l h free) (a_regular j l' k) = finds-regular j (l', refl)
    reducer-too _ _ (a_singular i l h free) (a_singular j l' k none) = finds-singular i j (l, refl) (l', refl)

  base-too : (P : Entry → Type 0) → ((e x : Entry) → SameEntry e x → P e → P x) → (a b : ℕ) → BaseIs H P a → BaseIs K P b → NoSmaller H K a b
  base-too P law _ b (no_divisor h) y = demand.NoSmaller.finds-none refl
  base-too P law _ _ (the_largest i l h) (no_divisor k) = absurd (k (held-too P law (record { place = i; inside = l; so = h.so })))
  base-too P law _ _ (the_largest i l h) (the_largest j l' k) =
      let o = all i l in
      finds-both i j (l, refl) (l', refl) (rw (same-ratio o.2) (k.largest o.0 o.1 (law _ _ o.2 h.so)))

  not-unsaid : (r : Query) (a b : ℕ) → Finds H r a → Finds K r b → NotUnsaid H K r a b
  not-unsaid (containment q) a b x y = yes-too (λ e. Divides e.lm q) (λ e x s h. rw s.lm at h) a b x y
  not-unsaid (reducing v q) a b x y = reducer-too v q a b x y
  not-unsaid (high v q) a b x y = base-too (High v q) (λ e x s. high-too s v q) a b x y
  not-unsaid (low i s) a b x y = base-too (Low i s) (λ e x t. low-too t i s) a b x y
  not-unsaid (singular i s l) a b x y = yes-too (Singular i s l) (λ e x t. singular-too t i s l) a b x y

-- ---- a call that is no insert and is not refused is a query
module _ (st : State) (val : Valid st) (c : Call) where
  abbrev IsQuery : Type 0
  IsQuery = (r : Query) × (ask st.kind st.variables c ≡ asks (query r))

  refusal-word : (n : ℕ) → ask st.kind st.variables c ≡ refused n → (step st c).answer ≡ refusal_word n
  unfolding step reply
  refusal-word n e = ap (λ (a : Asked). (reply st a).answer) e

  is-query : Answered st c → IsQuery
  is-query h = go (ask st.kind st.variables c) refl
    where
      small : (n : ℕ) → (n ≡ 6) ⊎ (n ≡ 7) → kind (refusal_word n) ≡ 5
      small n (inl e) = rw e refl
      small n (inr e) = rw e refl

      go : (a : Asked) → ask st.kind st.variables c ≡ a → IsQuery
      go (refused n) e = absurd (h.no-refusal (rw (refusal-word n e) (small n ((ask-exact st.variables val.maxima-good.some st.kind c).no_other n e))))
      go (asks (insertion x)) e = absurd (h.no-insert (reads st.variables val.maxima-good.some st.kind c (insertion x) e).number)
      go (asks (query r)) e = (r, e)

  finds : (r : Query) → ask st.kind st.variables c ≡ asks (query r) → Finds st.entries r (step st c).answer
  finds r e = rw (step-serves st c (query r) e) (serve-answers st val (query r) (reads st.variables val.maxima-good.some st.kind c (query r) e).fits)

pub still-said : (st su : State) → Valid st → Valid su → st.kind ≡ su.kind → st.variables ≡ su.variables → HoldsAll st.entries su.entries
    → (c : Call) → Answered st c → StillSaid st su c
still-said st su val wal k m all c h =
    let q = is-query st val c h in
    let e = q.1 in
    let e' = same-ask su.kind st.kind su.variables st.variables c (sym k) (sym m) ∙ e in
    record {
      question = q.0;
      calls = reads st.variables val.maxima-good.some st.kind c (query q.0) e;
      not-unsaid = not-unsaid st.entries su.entries all q.0 _ _ (finds st val c q.0 e) (finds su wal c q.0 e');
    }

pub demand3-met : Demand3Met
demand3-met st su val wal k m cs ds =
    let a = side st val cs in
    let b = side su wal ds in
    record {
      first = a;
      second = b;
      kept = λ c h all. still-said (after st cs) (after su ds) a.valid b.valid (a.kind ∙ k ∙ sym b.kind) (a.variables ∙ m ∙ sym b.variables) all c h;
    }

each_all : (H K : List Entry) → HoldsEach H K → HoldsAll H K
each_all H K h = λ i l. (h.to i, h.inside i l, h.same i l)

pub demand3-counted : Demand3Counted
demand3-counted st su val wal k m cs ds c h g each =
    let d = demand3-met st su val wal k m cs ds in
    d.kept c h (rw (d.first.held-stored, d.second.held-stored) (each_all _ _ each))
