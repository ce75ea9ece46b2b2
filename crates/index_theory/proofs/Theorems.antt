-- The claims of specs/Claims.antt; those of lists of words, of questions 6 and 7 and of `dense` are in Lists, Asks and After. Assumes nothing.
use mathlib.Core.Path.{◌≡◌, refl, sym, ap, ◌∙◌}
use mathlib.Core.Bool.{Bool, true, false, cond}
use mathlib.Core.List.{List, [], ◌∷◌, ◌++◌}
use Prim.Native.Nat.{ℕ, ◌+◌, ◌≤◌}
use native.Mathlib.Omega.{arith}
use lib.Dec.{ltb}
use lib.ListN.{length}
use Rattle.divmask.specs.Tracker.{Maxima}
use Rattle.kd_theory.specs.Bag.{◌∈◌}
use Rattle.kd_theory.proofs.BagLaws.{occurs-nil}
use Rattle.kd_theory.proofs.TreeLaws.{few-nodes}
use Rattle.index_theory.specs.Entries.{Entry}
use Rattle.index_theory.specs.State.{Kind, monomials, ratioed, State, Valid, LabelsOf, keys, keys_of, up_to, opened}
use Rattle.index_theory.specs.Calls.{Call, Request, insertion, query, Asked, refused, asks, ask, numbered, inserted, Done, serve, reply, step, after, accepted, held}
use Rattle.index_theory.specs.Claims.{OpeningExact, ValidKept, StoredHeld, AnswerIs, AnswersHeld, RefusedKept, TiesFixed, FirstVisited, TreeFixed, FewNodes}
use Rattle.index_theory.proofs.Asks.{fits}
use Rattle.index_theory.proofs.Finds.{find-folds}
use Rattle.index_theory.proofs.Keeps.{after-valid}
use Rattle.index_theory.proofs.Answering.{serve-answers, query-ties}
use Rattle.index_theory.proofs.After.{serve-after}

-- ---- an opening
pub opening-valid : (k : Kind) (m c : ℕ) (xs : List ℕ) → Maxima m xs → 1 ≤ c → c ≤ 4096 → Valid (opened k m c xs)
unfolding up_to
opening-valid k m c xs good one few = record {
  cap-from = one;
  cap-to = few;
  maxima-good = good;
  map-good = good;
  few = omega arith;
  numbered = λ i h. absurd (omega arith);
  canonical = λ i h. absurd (omega arith);
  of-kind = λ i h. absurd (omega arith);
  once = λ n. refl;
  size = refl;
  ordered = empty k;
  labels-valid = record {
    vars-from = good.some;
    vars-to = good.few;
    cap-from = one;
    cap-to = few;
    few = omega arith;
    good = λ i h. absurd (omega arith);
    labelled = record { distinct = λ i j h. absurd (omega arith); rising = λ i j h. absurd (omega arith); small = λ i h. absurd (omega arith) };
  };
  labels-vars = refl;
  labels-cap = refl;
  labels-of = no-labels k;
}
  where
    empty : (k : Kind) (e : ℕ) → e ∈ [] → (keys_of k m [] (record { variables = m; capacity = c; rows = [] })).good e
    empty k e h = absurd (omega (arith, occurs-nil e))

    no-labels : (k : Kind) → LabelsOf k [] (record { variables = m; capacity = c; rows = [] })
    no-labels monomials = refl
    no-labels ratioed = (λ e h. absurd (omega arith), λ i h. absurd (omega arith))

pub opening-exact : OpeningExact
opening-exact k m c xs good one few = record {
  valid = opening-valid k m c xs good one few;
  holds-nothing = refl;
  kind = refl;
  variables = refl;
  capacity = refl;
  maxima = refl;
  map-maxima = refl;
}

pub valid-kept : ValidKept
valid-kept st val cs = after-valid cs st val

-- ---- stored is held
-- what depends on a state by these numbers alone
same-held : (k j : Kind) (m n c d : ℕ) (H K : List Entry) (cs : List Call) → k ≡ j → m ≡ n → c ≡ d → H ≡ K → held k m c H cs ≡ held j n d K cs
same-held k j m n c d H K cs p q r s = rw (p, q, r, s)

pub same-ask : (k j : Kind) (m n : ℕ) (c : Call) → k ≡ j → m ≡ n → ask k m c ≡ ask j n c
same-ask k j m n c p q = rw (p, q)

same-answers : (c d : ℕ) (H K : List Entry) (r : Request) (a b : ℕ) → c ≡ d → H ≡ K → b ≡ a → AnswerIs c H r a → AnswerIs d K r b
same-answers c d H K r a b z p q x = rw (← z, ← p, q) x

refused-holds : (c : ℕ) (H : List Entry) (n : ℕ) → accepted c H (refused n) ≡ H
unfolding accepted
refused-holds c H n = refl

pub record Stores (st u : State) (H : List Entry) : Type 0 where
  pub entries : u.entries ≡ H
  pub kind : u.kind ≡ st.kind
  pub variables : u.variables ≡ st.variables
  pub capacity : u.capacity ≡ st.capacity

serve-stores : (st : State) (r : Request) → Stores st (serve st r).state (accepted st.capacity st.entries (asks r))
unfolding serve accepted inserted
serve-stores st (insertion e) = go (ltb (length st.entries) st.capacity)
  where
    go : (b : Bool) → Stores st (cond {A = Done} b (record { answer = 1073741824 + length st.entries; state = inserted st e }) (record { answer = 1342177288; state = st })).state
        (cond b (st.entries ++ (numbered (length st.entries) e ∷ [])) st.entries)
    go true = record { entries = refl; kind = refl; variables = refl; capacity = refl }
    go false = record { entries = refl; kind = refl; variables = refl; capacity = refl }
serve-stores st (query r) = record { entries = refl; kind = refl; variables = refl; capacity = refl }

pub step-stores : (st : State) (c : Call) → Stores st (step st c).state (accepted st.capacity st.entries (ask st.kind st.variables c))
unfolding step reply
step-stores st c = go (ask st.kind st.variables c)
  where
    go : (a : Asked) → Stores st (reply st a).state (accepted st.capacity st.entries a)
    go (refused n) = record { entries = sym (refused-holds st.capacity st.entries n); kind = refl; variables = refl; capacity = refl }
    go (asks r) = serve-stores st r

pub stored-held : StoredHeld
unfolding after held
stored-held st [] = record { entries = refl; kind = refl; variables = refl; capacity = refl }
stored-held st (c ∷ cs) =
    let one = step-stores st c in
    let rest = stored-held (step st c).state cs in
    record {
      entries = rest.entries ∙ same-held (step st c).state.kind st.kind (step st c).state.variables st.variables (step st c).state.capacity st.capacity _ _ cs one.kind one.variables one.capacity one.entries;
      kind = rest.kind ∙ one.kind;
      variables = rest.variables ∙ one.variables;
      capacity = rest.capacity ∙ one.capacity;
    }

-- ---- answers
pub step-serves : (st : State) (c : Call) (r : Request) → ask st.kind st.variables c ≡ asks r → step st c ≡ serve st r
unfolding step reply
step-serves st c r e = ap (reply st) e

module _ (st : State) (val : Valid st) (cs : List Call) where
  abbrev u : State
  u = after st cs

  -- the same question after the list
  pub asked-after : (c : Call) (r : Request) → ask st.kind st.variables c ≡ asks r → ask u.kind u.variables c ≡ asks r
  asked-after c r e = same-ask u.kind st.kind u.variables st.variables c (stored-held st cs).kind (stored-held st cs).variables ∙ e

pub answers-held : AnswersHeld
answers-held st val cs c r e =
    let u = after st cs in
    let e' = asked-after st val cs c r e in
    let a = serve-answers u (valid-kept st val cs) r (fits u.variables (valid-kept st val cs).maxima-good.some u.kind c r e') in
    same-answers _ _ _ _ r _ _ (stored-held st cs).capacity (stored-held st cs).entries (ap (λ (d : Done). d.answer) (step-serves u c r e')) a

pub refused-kept : RefusedKept
unfolding step reply
refused-kept st c n e = ap (reply st) e

pub ties-fixed : TiesFixed
unfolding serve
ties-fixed st val c r e =
    let f = fits st.variables val.maxima-good.some st.kind c (query r) e in
    rw (step-serves st c (query r) e) (query-ties st val r f.0)

pub first-visited : FirstVisited
first-visited st val r k = find-folds st val r k

pub tree-fixed : TreeFixed
tree-fixed st val c r e = rw (step-serves st c r e) (serve-after st val r (fits st.variables val.maxima-good.some st.kind c r e))

pub few-nodes-kept : FewNodes
few-nodes-kept st val h = rw (← val.size) (few-nodes (keys st) st.tree val.ordered (rw val.size h))
