-- Every call keeps a state valid. Assumes nothing.
use mathlib.Core.Path.{◌≡◌, refl, sym, ◌∙◌}
use mathlib.Core.Bool.{Bool, true, false, cond}
use mathlib.Core.List.{List, [], ◌∷◌, ◌++◌}
use mathlib.Core.Logic.{◌⊎◌, inl, inr}
use Prim.Native.Nat.{ℕ, zero, suc, ◌+◌, ◌<◌}
use native.Mathlib.Omega.{arith}
use native.Mathlib.Numerals.{add-one}
use native.Mathlib.Decide.{dec_lt}
use lib.Dec.{ltb}
use lib.ListN.{length}
use borrow.Author.Tests.{ltb-true}
use Rattle.monomial.specs.declared.ordered_ops.Op.{Op}
use Rattle.monomial.proofs.Laws.{canonical-result}
use Rattle.divmask.specs.Tracker.{Maxima, updated}
use Rattle.divmask.proofs.Growth.{updated-good}
use Rattle.fast_compare.specs.Map as map
use Rattle.kd_theory.specs.Tree.{Tree, Kept, Grows}
use Rattle.kd_theory.proofs.BagLaws.{occurs-append}
use Rattle.kd_theory.proofs.TreeLaws.{ordered-grows}
use Rattle.kd_theory.proofs.InsertLaws.{insert-adds, insert-ordered}
use Rattle.index_theory.specs.Entries.{Entry, entry_at, quotient_of, ratio_of}
use Rattle.index_theory.specs.State.{Kind, monomials, ratioed, State, Valid, GoodEntry, OfKind, LabelsOf, power_in, keys, keys_of, up_to}
use Rattle.index_theory.specs.Calls.{Call, Request, insertion, query, GoodRequest, Asked, refused, asks, ask, relabel, labelled, tracked, numbered, inserted, Done, with_tree, serve, reply, step, after}
use Rattle.index_theory.proofs.Places.{entry_old, entry_new, length_more, insert-count}
use Rattle.index_theory.proofs.Asks.{fits}
use Rattle.index_theory.proofs.Labels.{rows_few, relabelled}
use Rattle.index_theory.proofs.Finds.{find-kept}

-- ---- a search changes the tree alone
pub tree-valid : (st : State) → Valid st → (t : Tree) → Kept (keys st) st.tree t → Valid (with_tree st t)
tree-valid st val t k = record {
  cap-from = val.cap-from;
  cap-to = val.cap-to;
  maxima-good = val.maxima-good;
  map-good = val.map-good;
  few = val.few;
  numbered = val.numbered;
  canonical = val.canonical;
  of-kind = val.of-kind;
  once = λ n. val.once n ∙ k.same n;
  size = sym k.size ∙ val.size;
  ordered = k.ordered;
  labels-valid = val.labels-valid;
  labels-vars = val.labels-vars;
  labels-cap = val.labels-cap;
  labels-of = val.labels-of;
}

-- ---- one entry more: what was an entry or a key stays one, and compares as before
module _ (m : ℕ) (es : List Entry) (x : Entry) (l l' : map.State) where
  more : (e : ℕ) → e < length es → e < length (es ++ (x ∷ []))
  more e h = omega (arith, length_more es x)

  same_power : (d k e : ℕ) → e < length es → ltb (power_in (es ++ (x ∷ [])) d e) k ≡ ltb (power_in es d e) k
  unfolding power_in
  same_power d k e h = rw (entry_old es x e h)

  valid-ratio : (d k : ℕ) → (keys_of ratioed m es l).valid d k → (keys_of ratioed m (es ++ (x ∷ [])) l').valid d k
  valid-ratio zero k h = more k h
  valid-ratio (suc v) k h = h

  below-ratio : (d k e : ℕ) → (keys_of ratioed m es l).valid d k → e < length es → (keys_of ratioed m (es ++ (x ∷ [])) l').below d k e ≡ (keys_of ratioed m es l).below d k e
  unfolding Rattle.kd_theory.specs.Bifurcate.below_ratio
  below-ratio zero k e v h = rw (entry_old es x k v, entry_old es x e h)
  below-ratio (suc d) k e v h = same_power d k e h

  pub grows : (k : Kind) → Grows (keys_of k m es l) (keys_of k m (es ++ (x ∷ [])) l')
  grows monomials = record { good = more; valid = λ d k h. h; below = λ d k e v h. same_power d k e h }
  grows ratioed = record { good = more; valid = valid-ratio; below = below-ratio }

-- ---- the label map after an insert
pub record LabelsAfter (k : Kind) (m c : ℕ) (es : List Entry) (l : map.State) : Type 0 where
  pub valid : map.Valid l
  pub vars : l.variables ≡ m
  pub cap : l.capacity ≡ c
  pub of : LabelsOf k es l

module _ (st : State) (val : Valid st) (e : Entry) (good : GoodEntry st.variables e) (room : length st.entries < st.capacity) where
  abbrev es : List Entry
  es = st.entries

  abbrev x : Entry
  x = numbered (length st.entries) e

  -- the ratio of a canonical entry is a canonical value
  pub value-good : map.Good st.variables (ratio_of e)
  unfolding quotient_of
  value-good = record {
    index-small = good.index-small;
    canonical = canonical-result st.variables e.sign e.lm good.sign-canonical good.lm-canonical Op.Ratio (omega (arith, val.maxima-good.few)) (λ z. absurd (let y : ◌≡◌ {A = ℕ} 0 1 = cc in omega arith));
  }

  ratios-after : LabelsOf ratioed es st.labels → LabelsAfter ratioed st.variables st.capacity (es ++ (x ∷ [])) (relabel (map.answer st.labels (ratio_of e)) st.labels (ratio_of e))
  ratios-after of =
      let few = rows_few es st.labels val.labels-valid of in
      let s = relabelled st.labels (ratio_of e) val.labels-valid (rw val.labels-vars value-good) (omega (arith, val.labels-cap)) in
      let ln = length_more es x in
      record {
        valid = s.valid;
        vars = s.vars ∙ val.labels-vars;
        cap = s.cap ∙ val.labels-cap;
        of = (
          λ i h. elim (dec_lt i (length es)) [
            | yes y ↦ let o = of.0 i y in let n = s.old o.0 o.1 in (o.0, n.0, n.1 ∙ o.2 ∙ rw (entry_old es x i y))
            | no y ↦ let z : i ≡ length es = omega arith in (s.has.0, s.has.1, s.has.2 ∙ rw (z, entry_new es x))
          ],
          λ i h. row i (s.only i h),
        );
      }
    where
      row : (i : ℕ)
          → ((i < length st.labels.rows) × (map.value (relabel (map.answer st.labels (ratio_of e)) st.labels (ratio_of e)).rows i ≡ map.value st.labels.rows i)) ⊎ (map.value (relabel (map.answer st.labels (ratio_of e)) st.labels (ratio_of e)).rows i ≡ ratio_of e)
          → (j : ℕ) × (j < length (es ++ (x ∷ []))) × (map.value (relabel (map.answer st.labels (ratio_of e)) st.labels (ratio_of e)).rows i ≡ ratio_of (entry_at (es ++ (x ∷ [])) j))
      row i (inl (h, q)) = let o = of.1 i h in (o.0, omega (arith, o.1, length_more es x), q ∙ o.2 ∙ rw (entry_old es x o.0 o.1))
      row i (inr q) = (length es, omega (arith, length_more es x), q ∙ rw (entry_new es x))

  labels-after : (k : Kind) → LabelsOf k es st.labels → LabelsAfter k st.variables st.capacity (es ++ (x ∷ [])) (labelled k st.labels e)
  unfolding labelled
  labels-after monomials of = record { valid = val.labels-valid; vars = val.labels-vars; cap = val.labels-cap; of = of }
  labels-after ratioed of = ratios-after of

  tracked-good : (k : Kind) → Maxima st.variables (tracked k e st.maxima)
  unfolding tracked
  tracked-good monomials = updated-good st.variables e.lm st.maxima good.lm-canonical val.maxima-good
  tracked-good ratioed =
      updated-good st.variables e.lm (updated e.sign st.maxima) good.lm-canonical
      (updated-good st.variables e.sign st.maxima good.sign-canonical val.maxima-good)

  good-at : (i : ℕ) → i < length (es ++ (x ∷ [])) → GoodEntry st.variables (entry_at (es ++ (x ∷ [])) i)
  good-at i h =
      elim (dec_lt i (length es)) [
        | yes y ↦ rw (entry_old es x i y) (val.canonical i y)
        | no y ↦ let z : i ≡ length es = omega (arith, length_more es x) in rw (z, entry_new es x) (record { index-small = good.index-small; sign-canonical = good.sign-canonical; lm-canonical = good.lm-canonical })
      ]

  number_at : (i : ℕ) → i < length (es ++ (x ∷ [])) → (entry_at (es ++ (x ∷ [])) i).number ≡ i
  number_at i h =
      elim (dec_lt i (length es)) [
        | yes y ↦ rw (entry_old es x i y) (val.numbered i y)
        | no y ↦ let z : i ≡ length es = omega (arith, length_more es x) in rw (z, entry_new es x)
      ]

  kind_at : OfKind st.kind e → (i : ℕ) → i < length (es ++ (x ∷ [])) → OfKind st.kind (entry_at (es ++ (x ∷ [])) i)
  kind_at of i h =
      elim (dec_lt i (length es)) [
        | yes y ↦ rw (entry_old es x i y) (val.of-kind i y)
        | no y ↦ let z : i ≡ length es = omega (arith, length_more es x) in rw (z, entry_new es x) (kind-new st.kind of)
      ]
    where
      kind-new : (k : Kind) → OfKind k e → OfKind k x
      kind-new monomials h = h
      kind-new ratioed h = h

  pub inserted-valid : OfKind st.kind e → Valid (inserted st e)
  unfolding inserted up_to
  inserted-valid of =
      let ls = labels-after st.kind val.labels-of in
      let l' = labelled st.kind st.labels e in
      let K = keys_of st.kind st.variables (es ++ (x ∷ [])) l' in
      let ln = length_more es x in
      let here : length es < length (es ++ (x ∷ [])) = omega arith in
      record {
        cap-from = val.cap-from;
        cap-to = val.cap-to;
        maxima-good = tracked-good st.kind;
        map-good = val.map-good;
        few = omega arith;
        numbered = number_at;
        canonical = good-at;
        of-kind = kind_at of;
        once = λ n. rw (ln, add-one (length es)) (occurs-append n (up_to (length es)) (length es ∷ []) ∙ rw (insert-adds K (length es) st.tree n, val.once n));
        size = insert-count K (length es) st.tree ∙ rw (val.size, ln);
        ordered = insert-ordered K (length es) (good-here st.kind here) st.tree (ordered-grows (keys st) K (grows st.variables es x st.labels l' st.kind) st.tree val.ordered);
        labels-valid = ls.valid;
        labels-vars = ls.vars;
        labels-cap = ls.cap;
        labels-of = ls.of;
      }
    where
      good-here : (k : Kind) → length es < length (es ++ (x ∷ [])) → (keys_of k st.variables (es ++ (x ∷ [])) (labelled st.kind st.labels e)).good (length es)
      good-here monomials h = h
      good-here ratioed h = h

-- ---- calls
pub serve-valid : (st : State) → Valid st → (r : Request) → GoodRequest st.kind st.variables r → Valid (serve st r).state
unfolding serve
serve-valid st val (insertion e) f = go (ltb (length st.entries) st.capacity) refl
  where
    go : (b : Bool) → ltb (length st.entries) st.capacity ≡ b
        → Valid (cond {A = Done} b (record { answer = 1073741824 + length st.entries; state = inserted st e }) (record { answer = 1342177288; state = st })).state
    go true w = inserted-valid st val e f.0 (ltb-true (length st.entries) st.capacity w) f.1
    go false w = val
serve-valid st val (query r) f = tree-valid st val _ (find-kept st val r)

pub step-valid : (st : State) → Valid st → (c : Call) → Valid (step st c).state
unfolding step reply
step-valid st val c = go (ask st.kind st.variables c) refl
  where
    go : (a : Asked) → ask st.kind st.variables c ≡ a → Valid (reply st a).state
    go (refused n) e = val
    go (asks r) e = serve-valid st val r (fits st.variables val.maxima-good.some st.kind c r e)

pub after-valid : (cs : List Call) (st : State) → Valid st → Valid (after st cs)
unfolding after
after-valid [] st val = val
after-valid (c ∷ cs) st val = after-valid cs (step st c).state (step-valid st val c)
