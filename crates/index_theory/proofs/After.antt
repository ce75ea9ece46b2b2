-- What a call leaves of the tree, the map's maxima and the labels, as the Rust fixes it. Assumes nothing.
use mathlib.Core.Path.{◌≡◌, refl, sym, ap, ◌∙◌}
use mathlib.Core.Bool.{true}
use mathlib.Core.List.{List, [], ◌∷◌}
use mathlib.Core.Logic.{inl, inr, ◌↔◌}
use Prim.Native.Nat.{ℕ, ◌≤◌, ◌<◌}
use native.Mathlib.Omega.{arith}
use native.Mathlib.Decide.{dec_lt}
use lib.Dec.{leb}
use lib.ListN.{length, get_or}
use borrow.Author.Tests.{leb-true, le-leb, lt-ltb, le-ltb}
use Rattle.std.proofs.Common.{Result, Ok, Err}
use Rattle.words.specs.Kinds.{ident}
use Rattle.monomial.proofs.Canon.{Canon, canon-of}
use Rattle.monomial.proofs.Powers.{pow-here, pow-past, pow-end, pow-above}
use Rattle.divmask.specs.Tracker.{updated}
use Rattle.divmask.proofs.Growth.{updated-end}
use Rattle.fast_compare.specs.Labels.{known}
use Rattle.fast_compare.specs.Map as map
use Rattle.fast_compare.specs.declared.Comparer.{Comparer}
use Rattle.fast_compare.specs.declared.Comparer.TheVariants.{Known, New}
use Rattle.fast_compare.specs.declared.Unlabelled.{Unlabelled}
use Rattle.fast_compare.specs.declared.Unlabelled.TheVariants.{Full, NoLabel}
use Rattle.fast_compare.proofs.Maps.{Answered, is_known, is-full, is_none, is-new, answered, after-as, stored_same, known-label, old-known}
use Rattle.kd_theory.specs.Tree.{Tree}
use Rattle.kd_theory.proofs.FixedLaws.{added, added-place, added-nodes}
use Rattle.index_theory.specs.Entries.{Entry, one, ratio_of}
use Rattle.index_theory.specs.State.{Kind, monomials, ratioed, State, Valid, OfKind, LabelsOf, row_or, row_of, label_of, keys}
use Rattle.index_theory.specs.Searches.{dense, ratio_at}
use Rattle.index_theory.specs.Calls.{Request, insertion, query, GoodRequest, relabel, labelled, tracked, inserted, with_tree, serve}
use Rattle.index_theory.specs.Claims.{RestKept, NotAboveHighest, DenseExact, InsertAfter, StateAfter}
use Rattle.index_theory.proofs.Finds.{find-grown, find_runs, find-settled}
use Rattle.index_theory.proofs.Keeps.{value-good}

-- ---- labels
-- the label of a value is what the map answers
known-label_of : (l : map.State) (v : map.Value) (x : ℕ) → map.answer l v ≡ Ok (Known x) → label_of l v ≡ x
unfolding label_of row_of row_or
known-label_of l v x e = go (map.answer l v) e (answered l v)
  where
    go : (a : Result Comparer Unlabelled) → a ≡ Ok (Known x) → Answered l v a → map.label l.rows (row_or (known map.cmp (map.value l.rows) (length l.rows) v)) ≡ x
    go _ e (is_known i k) = let z : map.label l.rows i ≡ x = cc in rw (k, z) refl
    go _ e (is-full k h) = absurd (let z : ◌≡◌ {A = ℕ} 0 1 = cc in omega arith)
    go _ e (is_none k h g) = absurd (let z : ◌≡◌ {A = ℕ} 0 1 = cc in omega arith)
    go _ e (is-new k h g) = absurd (let z : ◌≡◌ {A = ℕ} 0 1 = cc in omega arith)

same-label : (l m : map.State) (v : map.Value) → m ≡ l → label_of m v ≡ label_of l v
same-label l m v e = rw e

module _ (l : map.State) (val : map.Valid l) (v : map.Value) (good : map.Good l.variables v) where
  -- a value that has a row keeps its label, unless the labels are dealt afresh
  relabel-keeps : (map.answer l v ≡ Err NoLabel → ⊥) → (i : ℕ) → i < length l.rows → label_of (relabel (map.answer l v) l v) (map.value l.rows i) ≡ label_of l (map.value l.rows i)
  unfolding relabel
  relabel-keeps free i h = go (map.answer l v) refl
    where
      go : (a : Result Comparer Unlabelled) → map.answer l v ≡ a → label_of (relabel a l v) (map.value l.rows i) ≡ label_of l (map.value l.rows i)
      go (Ok (Known x)) e = same-label l (map.after l v) _ (after-as l v (Ok (Known x)) e ∙ stored_same l v (Ok (Known x)) (λ y z. let w : ◌≡◌ {A = ℕ} 0 1 = cc in omega arith))
      go (Err Full) e = same-label l (map.after l v) _ (after-as l v (Err Full) e ∙ stored_same l v (Err Full) (λ y z. let w : ◌≡◌ {A = ℕ} 0 1 = cc in omega arith))
      go (Ok (New x)) e =
          known-label_of (map.after l v) (map.value l.rows i) (map.label l.rows i) (old-known l v val good x e i h)
          ∙ sym (known-label_of l (map.value l.rows i) (map.label l.rows i) (known-label l (map.value l.rows i) val i h refl))
      go (Err NoLabel) e = absurd (free e)

rest-kept : (st : State) (t : Tree) → RestKept st (with_tree st t)
rest-kept st t = record { kind = refl; variables = refl; capacity = refl; maxima = refl; map-maxima = refl; entries = refl; labels = refl }

-- ---- a variable above the query's highest
pub dense-exact : DenseExact
unfolding dense Canon
dense-exact m q c v = go q (canon-of c)
  where
    go : (q : List ℕ) → Canon 1 m 0 q → (leb v (ident (get_or q 0 0)) ≡ true) ↔ NotAboveHighest q v
    go [] k = absurd k
    go (w ∷ ws) (inl e) =
        let z : w ≡ 0 = omega (arith, e.kinded, e.count) in
        (λ h. inl (omega (arith, leb-true v (ident w) h)), λ h. le-leb v (ident w) (at h))
      where
        at : NotAboveHighest (w ∷ ws) v → v ≤ ident w
        at (inl h) = omega arith
        at (inr h) = absurd (omega (arith, h.2, pow-end 1 (omega arith) 0 w ws h.0 e))
    go (w ∷ ws) (inr (x, k)) =
        (λ h. inr (ident w, leb-true v (ident w) h, rw (pow-here 1 w ws (ident w) x.kinded refl) x.low), λ h. le-leb v (ident w) (at h))
      where
        at : NotAboveHighest (w ∷ ws) v → v ≤ ident w
        at (inl h) = omega arith
        at (inr h) =
            elim (dec_lt (ident w) h.0) [
              | yes y ↦ absurd (omega (arith, h.2, pow-past 1 w ws h.0 (λ z. omega arith), pow-above 1 (omega arith) (ident w) 1 ws h.0 k (omega arith)))
              | no y ↦ omega (arith, h.1)
            ]

module _ (st : State) (val : Valid st) where
  labels-kept : (k : Kind) → LabelsOf k st.entries st.labels → (e : Entry) → map.Good st.variables (ratio_of e) → (k ≡ ratioed → map.answer st.labels (ratio_of e) ≡ Err NoLabel → ⊥)
      → (i : ℕ) → i < length st.entries → label_of (labelled k st.labels e) (ratio_at st.entries i) ≡ label_of st.labels (ratio_at st.entries i)
  unfolding labelled
  labels-kept monomials of e good free i h = refl
  labels-kept ratioed of e good free i h =
      let r = of.0 i h in
      rw r.2 at (relabel-keeps st.labels val.labels-valid (ratio_of e) (rw val.labels-vars good) (free refl) r.0 r.1)

  -- the label map after an insert into a ratio index
  labelled-as : (k : Kind) (l : map.State) (e : Entry) → k ≡ ratioed → labelled k l e ≡ relabel (map.answer l (ratio_of e)) l (ratio_of e)
  unfolding labelled
  labelled-as monomials l e h = absurd (let z : ◌≡◌ {A = ℕ} 0 1 = cc in omega arith)
  labelled-as ratioed l e h = refl

  relabel-given : (a : Result Comparer Unlabelled) (l : map.State) (v : map.Value) → (a ≡ Err NoLabel → ⊥) → relabel a l v ≡ map.after l v
  unfolding relabel
  relabel-given (Ok c) l v h = refl
  relabel-given (Err Full) l v h = refl
  relabel-given (Err NoLabel) l v h = absurd (h refl)

  relabel-retried : (l : map.State) (v : map.Value) → relabel (Err NoLabel) l v ≡ map.after (map.rebuild l) v
  unfolding relabel
  relabel-retried l v = refl

  updated-one : (xs : List ℕ) → updated one xs ≡ xs
  updated-one xs = updated-end 0 [] xs (λ z. omega arith)

  tracked-both : (k : Kind) (e : Entry) (xs : List ℕ) → OfKind k e → tracked k e xs ≡ updated e.lm (updated e.sign xs)
  unfolding tracked
  tracked-both monomials e xs of = ap (updated e.lm) (sym (ap (λ (s : List ℕ). updated s xs) of.1 ∙ updated-one xs))
  tracked-both ratioed e xs of = refl

  insert-after : (e : Entry) → GoodRequest st.kind st.variables (insertion e) → length st.entries < st.capacity → InsertAfter st e (inserted st e)
  unfolding inserted
  insert-after e f room =
      let a = added (keys (inserted st e)) (length st.entries) st.tree in
      record {
        entries = refl;
        maxima = tracked-both st.kind e st.maxima f.1;
        map-maxima = refl;
        added = a;
        placed = added-place (keys (inserted st e)) (length st.entries) st.tree _ a;
        nodes = added-nodes (keys (inserted st e)) (length st.entries) st.tree _ a;
        label-given = λ k free. labelled-as st.kind st.labels e k ∙ relabel-given _ st.labels (ratio_of e) (λ n. free (k, n));
        label-retried = λ h. labelled-as st.kind st.labels e h.0 ∙ ap (λ (a : Result Comparer Unlabelled). relabel a st.labels (ratio_of e)) h.1 ∙ relabel-retried st.labels (ratio_of e);
        labels = λ free. labels-kept st.kind val.labels-of e (value-good st val e f.0 room) (λ k n. free (k, n));
      }

  pub serve-after : (r : Request) → GoodRequest st.kind st.variables r → StateAfter st r (serve st r).state
  unfolding serve
  serve-after (insertion e) f = (
    λ room. rw (lt-ltb (length st.entries) st.capacity room) (insert-after e f room),
    λ full. rw (le-ltb (length st.entries) st.capacity full) refl,
  )
  serve-after (query r) f = record { rest = rest-kept st _; run = find_runs st val r; grown = find-grown st val r; settled = find-settled st val r }
