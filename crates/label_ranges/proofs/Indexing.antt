-- The labels from an index on, by halving the order of the label map. Assumes nothing.
use mathlib.Core.Path.{◌≡◌, refl, sym, ap, ◌∙◌}
use mathlib.Core.Bool.{Bool, true, false, not, cond}
use mathlib.Core.Logic.{◌⊎◌, inl, inr}
use Rattle.std.proofs.Common.{Result, Ok, Err}
use Prim.Native.Nat.{ℕ, ◌-◌, ◌≤◌, ◌<◌}
use native.Mathlib.Decide.{ℕ_discrete, dec_lt}
use native.Mathlib.Omega.{arith}
use lib.Dec.{leb, ltb}
use lib.ListN.{length, get_or}
use borrow.Author.Tests.{ltb-true, ltb-false, lt-ltb, le-ltb, le-leb, lt-leb}
use Rattle.std.specs.declared.cmp.Ordering.{Ordering}
use Rattle.std.specs.declared.cmp.Ordering.TheVariants.{Less, Equal, Greater}
use Rattle.fast_compare.specs.Halving as halving
use Rattle.fast_compare.specs.Halving.{found, between}
use Rattle.fast_compare.specs.Labels.{below, sorted}
use Rattle.fast_compare.specs.Map as map
use Rattle.fast_compare.proofs.Images.{ranked}
use Rattle.fast_compare.proofs.Maps.{cmp-lawful}
use Rattle.fast_compare.proofs.Ranks.{below_top, less-place, place_of}
use Rattle.index_theory.specs.Entries.{above}
use Rattle.index_theory.proofs.Orders.{index-rises}
use Rattle.label_ranges.specs.Ended.{From, row_of_rank, index_of_rank, label_of_rank, Halved}
use Rattle.label_ranges.proofs.Ending.{label-known, label-none}

-- ---- where the index of a row lies
module _ (l : map.State) (p x row i : ℕ) (er : row ≡ get_or (sorted map.cmp (map.value l.rows) (length l.rows)) p 0) (ei : i ≡ (map.value l.rows row).index) where
  here : i ≡ index_of_rank l p
  unfolding row_of_rank
  here = ei ∙ rw er refl

  pub side-below : i < x → Less ≡ cond (ltb (index_of_rank l p) x) Less Greater
  side-below h = rw (lt-ltb (index_of_rank l p) x (omega (arith, here)))

  pub side-from : x ≤ i → Greater ≡ cond (ltb (index_of_rank l p) x) Less Greater
  side-from h = rw (le-ltb (index_of_rank l p) x (omega (arith, here)))

module _ (l : map.State) (val : map.Valid l) where
  abbrev n : ℕ
  n = length l.rows

  abbrev f : ℕ → map.Value
  f = map.value l.rows

  inside : (p : ℕ) → p < length l.rows → row_of_rank l p < length l.rows
  unfolding row_of_rank
  inside p h = (ranked l val).inside p h

  -- values rise in their order, and with them indexes and labels
  rises : (p q : ℕ) → p < q → q < length l.rows → map.cmp (map.value l.rows (row_of_rank l p)) (map.value l.rows (row_of_rank l q)) ≡ Less
  unfolding row_of_rank
  rises p q h k = less-place cmp-lawful f n _ (ranked l val) (f (row_of_rank l q)) p (omega arith) (omega (arith, (ranked l val).rank q k))

  index-up : (p q : ℕ) → p < q → q < length l.rows → index_of_rank l p ≤ index_of_rank l q
  unfolding above
  index-up p q h k = index-rises (f (row_of_rank l p)) (f (row_of_rank l q)) (rw (rises p q h k) refl)

  label-up : (p q : ℕ) → p < q → q < length l.rows → map.label l.rows (row_of_rank l p) < map.label l.rows (row_of_rank l q)
  label-up p q h k = val.labelled.rising (row_of_rank l p) (row_of_rank l q) (inside p (omega arith)) (inside q k) (rises p q h k)

  -- ---- halving
  side-less : (i x : ℕ) → Less ≡ cond (ltb i x) Less Greater → i < x
  side-less i x e = go (ltb i x) refl e
    where
      go : (b : Bool) → ltb i x ≡ b → Less ≡ cond b Less Greater → i < x
      go true h e = ltb-true i x h
      go false h e = absurd (let z : ◌≡◌ {A = ℕ} 0 1 = cc in omega arith)

  side-greater : (i x : ℕ) → Greater ≡ cond (ltb i x) Less Greater → x ≤ i
  side-greater i x e = go (ltb i x) refl e
    where
      go : (b : Bool) → ltb i x ≡ b → Greater ≡ cond b Less Greater → x ≤ i
      go true h e = absurd (let z : ◌≡◌ {A = ℕ} 0 1 = cc in omega arith)
      go false h e = ltb-false i x h

  side-equal : (b : Bool) {X : Type 0} → Equal ≡ cond b Less Greater → X
  side-equal true e = absurd (let z : ◌≡◌ {A = ℕ} 0 1 = cc in omega arith)
  side-equal false e = absurd (let z : ◌≡◌ {A = ℕ} 0 1 = cc in omega arith)

  module _ (x c : ℕ) (few : c ≡ length l.rows) (answers : ℕ → Ordering → Type 0) where
    pub halved-rank : (r : Result ℕ ℕ) → halving.Halved answers c r → ((p : ℕ) (o : Ordering) → answers p o → o ≡ cond (ltb (index_of_rank l p) x) Less Greater)
        → (y : ℕ) → (r ≡ Ok y) ⊎ (r ≡ Err y) → Halved l x y y
    halved-rank _ (found p h e) told y z = side-equal (ltb (index_of_rank l p) x) (told p Equal e)
    halved-rank _ (between p h before here) told y (inl z) = absurd (let q : ◌≡◌ {A = ℕ} 0 1 = cc in omega arith)
    halved-rank _ (between p h before here) told y (inr z) =
        let q : p ≡ y = cc in
        rw (← q) (record { inside = omega arith; below = low; from = high })
      where
        low : (k : ℕ) → k < p → index_of_rank l k < x
        low k j =
            let s = side-less (index_of_rank l (p - 1)) x (told (p - 1) Less (before (omega arith))) in
            elim (ℕ_discrete k (p - 1)) [ yes e ↦ omega (arith, ap (index_of_rank l) e) | no e ↦ omega (arith, index-up k (p - 1) (omega arith) (omega arith)) ]

        high : (k : ℕ) → p ≤ k → k < length l.rows → x ≤ index_of_rank l k
        high k j m =
            let s = side-greater (index_of_rank l p) x (told p Greater (here (omega arith))) in
            elim (ℕ_discrete k p) [ yes e ↦ omega (arith, ap (index_of_rank l) e) | no e ↦ omega (arith, index-up p k (omega arith) m) ]

  -- ---- the label there
  place : ℕ → ℕ
  place i = below map.cmp (map.value l.rows) (length l.rows) (map.value l.rows i)

  stands : (i : ℕ) → i < length l.rows → row_of_rank l (place i) ≡ i
  unfolding row_of_rank place
  stands i h = place_of cmp-lawful f n _ val.labelled.distinct (ranked l val) i h

  within : (i : ℕ) → i < length l.rows → place i < length l.rows
  unfolding place
  within i h = below_top cmp-lawful f n i h

  module _ (x p : ℕ) (P : Halved l x p p) where
    before : (i : ℕ) → i < length l.rows → place i < p → (map.value l.rows i).index < x
    before i h k = omega (arith, P.below (place i) k, ap (λ (j : ℕ). (map.value l.rows j).index) (stands i h))

    behind : (i : ℕ) → i < length l.rows → p ≤ place i → x ≤ (map.value l.rows i).index
    behind i h k = omega (arith, P.from (place i) k (within i h), ap (λ (j : ℕ). (map.value l.rows j).index) (stands i h))

    pub from-label : (r : ℕ) → p < length l.rows → r ≡ map.label l.rows (get_or (sorted map.cmp (map.value l.rows) (length l.rows)) p 0) → From l x r
    unfolding row_of_rank
    from-label r s e = record { is = λ i h. go i h }
      where
        e' : r ≡ map.label l.rows (row_of_rank l p)
        e' = e

        own : (i : ℕ) → i < length l.rows → map.label l.rows (row_of_rank l (place i)) ≡ map.label l.rows i
        own i h = ap (map.label l.rows) (stands i h)

        least : (i : ℕ) → i < length l.rows → p ≤ place i → r ≤ map.label l.rows i
        least i h k =
            elim (ℕ_discrete (place i) p) [
              | yes z ↦ omega (arith, e', own i h, ap (λ (j : ℕ). map.label l.rows (row_of_rank l j)) z)
              | no z ↦ omega (arith, e', own i h, label-up p (place i) (omega arith) (within i h))
            ]

        go : (i : ℕ) → i < length l.rows → not (ltb (map.value l.rows i).index x) ≡ leb r (map.label l.rows i)
        go i h =
            elim (dec_lt (place i) p) [
              | yes k ↦ rw (lt-ltb (f i).index x (before i h k)) (sym (lt-leb r (map.label l.rows i) (omega (arith, e', own i h, label-up (place i) p k s))))
              | no k ↦ rw (le-ltb (f i).index x (behind i h (omega arith))) (sym (le-leb r (map.label l.rows i) (least i h (omega arith))))
            ]

    pub from-none : length l.rows ≤ p → From l x 4294967296
    from-none s = record {
      is = λ i h.
          rw (lt-ltb (f i).index x (before i h (omega (arith, within i h))))
          (sym (lt-leb 4294967296 (map.label l.rows i) (omega (arith, val.labelled.small i h))));
    }

    pub from_is : (r : ℕ) → r ≡ label_of_rank l p → From l x r
    from_is r e =
        elim (dec_lt p (length l.rows)) [
          | yes h ↦ from-label r h (e ∙ label-known l p h)
          | no h ↦ rw (e ∙ label-none l p (omega arith)) (from-none (omega arith))
        ]
