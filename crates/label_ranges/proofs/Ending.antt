-- A ratio as two bounds of labels, from its place in the label map. Assumes nothing.
use mathlib.Core.Path.{◌≡◌, refl, sym, ap, ◌∙◌}
use mathlib.Core.Bool.{true, false}
use Prim.Native.Nat.{ℕ, ◌+◌, ◌≤◌, ◌<◌}
use native.Mathlib.Decide.{dec_le}
use native.Mathlib.Omega.{arith}
use lib.Dec.{leb, ltb}
use lib.ListN.{length, get_or}
use borrow.Author.Tests.{lt-ltb, le-ltb, le-leb, lt-leb}
use Rattle.std.proofs.Common.{Ok, Err}
use Rattle.std.specs.Ordering.{nat_cmp, is_gt, ordering_reverse}
use Rattle.std.specs.declared.cmp.Ordering.TheVariants.{Less}
use Rattle.std.proofs.lemmas.Cmp.{nat_cmp_total}
use Rattle.monomial_ordering.proofs.Orders.{Trichotomy, less, equal, greater, trichotomy}
use Rattle.fast_compare.specs.Labels.{sorted}
use Rattle.fast_compare.specs.Map as map
use Rattle.fast_compare.proofs.Kept.{known-compare, new-compare, last-compare}
use Rattle.fast_compare.proofs.Maps.{cmp-lawful}
use Rattle.fast_compare.proofs.Giving.{at_place, before-place, known-row, place-few}
use Rattle.index_theory.specs.Entries.{above}
use Rattle.label_ranges.specs.Ended.{Ends, row_of_rank, label_of_rank}

greater-is : (a b : ℕ) → is_gt (nat_cmp a b) ≡ ltb b a
greater-is a b = go (trichotomy a b)
  where
    go : Trichotomy a b → is_gt (nat_cmp a b) ≡ ltb b a
    go (less h e) = ap is_gt e ∙ sym (le-ltb b a (omega arith))
    go (equal h e) = ap is_gt e ∙ sym (le-ltb b a (omega arith))
    go (greater h e) = ap is_gt e ∙ sym (lt-ltb b a h)

flipped-is : (a b : ℕ) → is_gt (ordering_reverse (nat_cmp a b)) ≡ ltb a b
flipped-is a b = ap is_gt (sym (nat_cmp_total.antisymm b a)) ∙ greater-is b a

more-is : (a b : ℕ) → leb (a + 1) b ≡ ltb a b
more-is a b = elim (dec_le (a + 1) b) [ yes h ↦ le-leb (a + 1) b h ∙ sym (lt-ltb a b (omega arith)) | no h ↦ lt-leb (a + 1) b (omega arith) ∙ sym (le-ltb a b (omega arith)) ]

less-flips : (v w : map.Value) → map.cmp v w ≡ Less → above w v ≡ true
unfolding above
less-flips v w h = rw (cmp-lawful.antisymm w v, h) refl

less-not : (v w : map.Value) → map.cmp v w ≡ Less → above v w ≡ false
unfolding above
less-not v w h = rw h refl

-- ---- the ends of a value, from its place among the values of the map
module _ (l : map.State) (val : map.Valid l) (v : map.Value) where
  abbrev label_at : ℕ → ℕ
  label_at p = map.label l.rows (get_or (sorted map.cmp (map.value l.rows) (length l.rows)) p 0)

  pub known-ends : (p x up : ℕ) → Ok p ≡ map.place l.rows v → x ≡ map.label l.rows (get_or (sorted map.cmp (map.value l.rows) (length l.rows)) p 0)
      → up ≡ x + 1 → Ends l v up x
  unfolding above
  known-ends p x up q ex eu = record {
    up_is = λ i h. let a = map.label l.rows i in ap is_gt (known-compare l val v i h p q) ∙ greater-is a (label_at p) ∙ rw (← ex, eu) (sym (more-is x a));
    down_is =
        λ i h. let a = map.label l.rows i in ap is_gt (cmp-lawful.antisymm v (map.value l.rows i) ∙ ap ordering_reverse (known-compare l val v i h p q)) ∙ flipped-is a
        (label_at p) ∙ rw (← ex) refl;
  }

  pub new-ends : (p x : ℕ) → Err p ≡ map.place l.rows v → p < length l.rows
      → x ≡ map.label l.rows (get_or (sorted map.cmp (map.value l.rows) (length l.rows)) p 0) → Ends l v x x
  new-ends p x q s ex = record { up_is = λ i h. up i h; down_is = λ i h. down i h }
    where
      up : (i : ℕ) → i < length l.rows → above (map.value l.rows i) v ≡ leb x (map.label l.rows i)
      up i h =
          let c = new-compare l val v i h p q s in
          let a = map.label l.rows i in
          let w = map.value l.rows i in
          elim (dec_le x a) [ yes y ↦ less-flips v w (c.1.1 (omega arith)) ∙ sym (le-leb x a y) | no y ↦ less-not w v (c.0.1 (omega arith)) ∙ sym (lt-leb x a (omega arith)) ]

      down : (i : ℕ) → i < length l.rows → above v (map.value l.rows i) ≡ ltb (map.label l.rows i) x
      down i h =
          let c = new-compare l val v i h p q s in
          let a = map.label l.rows i in
          let w = map.value l.rows i in
          elim (dec_le x a) [ yes y ↦ less-not v w (c.1.1 (omega arith)) ∙ sym (le-ltb a x y) | no y ↦ less-flips w v (c.0.1 (omega arith)) ∙ sym (lt-ltb a x (omega arith)) ]

  pub last-ends : (p : ℕ) → Err p ≡ map.place l.rows v → p ≡ length l.rows → Ends l v 4294967296 4294967296
  last-ends p q e =
      let z : Err (length l.rows) ≡ map.place l.rows v = ap Err (sym e) ∙ q in
      record {
        up_is = λ i h. less-not (map.value l.rows i) v (last-compare l val v i h z) ∙ sym (lt-leb 4294967296 (map.label l.rows i) (omega (arith, val.labelled.small i h)));
        down_is = λ i h. less-flips (map.value l.rows i) v (last-compare l val v i h z) ∙ sym (lt-ltb (map.label l.rows i) 4294967296 (omega (arith, val.labelled.small i h)));
      }

-- ---- the label at a place
pub label-known : (l : map.State) (p : ℕ) → p < length l.rows → label_of_rank l p ≡ map.label l.rows (get_or (sorted map.cmp (map.value l.rows) (length l.rows)) p 0)
unfolding label_of_rank row_of_rank
label-known l p h = rw (lt-ltb p (length l.rows) h) refl

pub label-none : (l : map.State) (p : ℕ) → length l.rows ≤ p → label_of_rank l p ≡ 4294967296
unfolding label_of_rank
label-none l p h = rw (le-ltb p (length l.rows) h) refl

-- ---- the places that `search` gives
module _ (l : map.State) (val : map.Valid l) (v : map.Value) (p x : ℕ) (e : x ≡ label_of_rank l p) where
  pub known_is : Ok p ≡ map.place l.rows v → Ends l v (x + 1) x
  known_is q = known-ends l val v p x (x + 1) q (e ∙ label-known l p (known-row l v val p (at_place l v p q)).0) refl

  pub new_is : Err p ≡ map.place l.rows v → Ends l v x x
  new_is q =
      let few = place-few l v val p (before-place l v p q).place_is in
      elim (dec_le (p + 1) (length l.rows)) [
        | yes h ↦ new-ends l val v p x q (omega arith) (e ∙ label-known l p (omega arith))
        | no h ↦ rw (e ∙ label-none l p (omega arith)) (last-ends l val v p q (omega arith))
      ]
