-- The label map of the image and the entries' ratios. Assumes nothing.
use mathlib.Core.Path.{◌≡◌, refl, ap, ◌∙◌}
use mathlib.Core.Option.{Option, none, some}
use Prim.Native.Nat.{ℕ, ◌<◌}
use lib.ListN.{length}
use Rattle.std.specs.declared.cmp.Ordering.TheVariants.{Equal}
use Rattle.fast_compare.specs.Labels.{known}
use Rattle.fast_compare.specs.Map as map
use Rattle.std.proofs.lemmas.Cmp.{tied_itself}
use Rattle.fast_compare.proofs.Neighbours.{none-known, some_known}
use Rattle.fast_compare.proofs.Maps.{cmp-lawful}
use Rattle.index_theory.specs.State.{row_or, row_of, label_of}

-- a value that row j has is known as row j, and has its label
module _ (l : map.State) (val : map.Valid l) (v : map.Value) (j : ℕ) (h : j < length l.rows) (e : map.value l.rows j ≡ v) where
  abbrev f : ℕ → map.Value
  f = map.value l.rows

  abbrev n : ℕ
  n = length l.rows

  known-row : known map.cmp f n v ≡ some j
  known-row = go (known map.cmp f n v) refl
    where
      go : (o : Option ℕ) → known map.cmp f n v ≡ o → known map.cmp f n v ≡ some j
      go none z = absurd (none-known cmp-lawful f n v z j h (rw e (tied_itself cmp-lawful v)))
      go (some i) z =
          let k = some_known cmp-lawful f n v i z in
          let q : map.cmp (f i) (f j) ≡ Equal = rw e k.1 in
          z ∙ ap some (val.labelled.distinct i j k.0 h q)

  pub row-of : row_of l v ≡ j
  unfolding row_of row_or
  row-of = rw known-row

  pub label-of : label_of l v ≡ map.label l.rows j
  unfolding label_of
  label-of = rw row-of
