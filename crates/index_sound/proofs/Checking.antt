-- The image of a valid state passes the checks. Assumes nothing.
use mathlib.Core.Path.{◌≡◌, refl, ap, ◌∙◌}
use mathlib.Core.List.{List}
use Prim.Native.Nat.{ℕ, ◌+◌, ◌*◌, ◌<◌}
use native.Mathlib.Omega.{arith}
use native.Mathlib.Nat.{zero-mul}
use lib.ListN.{length, get_or}
use Rattle.words.specs.Words.{words}
use Rattle.kd_theory.specs.Tree.{inorder}
use Rattle.index_theory.specs.State.{State}
use Rattle.index_image.specs.Layout.{shape_of, Is}
use Rattle.index_image.specs.Shape as at
use Rattle.index_image.specs.Marks.{Named}
use Rattle.index_image.specs.declared.Shape.{Shape}
use Rattle.index_image.proofs.Images as of
use Rattle.index_image.proofs.Labels.{of_map}
use Rattle.index_image.proofs.Once.{in-get, once-all}
use Rattle.index_image.proofs.Shapes.{code-ratio}
use Rattle.index_sound.specs.Checks.{MaximaOk, LabelsOk, RowsNamed, PermutationOk, NodesOk, TablesOk}

module _ (bs : List ℕ) (st : State) (I : Is st bs) where
  abbrev W : List ℕ
  W = words bs

  abbrev s : Shape
  s = shape_of st

  abbrev n : ℕ
  n = length st.entries

  maxima-ok : MaximaOk W s
  maxima-ok = record { present = rw (of.pieces bs st I).maxima I.valid.maxima-good; map = rw (of.pieces bs st I).map I.valid.map-good }

  labels-ok : LabelsOk bs s
  labels-ok e = of_map bs s (of.range bs st I) I.room e st.labels (of.map_is bs st I (code-ratio st.kind e))

  rows_named : RowsNamed W s
  rows_named e j h =
      let k = code-ratio st.kind e in
      let b : j < length st.labels.rows = rw (of.count-rows bs st I k) at h in
      let o = (of.ratios bs st I k).1 j b in
      let p : at.row_at s 0 + o.0 * at.entry_width s ≡ at.row_at s o.0 = omega (arith, zero-mul (at.entry_width s)) in
      record { i = o.0; below = o.1; is = ap (λ (x : ℕ). get_or W x 0) p ∙ of.names bs st I k o.0 o.1 j b o.2 }

  permutation-ok : PermutationOk W s
  permutation-ok = record { places = of.place-small bs st I; all = named; rest = (of.pieces bs st I).permutation-rest }
    where
      named : (j : ℕ) → j < n → Named W (at.permutation_at s) 1 n j
      named j h =
          let q = in-get (inorder st.tree) j (once-all (inorder st.tree) n I.valid.once j h) in
          let b : q.0 < n = omega (arith, q.1, I.valid.size) in
          let e : q.0 * 1 ≡ q.0 = omega arith in
          record { i = q.0; below = b; is = rw e (of.place bs st I q.0 b ∙ q.2) }

  nodes-ok : NodesOk W s
  nodes-ok = record { tree = st.tree; is = of.tree_is bs st I; rows = refl; all = I.valid.size; rest = (of.pieces bs st I).nodes-rest }

  pub tables-ok : TablesOk bs (shape_of st)
  tables-ok = record {
    maxima = maxima-ok;
    labels = labels-ok;
    entries = record { each = of.entry-ok bs st I; rest = (of.pieces bs st I).entries-rest };
    permutation = permutation-ok;
    named = rows_named;
    nodes-ok = nodes-ok;
  }
