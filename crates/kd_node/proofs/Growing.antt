-- A skip that has grown. Assumes nothing.
use mathlib.Core.Path.{◌≡◌, refl, ap, ◌∙◌}
use mathlib.Core.List.{List}
use Prim.Native.Nat.{ℕ, ◌+◌}
use native.Mathlib.Nat.{add-mul}
use native.Mathlib.Omega.{arith}
use lib.ListN.{get_or}
use Rattle.words.specs.Words.{words, put_w}
use Rattle.index_image.specs.Shape as at
use Rattle.index_image.specs.declared.Shape.{Shape}
use Rattle.kd_node.specs.Branch.{Grew}

pub grew : (bs bs' : List ℕ) (s : Shape) (k added i w skip less : ℕ) → i ≡ at.node_at s k → w ≡ at.node_width s.variables → skip ≡ get_or (words bs) (i + 3) 0 → less ≡ get_or (words bs) (i + w + 2) 0
    → bs' ≡ put_w bs (i + 3) (skip + added) → Grew bs bs' s k added (k + 1 + (skip + added)) less
grew bs bs' s k added i w skip less ei ew es el eb =
    let n : i + w + 2 ≡ at.node_at s (k + 1) + 2 = omega (arith, ei, ew, add-mul k 1 (s.variables + 6)) in
    let z : skip ≡ get_or (words bs) (at.node_at s k + 3) 0 = es ∙ ap (λ (j : ℕ). get_or (words bs) (j + 3) 0) ei in
    record { bytes = eb ∙ rw (ei, z) refl; row_is = rw z refl; less-is = el ∙ ap (λ (j : ℕ). get_or (words bs) j 0) n }
