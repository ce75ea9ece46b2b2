-- The label map as a part of the image. Assumes nothing.
use mathlib.Core.Path.{◌≡◌, refl, ap, subst, ◌∙◌}
use mathlib.Core.List.{List}
use mathlib.Core.Logic.{∥∥₁_map}
use Prim.Native.Nat.{ℕ, ◌+◌, ◌-◌, ◌*◌}
use native.Mathlib.Omega.{arith}
use lib.ListN.{length, take, drop}
use Rattle.words.specs.Words.{words}
use Rattle.fast_compare.specs.Layout as lay
use Rattle.index_theory.specs.State.{ratioed, State}
use Rattle.index_image.specs.Door.{label_bytes}
use Rattle.index_image.specs.Head.{HeadOk}
use Rattle.index_image.specs.Layout.{shape_of, Is, Sound}
use Rattle.index_image.specs.Shape as at
use Rattle.index_image.specs.declared.Shape.{Shape}
use Rattle.index_image.proofs.Heads.{same_shape}
use Rattle.index_image.proofs.Images as of
use Rattle.index_image.proofs.Labels.{MapIs, is-map}
use Rattle.index_image.proofs.Shapes.{code-ratio}

module _ (bs : List ℕ) (s : Shape) (h : HeadOk (words bs) (length bs) s) where
  pub shape_is : (st : State) → Is st bs → shape_of st ≡ s
  shape_is st I = same_shape (words bs) (length bs) (shape_of st) s (of.head_ok bs st I) h

  pub kind-of : (st : State) → Is st bs → s.kind ≡ 1 → st.kind ≡ ratioed
  kind-of st I k = code-ratio st.kind (ap (λ (y : Shape). y.kind) (shape_is st I) ∙ k)

  module _ (k : s.kind ≡ 1) (x y : ℕ) (ex : x ≡ 4 * at.labels_at s) (ey : y ≡ 4 * (at.labels_at s + at.labels_size s)) where
    part-is : take (y - x) (drop x bs) ≡ label_bytes bs s
    part-is = let z : y - x ≡ 4 * at.labels_size s = omega (arith, ex, ey) in rw (z, ex) refl

    pub lent_is : (st : State) → Is st bs → lay.Is st.labels (take (y - x) (drop x bs))
    lent_is st I =
        let m : MapIs (words bs) s st.labels = subst (λ (z : Shape). MapIs (words bs) z st.labels) (shape_is st I) (of.map_is bs st I (kind-of st I k)) in
        rw part-is (is-map bs s h.range h.room k st.labels m)

    pub lent-sound : ∥ Sound bs ∥₁ → ∥ lay.Sound (take (y - x) (drop x bs)) ∥₁
    lent-sound S = ∥∥₁_map S (λ z. record { state = z.state.labels; is = lent_is z.state z.is })
