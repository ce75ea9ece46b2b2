-- The listing of a whole image. Assumes nothing.
use mathlib.Core.Path.{◌≡◌, refl, sym, ap, ◌∙◌, subst}
use mathlib.Core.List.{List}
use Prim.Native.Nat.{ℕ, ◌*◌, ◌≤◌}
use native.Mathlib.Omega.{arith}
use lib.ListN.{length}
use Rattle.words.specs.Words.{words, paste_w}
use Rattle.kd_theory.specs.Tree.{inorder}
use Rattle.index_theory.specs.State.{State}
use Rattle.index_theory.specs.Entries.{entry_at}
use Rattle.index_theory.specs.Listing.{listing}
use Rattle.index_image.specs.Layout.{shape_of, Is}
use Rattle.index_image.specs.Rows.{entries_from}
use Rattle.index_image.specs.Walk.{lm_in, Ready}
use Rattle.index_image.specs.declared.Shape.{Shape}
use Rattle.index_image.proofs.Shapes.{code-ratio}
use Rattle.index_image.proofs.Images as of
use Rattle.index_image.proofs.Once.{get_in, once-below}
use Rattle.listing.specs.Listed.{lms, Here, Below}
use Rattle.listing.proofs.Monomials.{at-ext}

-- what an image of st tells
module _ (bs : List ℕ) (st : State) (I : Is st bs) where
  pub ready : Ready (words bs) (shape_of st)
  ready = record {
    range = of.range bs st I;
    room = of.long bs st I;
    map = rw (of.pieces bs st I).map I.valid.map-good;
    lms = λ e h. (of.entry-is bs st I e h).lm-slot.some;
    places = of.place-small bs st I;
    rows = λ k e h. of.row_small bs st I (code-ratio st.kind k) e h;
  }

  pub all_listed : lms (words bs) (shape_of st) (inorder st.tree) ≡ listing st
  all_listed =
      at-ext (lm_in (words bs) (shape_of st)) (λ e. (entry_at st.entries e).lm) (inorder st.tree)
      (λ i h. (of.entry-is bs st I _ (once-below (inorder st.tree) (length st.entries) I.valid.once _ (get_in (inorder st.tree) i h))).lm-is)

  in-places : entries_from (words bs) (shape_of st) 0 (length st.entries) ≡ inorder st.tree
  in-places = rw (← I.valid.size) (of.stands bs st I).perm

  abbrev whole-here : (room : ℕ) → 4 * length (listing st) ≤ room → Here (words bs) (shape_of st) 0 0 room
  whole-here room h = record { tree = st.tree; is = of.tree_is bs st I; inside = omega arith; few = omega (arith, I.valid.size); fits = rw all_listed h }

-- the same by a shape that is the state's: its listing is as long as the words of all entries, and what is written from the root on
pub record Whole (bs : List ℕ) (st : State) (s : Shape) : Type 0 where
  pub ready_at : Ready (words bs) s
  pub here : (room : ℕ) → 4 * length (listing st) ≤ room → Here (words bs) s 0 0 room
  pub long : length (lms (words bs) s (entries_from (words bs) s 0 s.entries)) ≡ length (listing st)
  pub written : (out out' : List ℕ) (r : ℕ) → 4 * length (listing st) ≤ length out → ((h : Here (words bs) s 0 0 (length out)) → Below (words bs) s 0 0 out out' r h)
      → out' ≡ paste_w out 0 (listing st)

pub whole : (bs : List ℕ) (st : State) (s : Shape) → Is st bs → s ≡ shape_of st → Whole bs st s
whole bs st s I e = subst (Whole bs st) (sym e) (record {
  ready_at = ready bs st I;
  here = whole-here bs st I;
  long = rw (in-places bs st I, all_listed bs st I) refl;
  written = λ out out' r h f. (f (whole-here bs st I (length out) h)).bytes ∙ ap (paste_w out 0) (all_listed bs st I);
})
