-- The label map inside the image of a ratio index. Assumes nothing.
use mathlib.Core.Path.{◌≡◌, refl, sym, ap, ◌∙◌}
use mathlib.Core.List.{List}
use Prim.Native.Nat.{ℕ, ◌+◌, ◌*◌, ◌≤◌, ◌<◌}
use native.Mathlib.Omega.{arith}
use lib.ListN.{length, get_or, take, drop, length-take, length-drop}
use lib.Seq.{get_or-drop, take_all}
use Rattle.words.specs.Words.{words}
use Rattle.words.specs.Tables.{part}
use Rattle.words.proofs.Laws.{length-words}
use Rattle.fast_compare.specs.Map as map
use Rattle.fast_compare.specs.Layout as labels
use Rattle.fast_compare.proofs.Images as images
use Rattle.index_image.specs.Shape as at
use Rattle.index_image.specs.Door.{labels_in, rows_in}
use Rattle.index_image.specs.declared.Shape.{Shape}
use Rattle.index_image.proofs.Bounds.{ratio-labels}
use Rattle.words.proofs.Drafts.{part_of}
use Rattle.index_image.specs.Door.{label_bytes}

-- the image of the map l stands in its place
pub record MapIs (W : List ℕ) (s : Shape) (l : map.State) : Type 0 where
  pub valid : map.Valid l
  pub vars : l.variables ≡ s.variables
  pub cap : l.capacity ≡ s.capacity
  pub is : part W (at.labels_at s) (at.labels_size s) ≡ labels.encode l

-- a front part, as the whole from there on
front-part : (W : List ℕ) (a n : ℕ) → part (drop a W) 0 n ≡ part W a n
unfolding part
front-part W a n = refl

part-front : (W : List ℕ) (a n : ℕ) → part (part W a n) 0 n ≡ part W a n
unfolding part
part-front W a n = take_all n (take n (drop a W)) (simp length-take (omega arith))

module _ (bs : List ℕ) (s : Shape) (R : at.InRange s) (room : 4 * at.size s ≤ length bs) (k : s.kind ≡ 1) where
  abbrev W : List ℕ
  W = words bs

  size_is : (l : map.State) → l.variables ≡ s.variables → l.capacity ≡ s.capacity → labels.size l.variables l.capacity ≡ at.labels_size s
  size_is l v c = rw (v, c) (sym (ratio-labels s R k))

  map-words : words (label_bytes bs s) ≡ part W (at.labels_at s) (at.labels_size s)
  map-words = part_of bs (at.labels_at s) (at.labels_size s) (4 * at.labels_size s) refl

  front-words : part (words (label_bytes bs s)) 0 (at.labels_size s) ≡ part W (at.labels_at s) (at.labels_size s)
  front-words = rw map-words (part-front W (at.labels_at s) (at.labels_size s))

  pub map_of : (x : labels.SoundFor s.variables s.capacity (label_bytes bs s)) → MapIs W s x.state
  map_of x = record {
    valid = x.is.valid;
    vars = x.vars;
    cap = x.cap;
    is = sym front-words ∙ ap (part (words (label_bytes bs s)) 0) (sym (size_is x.state x.vars x.cap)) ∙ x.is.is;
  }

  pub is-map : (l : map.State) → MapIs W s l → labels.Is l (label_bytes bs s)
  is-map l m =
      let e = size_is l m.vars m.cap in
      let long : length (label_bytes bs s) ≡ 4 * at.labels_size s = simp (length-take, length-drop) (omega arith) in
      record { valid = m.valid; room = omega arith; is = ap (part (words (label_bytes bs s)) 0) e ∙ front-words ∙ m.is }

  pub of_map : (l : map.State) → MapIs W s l → labels.SoundFor s.variables s.capacity (label_bytes bs s)
  of_map l m = record { state = l; is = is-map l m; vars = m.vars; cap = m.cap }

  module _ (l : map.State) (m : MapIs W s l) where
    front-is : part (labels_in W s) 0 (labels.size l.variables l.capacity) ≡ labels.encode l
    front-is = ap (part (labels_in W s) 0) (size_is l m.vars m.cap) ∙ front-part W (at.labels_at s) (at.labels_size s) ∙ m.is

    fits : labels.size l.variables l.capacity ≤ length (labels_in W s)
    fits = omega (arith, length-drop (at.labels_at s) W, length-words bs, size_is l m.vars m.cap)

    pub rows-count : rows_in W s ≡ length l.rows
    rows-count = sym (get_or-drop (at.labels_at s) W 3 0) ∙ (images.header l m.valid (labels_in W s) fits front-is).h3

    pub row-at : (j : ℕ) → j < length l.rows → images.RowIs (labels_in W s) s.variables (labels.row_at s.variables j) (map.row l.rows j)
    row-at j h = ap-row m.vars (images.row_is l m.valid (labels_in W s) fits front-is j h)
      where
        ap-row : {a b : ℕ} → a ≡ b → images.RowIs (labels_in W s) a (labels.row_at a j) (map.row l.rows j)
            → images.RowIs (labels_in W s) b (labels.row_at b j) (map.row l.rows j)
        ap-row e r = rw e at r

    pub label-at : (j : ℕ) → j < length l.rows → get_or W (at.label_at s j) 0 ≡ map.label l.rows j
    label-at j h = sym (get_or-drop (at.labels_at s) W (labels.row_at s.variables j + at.label_in s.variables) 0) ∙ (row-at j h).label_is
