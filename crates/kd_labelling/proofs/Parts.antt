-- The label map as a part of the image: lent, changed and read again. Assumes nothing.
use mathlib.Core.Path.{◌≡◌, sym, ap, ◌∙◌}
use mathlib.Core.List.{List}
use Prim.Native.Nat.{ℕ, ◌+◌, ◌-◌, ◌*◌, ◌≤◌, ◌<◌}
use native.Mathlib.Omega.{arith}
use lib.ListN.{length, get_or, take, drop, length-take, length-drop}
use borrow.Rule.Slice.PartMut.{put_mid}
use Rattle.std.proofs.Common.{Result, Ok, Err}
use Rattle.words.specs.Words.{words, paste_w}
use Rattle.monomial.specs.Monomial.{Canonical}
use Rattle.monomial.specs.Operations.{result_words}
use Rattle.monomial.specs.declared.ordered_ops.Op.{Op}
use Rattle.monomial.proofs.Laws.{canonical-result}
use Rattle.fast_compare.specs.Map as map
use Rattle.fast_compare.specs.Layout as labels
use Rattle.fast_compare.specs.declared.Comparer.{Comparer}
use Rattle.fast_compare.specs.declared.Unlabelled.{Unlabelled}
use Rattle.fast_compare.specs.declared.Unlabelled.TheVariants.{Full, NoLabel}
use Rattle.fast_compare.proofs.Exact.{pasted}
use Rattle.fast_compare.proofs.Images.{encode-length}
use Rattle.fast_compare.proofs.Maps.{after-valid, rebuild-valid}
use Rattle.fast_compare.proofs.Reading.{vars-of}
use Rattle.index_theory.specs.Calls.{relabel}
use Rattle.index_theory.specs.Entries.{quotient_of}
use Rattle.index_theory.specs.State.{row_of}
use Rattle.index_image.specs.Shape as at
use Rattle.index_image.specs.declared.Shape.{Shape}
use Rattle.index_image.proofs.Bounds.{ratio-labels}
use Rattle.index_image.specs.Door.{label_bytes}
use Rattle.index_image.proofs.Labels.{MapIs, is-map}
use Rattle.kd_labelling.specs.Labelling.{settled, Labels}
use Rattle.kd_labelling.proofs.Settling.{after-shape}
use Rattle.words.proofs.Drafts.{lent_back}

-- ---- a map that has given a label
pub record Whole (l m : map.State) : Type 0 where
  pub valid : map.Valid m
  pub vars : m.variables ≡ l.variables
  pub cap : m.capacity ≡ l.capacity

pub settled-whole : (l : map.State) (v : map.Value) → map.Valid l → map.Good l.variables v → Whole l (settled l v)
unfolding relabel map.rebuild
settled-whole l v val good = go (map.answer l v)
  where
    first : Whole l (map.after l v)
    first = record { valid = after-valid l v val good; vars = (after-shape l v).0; cap = (after-shape l v).1 }

    go : (c : Result Comparer Unlabelled) → Whole l (relabel c l v)
    go (Ok c) = first
    go (Err Full) = first
    go (Err NoLabel) =
        let s = after-shape (map.rebuild l) v in
        record { valid = after-valid (map.rebuild l) v (rebuild-valid l val) good; vars = s.0; cap = s.1 }

-- ---- the part, from byte a up to byte b
module _ (bs : List ℕ) (s : Shape) (R : at.InRange s) (room : 4 * at.size s ≤ length bs) (one : s.kind ≡ 1) (a b : ℕ) (ends : (a ≡ 4 * at.labels_at s) × (b ≡ 4 * (at.labels_at s + at.labels_size s)))
    (v : map.Value) (good : map.Good s.variables v) where
  part_len : b - a ≡ 4 * at.labels_size s
  part_len = omega arith

  part-is : take (b - a) (drop a bs) ≡ label_bytes bs s
  part-is = rw (part_len, ends.0)

  pub lent-good : labels.SoundFor s.variables s.capacity (label_bytes bs s) → map.Good (get_or (words (take (b - a) (drop a bs))) 1 0) v
  lent-good S = rw (part-is, vars-of (label_bytes bs s) S.state S.is ∙ S.vars) good

  module _ (ys : List ℕ) (done : (l : map.State) → labels.Is l (take (b - a) (drop a bs)) → ys ≡ paste_w (take (b - a) (drop a bs)) 0 (labels.encode (settled l v)))
      (l : map.State) (M : MapIs (words bs) s l) where
    pub is-l : labels.Is l (take (b - a) (drop a bs))
    is-l = rw part-is (is-map bs s R room one l M)

    W' : Whole l (settled l v)
    W' = settled-whole l v M.valid (rw M.vars good)

    long : length (labels.encode (settled l v)) ≡ at.labels_size s
    long = encode-length (settled l v) W'.valid ∙ rw (W'.vars, W'.cap, M.vars, M.cap) (sym (ratio-labels s R one))

    pub read_again : labels.Is (settled l v) ys
    read_again =
        let part_long : length (take (b - a) (drop a bs)) ≡ 4 * at.labels_size s = simp (length-take, length-drop) (omega arith) in
        rw (done l is-l) (pasted (settled l v) W'.valid (take (b - a) (drop a bs)) (omega (arith, encode-length (settled l v) W'.valid, long)))

    pub labels-are : (r : ℕ) → r ≡ row_of (settled l v) v → Labels s l v r bs (put_mid a (b - a) bs ys)
    labels-are r er = record {
      row = er;
      bytes = ap (λ (i : ℕ). put_mid i (b - a) bs ys) ends.0 ∙ (lent_back bs (at.labels_at s) (at.labels_size s) (b - a) ys (labels.encode (settled l v)) part_len (omega arith) (omega (arith, long)) (done l is-l ∙ ap (λ (i : ℕ). paste_w (take (b - a) (drop i bs)) 0 (labels.encode (settled l v))) ends.0));
    }

-- ---- the ratio of a signature and an lm
pub ratio-good : (m i : ℕ) (a b : List ℕ) → m ≤ 64 → i < 268435456 → Canonical 1 m a → Canonical 1 m b → map.Good m (map.value_of i (result_words Op.Ratio a b))
ratio-good m i a b h hi ca cb = record {
  index-small = hi;
  canonical = canonical-result m a b ca cb Op.Ratio (omega arith) (λ z. absurd (let q : ◌≡◌ {A = ℕ} 0 1 = cc in omega arith));
}

pub as-quotient : (s : Shape) (l : map.State) (i r : ℕ) (a b ws entry exit : List ℕ) → ws ≡ result_words Op.Ratio a b → Labels s l (map.value_of i ws) r entry exit
    → Labels s l (quotient_of i a b) r entry exit
unfolding quotient_of
as-quotient s l i r a b ws entry exit e h = rw e at h
