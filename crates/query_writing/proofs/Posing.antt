-- The words of a query, written. Assumes nothing.
use mathlib.Core.Path.{◌≡◌, refl, sym, ap, ◌∙◌}
use mathlib.Core.Bool.{Bool, true, false, cond}
use mathlib.Core.List.{List, [], ◌∷◌, ◌++◌}
use Prim.Native.Nat.{ℕ, ◌+◌, ◌*◌, ◌/◌, ◌%◌, ◌≤◌, ◌<◌}
use native.Mathlib.Omega.{arith}
use lib.ListN.{length, get_or}
use Rattle.words.specs.Words.{words, paste_w}
use Rattle.words.specs.Tables.{part}
use Rattle.words.proofs.Laws.{Words, length-words, length-paste_w}
use Rattle.words.proofs.Tables.{part-get, Small, small-cons, small-nil}
use Rattle.words.proofs.Pasting.{part-pasted}
use Rattle.index_image.specs.Shape as at
use Rattle.index_image.specs.declared.Shape.{Shape}
use Rattle.index_image.proofs.Bounds.{size_small, width_small, entries-small}
use Rattle.query_words.specs.Asked.{shape_in, slot_at, Laid}
use Rattle.query_writing.specs.Written.{mask_words, place_words, shape_words}

-- ---- masks, range and slot
pub node-small : (lm : Bool) (mask n : ℕ) → mask < 4294967296 → n ≡ cond lm mask 4294967295 → n < 4294967296
node-small true mask n h e = omega arith
node-small false mask n h e = omega arith

pub masks-written : (b₀ b₁ : List ℕ) (search : ℕ) (lm : Bool) (mask vector n : ℕ) → search < 4294967296 → mask < 4294967296 → n ≡ cond lm mask 4294967295
    → b₁ ≡ paste_w b₀ 66 (search % 4294967296 ∷ search / 4294967296 ∷ mask ∷ vector ∷ n % 4294967296 ∷ n / 4294967296 ∷ []) → b₁ ≡ paste_w b₀ 66 (mask_words search lm mask vector)
unfolding mask_words
masks-written b₀ b₁ search lm mask vector n hs hm en e =
    let h = node-small lm mask n hm en in
    let s₀ : search % 4294967296 ≡ search = omega arith in
    let s₁ : search / 4294967296 ≡ 0 = omega arith in
    let n₀ : n % 4294967296 ≡ cond lm mask 4294967295 = omega (arith, en) in
    let n₁ : n / 4294967296 ≡ 0 = omega arith in
    e ∙ rw (s₀, s₁, n₀, n₁) refl

pub slot_small : (s : Shape) → at.InRange s → (lm : Bool) → slot_at s lm 0 ≤ 220
unfolding slot_at
slot_small s R true = omega (arith, R.vars-to)
slot_small s R false = omega (arith, R.vars-to)

-- ---- the numbers of a shape are words
pub record ShapeSmall (s : Shape) : Type 0 where
  pub node : at.node_at s 0 ≤ 1413206
  pub permutation : at.permutation_at s ≤ 1413206
  pub entry-width : at.entry_width s ≤ 1413206
  pub row : at.row_at s 0 ≤ 1413206
  pub label : at.label_at s 0 ≤ 1413206
  pub few : s.variables ≤ 64
  pub capacity : s.capacity ≤ 4096

pub shape-small : (s : Shape) → at.InRange s → ShapeSmall s
shape-small s R = record {
  node = omega (arith, size_small s R);
  permutation = omega (arith, size_small s R);
  entry-width = omega (arith, width_small s R);
  row = omega (arith, R.vars-to);
  label = omega (arith, entries-small s R s.capacity (omega arith), R.vars-to, R.cap-to);
  few = R.vars-to;
  capacity = R.cap-to;
}

pub laid-words : (s : Shape) (n p w e l : ℕ) → n ≡ at.node_at s 0 → p ≡ at.permutation_at s → w ≡ at.entry_width s → e ≡ at.entry_at s 0 → l ≡ at.labels_at s
    → n ∷ (s.variables + 6) ∷ p ∷ w ∷ (e + (2 * s.variables + 7)) ∷ (s.variables + 3) ∷ (l + (4 + (s.variables + 2))) ∷ s.kind ∷ s.variables ∷ s.capacity ∷ s.entries
    ∷ s.nodes ∷ [] ≡ place_words s ++ shape_words s
unfolding place_words shape_words
laid-words s n p w e l en ep ew ee el =
    let z : l + (4 + (s.variables + 2)) ≡ at.label_at s 0 = omega (arith, el) in
    rw (en, ep, ew, ee, z) refl

pub laid-small : (s : Shape) → at.InRange s → Words (place_words s ++ shape_words s)
unfolding place_words shape_words
laid-small s R =
    let S = shape-small s R in
    let z : Small (at.node_at s 0 ∷ at.node_width s.variables ∷ at.permutation_at s ∷ at.entry_width s ∷ at.row_at s 0 ∷ (s.variables + 3) ∷ at.label_at s 0
    ∷ s.kind ∷ s.variables ∷ s.capacity ∷ s.entries ∷ s.nodes ∷ []) =
    small-cons (omega (arith, S.node)) (small-cons (omega (arith, S.few))
    (small-cons (omega (arith, S.permutation)) (small-cons (omega (arith, S.entry-width)) (small-cons (omega (arith, S.row)) (small-cons (omega (arith, S.few))
    (small-cons (omega (arith, S.label)) (small-cons (omega (arith, R.kind-to))
    (small-cons (omega (arith, S.few)) (small-cons (omega (arith, S.capacity))
    (small-cons (omega (arith, R.few, S.capacity)) (small-cons (omega (arith, R.nodes-to, S.capacity)) small-nil))))))))))) in
    z.each

-- ---- the words are read off again
module _ (bs : List ℕ) (s : Shape) (R : at.InRange s) (room : 368 ≤ length bs) where
  abbrev Q : List ℕ
  Q = words (paste_w bs 80 (place_words s ++ shape_words s))

  twelve : length (place_words s ++ shape_words s) ≡ 12
  unfolding place_words shape_words
  twelve = refl

  word : (i j : ℕ) → j ≡ 80 + i → i < 12 → get_or (words (paste_w bs 80 (place_words s ++ shape_words s))) j 0 ≡ get_or (place_words s ++ shape_words s) i 0
  word i j e h =
      let E = place_words s ++ shape_words s in
      let p : part (words (paste_w bs 80 E)) 80 12 ≡ E = ap (part (words (paste_w bs 80 E)) 80) (sym twelve) ∙ part-pasted bs 80 E (laid-small s R) (omega (arith, twelve)) in
      rw e (sym (part-get (words (paste_w bs 80 E)) 80 12 i h) ∙ ap (λ (l : List ℕ). get_or l i 0) p)

  pub laid : Laid (words (paste_w bs 80 (place_words s ++ shape_words s))) s
  unfolding place_words shape_words shape_in
  laid = record {
    long = omega (arith, length-words (paste_w bs 80 (place_words s ++ shape_words s)), length-paste_w bs 80 (place_words s ++ shape_words s) (omega (arith, twelve)));
    shape =
        rw (
          word 7 87 (omega arith) (omega arith),
          word 8 88 (omega arith) (omega arith),
          word 9 89 (omega arith) (omega arith),
          word 10 90 (omega arith)
              (omega arith),
          word 11 91 (omega arith) (omega arith),
        ) refl;
    range = R;
    node = word 0 80 (omega arith) (omega arith);
    node-width = word 1 81 (omega arith) (omega arith);
    permutation = word 2 82 (omega arith) (omega arith);
    entry-width = word 3 83 (omega arith) (omega arith);
    row = word 4 84 (omega arith) (omega arith);
    row-width = word 5 85 (omega arith) (omega arith);
    label = word 6 86 (omega arith) (omega arith);
  }
