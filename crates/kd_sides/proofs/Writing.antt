-- What the writers of the two sides leave. Assumes nothing.
use mathlib.Core.Path.{◌≡◌, sym, ap, ◌∙◌}
use mathlib.Core.Bool.{true, false}
use mathlib.Core.List.{List, ◌++◌}
use Prim.Native.Nat.{ℕ, ◌+◌, ◌*◌, ◌^◌, ◌≤◌, ◌<◌}
use native.Mathlib.Omega.{arith}
use lib.ListN.{length, get_or, take, length-append}
use Rattle.words.specs.Words.{words, paste_w}
use Rattle.words.proofs.Laws.{Words}
use Rattle.words.proofs.Tables.{length_part, part-get, paste_w-append, small-each}
use Rattle.kd_theory.specs.Bag.{◌∈◌, keep, Same}
use Rattle.kd_theory.proofs.BagLaws.{keep-holds, in_both, keep-length, keep_same, occurs-append}
use Rattle.index_image.specs.Shape as at
use Rattle.index_image.specs.Walk as walk
use Rattle.index_image.specs.Rows.{entries_from}
use Rattle.index_image.specs.declared.Shape.{Shape}
use Rattle.index_image.proofs.Places.{place-fits}
use Rattle.index_image.proofs.Reading.{front-pasted}
use Rattle.index_image.proofs.Once.{get_in, in-get}
use Rattle.kd_dimension.specs.Choice.{key_in}
use Rattle.kd_sides.specs.Sides.{on_side}

-- ---- the two sides
module _ (pw : ℕ → ℕ → ℕ) (d x : ℕ) (es : List ℕ) where
  pub sides-length : length es ≡ length (keep (on_side pw d x true) es) + length (keep (on_side pw d x false) es)
  unfolding on_side
  sides-length = keep-length (on_side pw d x true) es

  pub sides-same : Same es (keep (on_side pw d x true) es ++ keep (on_side pw d x false) es)
  unfolding on_side
  sides-same n = keep_same (on_side pw d x true) n es ∙ sym (occurs-append n (keep (on_side pw d x true) es) (keep (on_side pw d x false) es))

-- ---- the entries are parted
module _ (W : List ℕ) (s : Shape) (R : walk.Ready W s) (d x lo c : ℕ) (h : lo + c ≤ s.entries) where
  long-entries : length (entries_from W s lo c) ≡ c
  long-entries = length_part W (at.permutation_at s + lo) c (omega (arith, place-fits W s R (lo + c) h))

  pub parts-length : (length (keep (on_side (key_in W s) d x true) (entries_from W s lo c)) + length (keep (on_side (key_in W s) d x false) (entries_from W s lo c)) ≡ c) × (c ≤ 4096)
  parts-length = (sym (sides-length (key_in W s) d x (entries_from W s lo c)) ∙ long-entries, omega (arith, R.range.few, R.range.cap-to))

  entry-small : (e : ℕ) → e ∈ entries_from W s lo c → e < 2 ^ 32
  entry-small e i =
      let q = in-get (entries_from W s lo c) e i in
      let b : q.0 < c = omega (arith, q.1, long-entries) in
      let z : at.permutation_at s + lo + q.0 ≡ at.permutation_at s + (lo + q.0) = omega arith in
      let v : get_or W (at.permutation_at s + (lo + q.0)) 0 ≡ e = ap (λ (j : ℕ). get_or W j 0) (sym z) ∙ sym (part-get W (at.permutation_at s + lo) c q.0 b) ∙ q.2 in
      omega (arith, v, R.places (lo + q.0) (omega arith), R.range.few, R.range.cap-to)

  pub parts-small : Words (keep (on_side (key_in W s) d x true) (entries_from W s lo c) ++ keep (on_side (key_in W s) d x false) (entries_from W s lo c))
  parts-small =
      let es = entries_from W s lo c in
      let a = keep (on_side (key_in W s) d x true) es in
      let b = keep (on_side (key_in W s) d x false) es in
      (small-each (a ++ b) (λ i l. in_both (λ e. e < 2 ^ 32) a b (λ e m. entry-small e (keep-holds (on_side (key_in W s) d x true) e es m).1)
      (λ e m. entry-small e (keep-holds (on_side (key_in W s) d x false) e es m).1) (get_or (a ++ b) i 0) (get_in (a ++ b) i l))).each

pub parted-words : (z s₁ s₂ a b : List ℕ) (n m : ℕ) → Words (a ++ b) → n ≡ length a → m ≡ length b → s₁ ≡ paste_w z 0 a → s₂ ≡ paste_w s₁ n b → 4 * (n + m) ≤ length z
    → words (take (4 * (n + m)) s₂) ≡ a ++ b
parted-words z s₁ s₂ a b n m small en em e₁ e₂ room =
    let w : s₂ ≡ paste_w z 0 (a ++ b) = e₂ ∙ rw e₁ (paste_w-append z 0 a n b (omega arith) (omega arith)) in
    rw w (front-pasted z (a ++ b) (n + m) small (omega (arith, length-append a b)))
