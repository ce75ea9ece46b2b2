-- The image of an opening, piece by piece. Assumes nothing.
use mathlib.Core.Path.{◌≡◌, refl, sym, ap, ◌∙◌}
use mathlib.Core.List.{List, [], ◌∷◌, ◌++◌, append_assoc}
use Prim.Native.Nat.{ℕ, zero, suc, ◌+◌, ◌-◌, ◌*◌, ◌≤◌}
use native.Mathlib.Omega.{arith}
use lib.ListN.{length, take, drop, length-append}
use borrow.Rule.Slice.PartMut.{put_mid}
use Rattle.words.specs.Words.{put_w, paste_w}
use Rattle.words.specs.Tables.{zeros, table}
use Rattle.words.proofs.Drafts.{lent_back}
use Rattle.words.proofs.Laws.{paste_w-nil, six-written}
use Rattle.words.proofs.Tables.{length-zeros, zeros-add, paste_w-append}
use Rattle.divmask.specs.Mask.{mask}
use Rattle.divmask.specs.Tracker.{Maxima}
use Rattle.divmask.proofs.Masks.{fields-zero, fields-skip}
use Rattle.fast_compare.specs.Layout as labels
use Rattle.fast_compare.specs.Map as map
use Rattle.fast_compare.proofs.Opening.{empty-words}
use Rattle.kd_theory.specs.Tree.{leaf, nodes}
use Rattle.kd_theory.specs.Bifurcate.{least}
use Rattle.index_theory.specs.State.{Kind, power_in, opened}
use Rattle.index_image.specs.Layout.{code, header, slot, gcd_powers, gcd_of, node_words, tree_words, label_words, encode}
use Rattle.index_image.specs.Shape as at
use Rattle.index_image.specs.declared.Shape.{Shape}
use Rattle.index_image.proofs.Bounds.{ratio-labels}
use Rattle.index_image.proofs.Gcds.{Powers, gcd-none}
use Rattle.index_opening.specs.Kinds.{index_kind}

suc-row : (n w : ℕ) → suc n * w ≡ w + n * w
suc-row n w = omega arith

-- ---- the header
pub head-written : (b₀ b₁ b₂ b₃ b₄ b₅ b₆ b₇ : List ℕ) (k m c : ℕ) → 96 ≤ length b₀ → b₁ ≡ put_w b₀ 0 1 → b₂ ≡ put_w b₁ 1 k → b₃ ≡ put_w b₂ 2 m → b₄ ≡ put_w b₃ 3 c
    → b₅ ≡ put_w b₄ 4 0 → b₆ ≡ put_w b₅ 5 1 → b₇ ≡ paste_w b₆ 6 (zeros 18)
    → b₇ ≡ paste_w b₀ 0 (1 ∷ k ∷ m ∷ c ∷ 0 ∷ 1 ∷ zeros 18)
head-written b₀ b₁ b₂ b₃ b₄ b₅ b₆ b₇ k m c room e₁ e₂ e₃ e₄ e₅ e₆ e₇ =
    let z = six-written b₀ b₁ b₂ b₃ b₄ b₅ b₆ 0 1 k m c 0 1 (omega arith) e₁ e₂ e₃ e₄ e₅ e₆ in
    e₇ ∙ rw z (paste_w-append b₀ 0 (1 ∷ k ∷ m ∷ c ∷ 0 ∷ 1 ∷ []) 6 (zeros 18) (omega arith) (omega arith))

-- ---- the label map
none_of : (k : ℕ) (l : map.State) → k ≡ 0 → label_words (index_kind k) l ≡ []
unfolding label_words
none_of zero l e = refl
none_of (suc k) l e = absurd (omega arith)

all_of : (k : ℕ) (l : map.State) → k ≡ 1 → label_words (index_kind k) l ≡ labels.encode l
unfolding label_words
all_of zero l e = absurd (omega arith)
all_of (suc k) l e = refl

pub labels-none : (bs : List ℕ) (k a : ℕ) (l : map.State) → k ≡ 0 → bs ≡ paste_w bs a (label_words (index_kind k) l)
labels-none bs k a l e = sym (ap (paste_w bs a) (none_of k l e) ∙ paste_w-nil bs a)

empty-length : (m c : ℕ) → length (labels.encode (map.empty m c)) ≡ labels.size m c
empty-length m c =
    ap length (empty-words m c) ∙ omega (arith, length-append (1 ∷ m ∷ c ∷ []) (zeros (1 + c * (m + 3) + c)), length-zeros (1 + c * (m + 3) + c))

kind-one : (s : Shape) → at.InRange s → (s.kind ≡ 0 → ⊥) → s.kind ≡ 1
kind-one s R z = omega (arith, z, R.kind-to)

module _ (bs : List ℕ) (s : Shape) (R : at.InRange s) (room : 4 * at.size s ≤ length bs) (z : s.kind ≡ 0 → ⊥) where
  module _ (a b : ℕ) (ends : (a ≡ 4 * at.labels_at s) × (b ≡ 4 * (at.labels_at s + at.labels_size s))) where
    part_len : b - a ≡ 4 * at.labels_size s
    part_len = omega arith

    pub labels-written : (ys : List ℕ) → ys ≡ paste_w (take (b - a) (drop a bs)) 0 (labels.encode (map.empty s.variables s.capacity))
        → put_mid a (b - a) bs ys ≡ paste_w bs (at.labels_at s) (label_words (index_kind s.kind) (map.empty s.variables s.capacity))
    labels-written ys ey =
        let l = map.empty s.variables s.capacity in
        let long : length (labels.encode l) ≡ at.labels_size s = empty-length s.variables s.capacity ∙ sym (ratio-labels s R (kind-one s R z)) in
        rw (all_of s.kind l (kind-one s R z)) (ap (λ i. put_mid i (b - a) bs ys) ends.0
        ∙ lent_back bs (at.labels_at s) (at.labels_size s) (b - a) ys (labels.encode l) part_len (omega arith) (omega arith)
        (ey ∙ ap (λ i. paste_w (take (b - a) (drop i bs)) 0 (labels.encode l)) ends.0))

-- ---- all tables: what is written from the front on is one list
six-pieces : (b₀ b₁ b₂ b₃ b₄ b₅ b₆ h x y z u v : List ℕ) (i j k l n : ℕ) → i ≡ length h → j ≡ i + length x → k ≡ j + length y → l ≡ k + length z → n ≡ l + length u → 4 * n ≤ length b₀
    → b₁ ≡ paste_w b₀ 0 h → b₂ ≡ paste_w b₁ i x → b₃ ≡ paste_w b₂ j y → b₄ ≡ paste_w b₃ k z → b₅ ≡ paste_w b₄ l u → b₆ ≡ paste_w b₅ n v
    → b₆ ≡ paste_w b₀ 0 (h ++ (x ++ (y ++ (z ++ (u ++ v)))))
six-pieces b₀ b₁ b₂ b₃ b₄ b₅ b₆ h x y z u v i j k l n ei ej ek el en room e₁ e₂ e₃ e₄ e₅ e₆ =
    let a₂ = h ++ x in
    let a₃ = (h ++ x) ++ y in
    let a₄ = ((h ++ x) ++ y) ++ z in
    let a₅ = (((h ++ x) ++ y) ++ z) ++ u in
    let n₂ : length a₂ ≡ j = omega (arith, length-append h x) in
    let n₃ : length a₃ ≡ k = omega (arith, length-append a₂ y) in
    let n₄ : length a₄ ≡ l = omega (arith, length-append a₃ z) in
    let n₅ : length a₅ ≡ n = omega (arith, length-append a₄ u) in
    let p₂ : b₂ ≡ paste_w b₀ 0 a₂ = e₂ ∙ rw e₁ (paste_w-append b₀ 0 h i x (omega arith) (omega arith)) in
    let p₃ : b₃ ≡ paste_w b₀ 0 a₃ = e₃ ∙ rw p₂ (paste_w-append b₀ 0 a₂ j y (omega arith) (omega arith)) in
    let p₄ : b₄ ≡ paste_w b₀ 0 a₄ = e₄ ∙ rw p₃ (paste_w-append b₀ 0 a₃ k z (omega arith) (omega arith)) in
    let p₅ : b₅ ≡ paste_w b₀ 0 a₅ = e₅ ∙ rw p₄ (paste_w-append b₀ 0 a₄ l u (omega arith) (omega arith)) in
    let q : a₅ ++ v ≡ h ++ (x ++ (y ++ (z ++ (u ++ v)))) =
    append_assoc a₄ u v ∙ append_assoc a₃ z (u ++ v) ∙ append_assoc a₂ y (z ++ (u ++ v)) ∙ append_assoc h x (y ++ (z ++ (u ++ v))) in
    e₆ ∙ rw p₅ (paste_w-append b₀ 0 a₅ n v (omega arith) (omega arith)) ∙ ap (paste_w b₀ 0) q

-- the row of an empty leaf is zeros
no-powers : (m : ℕ) → m ≤ 64 → Powers m (λ v e. 0)
no-powers m h = record { few = h; small = λ v e. omega arith; absent = λ v e k. refl }

module _ (m c : ℕ) (xs : List ℕ) (M : Maxima m xs) (one : 1 ≤ c) (few : c ≤ 4096) (k : Kind) where
  abbrev pw : ℕ → ℕ → ℕ
  pw = power_in []

  gcd-is : gcd_of (power_in []) [] ≡ 0 ∷ []
  unfolding gcd_powers least
  gcd-is = gcd-none m (λ v e. 0) (no-powers m M.few)

  mask_is : mask m xs (gcd_powers (power_in []) []) ≡ 0
  unfolding mask gcd_powers least
  mask_is = fields-skip m xs (λ v. 0) 0 m (omega arith) (λ v i j. refl) ∙ fields-zero m xs (λ v. 0)

  row-blank : tree_words m xs (power_in []) (leaf []) ≡ zeros (m + 6)
  unfolding tree_words node_words slot zeros
  row-blank =
      let e : m + 6 ≡ suc (suc (suc (suc (suc (suc m))))) = omega arith in
      let w : m + 1 - 1 ≡ m = omega arith in
      rw (mask_is, gcd-is, e, w) refl

  pub empty-image : (A B : ℕ) → A ≡ c * at.width_of (code k) m + c → B ≡ (2 * c - 1) * (m + 6)
      → encode (opened k m c xs) ≡ (1 ∷ code k ∷ m ∷ c ∷ 0 ∷ 1 ∷ zeros 18) ++ (xs ++ (xs ++ (zeros A ++ (label_words k (map.empty m c) ++ zeros B))))
  unfolding encode header table nodes
  empty-image A B eA eB =
      let e : c - 0 ≡ c = omega arith in
      let zA : zeros A ≡ zeros (c * at.width_of (code k) m) ++ zeros c = ap zeros eA ∙ zeros-add (c * at.width_of (code k) m) c in
      let s : 2 * c - 1 ≡ suc (2 * c - 1 - 1) = omega arith in
      let b : B ≡ (m + 6) + (2 * c - 1 - 1) * (m + 6) = eB ∙ ap (λ n. n * (m + 6)) s ∙ suc-row (2 * c - 1 - 1) (m + 6) in
      let zB : zeros B ≡ zeros (m + 6) ++ zeros ((2 * c - 1 - 1) * (m + 6)) = ap zeros b ∙ zeros-add (m + 6) ((2 * c - 1 - 1) * (m + 6)) in
      rw (e, row-blank, zA, zB) (ap (λ (r : List ℕ). (1 ∷ code k ∷ m ∷ c ∷ 0 ∷ 1 ∷ zeros 18) ++ (xs ++ (xs ++ r)))
      (sym (append_assoc (zeros (c * at.width_of (code k) m)) (zeros c) (label_words k (map.empty m c) ++ (zeros (m + 6) ++ zeros ((2 * c - 1 - 1) * (m + 6)))))))

code-kind : (k : ℕ) → k ≤ 1 → code (index_kind k) ≡ k
code-kind zero h = refl
code-kind (suc zero) h = refl
code-kind (suc (suc k)) h = absurd (omega arith)

label-length : (k m c : ℕ) → k ≤ 1 → length (label_words (index_kind k) (map.empty m c)) ≡ k * labels.size m c
label-length zero m c h = ap length (none_of 0 (map.empty m c) refl) ∙ omega arith
label-length (suc zero) m c h = ap length (all_of 1 (map.empty m c) refl) ∙ empty-length m c ∙ omega arith
label-length (suc (suc k)) m c h = absurd (omega arith)

-- ---- the chain of writes
module _ (s : Shape) (R : at.InRange s) (xs : List ℕ) (M : Maxima s.variables xs) where
  abbrev k : ℕ
  k = s.kind

  abbrev lab : List ℕ
  lab = label_words (index_kind s.kind) (map.empty s.variables s.capacity)

  pub opened-tables : (b₀ b₁ b₂ b₃ b₄ b₅ b₆ : List ℕ) (e l n z : ℕ) → 4 * at.size s ≤ length b₀ → e ≡ at.entry_at s 0 → l ≡ at.labels_at s → n ≡ at.node_at s 0 → z ≡ at.size s
      → b₁ ≡ paste_w b₀ 0 (1 ∷ s.kind ∷ s.variables ∷ s.capacity ∷ 0 ∷ 1 ∷ zeros 18) → b₂ ≡ paste_w b₁ 24 xs → b₃ ≡ paste_w b₂ (24 + s.variables) xs
      → b₄ ≡ paste_w b₃ e (zeros (l - e)) → b₅ ≡ paste_w b₄ (at.labels_at s) (label_words (index_kind s.kind) (map.empty s.variables s.capacity)) → b₆ ≡ paste_w b₅ n (zeros (z - n))
      → b₆ ≡ paste_w b₀ 0 (encode (opened (index_kind s.kind) s.variables s.capacity xs))
  opened-tables b₀ b₁ b₂ b₃ b₄ b₅ b₆ e l n z room ee el en ez e₁ e₂ e₃ e₄ e₅ e₆ =
      let m = s.variables in
      let c = s.capacity in
      let h : List ℕ = 1 ∷ s.kind ∷ s.variables ∷ s.capacity ∷ 0 ∷ 1 ∷ zeros 18 in
      let ll : length lab ≡ at.labels_size s = label-length s.kind m c R.kind-to in
      let w : code (index_kind s.kind) ≡ s.kind = code-kind s.kind R.kind-to in
      let A : l - e ≡ c * at.width_of (code (index_kind s.kind)) m + c = omega arith ∙ ap (λ x. c * at.width_of x m + c) (sym w) in
      let B : z - n ≡ (2 * c - 1) * (m + 6) = omega arith in
      let six = six-pieces b₀ b₁ b₂ b₃ b₄ b₅ b₆ h xs xs (zeros (l - e)) lab (zeros (z - n)) 24 (24 + m) e (at.labels_at s) n
      (omega (arith, length-zeros 18)) (omega (arith, M.one_each)) (omega (arith, M.one_each)) (omega (arith, length-zeros (l - e))) (omega (arith, ll)) (omega arith) e₁ e₂ e₃ e₄ e₅ e₆ in
      let im = empty-image m c xs M R.cap-from R.cap-to (index_kind s.kind) (l - e) (z - n) A B in
      let head : (1 ∷ code (index_kind s.kind) ∷ m ∷ c ∷ 0 ∷ 1 ∷ zeros 18) ≡ h = ap (λ x. 1 ∷ x ∷ s.variables ∷ s.capacity ∷ 0 ∷ 1 ∷ zeros 18) w in
      six ∙ ap (paste_w b₀ 0) (sym (im ∙ ap (λ (x : List ℕ). x ++ (xs ++ (xs ++ (zeros (l - e) ++ (lab ++ zeros (z - n)))))) head))
