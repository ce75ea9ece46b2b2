-- Where the walk reads, by the words of its query. Assumes nothing.
use mathlib.Core.Path.{◌≡◌, refl, sym, ap, ◌∙◌}
use mathlib.Core.List.{List}
use Prim.Native.Nat.{ℕ, ◌+◌, ◌*◌, ◌≤◌, ◌<◌}
use native.Mathlib.Omega.{arith}
use lib.ListN.{length, get_or}
use Rattle.words.specs.Words.{words}
use Rattle.words.proofs.Laws.{length-words}
use Rattle.words.proofs.Tables.{row_fits}
use Rattle.index_image.specs.Shape as at
use Rattle.index_image.specs.Walk as walk
use Rattle.index_image.specs.declared.Shape.{Shape}
use Rattle.index_image.proofs.Bounds.{size_small, nodes-small, ratio-width, ratio-labels}
use Rattle.index_image.proofs.Places.{entry-room, label-room}
use Rattle.query_words.specs.Asked.{shape_in, Laid}

pub query-long : (qs : List ℕ) (s : Shape) → Laid (words qs) s → 368 ≤ length qs
query-long qs s L = omega (arith, L.long, length-words qs)

module _ (Q : List ℕ) (s : Shape) (L : Laid Q s) where
  pub kind-is : get_or Q 87 0 ≡ s.kind
  unfolding shape_in
  kind-is = ap (λ (x : Shape). x.kind) (sym L.shape)

  pub variables-is : get_or Q 88 0 ≡ s.variables
  unfolding shape_in
  variables-is = ap (λ (x : Shape). x.variables) (sym L.shape)

  -- row k, which lies at most at word 1,986,576
  pub record NodeWord (k : ℕ) : Type 0 where
    pub is : get_or Q 80 0 + k * get_or Q 81 0 ≡ at.node_at s k
    pub small : at.node_at s k ≤ 1986576

  pub node-word : (k : ℕ) → k ≤ 8191 → NodeWord k
  node-word k h =
      let e : k * get_or Q 81 0 ≡ k * at.node_width s.variables = ap (λ (x : ℕ). k * x) L.node-width in
      let z : at.node_at s 0 ≡ at.labels_at s + at.labels_size s = omega arith in
      record { is = omega (arith, e, L.node, z); small = omega (arith, size_small s L.range, nodes-small s L.range k h) }

  -- the row number of entry e
  pub row_word : (e : ℕ) → get_or Q 84 0 + e * get_or Q 83 0 ≡ at.row_at s e
  row_word e =
      let w : e * get_or Q 83 0 ≡ e * at.entry_width s = ap (λ (x : ℕ). e * x) L.entry-width in
      let z : at.row_at s 0 ≡ at.entries_at s.variables + (2 * s.variables + 7) = omega arith in
      omega (arith, w, L.row, z)

  -- the label of a row
  pub label-word : (r : ℕ) → get_or Q 86 0 + r * get_or Q 85 0 ≡ at.label_at s r
  label-word r =
      let w : r * get_or Q 85 0 ≡ r * (s.variables + 3) = ap (λ (x : ℕ). r * x) L.row-width in
      let z : at.label_at s 0 ≡ at.labels_at s + (4 + (s.variables + 2)) = omega arith in
      omega (arith, w, L.label, z)

-- the words that lead to the label of entry e
pub record RowRead (bs qs : List ℕ) (s : Shape) (e : ℕ) : Type 0 where
  pub is : get_or (words qs) 84 0 + e * get_or (words qs) 83 0 ≡ at.row_at s e
  pub room : 4 * at.row_at s e + 4 ≤ length bs
  pub small : at.row_at s e ≤ 1413206

pub record LabelRead (bs qs : List ℕ) (s : Shape) (e row : ℕ) : Type 0 where
  pub room : 4 * (get_or (words qs) 86 0 + row * get_or (words qs) 85 0) + 4 ≤ length bs
  pub small : get_or (words qs) 86 0 + row * get_or (words qs) 85 0 ≤ 1413206
  pub is : (r : ℕ) → r ≡ get_or (words bs) (get_or (words qs) 86 0 + row * get_or (words qs) 85 0) 0 → r ≡ walk.label (words bs) s e

module _ {bs qs : List ℕ} {s : Shape} {e : ℕ} (L : Laid (words qs) s) (R : walk.Ready (words bs) s) (k : s.kind ≡ 1) (h : e < s.entries) where
  pub row_read : RowRead bs qs s e
  row_read =
      let r = entry-room bs s R e h in
      record {
        is = row_word (words qs) s L e;
        room = omega (arith, r, ratio-width s R.range k);
        small = omega (arith, size_small s R.range, row_fits e s.capacity (at.entry_width s) (omega (arith, R.range.few)), ratio-width s R.range k);
      }

  pub label-read : (row : ℕ) → row ≡ get_or (words bs) (get_or (words qs) 84 0 + e * get_or (words qs) 83 0) 0 → LabelRead bs qs s e row
  unfolding walk.label
  label-read row er =
      let i : row ≡ walk.row_in (words bs) s e = er ∙ ap (λ (j : ℕ). get_or (words bs) j 0) (row_word (words qs) s L e) in
      let b : row < s.capacity = rw i (R.rows k e h) in
      let w = label-word (words qs) s L row in
      record {
        room = omega (arith, label-room bs s R k row b, w);
        small = omega (arith, w, size_small s R.range, row_fits row s.capacity (s.variables + 3) b, ratio-labels s R.range k);
        is = λ r z. z ∙ ap (λ (j : ℕ). get_or (words bs) j 0) w ∙ ap (λ (x : ℕ). get_or (words bs) (at.label_at s x) 0) i;
      }

pub nodes-is : (Q : List ℕ) → get_or Q 91 0 ≡ (shape_in Q).nodes
unfolding shape_in
nodes-is Q = refl
