-- What the walk reads lies in the image. Assumes nothing.
use mathlib.Core.Path.{◌≡◌, ◌∙◌}
use mathlib.Core.List.{List}
use Prim.Native.Nat.{ℕ, ◌+◌, ◌-◌, ◌*◌, ◌≤◌, ◌<◌}
use native.Mathlib.Omega.{arith}
use native.Mathlib.Nat.{one-mul, add-mul}
use lib.ListN.{length, get_or}
use Rattle.words.specs.Words.{words}
use Rattle.words.proofs.Laws.{length-words}
use Rattle.words.proofs.Tables.{row_fits}
use Rattle.fast_compare.specs.Layout as labels
use Rattle.index_image.specs.declared.Shape.{Shape}
use Rattle.index_image.specs.Shape as at
use Rattle.index_image.specs.Walk.{Ready}

module _ (W : List ℕ) (s : Shape) (R : Ready W s) where
  abbrev r : at.InRange s
  r = R.range

  pub entry-fits : (e : ℕ) → e < s.entries → at.entry_at s e + at.entry_width s ≤ length W
  entry-fits e h = omega (arith, R.room, r.few, row_fits e s.capacity (at.entry_width s) (omega (arith, r.few)))

  pub place-fits : (i : ℕ) → i ≤ s.entries → at.permutation_at s + i ≤ length W
  place-fits i h = omega (arith, R.room, r.few)

  pub label-fits : s.kind ≡ 1 → (x : ℕ) → x < s.capacity → at.label_at s x < length W
  label-fits k x h =
      let e : at.labels_size s ≡ labels.size s.variables s.capacity = rw k (one-mul _) in
      omega (arith, R.room, row_fits x s.capacity (at.label_row_width s.variables) h)

  pub node-fits : (k : ℕ) → k < s.nodes → at.node_at s k + at.node_width s.variables ≤ length W
  node-fits k h = omega (arith, R.room, row_fits k (2 * s.capacity - 1) (at.node_width s.variables) (omega (arith, r.nodes-to)))

-- the row behind row k
pub row-behind : (s : Shape) (k : ℕ) → at.node_at s k + at.node_width s.variables ≡ at.node_at s (k + 1)
row-behind s k = omega (arith, add-mul k 1 (at.node_width s.variables))

-- the entry at place lo + i of the permutation
pub record EntryAt (W : List ℕ) (s : Shape) (lo i x : ℕ) : Type 0 where
  pub is : x ≡ get_or W (at.permutation_at s + lo + i) 0
  pub small : x < s.entries

pub entry-at-place : (W : List ℕ) (s : Shape) → Ready W s → (lo i p x : ℕ) → p ≡ at.permutation_at s + (lo + i) → lo + i < s.entries → x ≡ get_or W p 0
    → EntryAt W s lo i x
entry-at-place W s R lo i p x ep h ex =
    let e : at.permutation_at s + (lo + i) ≡ at.permutation_at s + lo + i = omega arith in
    record { is = ex ∙ rw (ep, e); small = rw (ex, ep) (R.places (lo + i) h) }

-- the same in bytes
module _ (bs : List ℕ) (s : Shape) (R : Ready (words bs) s) where
  pub entry-room : (e : ℕ) → e < s.entries → 4 * (at.entry_at s e + at.entry_width s) ≤ length bs
  entry-room e h = omega (arith, entry-fits (words bs) s R e h, length-words bs)

  pub place-room : (i : ℕ) → i ≤ s.entries → 4 * (at.permutation_at s + i) ≤ length bs
  place-room i h = omega (arith, place-fits (words bs) s R i h, length-words bs)

  pub label-room : s.kind ≡ 1 → (x : ℕ) → x < s.capacity → 4 * at.label_at s x + 4 ≤ length bs
  label-room k x h = omega (arith, label-fits (words bs) s R k x h, length-words bs)

  pub node-room : (k : ℕ) → k < s.nodes → 4 * (at.node_at s k + at.node_width s.variables) ≤ length bs
  node-room k h = omega (arith, node-fits (words bs) s R k h, length-words bs)
