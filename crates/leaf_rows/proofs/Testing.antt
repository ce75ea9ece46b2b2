-- What the tests on entries and rows answer, from what they read. Assumes nothing.
use mathlib.Core.Path.{◌≡◌, sym, ap, ◌∙◌}
use mathlib.Core.Bool.{true}
use mathlib.Core.List.{List, ◌++◌}
use mathlib.Core.Logic.{◌↔◌}
use Prim.Native.Nat.{ℕ, ◌+◌, ◌-◌, ◌*◌, ◌≤◌, ◌<◌}
use native.Mathlib.Omega.{arith}
use lib.ListN.{length}
use Rattle.words.specs.Words.{words}
use Rattle.index_image.proofs.Places.{entry-room, place-room}
use Rattle.words.specs.Tables.{part, zeros}
use Rattle.words.proofs.Tables.{part-append}
use Rattle.monomial.specs.Monomial.{Canonical}
use Rattle.monomial.specs.Operations.{equal}
use Rattle.monomial.proofs.Powers.{canonical-length}
use Rattle.monomial.proofs.Divisions.{equal-iff}
use Rattle.index_image.specs.declared.Shape.{Shape}
use Rattle.index_image.specs.Layout.{slot}
use Rattle.index_image.specs.Shape.{entry_at, permutation_at, slot_width}
use Rattle.index_image.specs.Walk.{Ready}

-- ---- the places of the entries, and each entry, lie in the bytes of an image that is ready for the walk
pub places_lent : (bs : List ℕ) (s : Shape) → Ready (words bs) s → 4 * (permutation_at s + s.entries) ≤ length bs
places_lent bs s R = place-room bs s R s.entries (omega arith)

pub entry_lent : (bs : List ℕ) (s : Shape) (e : ℕ) → Ready (words bs) s → e < s.entries → 4 * entry_at s e ≤ length bs
entry_lent bs s e R h = omega (arith, entry-room bs s R e h)

-- ---- a gcd in its slot: n words as many as the gcd's, and zeros
pub slot_iff : (W : List ℕ) (m i n : ℕ) (ws : List ℕ) → m ≤ 64 → Canonical 1 m ws → n ≡ length ws → i + slot_width m ≤ length W
    → (part W i (slot_width m) ≡ slot m ws)
    ↔ ((equal (part W i n) ws ≡ true) × (part W (i + n) (slot_width m - n) ≡ zeros (slot_width m - n)))
unfolding slot
slot_iff W m i n ws few c e fits =
    let long : length ws ≤ slot_width m = canonical-length 1 m ws (omega arith) (omega arith) c in
    let z : slot_width m ≡ n + (slot_width m - n) = omega arith in
    let j = part-append W i n (slot_width m - n) ws (zeros (slot_width m - n)) (omega arith) (sym e) in
    let q = equal-iff (part W i n) ws in (
      λ (h : part W i (slot_width m) ≡ ws ++ zeros (slot_width m - length ws)).
          let k = j.0 (sym (ap (part W i) z) ∙ h ∙ rw e) in (q.1 k.0, k.1),
      λ h. ap (part W i) z ∙ j.1 (q.0 h.0, h.1) ∙ rw e,
    )
