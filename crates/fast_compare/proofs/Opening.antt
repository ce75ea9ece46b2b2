-- The image of an empty map. Assumes nothing.
use mathlib.Core.Path.{◌≡◌, sym, ap, ◌∙◌}
use mathlib.Core.List.{List, [], ◌∷◌, ◌++◌}
use Prim.Native.Nat.{ℕ, ◌+◌, ◌-◌, ◌*◌, ◌≤◌}
use native.Mathlib.Omega.{arith}
use lib.ListN.{length}
use Rattle.words.specs.Words.{put_w, paste_w}
use Rattle.words.specs.Tables.{zeros, table}
use Rattle.words.proofs.Laws.{paste_w-snoc, put_w-paste}
use Rattle.words.proofs.Tables.{zeros-nil, zeros-suc, zeros-add, paste_w-append}
use Rattle.fast_compare.specs.Labels.{sorted}
use Rattle.monomial.specs.Sizes.{Sizes}
use Rattle.fast_compare.specs.Map.{Valid, empty}
use Rattle.fast_compare.specs.Layout.{encode, size, Is}
use Rattle.fast_compare.proofs.Exact.{pasted}

pub empty-words : (m c : ℕ) → encode (empty m c) ≡ (1 ∷ m ∷ c ∷ []) ++ zeros (1 + c * (m + 3) + c)
unfolding encode table sorted
empty-words m c =
    let e : c - 0 ≡ c = omega arith in
    let z : zeros (1 + c * (m + 3) + c) ≡ 0 ∷ (zeros (c * (m + 3)) ++ zeros c) = zeros-add (1 + c * (m + 3)) c ∙ rw (zeros-add 1 (c * (m + 3)), zeros-suc 0, zeros-nil) in
    rw (e, z)

pub open_is : (bs b1 b2 b3 b4 : List ℕ) (m c : ℕ) → 4 * size m c ≤ length bs → b1 ≡ put_w bs 0 1 → b2 ≡ put_w b1 1 m → b3 ≡ put_w b2 2 c → b4 ≡ paste_w b3 3 (zeros (1 + c * (m + 3) + c)) → b4 ≡ paste_w bs 0 (encode (empty m c))
open_is bs b1 b2 b3 b4 m c h e1 e2 e3 e4 =
    let q1 : b1 ≡ paste_w bs 0 (1 ∷ []) = e1 ∙ put_w-paste bs 0 1 (omega arith) in
    let q2 : b2 ≡ paste_w bs 0 (1 ∷ m ∷ []) = e2 ∙ rw q1 (paste_w-snoc bs 0 (1 ∷ []) 1 m (omega arith) (omega arith)) in
    let q3 : b3 ≡ paste_w bs 0 (1 ∷ m ∷ c ∷ []) = e3 ∙ rw q2 (paste_w-snoc bs 0 (1 ∷ m ∷ []) 2 c (omega arith) (omega arith)) in
    e4 ∙ rw (q3, paste_w-append bs 0 (1 ∷ m ∷ c ∷ []) 3 (zeros (1 + c * (m + 3) + c)) (omega arith) (omega arith)) (ap (paste_w bs 0) (sym (empty-words m c)))

-- an empty map is valid
pub empty-valid : (m c : ℕ) → Sizes m c → Valid (empty m c)
empty-valid m c a = record {
  vars-from = a.vars-from;
  vars-to = a.vars-to;
  cap-from = a.cap-from;
  cap-to = a.cap-to;
  few = omega arith;
  good = λ i h. absurd (omega arith);
  labelled = record { distinct = λ i j h. absurd (omega arith); rising = λ i j h. absurd (omega arith); small = λ i h. absurd (omega arith) };
}

-- so an opening gives a sound map
pub opened-sound : (bs : List ℕ) (m c : ℕ) → Sizes m c → 4 * size m c ≤ length bs → Is (empty m c) (paste_w bs 0 (encode (empty m c)))
opened-sound bs m c a h = pasted (empty m c) (empty-valid m c a) bs h
