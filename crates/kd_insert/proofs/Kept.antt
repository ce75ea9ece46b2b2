-- An insert keeps an image sound. The bytes of a slice are bytes, so what was pasted into it are words. Assumes nothing.
use mathlib.Core.Path.{◌≡◌, sym, ap, ◌∙◌, subst}
use mathlib.Core.List.{List, [], ◌∷◌, ◌++◌}
use Prim.Native.Nat.{ℕ, zero, suc, ◌+◌, ◌*◌, ◌≤◌, ◌<◌}
use native.Mathlib.Omega.{arith}
use lib.ListN.{length, drop}
use Rattle.words.specs.Words.{words, bytes, paste_w}
use Rattle.words.specs.Tables.{part}
use Rattle.words.proofs.Laws.{Bytes, Words, length-words, length-paste_w, paste_w-front}
use Rattle.index_theory.specs.Entries.{Entry}
use Rattle.index_theory.specs.State.{Kind, State, Valid, GoodEntry, OfKind, keys_of}
use Rattle.index_theory.specs.Calls.{inserted, labelled, numbered}
use Rattle.index_theory.proofs.Places.{length_more}
use Rattle.index_theory.proofs.Keeps.{inserted-valid}
use Rattle.index_image.specs.Layout.{code, encode, Is, Sound, shape_of}
use Rattle.index_image.specs.Shape as at
use Rattle.index_image.specs.Head.{HeadOk}
use Rattle.index_image.specs.declared.Shape.{Shape}
use Rattle.index_image.proofs.Images.{head_ok}
use Rattle.index_image.proofs.Encoding.{image-length}
use Rattle.index_image.proofs.Lengths.{valid-fits}
use Rattle.kd_insert.specs.Inserting.{Room, Inserted}
use Rattle.kd_descent.proofs.Ways.{insert-nodes}
use Rattle.kd_insert.proofs.Monomials.{shape_is}
use Rattle.words.proofs.Pasting.{part-pasted}

pub bytes-words : (E r : List ℕ) → Bytes (bytes E ++ r) → Words E
unfolding bytes
bytes-words [] r h k = omega arith
bytes-words (w ∷ E) r h zero = omega (arith, h 3)
bytes-words (w ∷ E) r h (suc k) = bytes-words E r (λ i. h (suc (suc (suc (suc i))))) k

-- the image of a valid state that was pasted into a slice is its image there
pub pasted-is : (bs im : List ℕ) (st : State) → Valid st → 4 * at.size (shape_of st) ≤ length bs → Bytes im → im ≡ paste_w bs 0 (encode st) → Is st im
pasted-is bs im st val room b e =
    let z = at.size (shape_of st) in
    let l : length (encode st) ≡ z = image-length (words bs) st (valid-fits st val) (omega (arith, length-words bs)) in
    let w : Words (encode st) = bytes-words (encode st) (drop (4 * length (encode st)) bs) (rw (e, paste_w-front bs (encode st)) at b) in
    let long : length im ≡ length bs = ap length e ∙ length-paste_w bs 0 (encode st) (omega arith) in
    record { valid = val; room = omega arith; is = ap (part (words im) 0) (sym l) ∙ rw e (part-pasted bs 0 (encode st) w (omega arith)) }

pub insert-keeps : (e : Entry) (r : ℕ) (bs im : List ℕ) → Inserted e r bs im → Bytes im → (st : State) → Is st bs → GoodEntry st.variables e → OfKind st.kind e
    → length st.entries < st.capacity → Is (inserted st e) im
unfolding inserted
insert-keeps e r bs im d b st I good ofk few = pasted-is bs im (inserted st e) (inserted-valid st I.valid e good few ofk) I.room b (d.bytes st I)

-- ---- the next call: the header counts one entry more, and nothing else of it changes
abbrev pub more : Shape → Shape
more s = record {
  kind = s.kind;
  variables = s.variables;
  capacity = s.capacity;
  entries = s.entries + 1;
  nodes = s.nodes;
}

shape-after : (st : State) (e : Entry) → shape_of (inserted st e) ≡ more (shape_of st)
unfolding inserted
shape-after st e =
    let n = length st.entries in
    rw (length_more st.entries (numbered n e), insert-nodes (keys_of st.kind st.variables (st.entries ++ (numbered n e ∷ [])) (labelled st.kind st.labels e)) n st.tree)

pub record Next (im : List ℕ) (s : Shape) : Type 0 where
  pub sound : Sound im
  pub head : HeadOk (words im) (length im) (more s)

pub next : (e : Entry) (r : ℕ) (bs im : List ℕ) (s : Shape) → Inserted e r bs im → Bytes im → Room bs s → GoodEntry s.variables e → ((k : Kind) → code k ≡ s.kind → OfKind k e) → Next im s
next e r bs im s d b R good ofk =
    let st = R.sound.state in
    let I = R.sound.is in
    let q = shape_is bs s R.head st I in
    let good' : GoodEntry st.variables e = subst (λ (x : Shape). GoodEntry x.variables e) (sym q) good in
    let few : length st.entries < st.capacity = subst (λ (x : Shape). x.entries < x.capacity) (sym q) R.few in
    let J = insert-keeps e r bs im d b st I good' (ofk st.kind (ap (λ (x : Shape). x.kind) q)) few in
    record {
      sound = record { state = inserted st e; is = J };
      head = subst (λ (x : Shape). HeadOk (words im) (length im) x) (shape-after st e ∙ ap more q) (head_ok im (inserted st e) J);
    }
