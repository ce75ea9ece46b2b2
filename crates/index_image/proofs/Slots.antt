-- Slots of canonical monomials in the words of an image. Assumes nothing.
use mathlib.Core.Path.{◌≡◌, sym, ap, ◌∙◌}
use mathlib.Core.Bool.{true}
use mathlib.Core.List.{List}
use mathlib.Core.Logic.{◌↔◌}
use Prim.Native.Nat.{ℕ, ◌+◌, ◌-◌, ◌*◌, ◌^◌, ◌≤◌, ◌<◌}
use native.Mathlib.Omega.{arith}
use lib.Dec.{eqb}
use lib.ListN.{length, get_or, take, drop, length-take, length-drop}
use lib.Seq.{take_at, length-take-le, take_all}
use Rattle.words.proofs.Answers.{test}
use Rattle.words.specs.Words.{words, bytes, paste_w}
use Rattle.words.specs.Tables.{part, zeros}
use Rattle.words.proofs.Laws.{words-drop, length-words, length-paste_w, paste_w-front, length-bytes, words-bytes}
use Rattle.words.proofs.Drafts.{part_of}
use Rattle.monomial.specs.Monomial.{Canonical, pow}
use Rattle.monomial.proofs.Canon.{front-short}
use Rattle.monomial.proofs.Powers.{canonical-length}
use Rattle.monomial.specs.Operations.{result_words}
use Rattle.monomial.specs.declared.ordered_ops.Op.{Op}
use Rattle.monomial.proofs.Laws.{front-canonical, length-result, result-small}
use Rattle.divmask.specs.Mask.{mask, vector}
use Rattle.divmask.proofs.Masks.{mask-small}
use Rattle.index_image.specs.Shape.{slot_width, mask_at, vector_at}
use Rattle.index_image.specs.Door.{slot_length, slot_in, MaskedSlot}

module _ (W : List ℕ) (m i : ℕ) (few : m ≤ 4096) (some : slot_length W m i ≡ 0 → ⊥) where
  pub slot-canonical : Canonical 1 m (slot_in W m i)
  unfolding slot_in part
  slot-canonical = front-canonical 1 m (drop i W) (omega arith) some

  pub slot-inside : i + slot_length W m i ≤ length W
  slot-inside = omega (arith, front-short 1 m 0 (drop i W), length-drop i W)

  pub slot-length : length (slot_in W m i) ≡ slot_length W m i
  unfolding slot_in part
  slot-length = simp (length-take, length-drop) (omega (arith, slot-inside))

  pub slot-short : slot_length W m i ≤ slot_width m
  slot-short = omega (arith, slot-length, canonical-length 1 m (slot_in W m i) (omega arith) few slot-canonical)

-- the bytes from x on, as they are lent
abbrev pub rest : List ℕ → ℕ → List ℕ
rest bs x = take (length bs - x) (drop x bs)

pub rest-is : (bs : List ℕ) (x : ℕ) → rest bs x ≡ drop x bs
rest-is bs x = take_all (length bs - x) (drop x bs) (omega (arith, length-drop x bs))

pub rest-words : (bs : List ℕ) (x g : ℕ) → x ≡ 4 * g → words (rest bs x) ≡ drop g (words bs)
rest-words bs x g e = ap words (rest-is bs x) ∙ ap (λ (k : ℕ). words (drop k bs)) e ∙ words-drop bs g

-- what is known of the monomial that was found in a slot
pub record FoundSlot (bs : List ℕ) (m i n : ℕ) : Type 0 where
  pub short : n ≤ slot_width m
  pub inside : 4 * (i + n) ≤ length bs
  pub canonical : Canonical 1 m (part (words bs) i n)

pub found-slot : (bs : List ℕ) (m i n : ℕ) → m ≤ 64 → n ≡ slot_length (words bs) m i → (n ≡ 0 → ⊥) → FoundSlot bs m i n
unfolding slot_in
found-slot bs m i n few e some =
    let some' : slot_length (words bs) m i ≡ 0 → ⊥ = λ z. some (e ∙ z) in
    rw e (record {
      short = slot-short (words bs) m i (omega arith) some';
      inside = omega (arith, slot-inside (words bs) m i (omega arith) some', length-words bs);
      canonical = slot-canonical (words bs) m i (omega arith) some';
    })

pub masked-iff : (W : List ℕ) (m : ℕ) (xs : List ℕ) (i n x y : ℕ) → n ≡ slot_length W m i → (n ≡ 0 → ⊥) → part W (i + n) (slot_width m - n) ≡ zeros (slot_width m - n)
    → get_or W (mask_at m i) 0 < 2 ^ 32 → x ≡ get_or W (mask_at m i) 0 + 4294967296 * get_or W (mask_at m i + 1) 0
    → y ≡ mask m xs (pow 1 (part W i n)) + 4294967296 * vector m (pow 1 (part W i n)) → (eqb x y ≡ true) ↔ MaskedSlot W m xs i
unfolding slot_in
masked-iff W m xs i n x y e some rest small ex ey =
    let next : mask_at m i + 1 ≡ vector_at m i = omega arith in
    let ex' : x ≡ get_or W (mask_at m i) 0 + 4294967296 * get_or W (vector_at m i) 0 = ex ∙ rw next in
    let low : mask m xs (pow 1 (part W i n)) < 2 ^ 32 = mask-small m xs (pow 1 (part W i n)) in
    test x y
    (λ z. record {
      some = λ q. some (e ∙ q);
      rest = rw (← e) rest;
      masked = let q : get_or W (mask_at m i) 0 ≡ mask m xs (pow 1 (part W i n)) = omega arith in q ∙ rw e;
      vectored = let q : get_or W (vector_at m i) 0 ≡ vector m (pow 1 (part W i n)) = omega arith in q ∙ rw e;
    })
    (λ s. ex' ∙ rw (s.masked, s.vectored, ← e) (sym ey))

pub range-words : (bs : List ℕ) (a n : ℕ) → words (take (4 * a + 4 * n - 4 * a) (drop (4 * a) bs)) ≡ part (words bs) a n
range-words bs a n = part_of bs a n (4 * a + 4 * n - 4 * a) (omega arith)

-- ---- an operation's words, made aside in 65 words
pub record MadeAside (made ws : List ℕ) (n : ℕ) : Type 0 where
  pub room : 4 * n ≤ length made
  pub size : length (take (4 * n) made) ≡ 4 * n
  pub are : words (take (4 * n) made) ≡ ws

pub made-aside : (o : Op) (a b space made : List ℕ) (n : ℕ) → Canonical 1 64 a → Canonical 1 64 b → length space ≡ 260
    → n ≡ length (result_words o a b) → made ≡ paste_w space 0 (result_words o a b) → MadeAside made (result_words o a b) n
made-aside o a b space made n ca cb h en em =
    let few = length-result 64 a b ca cb o (omega arith) in
    let len : length made ≡ 260 = ap length em ∙ length-paste_w space 0 (result_words o a b) (omega arith) ∙ h in
    let front : take (4 * n) made ≡ bytes (result_words o a b) =
    rw (em, paste_w-front space (result_words o a b))
    (take_at (bytes (result_words o a b)) _ (4 * n) (length-bytes (result_words o a b) ∙ ap (λ (i : ℕ). 4 * i) (sym en))) in
    record {
      room = omega arith;
      size = length-take-le (4 * n) made (omega arith);
      are = ap words front ∙ words-bytes (result_words o a b) (result-small 64 a b ca cb o);
    }
