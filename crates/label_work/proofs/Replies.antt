-- What the doors answer, case by case. Assumes nothing.
use mathlib.Core.Path.{◌≡◌, refl, sym, ap, ◌∙◌}
use mathlib.Core.Bool.{Bool, true, false, cond, ◌&&◌}
use mathlib.Core.List.{List}
use Prim.Native.Nat.{ℕ, ◌+◌, ◌*◌, ◌≤◌, ◌<◌}
use native.Mathlib.Nat.{mul-le-mul}
use native.Mathlib.Omega.{arith}
use lib.Dec.{ltb}
use lib.ListN.{length}
use borrow.Author.Tests.{le-leb, lt-leb, ltb-true, lt-ltb, le-ltb}
use Rattle.words.specs.Words.{words, paste_w}
use Rattle.words.proofs.Laws.{Bytes}
use Rattle.monomial.specs.Monomial.{lent}
use Rattle.monomial.specs.Sizes.{sizes_fit, Sizes}
use Rattle.monomial.proofs.Canon.{both_true}
use Rattle.monomial.proofs.Sizing.{sizes-fit}
use Rattle.monomial.proofs.Laws.{lent-canonical}
use Rattle.fast_compare.specs.Map.{Value, value_of, Good, State, empty}
use Rattle.fast_compare.specs.Layout.{encode, size, Is, Sound, Gave}
use Rattle.label_work.specs.Door.{length_for, opening_for, opened_bytes, number, told, value_lent, answer_for, left, Asking, Replied}
use Rattle.fast_compare.specs.declared.Comparer.{Comparer}
use Rattle.fast_compare.specs.declared.Comparer.TheVariants.{New}
use Rattle.fast_compare.specs.declared.Unlabelled.{Unlabelled}
use Rattle.std.specs.Prelude.{Result, Ok, Err, IsErrAnd}
use Rattle.refusals.specs.Numbers as Numbers
use Rattle.refusals.specs.declared.Refusal.{Refusal}
use Rattle.refusals.specs.declared.Refusal.TheVariants.{Sizes as BadSizes, Unsound, BadWords}
use Rattle.fast_compare.proofs.Maps.{after-as, stored_same}
use Rattle.label_insert.proofs.Storing.{holds}

-- ---- question 1
module _ (m c : ℕ) where
  -- what a length says of it
  pub length-ok : (n : ℕ) → Ok n ≡ cond (sizes_fit m c) (Ok (4 * size m c)) (Err BadSizes) → (n ≡ 4 * size m c) × Sizes m c
  length-ok n e = go (sizes_fit m c) refl e
    where
      go : (t : Bool) → sizes_fit m c ≡ t → Ok n ≡ cond t (Ok (4 * size m c)) (Err BadSizes) → (n ≡ 4 * size m c) × Sizes m c
      go true q e = (cc, (sizes-fit m c).0 q)
      go false q e = absurd cc

  pub length-err : (r : Refusal) → Err r ≡ cond (sizes_fit m c) (Ok (4 * size m c)) (Err BadSizes) → (r ≡ BadSizes) × (sizes_fit m c ≡ false)
  length-err r e = go (sizes_fit m c) refl e
    where
      go : (t : Bool) → sizes_fit m c ≡ t → Err r ≡ cond t (Ok (4 * size m c)) (Err BadSizes) → (r ≡ BadSizes) × (sizes_fit m c ≡ false)
      go true q e = absurd cc
      go false q e = (cc, q)

  pub length-refused : sizes_fit m c ≡ false → 1 ≡ length_for m c
  unfolding length_for
  length-refused h = rw h

  pub length-served : Sizes m c → 4 * size m c ≡ length_for m c
  unfolding length_for
  length-served a = rw ((sizes-fit m c).1 a)

  pub length-small : Sizes m c → 4 * size m c ≤ 1114128
  length-small a =
      let wide : m + 3 ≤ 67 = omega (arith, a.vars-to) in
      let most : c * (m + 3) ≤ 4096 * 67 = mul-le-mul a.cap-to wide in
      omega (arith, a.cap-to)

  pub open-unasked : (bs : List ℕ) → sizes_fit m c ≡ false → (1 ≡ opening_for m c (length bs)) × (bs ≡ opened_bytes m c bs)
  unfolding opening_for opened_bytes
  open-unasked bs h = rw h (refl, refl)

  pub open-short : (bs : List ℕ) → Sizes m c → length bs < 4 * size m c → (2 ≡ opening_for m c (length bs)) × (bs ≡ opened_bytes m c bs)
  unfolding opening_for opened_bytes
  open-short bs a h = rw ((sizes-fit m c).1 a, lt-leb (4 * size m c) (length bs) h) (refl, refl)

  pub open-served : (bs b : List ℕ) → Sizes m c → 4 * size m c ≤ length bs → b ≡ paste_w bs 0 (encode (empty m c)) → (0 ≡ opening_for m c (length bs)) × (b ≡ opened_bytes m c bs)
  unfolding opening_for opened_bytes
  open-served bs b a h e = rw ((sizes-fit m c).1 a, le-leb (4 * size m c) (length bs) h) (refl, e)

-- a refusal handed on
pub told-one : (r : Result Unit Refusal) (e : Refusal) → IsErrAnd r (λ x. x ≡ e) → e ≡ BadSizes → Numbers.told r ≡ 1
unfolding Numbers.told Numbers.number
told-one (Ok u) e h q = absurd h
told-one (Err x) e h q = ap Numbers.number (h ∙ q)

-- ---- question 7
pub lent-good : (m i : ℕ) (ratio : List ℕ) → i < 268435456 → lent 2 m ratio ≡ true → (value_lent m i ratio ≡ true) × Good m (value_of i (words ratio))
unfolding value_lent
lent-good m i ratio h e = (rw (lt-ltb i 268435456 h) e, record { index-small = h; canonical = ((lent-canonical 2 m ratio).0 e).1 })

pub lent-is-good : (m i : ℕ) (ratio : List ℕ) → value_lent m i ratio ≡ true → Good m (value_of i (words ratio))
unfolding value_lent
lent-is-good m i ratio e =
    let t = both_true (ltb i 268435456) (lent 2 m ratio) e in
    record { index-small = ltb-true i 268435456 t.0; canonical = ((lent-canonical 2 m ratio).0 t.1).1 }

pub large-index : (m i : ℕ) (ratio : List ℕ) → 268435456 ≤ i → value_lent m i ratio ≡ false
unfolding value_lent
large-index m i ratio h = rw (le-ltb i 268435456 h)

pub bad-ratio : (m i : ℕ) (ratio : List ℕ) → lent 2 m ratio ≡ false → value_lent m i ratio ≡ false
unfolding value_lent
bad-ratio m i ratio e = go (ltb i 268435456)
  where
    go : (b : Bool) → (b && lent 2 m ratio) ≡ false
    go true = e
    go false = refl

-- ---- the answers
told-new : (x : ℕ) → told (Ok (New x)) ≡ Ok x
unfolding told
told-new x = refl

module _ (i : ℕ) (ratio bs : List ℕ) where
  pub asking-unsound : (Sound bs → ⊥) → Asking i ratio (Err Unsound) bs bs
  asking-unsound h = record { unsound = λ _. refl; sound = λ st s. absurd (h (record { state = st; is = s })); refused = λ _. refl }

  pub asking-bad : Bytes bs → Sound bs → ((st : State) → Is st bs → value_lent st.variables i ratio ≡ false) → Asking i ratio (Err BadWords) bs bs
  unfolding answer_for left
  asking-bad b s h = record {
    unsound = λ z. absurd (z s);
    sound = λ st k. rw (h st k) (refl, holds bs st b k);
    refused = λ _. refl;
  }

  pub asking-given : Bytes bs → Sound bs → ((st : State) → Is st bs → value_lent st.variables i ratio ≡ true) → (c : Result Comparer Unlabelled) (exit : List ℕ)
      → ((st : State) → Is st bs → Gave st (value_of i (words ratio)) c bs exit) → (r : Result ℕ Refusal) → r ≡ told c → Asking i ratio r bs exit
  unfolding answer_for left
  asking-given b s h c exit g r e = record {
    unsound = λ z. absurd (z s);
    sound = λ st k. let w = g st k in rw (h st k) (e ∙ ap told w.answers, w.bytes);
    refused = λ z. let w = g s.state s.is in
        w.bytes ∙ ap (λ (x : State). paste_w bs 0 (encode x)) (after-as s.state q c (sym w.answers) ∙ stored_same s.state q c (λ x y. z x (label-of c x e y))) ∙ sym (holds bs s.state b s.is);
  }
    where
      q : Value
      q = value_of i (words ratio)

      label-of : (c : Result Comparer Unlabelled) (x : ℕ) → r ≡ told c → c ≡ Ok (New x) → r ≡ Ok x
      label-of c x e y = e ∙ ap told y ∙ told-new x

-- the same as C gets it
pub replied : (i : ℕ) (ratio : List ℕ) (a : Result ℕ Refusal) (entry exit : List ℕ) (r : ℕ) → Asking i ratio a entry exit → r ≡ number a → ((x : ℕ) → a ≡ Ok x → r < 4294967296) → Replied i ratio r entry exit
unfolding number Numbers.number
replied i ratio a entry exit r s e f = record {
  unsound = λ z. e ∙ ap number (s.unsound z);
  sound = λ st k. let w = s.sound st k in (e ∙ ap number w.0, w.1);
  refused = λ h. s.refused (λ x y. omega (arith, f x y));
}
