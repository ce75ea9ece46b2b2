-- What the doors reply, question by question. Assumes nothing.
use mathlib.Core.Path.{◌≡◌, refl, sym, ap, ◌∙◌}
use mathlib.Core.Bool.{Bool, true, false, cond, ◌&&◌}
use mathlib.Core.List.{List}
use Prim.Native.Nat.{ℕ, ◌*◌, ◌/◌, ◌≤◌, ◌<◌}
use native.Mathlib.Omega.{arith}
use lib.Dec.{leb}
use lib.ListN.{length}
use borrow.Author.Tests.{leb-true, lt-leb, le-leb, lt-ltb, le-ltb}
use Rattle.std.specs.Prelude.{Result, Ok, Err, IsErrAnd}
use Rattle.refusals.specs.Numbers.{told, number}
use Rattle.refusals.specs.declared.Refusal.{Refusal}
use Rattle.refusals.specs.declared.Refusal.TheVariants.{Sizes as BadSizes}
use Rattle.words.specs.Words.{words, paste_w}
use Rattle.monomial.specs.Sizes.{Sizes, sizes_fit}
use Rattle.monomial.proofs.Canon.{both_true}
use Rattle.monomial.proofs.Sizing.{sizes-fit}
use Rattle.divmask.specs.Tracker.{Maxima, maxima_lent}
use Rattle.divmask.proofs.Growth.{lent-maxima}
use Rattle.index_theory.specs.State.{ratioed, State, opened}
use Rattle.index_theory.specs.Calls.{calls}
use Rattle.index_theory.specs.Listing.{listing}
use Rattle.index_image.specs.Layout.{code, encode, Is, Sound}
use Rattle.index_image.specs.Size.{empty_shape, bytes}
use Rattle.index_image.specs.declared.Shape.{Shape}
use Rattle.index_image.proofs.Bounds.{size_small}
use Rattle.index_image.proofs.Shapes.{empty-range}
use Rattle.call_list.specs.Bodies.{IsList}
use Rattle.listing.specs.Listed.{Root, Each}
use Rattle.index_replies.proofs.Inserts.{shaped}
use Rattle.index_opening.specs.Kinds.{index_kind}
use Rattle.index_run.specs.Ran.{Ran}
use Rattle.divisor_index.specs.Doors.{opening_good, length_of, length_number, open_number, open_bytes, RunIs, ListingIs}
use Rattle.index_run.proofs.Running.{list-calls}

-- ---- opening
pub told-one : (r : Result Unit Refusal) (e : Refusal) → IsErrAnd r (λ x. x ≡ e) → e ≡ BadSizes → told r ≡ 1
unfolding told number
told-one (Ok u) e h q = absurd h
told-one (Err x) e h q = ap number (h ∙ q)

module _ (k m c : ℕ) (xs : List ℕ) where
  pub length-refused : opening_good k m c xs ≡ false → Err BadSizes ≡ length_of k m c xs
  unfolding length_of
  length-refused e = rw e

  pub length-good : opening_good k m c xs ≡ true → (n : ℕ) → n ≡ bytes k m c → Ok n ≡ length_of k m c xs
  unfolding length_of
  length-good e n q = rw (e, q)

  -- what a length says of question 1
  pub length-err : (r : Refusal) → Err r ≡ length_of k m c xs → (r ≡ BadSizes) × (opening_good k m c xs ≡ false)
  unfolding length_of
  length-err r e = go (opening_good k m c xs) refl e
    where
      go : (t : Bool) → opening_good k m c xs ≡ t → Err r ≡ cond t (Ok (bytes k m c)) (Err BadSizes) → (r ≡ BadSizes) × (opening_good k m c xs ≡ false)
      go true q e = absurd cc
      go false q e = (cc, q)

  pub length-ok : (n : ℕ) → Ok n ≡ length_of k m c xs → (n ≡ bytes k m c) × (opening_good k m c xs ≡ true)
  unfolding length_of
  length-ok n e = go (opening_good k m c xs) refl e
    where
      go : (t : Bool) → opening_good k m c xs ≡ t → Ok n ≡ cond t (Ok (bytes k m c)) (Err BadSizes) → (n ≡ bytes k m c) × (opening_good k m c xs ≡ true)
      go true q e = (cc, q)
      go false q e = absurd cc

  pub length-one : opening_good k m c xs ≡ false → 1 ≡ length_number k m c xs
  unfolding length_number
  length-one e = rw e

  pub open-one : (bs : List ℕ) → opening_good k m c xs ≡ false → (1 ≡ open_number k m c xs bs) × (bs ≡ open_bytes k m c xs bs)
  unfolding open_number open_bytes
  open-one bs e = rw e (refl, refl)

  module _ (e : opening_good k m c xs ≡ true) where
    first : (leb k 1 ≡ true) × ((sizes_fit m c && maxima_lent m xs) ≡ true)
    unfolding opening_good
    first = both_true (leb k 1) (sizes_fit m c && maxima_lent m xs) e

    second : (sizes_fit m c ≡ true) × (maxima_lent m xs ≡ true)
    second = both_true (sizes_fit m c) (maxima_lent m xs) first.1

    pub maxima : (length xs ≡ 4 * m) × Maxima m (words xs)
    maxima = (lent-maxima m xs).0 second.1

    pub one-kind : k ≤ 1
    one-kind = leb-true k 1 first.0

    pub sizes : Sizes m c
    sizes = (sizes-fit m c).0 second.0

    pub length-small : bytes k m c ≤ 5652824
    length-small = omega (arith, size_small (empty_shape k m c) (empty-range k m c one-kind sizes))

    pub length-is : (r : ℕ) → r ≡ bytes k m c → r ≡ length_number k m c xs
    unfolding length_number
    length-is r q = q ∙ rw e

    pub open-two : (bs : List ℕ) → length bs < bytes k m c → (2 ≡ open_number k m c xs bs) × (bs ≡ open_bytes k m c xs bs)
    unfolding open_number open_bytes
    open-two bs h = rw (e, lt-ltb (length bs) (bytes k m c) h, lt-leb (bytes k m c) (length bs) h) (refl, refl)

    pub open-served : (bs bs' : List ℕ) → bytes k m c ≤ length bs → bs' ≡ paste_w bs 0 (encode (opened (index_kind k) m c (words xs))) → (0 ≡ open_number k m c xs bs) × (bs' ≡ open_bytes k m c xs bs)
    unfolding open_number open_bytes
    open-served bs bs' h q = rw (e, le-ltb (length bs) (bytes k m c) h, le-leb (bytes k m c) (length bs) h) (refl, q)

-- ---- a list of calls
module _ (bs list out : List ℕ) where
  pub run-three : (Sound bs → ⊥) → RunIs bs list out bs out 3
  run-three never = record {
    three = λ z. refl;
    four = λ S. absurd (never S);
    five = λ S. absurd (never S);
    served = λ S. absurd (never S);
    refused = λ z. (refl, refl);
    ran = λ e. absurd (omega arith);
  }

  module _ (S : Sound bs) where
    pub run-four : (IsList list → ⊥) → RunIs bs list out bs out 4
    run-four never = record {
      three = λ z. absurd (z S);
      four = λ S z. refl;
      five = λ S l. absurd (never l);
      served = λ S l. absurd (never l);
      refused = λ z. (refl, refl);
      ran = λ e. absurd (omega arith);
    }

    module _ (L : IsList list) where
      same : (l : IsList list) → length l.calls ≡ length (calls (words list))
      same l = ap length (list-calls list l)

      pub run-five : length out / 4 < length (calls (words list)) → RunIs bs list out bs out 5
      run-five h = record {
        three = λ z. absurd (z S);
        four = λ S z. absurd (z L);
        five = λ S l z. refl;
        served = λ S l z. absurd (omega (arith, same l));
        refused = λ z. (refl, refl);
        ran = λ e. absurd (omega arith);
      }

      pub run-served : (bs' out' : List ℕ) → length (calls (words list)) ≤ length out / 4 → Ran (calls (words list)) bs bs' out out' → RunIs bs list out bs' out' 0
      run-served bs' out' h d = record {
        three = λ z. absurd (z S);
        four = λ S z. absurd (z L);
        five = λ S l z. absurd (omega (arith, same l));
        served = λ S l z. refl;
        refused = λ z. absurd (z refl);
        ran = λ e l. rw (list-calls list l) d;
      }

-- ---- the listing
module _ (bs out : List ℕ) where
  pub listing-three : (Sound bs → ⊥) → ListingIs bs out out 3
  listing-three never = record {
    three = λ z. refl;
    six = λ st I. absurd (never (record { state = st; is = I }));
    five = λ st I. absurd (never (record { state = st; is = I }));
    served = λ st I. absurd (never (record { state = st; is = I }));
    refused = λ z. refl;
    written = λ e. absurd (omega arith);
  }

  module _ (s : Shape) (R : Root bs s) where
    kind-of : (st : State) → Is st bs → s.kind ≡ code st.kind
    kind-of st I = ap (λ x. x.kind) (shaped bs s R st I)

    some-state : Sound bs
    some-state = record { state = R.state; is = R.is }

    pub listing-six : (s.kind ≡ 0 → ⊥) → ListingIs bs out out 6
    listing-six h = record {
      three = λ z. absurd (z some-state);
      six = λ st I k. refl;
      five = λ st I k. absurd (h (kind-of st I ∙ ap code k));
      served = λ st I k. absurd (h (kind-of st I ∙ ap code k));
      refused = λ z. refl;
      written = λ e. absurd (omega arith);
    }

    not-ratioed : s.kind ≡ 0 → (st : State) → Is st bs → st.kind ≡ ratioed → ⊥
    not-ratioed h st I k = let z : ◌≡◌ {A = ℕ} 0 1 = sym h ∙ kind-of st I ∙ ap code k in absurd (omega arith)

    module _ (n : ℕ) (e : Each bs s (λ st. n ≡ length (listing st))) (h : s.kind ≡ 0) where
      long : (st : State) → Is st bs → n ≡ length (listing st)
      long st I = e st I (shaped bs s R st I)

      pub listing-five : length out / 4 < n → ListingIs bs out out 5
      listing-five l = record {
        three = λ z. absurd (z some-state);
        six = λ st I k. absurd (not-ratioed h st I k);
        five = λ st I k z. refl;
        served = λ st I k z. absurd (omega (arith, long st I));
        refused = λ z. refl;
        written = λ e. absurd (omega arith);
      }

      pub listing-room : n ≤ length out / 4 → Each bs s (λ st. 4 * length (listing st) ≤ length out)
      listing-room l st I q = omega (arith, long st I)

      pub listing-served : (out' : List ℕ) → n ≤ length out / 4 → Each bs s (λ st. out' ≡ paste_w out 0 (listing st)) → ListingIs bs out out' 0
      listing-served out' l d = record {
        three = λ z. absurd (z some-state);
        six = λ st I k. absurd (not-ratioed h st I k);
        five = λ st I k z. absurd (omega (arith, long st I));
        served = λ st I k z. refl;
        refused = λ z. absurd (z refl);
        written = λ e st I. d st I (shaped bs s R st I);
      }

-- a test says yes and no
pub clash : (b : Bool) → b ≡ false → b ≡ true → ⊥
clash true e f = let z : ◌≡◌ {A = ℕ} 0 1 = cc in absurd (omega arith)
clash false e f = let z : ◌≡◌ {A = ℕ} 0 1 = cc in absurd (omega arith)
