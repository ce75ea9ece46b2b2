-- Inserts as the theory serves them. Assumes nothing.
use mathlib.Core.Path.{◌≡◌, sym, ap, ◌∙◌, subst}
use mathlib.Core.List.{List}
use Prim.Native.Nat.{ℕ, ◌≤◌, ◌<◌}
use native.Mathlib.Omega.{arith}
use lib.ListN.{length}
use borrow.Author.Tests.{lt-ltb, le-ltb}
use Rattle.std.specs.Prelude.{Ok, Err}
use Rattle.refusals.specs.declared.Refusal.TheVariants.{Full}
use Rattle.refusals.specs.Numbers.{number}
use Rattle.words.specs.Kinds.{answer_word, refusal_word}
use Rattle.words.specs.Words.{words, paste_w}
use Rattle.words.proofs.Laws.{Bytes}
use Rattle.words.proofs.Tables.{paste-own}
use Rattle.index_theory.specs.Entries.{Entry}
use Rattle.index_theory.specs.State.{State}
use Rattle.index_theory.specs.Calls.{insertion, inserted, serve}
use Rattle.index_image.specs.Head.{HeadOk}
use Rattle.index_image.specs.Layout.{shape_of, encode, Is}
use Rattle.index_image.specs.declared.Shape.{Shape}
use Rattle.index_image.proofs.Images.{head_ok}
use Rattle.index_image.proofs.Unique.{state-unique}
use Rattle.kd_insert.specs.Inserting.{Room, Inserted}
use Rattle.listing.specs.Listed.{Root}
use Rattle.index_replies.specs.Replied.{Replied}

-- an image has one state, so every state there has this shape
pub shaped : (bs : List ℕ) (s : Shape) → Root bs s → (st : State) → Is st bs → s ≡ shape_of st
shaped bs s R st I = R.shape ∙ ap (λ (x : State). shape_of x) (state-unique bs R.state st R.is I)

-- ---- what is asked before an insert
pub with-room : (bs : List ℕ) (s : Shape) → Root bs s → s.entries < s.capacity → Room bs s
with-room bs s R h = record {
  sound = record { state = R.state; is = R.is };
  head = subst (λ (x : Shape). HeadOk (words bs) (length bs) x) (sym R.shape) (head_ok bs R.state R.is);
  few = h;
}

-- ---- question 8
full : (st : State) (e : Entry) → st.capacity ≤ length st.entries → serve st (insertion e) ≡ record { answer = refusal_word (number Full); state = st }
unfolding serve number
full st e h = rw (le-ltb (length st.entries) st.capacity h)

taken : (st : State) (e : Entry) → length st.entries < st.capacity → serve st (insertion e) ≡ record { answer = answer_word (length st.entries); state = inserted st e }
unfolding serve
taken st e h = rw (lt-ltb (length st.entries) st.capacity h)

-- the image of a state pasted into itself
pub itself : (bs : List ℕ) (st : State) → Bytes bs → Is st bs → paste_w bs 0 (encode st) ≡ bs
itself bs st b I = ap (paste_w bs 0) (sym I.is) ∙ paste-own bs _ b I.room

pub refused : (bs : List ℕ) (s : Shape) (e : Entry) → Root bs s → Bytes bs → s.capacity ≤ s.entries → Replied (λ st. serve st (insertion e)) bs bs (Err Full)
refused bs s e R b h = record {
  answer = λ st I. let z : st.capacity ≤ length st.entries = subst (λ (x : Shape). x.capacity ≤ x.entries) (shaped bs s R st I) h in ap (λ d. d.answer) (sym (full st e z));
  small = tt;
  bytes = λ st I.
      let z : st.capacity ≤ length st.entries = subst (λ (x : Shape). x.capacity ≤ x.entries) (shaped bs s R st I) h in
      sym (ap (λ d. paste_w bs 0 (encode d.state)) (full st e z) ∙ itself bs st b I);
}

-- the number of an entry is small
pub number_small : (bs : List ℕ) (s : Shape) (e : Entry) (n : ℕ) (bs' : List ℕ) → Root bs s → s.entries < s.capacity → Inserted e n bs bs' → n < 268435456
number_small bs s e n bs' R h d =
    let few : length R.state.entries < R.state.capacity = subst (λ (x : Shape). x.entries < x.capacity) R.shape h in
    omega (arith, d.number R.state R.is, R.is.valid.cap-to)

pub accepted : (bs bs' : List ℕ) (s : Shape) (e : Entry) (n : ℕ) → Root bs s → s.entries < s.capacity → Inserted e n bs bs' → Replied (λ st. serve st (insertion e)) bs bs' (Ok n)
accepted bs bs' s e n R h d = record {
  answer = λ st I.
      let z : length st.entries < st.capacity = subst (λ (x : Shape). x.entries < x.capacity) (shaped bs s R st I) h in
      ap answer_word (d.number st I) ∙ ap (λ d. d.answer) (sym (taken st e z));
  small = number_small bs s e n bs' R h d;
  bytes = λ st I.
      let z : length st.entries < st.capacity = subst (λ (x : Shape). x.entries < x.capacity) (shaped bs s R st I) h in
      d.bytes st I ∙ ap (λ d. paste_w bs 0 (encode d.state)) (sym (taken st e z));
}
