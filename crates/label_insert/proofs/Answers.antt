-- What a call answers, and the bytes that it leaves. Assumes nothing.
use mathlib.Core.Path.{◌≡◌, sym, ap, ◌∙◌}
use mathlib.Core.List.{List}
use Prim.Native.Nat.{ℕ, ◌+◌, ◌-◌, ◌/◌, ◌≤◌, ◌<◌}
use native.Mathlib.Omega.{arith}
use lib.ListN.{length, get_or}
use Rattle.std.proofs.Common.{Result, Ok, Err}
use Rattle.words.specs.Words.{words, paste_w}
use Rattle.words.proofs.Laws.{Bytes}
use Rattle.fast_compare.specs.Labels.{lowest, highest, sorted}
use Rattle.fast_compare.specs.Map.{Value, cmp, State, value, label, place, answer, stored}
use Rattle.fast_compare.specs.Layout.{encode, Is, Gave}
use Rattle.fast_compare.specs.declared.Comparer.{Comparer}
use Rattle.fast_compare.specs.declared.Comparer.TheVariants.{Known, New}
use Rattle.fast_compare.specs.declared.Unlabelled.{Unlabelled}
use Rattle.fast_compare.specs.declared.Unlabelled.TheVariants.{Full, NoLabel}
use Rattle.fast_compare.proofs.Exact.{count_of}
use Rattle.fast_compare.proofs.Maps.{answer-known, answer-full, answer-none, answer-new, after-as, stored_same}
use Rattle.fast_compare.proofs.Giving.{at_place, before-place, known-row, place-few, free-no, free-yes, half_is}
use Rattle.label_insert.proofs.Storing.{holds}

-- ---- a place lies within the order
module _ (bs : List ℕ) (st : State) (q : Value) (i : Is st bs) (p : ℕ) where
  pub known-place : Ok p ≡ place st.rows q → p < get_or (words bs) 3 0
  known-place e = omega (arith, (known-row st q i.valid p (at_place st q p e)).0, count_of bs st i)

  pub new-place : Err p ≡ place st.rows q → p ≤ get_or (words bs) 3 0
  new-place e = omega (arith, place-few st q i.valid p (before-place st q p e).place_is, count_of bs st i)

-- ---- answers that change nothing
module _ (bs : List ℕ) (st : State) (q : Value) (b : Bytes bs) (i : Is st bs) where
  same : (a : Result Comparer Unlabelled) → answer st q ≡ a → ((x : ℕ) → a ≡ Ok (New x) → ⊥) → Gave st q a bs bs
  same a e h = record {
    answers = sym e;
    bytes = holds bs st b i ∙ ap (λ (s : State). paste_w bs 0 (encode s)) (sym (after-as st q a e ∙ stored_same st q a h));
  }

  pub gave-known : (p x : ℕ) → Ok p ≡ place st.rows q → x ≡ label st.rows (get_or (sorted cmp (value st.rows) (length st.rows)) p 0) → Gave st q (Ok (Known x)) bs bs
  gave-known p x e h =
      let k = at_place st q p e in
      let z = known-row st q i.valid p k in
      same (Ok (Known x)) (answer-known st q k.row k.is ∙ ap (λ (y : ℕ). Ok (Known y)) (ap (label st.rows) (sym z.1) ∙ sym h)) (λ y w. let u : ◌≡◌ {A = ℕ} 0 1 = cc in omega arith)

  pub gave-full : (p : ℕ) → Err p ≡ place st.rows q → st.capacity ≤ length st.rows → Gave st q (Err Full) bs bs
  gave-full p e h =
      same (Err Full) (answer-full st q (before-place st q p e).is h) (λ y w. let u : ◌≡◌ {A = ℕ} 0 1 = cc in omega arith)

  pub gave-none : (p lo hi : ℕ) → Err p ≡ place st.rows q → length st.rows < st.capacity
      → lo ≡ lowest cmp (value st.rows) (label st.rows) (length st.rows) q → hi ≡ highest cmp (value st.rows) (label st.rows) (length st.rows) q → hi ≤ lo → Gave st q (Err NoLabel) bs bs
  gave-none p lo hi e h a c g =
      same (Err NoLabel) (answer-none st q (before-place st q p e).is h (free-no st q i.valid lo hi a c g)) (λ y w. let u : ◌≡◌ {A = ℕ} 0 1 = cc in omega arith)

  -- ---- and the one that stores
  pub gave-new : (p lo hi : ℕ) (exit : List ℕ) → Err p ≡ place st.rows q → length st.rows < st.capacity
      → lo ≡ lowest cmp (value st.rows) (label st.rows) (length st.rows) q → hi ≡ highest cmp (value st.rows) (label st.rows) (length st.rows) q → lo < hi
      → exit ≡ paste_w bs 0 (encode (stored (Ok (New ((lo + hi - 1) / 2))) st q)) → Gave st q (Ok (New ((lo + hi - 1) / 2))) bs exit
  gave-new p lo hi exit e h a c g w =
      let x = (lo + hi - 1) / 2 in
      let y : answer st q ≡ Ok (New x) = answer-new st q (before-place st q p e).is h (free-yes st q i.valid lo hi a c g) ∙ ap (λ (y : ℕ). Ok (New y)) (sym (half_is st q i.valid lo hi a c)) in
      record { answers = sym y; bytes = w ∙ ap (λ (s : State). paste_w bs 0 (encode s)) (sym (after-as st q (Ok (New x)) y)) }
