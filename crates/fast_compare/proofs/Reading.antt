-- What a sound map's words say of its state, and the binary search in its order. Assumes nothing.
use mathlib.Core.Path.{◌≡◌, sym, ap, ◌∙◌}
use mathlib.Core.List.{List}
use Prim.Native.Nat.{ℕ, zero, suc, ◌+◌, ◌-◌, ◌*◌, ◌≤◌, ◌<◌}
use native.Mathlib.Nat.{mul-le-mul, mul-le-mul_right}
use native.Mathlib.Omega.{arith}
use lib.ListN.{length, get_or}
use Rattle.std.proofs.Common.{Result, Err}
use Rattle.words.specs.Kinds.{payload}
use Rattle.words.specs.Words.{words}
use Rattle.words.proofs.Tables.{row_fits}
use Rattle.std.specs.declared.cmp.Ordering.{Ordering}
use Rattle.std.specs.declared.cmp.Ordering.TheVariants.{Less, Equal, Greater}
use Rattle.fast_compare.specs.Labels.{below, sorted}
use Rattle.fast_compare.specs.Map.{Value, cmp, State, Valid, value, label, placed, place}
use Rattle.fast_compare.specs.Halving.{Halved, found, between}
use native.Mathlib.Decide.{dec_lt}
use Rattle.fast_compare.specs.Layout.{size, Is, Sound, ratio_words, value_at, HasRatio}
use Rattle.fast_compare.proofs.Ranks.{equal-greater, turn, below-most, place-less, place-equal, place-greater}
use Rattle.fast_compare.proofs.Neighbours.{known_at, known-none, new-at}
use Rattle.fast_compare.proofs.Maps.{cmp-lawful}
use Rattle.fast_compare.proofs.Images.{ranked, header, row_is, order-get}
use Rattle.fast_compare.proofs.Exact.{fits-words, head_of, count_of}

-- the rows of a map take few words
pub rows-small : (m c : ℕ) → m ≤ 64 → c ≤ 4096 → c * (m + 3) ≤ 274432
rows-small m c h k = mul-le-mul {n₁ = c} {m₁ = m + 3} {n₂ = 4096} {m₂ = 67} k (omega arith)

-- the numbers of the header, m variables, capacity c and n rows, and that what they name fits
pub record Head (len m c n : ℕ) : Type 0 where
  pub vars : m ≤ 64
  pub cap : c ≤ 4096
  pub few : n ≤ c
  pub rows : c * (m + 3) ≤ 274432
  pub used : n * (m + 3) ≤ c * (m + 3)
  pub room : 16 + 4 * (c * (m + 3)) + 4 * c ≤ len

abbrev pub HeadOf : List ℕ → Type 0
HeadOf bs = Head (length bs) (get_or (words bs) 1 0) (get_or (words bs) 2 0) (get_or (words bs) 3 0)

pub head : (bs : List ℕ) → Sound bs → HeadOf bs
head bs s =
    let h = head_of bs s.state s.is in
    let m = get_or (words bs) 1 0 in
    let c = get_or (words bs) 2 0 in
    let em = h.variables in
    let ec = h.capacity in
    let room : 4 * size m c ≤ length bs = rw (em, ec) h.room in
    record {
      vars = omega (arith, h.vars-to);
      cap = omega (arith, h.cap-to);
      few = omega (arith, h.few);
      rows = rows-small m c (omega (arith, h.vars-to)) (omega (arith, h.cap-to));
      used = mul-le-mul_right {m = get_or (words bs) 3 0} {n = c} (m + 3) (omega (arith, h.few));
      room = omega arith;
    }

-- a row below n is within the rows
pub row-used : (m n x : ℕ) → x < n → x * (m + 3) + (m + 3) ≤ n * (m + 3)
row-used m n x h = row_fits x n (m + 3) h

-- and fits
pub row_room : (bs : List ℕ) → Sound bs → (x v : ℕ) → x < get_or (words bs) 3 0 → v ≡ get_or (words bs) 1 0
    → ((x * (v + 3) + (v + 3) ≤ 274432) × (v ≤ 64)) × (16 + 4 * (x * (v + 3)) + 4 * (v + 3) ≤ length bs)
row_room bs s x v l e =
    let h : HeadOf bs = head bs s in
    let u = row-used (get_or (words bs) 1 0) (get_or (words bs) 3 0) x l in
    rw e ((omega (arith, h.rows, h.used), h.vars), omega (arith, h.used, h.room))

module _ (bs : List ℕ) (st : State) (i : Is st bs) where
  abbrev W : List ℕ
  W = words bs

  abbrev n : ℕ
  n = length st.rows

  fits : size st.variables st.capacity ≤ length W
  fits = fits-words bs st i

  pub vars-of : get_or W 1 0 ≡ st.variables
  vars-of = (header st i.valid W fits i.is).h1

  pub cap-of : get_or W 2 0 ≡ st.capacity
  cap-of = (header st i.valid W fits i.is).h2

  pub label-of : (x : ℕ) → x < n → get_or W (4 + x * (get_or W 1 0 + 3) + (get_or W 1 0 + 2)) 0 ≡ label st.rows x
  label-of x h = rw vars-of (row_is st i.valid W fits i.is x h).label_is

  pub value-of : (x : ℕ) → x < n → value_at W (get_or W 1 0) (4 + x * (get_or W 1 0 + 3)) ≡ value st.rows x
  value-of x h = rw vars-of (row_is st i.valid W fits i.is x h).value-is

  pub index_of : (x : ℕ) → x < n → payload (get_or W (4 + x * (get_or W 1 0 + 3)) 0) ≡ (value st.rows x).index
  unfolding value_at
  index_of x h = ap (λ (v : Value). v.index) (value-of x h)

  pub ratio-of : (x : ℕ) → x < n → ratio_words W (get_or W 1 0) (4 + x * (get_or W 1 0 + 3) + 1) ≡ 0 → ⊥
  ratio-of x h = rw vars-of (row_is st i.valid W fits i.is x h).ok.some

  pub place_at : (k : ℕ) → k < n → get_or W (4 + get_or W 2 0 * (get_or W 1 0 + 3) + k) 0 ≡ get_or (sorted cmp (value st.rows) n) k 0
  place_at k h = rw (vars-of, cap-of) (order-get st i.valid W fits i.is k h)

  pub place_inside : (k : ℕ) → k < n → get_or (sorted cmp (value st.rows) n) k 0 < n
  place_inside k h = (ranked st i.valid).inside k h

pub has-ratio : (bs : List ℕ) → Sound bs → (x : ℕ) → x < get_or (words bs) 3 0 → HasRatio (words bs) (4 + x * (get_or (words bs) 1 0 + 3) + 1)
has-ratio bs s x h = record {
  vars = get_or (words bs) 1 0;
  few = omega (arith, (head bs s).vars);
  some = ratio-of bs s.state s.is x (omega (arith, count_of bs s.state s.is));
}

-- ---- what halving the sorted order finds is the place of q
module _ (st : State) (val : Valid st) (q : Value) (answers : ℕ → Ordering → Type 0) (c : ℕ) (few : c ≡ length st.rows) where
  abbrev f : ℕ → Value
  f = value st.rows

  abbrev o : List ℕ
  o = sorted cmp (value st.rows) (length st.rows)

  pub halved-place : (r : Result ℕ ℕ) → Halved answers c r → ((p : ℕ) (r : Ordering) → answers p r → r ≡ cmp (f (get_or o p 0)) q) → r ≡ place st.rows q
  unfolding place placed
  halved-place _ (found p h e) told =
      let z : cmp (f (get_or o p 0)) q ≡ Equal = sym (told p Equal e) in
      let l : p < length st.rows = omega arith in
      let b = place-equal cmp-lawful f (length st.rows) o (ranked st val) q p l z in
      rw (known_at cmp-lawful f (length st.rows) o (ranked st val) q val.labelled.distinct p l z, b)
  halved-place _ (between p h before here) told =
      let b : p ≡ below cmp f (length st.rows) q = omega (arith, low p h before, high h here) in
      let new = new-at cmp-lawful f (length st.rows) o (ranked st val) q val.labelled.distinct (λ k e l z.
      let k_is : k ≡ p = omega arith in
      equal-greater (sym z ∙ rw k_is (sym (told p Greater (here (omega arith)))))) in
      rw (known-none cmp-lawful f (length st.rows) q new) (ap Err b)
    where
      low : (p : ℕ) → p ≤ c → (0 < p → answers (p - 1) Less) → p ≤ below cmp f (length st.rows) q
      low zero h before = omega arith
      low (suc p) h before =
          let e : suc p - 1 ≡ p = omega arith in
          omega (arith, place-less cmp-lawful f (length st.rows) o (ranked st val) q p (omega arith) (sym (told p Less (rw e at (before (omega arith))))))

      high : p ≤ c → (p < c → answers p Greater) → below cmp f (length st.rows) q ≤ p
      high h here = elim (dec_lt p c) [
        | yes l ↦ place-greater cmp-lawful f (length st.rows) o (ranked st val) q p (omega arith)
            (turn cmp-lawful (f (get_or o p 0)) q (sym (told p Greater (here l))))
        | no l ↦ omega (arith, below-most cmp-lawful f (length st.rows) q)
      ]
