-- From the place of a value to its neighbours' labels, and whether one is free between them. Assumes nothing.
use mathlib.Core.Path.{◌≡◌, refl, sym, ◌∙◌}
use mathlib.Core.Bool.{true, false}
use mathlib.Core.List.{List}
use mathlib.Core.Option.{Option, none, some}
use Prim.Native.Nat.{ℕ, ◌+◌, ◌-◌, ◌/◌, ◌≤◌, ◌<◌}
use native.Mathlib.Omega.{arith}
use lib.ListN.{length, get_or}
use borrow.Author.Tests.{lt-ltb, le-ltb}
use Rattle.std.proofs.Common.{Ok, Err}
use Rattle.fast_compare.specs.Labels.{below, known, floor, ceiling, lowest, highest, free, half, sorted}
use Rattle.fast_compare.specs.Map.{Value, cmp, State, value, label, Valid, placed, place}
use Rattle.fast_compare.proofs.Ranks.{below_alike, below-most, below_top, place_of}
use Rattle.fast_compare.proofs.Neighbours.{none-known, some_known, lower-none, lower-at, upper-at, upper-none}
use Rattle.fast_compare.proofs.Maps.{cmp-lawful}
use Rattle.fast_compare.proofs.Images.{ranked}

module _ (st : State) (q : Value) where
  abbrev f : ℕ → Value
  f = value st.rows

  abbrev l : ℕ → ℕ
  l = label st.rows

  abbrev n : ℕ
  n = length st.rows

  abbrev o : List ℕ
  o = sorted cmp (value st.rows) (length st.rows)

  -- ---- what a place says
  pub record Known-at (p : ℕ) : Type 0 where
    pub row : ℕ
    pub is : known cmp f n q ≡ some row
    pub place_is : p ≡ below cmp f n q

  pub at_place : (p : ℕ) → Ok p ≡ place st.rows q → Known-at p
  unfolding place placed
  at_place p e = go (known cmp f n q) refl e
    where
      go : (k : Option ℕ) → known cmp f n q ≡ k → Ok p ≡ placed k (below cmp f n q) → Known-at p
      go (some i) h e = record { row = i; is = h; place_is = cc }
      go none h e = absurd (let z : ◌≡◌ {A = ℕ} 0 1 = cc in omega arith)

  pub record New-at (p : ℕ) : Type 0 where
    pub is : known cmp f n q ≡ none
    pub place_is : p ≡ below cmp f n q

  pub before-place : (p : ℕ) → Err p ≡ place st.rows q → New-at p
  unfolding place placed
  before-place p e = go (known cmp f n q) refl e
    where
      go : (k : Option ℕ) → known cmp f n q ≡ k → Err p ≡ placed k (below cmp f n q) → New-at p
      go (some i) h e = absurd (let z : ◌≡◌ {A = ℕ} 0 1 = cc in omega arith)
      go none h e = record { is = h; place_is = cc }

  module _ (val : Valid st) where
    -- a known value stands at its place
    pub known-row : (p : ℕ) (k : Known-at p) → (p < n) × (get_or o p 0 ≡ k.row)
    known-row p k =
        let s = some_known cmp-lawful f n q k.row k.is in
        let b : below cmp f n (f k.row) ≡ p = below_alike cmp-lawful f n (f k.row) q s.1 ∙ sym k.place_is in
        (omega (arith, below_top cmp-lawful f n k.row s.0), rw b at (place_of cmp-lawful f n o val.labelled.distinct (ranked st val) k.row s.0))

    pub place-few : (p : ℕ) → p ≡ below cmp f n q → p ≤ n
    place-few p e = omega (arith, below-most cmp-lawful f n q)

    -- ---- the neighbours' labels by place
    pub lowest-none : 0 ≡ below cmp f n q → 0 ≡ lowest cmp f l n q
    unfolding lowest floor
    lowest-none e = rw (lower-none cmp-lawful f n o (ranked st val) q (sym e))

    pub lowest-at : (p : ℕ) → p ≡ below cmp f n q → (p ≡ 0 → ⊥) → l (get_or o (p - 1) 0) + 1 ≡ lowest cmp f l n q
    unfolding lowest floor
    lowest-at p e h = rw (lower-at cmp-lawful f n o (ranked st val) q val.labelled.distinct (p - 1) (omega arith))

    pub highest-none : known cmp f n q ≡ none → n ≡ below cmp f n q → 4294967296 ≡ highest cmp f l n q
    unfolding highest ceiling
    highest-none k e = rw (upper-none cmp-lawful f n o (ranked st val) q (none-known cmp-lawful f n q k) val.labelled.distinct (omega arith))

    pub highest-at : known cmp f n q ≡ none → (p : ℕ) → p ≡ below cmp f n q → (p ≡ n → ⊥) → l (get_or o p 0) ≡ highest cmp f l n q
    unfolding highest ceiling
    highest-at k p e h =
        rw (e, upper-at cmp-lawful f n o (ranked st val) q (none-known cmp-lawful f n q k) val.labelled.distinct (omega (arith, below-most cmp-lawful f n q)))

    -- ---- the answers
    pub free-no : (lo hi : ℕ) → lo ≡ lowest cmp f l n q → hi ≡ highest cmp f l n q → hi ≤ lo → free cmp f l n q ≡ false
    unfolding free
    free-no lo hi a b h = le-ltb (lowest cmp f l n q) (highest cmp f l n q) (omega arith)

    pub free-yes : (lo hi : ℕ) → lo ≡ lowest cmp f l n q → hi ≡ highest cmp f l n q → lo < hi → free cmp f l n q ≡ true
    unfolding free
    free-yes lo hi a b h = lt-ltb (lowest cmp f l n q) (highest cmp f l n q) (omega arith)

    pub half_is : (lo hi : ℕ) → lo ≡ lowest cmp f l n q → hi ≡ highest cmp f l n q → (lo + hi - 1) / 2 ≡ half cmp f l n q
    unfolding half
    half_is lo hi a b = rw (a, b)
