-- Calls keep a map sound, and what its place says of a query against every row. Assumes nothing.
use mathlib.Core.Path.{◌≡◌, refl}
use mathlib.Core.List.{List}
use mathlib.Core.Logic.{◌↔◌}
use Prim.Native.Nat.{ℕ, ◌≤◌, ◌<◌}
use native.Mathlib.Omega.{arith}
use lib.ListN.{length, get_or}
use Rattle.std.proofs.Common.{Result, Ok, Err}
use Rattle.std.specs.Ordering.{nat_cmp}
use Rattle.words.specs.Words.{paste_w}
use Rattle.std.specs.declared.cmp.Ordering.TheVariants.{Less}
use Rattle.fast_compare.specs.Labels.{sorted}
use Rattle.fast_compare.specs.Map.{Value, cmp, Good, State, value, label, Valid, place, answer, stored, after, rebuild}
use Rattle.fast_compare.specs.Layout.{encode, Is, Gave}
use Rattle.fast_compare.specs.declared.Comparer.{Comparer}
use Rattle.fast_compare.specs.declared.Comparer.TheVariants.{Known, New}
use Rattle.fast_compare.specs.declared.Unlabelled.{Unlabelled}
use Rattle.fast_compare.proofs.Neighbours.{none-known, some_known}
use Rattle.fast_compare.proofs.Rising.{compare-at, compare-before, compare-last}
use Rattle.fast_compare.proofs.Maps.{cmp-lawful, after-valid, rebuild-valid}
use Rattle.fast_compare.proofs.Images.{ranked}
use Rattle.fast_compare.proofs.Exact.{pasted}
use Rattle.fast_compare.proofs.Giving.{at_place, before-place, known-row}

-- ---- soundness is kept
-- a call keeps the numbers of a map, so what it leaves has the same length
stored-vars : (a : Result Comparer Unlabelled) (st : State) (q : Value) → (stored a st q).variables ≡ st.variables
unfolding stored
stored-vars (Ok (Known x)) st q = refl
stored-vars (Ok (New x)) st q = refl
stored-vars (Err r) st q = refl

stored-cap : (a : Result Comparer Unlabelled) (st : State) (q : Value) → (stored a st q).capacity ≡ st.capacity
unfolding stored
stored-cap (Ok (Known x)) st q = refl
stored-cap (Ok (New x)) st q = refl
stored-cap (Err r) st q = refl

after-vars : (st : State) (q : Value) → (after st q).variables ≡ st.variables
unfolding after
after-vars st q = stored-vars (answer st q) st q

after-cap : (st : State) (q : Value) → (after st q).capacity ≡ st.capacity
unfolding after
after-cap st q = stored-cap (answer st q) st q

-- the map after a call, in the bytes that it leaves
pub after_is : (bs exit : List ℕ) (st : State) (q : Value) → Is st bs → Good st.variables q → exit ≡ paste_w bs 0 (encode (after st q)) → Is (after st q) exit
after_is bs exit st q i g e =
    rw e (pasted (after st q) (after-valid st q i.valid g) bs (rw (after-vars st q, after-cap st q) i.room))

pub gave-sound : (bs exit : List ℕ) (st : State) (q : Value) (r : Result Comparer Unlabelled) → Is st bs → Good st.variables q → Gave st q r bs exit → Is (after st q) exit
gave-sound bs exit st q r i g w = after_is bs exit st q i g w.bytes

pub rebuild-is : (bs exit : List ℕ) (st : State) → Is st bs → exit ≡ paste_w bs 0 (encode (rebuild st)) → Is (rebuild st) exit
unfolding rebuild
rebuild-is bs exit st i e = rw e (pasted (rebuild st) (rebuild-valid st i.valid) bs i.room)

-- ---- a query by its place: comparing labels is comparing values
module _ (st : State) (val : Valid st) (q : Value) (i : ℕ) (h : i < length st.rows) where
  abbrev f : ℕ → Value
  f = value st.rows

  abbrev l : ℕ → ℕ
  l = label st.rows

  abbrev n : ℕ
  n = length st.rows

  abbrev o : List ℕ
  o = sorted cmp (value st.rows) (length st.rows)

  -- of a known query: the label at its place
  pub known-compare : (p : ℕ) → Ok p ≡ place st.rows q → cmp (f i) q ≡ nat_cmp (l i) (l (get_or o p 0))
  known-compare p e =
      let k = at_place st q p e in
      let w = known-row st q val p k in
      compare-at cmp-lawful f l n val.labelled o (ranked st val) q i h p w.0 (rw w.1 (some_known cmp-lawful f n q k.row k.is).1)

  -- of a new one: rows with labels below the one at its place are below it, the others above
  pub new-compare : (p : ℕ) → Err p ≡ place st.rows q → p < n
      → ((cmp (f i) q ≡ Less) ↔ (l i < l (get_or o p 0))) × ((cmp q (f i) ≡ Less) ↔ (l (get_or o p 0) ≤ l i))
  new-compare p e k =
      let z = before-place st q p e in
      compare-before cmp-lawful f l n val.labelled o (ranked st val) q i h (none-known cmp-lawful f n q z.is) p z.place_is k

  -- of a new one behind all: every row is below it
  pub last-compare : Err n ≡ place st.rows q → cmp (f i) q ≡ Less
  last-compare e =
      let z = before-place st q n e in
      compare-last cmp-lawful f l n val.labelled o (ranked st val) q i h (omega (arith, z.place_is))
