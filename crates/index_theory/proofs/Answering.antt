-- Each query's answer, over the entries of a valid state. Assumes nothing.
use mathlib.Core.Path.{◌≡◌, refl, sym}
use mathlib.Core.Bool.{Bool, true, false, not, cond, ◌&&◌}
use mathlib.Core.Option.{Option, none, some}
use mathlib.Core.List.{List}
use mathlib.Core.Logic.{◌↔◌}
use Prim.Native.Nat.{ℕ, ◌+◌, ◌<◌}
use lib.Dec.{ltb}
use native.Mathlib.Nat.{add-zero}
use lib.ListN.{length}
use borrow.Author.Tests.{eq-eqb}
use Rattle.words.specs.Kinds.{answer_word}
use Rattle.monomial.specs.Operations.{Divides}
use Rattle.monomial.proofs.Divisions.{divides-true, true-divides}
use Rattle.monomial.proofs.Canon.{both_true}
use Rattle.fast_compare.specs.Map as map
use Rattle.kd_theory.specs.Bag.{◌∈◌}
use Rattle.kd_theory.specs.Tree.{inorder}
use Rattle.kd_theory.specs.Queries.{hit, largest, reducer, NoneOf, IsFirst, IsFirstLargest, IsReducer, no-reducer, first-regular, last-singular}
use Rattle.kd_theory.proofs.QueryLaws.{stands-in, around, first_found, largest-found, reducer-found}
use Rattle.index_theory.specs.Entries.{Entry, entry_at, ratio_of, above}
use Rattle.index_theory.specs.Meaning.{SomeEntry, Reduces, Regular, High, Low, Singular}
use Rattle.index_theory.specs.State.{State, Valid}
use Rattle.index_theory.specs.Searches.{Query, containment, reducing, high, low, singular, kind_for, process, find, is_divisor, is_reducer, is_regular, is_high, is_low, is_singular, ratio_at}
use Rattle.index_theory.specs.Calls.{Request, insertion, query, GoodRequest, yes, found, found_reducer, told, Done, serve}
use Rattle.index_theory.specs.Claims as claims
use Rattle.index_theory.specs.Claims.{YesNo, ReducerIs, no_reducer, a_regular, a_singular, BaseIs, no_divisor, the_largest, Finds, AnswerIs, ReducerTie, no_tied_reducer, first_regular, last_singular, BaseTie, no_tied_divisor, first_largest, Ties, StopsAt, StopsExact}
use Rattle.index_theory.proofs.Orders.{false-true, is_greater_lem, above-order}
use Rattle.index_theory.proofs.Places.{up_to-in, in-up_to}
use Rattle.index_theory.proofs.Prunes.{reducer-parts, high_parts, low_parts, singular-parts}
use Rattle.index_theory.proofs.Finds.{find-kept, find-folds}

-- ---- tests and meanings, at a place
module _ (es : List Entry) where
  pub divisor-is : (q : List ℕ) (e : ℕ) → Divides (entry_at es e).lm q → is_divisor es q e ≡ true
  unfolding is_divisor
  divisor-is q e h = divides-true _ q h

  pub is_divisor_lem : (q : List ℕ) (e : ℕ) → is_divisor es q e ≡ true → Divides (entry_at es e).lm q
  unfolding is_divisor
  is_divisor_lem q e h = true-divides _ q h

  pub reduces-is : (v : map.Value) (q : List ℕ) (e : ℕ) → Reduces v q (entry_at es e) → is_reducer es v q e ≡ true
  unfolding is_reducer
  reduces-is v q e h = rw (h.not-above, divides-true _ q h.divides)

  pub is-reducer : (v : map.Value) (q : List ℕ) (e : ℕ) → is_reducer es v q e ≡ true → Reduces v q (entry_at es e)
  is-reducer v q e h = let t = reducer-parts es v q e h in record { divides = true-divides _ q t.1; not-above = t.0 }

  pub high_is : (v : map.Value) (q : List ℕ) (e : ℕ) → High v q (entry_at es e) → is_high es v q e ≡ true
  unfolding is_high
  high_is v q e h = rw (h.higher, divides-true _ q h.divides)

  pub is-high : (v : map.Value) (q : List ℕ) (e : ℕ) → is_high es v q e ≡ true → High v q (entry_at es e)
  is-high v q e h = let t = high_parts es v q e h in record { divides = true-divides _ q t.1; higher = t.0 }

  pub low-is : (i : ℕ) (s : List ℕ) (e : ℕ) → Low i s (entry_at es e) → is_low es i s e ≡ true
  unfolding is_low
  low-is i s e h = rw (eq-eqb _ i h.same, divides-true _ s h.divides)

  pub is-low : (i : ℕ) (s : List ℕ) (e : ℕ) → is_low es i s e ≡ true → Low i s (entry_at es e)
  is-low i s e h = let t = low_parts es i s e h in record { same = t.0; divides = true-divides _ s t.1 }

  pub singular-is : (i : ℕ) (s l : List ℕ) (e : ℕ) → Singular i s l (entry_at es e) → is_singular es i s l e ≡ true
  unfolding is_singular
  singular-is i s l e h = rw (low-is i s e (record { same = h.same; divides = h.divides }), h.higher)

  pub is-singular : (i : ℕ) (s l : List ℕ) (e : ℕ) → is_singular es i s l e ≡ true → Singular i s l (entry_at es e)
  is-singular i s l e h =
      let t = singular-parts es i s l e h in
      let w = is-low i s e t.0 in
      record { same = w.same; divides = w.divides; higher = is_greater_lem _ t.1 }

  -- a regular reducer reduces: what is strictly lower is not above
  pub is-regular : (v : map.Value) (q : List ℕ) (e : ℕ) → Regular v q (entry_at es e) → is_regular es v e ≡ true
  unfolding is_regular
  is-regular v q e h = h.lower

  pub regular-is : (v : map.Value) (e : ℕ) → is_regular es v e ≡ true → above v (ratio_of (entry_at es e)) ≡ true
  unfolding is_regular
  regular-is v e h = h

  pub regular-reduces : (v : map.Value) (q : List ℕ) (e : ℕ) → Regular v q (entry_at es e) → is_reducer es v q e ≡ true
  regular-reduces v q e h = reduces-is v q e (record { divides = h.divides; not-above = above-order.turn v (ratio_of (entry_at es e)) h.lower })

  -- a reducer that is regular
  pub reducer-regular : (v : map.Value) (q : List ℕ) (e : ℕ) → is_reducer es v q e ≡ true → is_regular es v e ≡ true → Regular v q (entry_at es e)
  reducer-regular v q e h w = record { divides = (is-reducer v q e h).divides; lower = regular-is v e w }

-- ---- where a search stops
stops : (b : Bool) (X : Type 0) → (b ≡ true → X) → (X → b ≡ true) → (not b ≡ false) ↔ X
stops true X to from = (λ e. to refl, λ x. refl)
stops false X to from = (λ e. false-true (sym e), λ x. false-true (from x))

goes_on : (true ≡ false) ↔ ⊥
goes_on = (λ e. false-true (sym e), λ x. absurd x)

pub stops-exact : StopsExact
unfolding process hit largest reducer
stops-exact H (containment q) a e = stops (is_divisor H q e) _ (is_divisor_lem H q e) (divisor-is H q e)
stops-exact H (reducing v q) a e =
    stops (is_reducer H v q e && is_regular H v e) _
    (λ t. let b = both_true (is_reducer H v q e) (is_regular H v e) t in reducer-regular H v q e b.0 b.1)
    (λ h. rw (regular-reduces H v q e h, is-regular H v q e h) refl)
stops-exact H (high v q) a e = goes_on
stops-exact H (low i s) a e = goes_on
stops-exact H (singular i s l) a e = stops (is_singular H i s l e) _ (is-singular H i s l e) (singular-is H i s l e)

-- ---- what is found, in the meaning's words, by places
module _ (H : List Entry) (xs : List ℕ) where
  base-tie : (P : Entry → Type 0) (p : ℕ → Bool) → ((e : ℕ) → p e ≡ true → P (entry_at H e)) → ((e : ℕ) → P (entry_at H e) → p e ≡ true)
      → (a : Option ℕ) → IsFirstLargest (λ e. p e ≡ true) above (ratio_at H) xs a → BaseTie H xs P (found H a)
  unfolding IsFirstLargest found
  base-tie P p to from none h = no_tied_divisor (λ e m w. h e m (from e w))
  base-tie P p to from (some b) h =
      first_largest b (record {
        stands = h.stands;
        so = to b h.so;
        before-smaller = λ e m w. h.before-smaller e m (from e w);
        behind-no-larger = λ e m w. h.behind-no-larger e m (from e w);
      })

  reducer-tie : (v : map.Value) (q : List ℕ) (a : Option ℕ) → IsReducer (λ e. is_reducer H v q e ≡ true) (λ e. is_regular H v e ≡ true) xs a → ReducerTie H xs v q (found_reducer H v a)
  unfolding found_reducer
  reducer-tie v q _ (no-reducer h) = no_tied_reducer (λ e m w. h e m (reduces-is H v q e w))
  reducer-tie v q _ (first-regular b h) =
      rw (h.so.1, add-zero ((entry_at H b).number + 1))
      (first_regular b (record {
        stands = h.stands;
        so = reducer-regular H v q b h.so.0 h.so.1;
        none_before = λ e m w. h.none_before e m (regular-reduces H v q e w, is-regular H v q e w);
      }))
  reducer-tie v q _ (last-singular b h free) = go (is_regular H v b) refl
    where
      no-regular : NoneOf (λ e. Regular v q (entry_at H e)) xs
      no-regular e m w = free e m (regular-reduces H v q e w, is-regular H v q e w)

      go : (t : Bool) → is_regular H v b ≡ t → ReducerTie H xs v q (answer_word ((entry_at H b).number + 1 + cond t 0 134217728))
      go true w = absurd (free b (stands-in h.stands) (h.so, w))
      go false w = last_singular b (record { stands = h.stands; so = is-reducer H v q b h.so; none-behind = λ e m u. h.none-behind e m (reduces-is H v q e u) }) no-regular

  -- with no regard to the order, where xs has every place
  module _ (in-xs : (e : ℕ) → e < length H → e ∈ xs) (xs-in : (e : ℕ) → e ∈ xs → e < length H) where
    yes-no : (P : Entry → Type 0) (p : ℕ → Bool) → ((e : ℕ) → p e ≡ true → P (entry_at H e)) → ((e : ℕ) → P (entry_at H e) → p e ≡ true)
        → (a : Option ℕ) → IsFirst (λ e. p e ≡ true) xs a → YesNo (SomeEntry P H) (yes a)
    unfolding IsFirst yes
    yes-no P p to from none h = claims.no (λ x. h x.place (in-xs x.place x.inside) (from x.place x.so))
    yes-no P p to from (some b) h = claims.yes (record { place = b; inside = xs-in b (stands-in h.stands); so = to b h.so })

    base-is : (P : Entry → Type 0) (a : ℕ) → BaseTie H xs P a → BaseIs H P a
    base-is P _ (no_tied_divisor h) = no_divisor (λ x. h x.place (in-xs x.place x.inside) x.so)
    base-is P _ (first_largest b h) =
        the_largest b (xs-in b (stands-in h.stands)) (record {
          so = h.so;
          largest = λ i l. around (λ e. P (entry_at H e) → above (ratio_at H e) (ratio_at H b) ≡ false) h.stands
              (λ e m w. above-order.turn (ratio_at H b) (ratio_at H e) (h.before-smaller e m w))
              (λ w. above-order.same (ratio_at H b))
              h.behind-no-larger i (in-xs i l);
        })

    reducer-is : (v : map.Value) (q : List ℕ) (a : ℕ) → ReducerTie H xs v q a → ReducerIs H v q a
    reducer-is v q _ (no_tied_reducer h) = no_reducer (λ x. h x.place (in-xs x.place x.inside) x.so)
    reducer-is v q _ (first_regular b h) = a_regular b (xs-in b (stands-in h.stands)) h.so
    reducer-is v q _ (last_singular b h free) =
        a_singular b (xs-in b (stands-in h.stands)) h.so (λ x. free x.place (in-xs x.place x.inside) x.so)

answer-of : (b : Bool) (x y : Done) → (cond {A = Done} b x y).answer ≡ cond b x.answer y.answer
answer-of true x y = refl
answer-of false x y = refl

-- ---- a query
module _ (st : State) (val : Valid st) where
  abbrev H : List Entry
  H = st.entries

  module _ (r : Query) where
    abbrev left : List ℕ
    left = inorder (find st r).tree

    -- the places in the tree are those of the entries
    in_left : (e : ℕ) → e < length H → e ∈ left
    in_left e h = rw ((find-kept st val r).same e) at (rw (val.once e) at (up_to-in (length H) e h))

    left_in : (e : ℕ) → e ∈ left → e < length H
    left_in e h = in-up_to (length H) e (rw (val.once e) (rw ((find-kept st val r).same e) h))

  pub query-ties : (r : Query) → st.kind ≡ kind_for r → Ties H (inorder (find st r).tree) r (told H r (find st r).acc)
  unfolding process
  query-ties (containment q) k = tt
  query-ties (reducing v q) k = reducer-tie H _ v q _ (rw (find-folds st val (reducing v q) k) (reducer-found (is_reducer H v q) (is_regular H v) _))
  query-ties (high v q) k = base-tie H _ (High v q) (is_high H v q) (is-high H v q) (high_is H v q) _ (rw (find-folds st val (high v q) k) (largest-found (is_high H v q) above above-order (ratio_at H) _))
  query-ties (low i s) k = base-tie H _ (Low i s) (is_low H i s) (is-low H i s) (low-is H i s) _ (rw (find-folds st val (low i s) k) (largest-found (is_low H i s) above above-order (ratio_at H) _))
  query-ties (singular i s l) k = tt

  pub query-finds : (r : Query) → st.kind ≡ kind_for r → Finds H r (told H r (find st r).acc)
  unfolding process
  query-finds (containment q) k =
      yes-no H _ (in_left (containment q)) (left_in (containment q)) (λ e. Divides e.lm q) (is_divisor H q) (is_divisor_lem H q) (divisor-is H q) _
      (rw (find-folds st val (containment q) k) (first_found (is_divisor H q) _))
  query-finds (reducing v q) k = reducer-is H _ (in_left (reducing v q)) (left_in (reducing v q)) v q _ (query-ties (reducing v q) k)
  query-finds (high v q) k = base-is H _ (in_left (high v q)) (left_in (high v q)) (High v q) _ (query-ties (high v q) k)
  query-finds (low i s) k = base-is H _ (in_left (low i s)) (left_in (low i s)) (Low i s) _ (query-ties (low i s) k)
  query-finds (singular i s l) k =
      yes-no H _ (in_left (singular i s l)) (left_in (singular i s l)) (Singular i s l) (is_singular H i s l) (is-singular H i s l) (singular-is H i s l) _
      (rw (find-folds st val (singular i s l) k) (first_found (is_singular H i s l) _))

  pub serve-answers : (r : Request) → GoodRequest st.kind st.variables r → AnswerIs st.capacity H r (serve st r).answer
  unfolding serve
  serve-answers (insertion e) f = answer-of (ltb (length st.entries) st.capacity) _ _
  serve-answers (query r) f = query-finds r f.0
