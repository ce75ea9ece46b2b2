-- The label map stays valid, and what its answers mean. Assumes nothing.
use mathlib.Core.Path.{◌≡◌, refl, sym, ap, ◌∙◌}
use mathlib.Core.Bool.{Bool, true, false}
use mathlib.Core.Option.{Option, none, some}
use mathlib.Core.List.{List, [], ◌∷◌, ◌++◌}
use mathlib.Core.Logic.{◌↔◌}
use Prim.Native.Nat.{ℕ, zero, suc, ◌≤◌, ◌<◌}
use native.Mathlib.Omega.{arith}
use native.Mathlib.Decide.{dec_lt}
use lib.Dec.{ltb}
use lib.ListN.{length, length-append, get_or-append}
use lib.Seq.{get_or_at}
use borrow.Author.Tests.{ltb-true, ltb-false, lt-ltb, le-ltb}
use Rattle.std.proofs.Common.{Result, Ok, Err}
use Rattle.std.specs.Ordering.{nat_cmp, ordering_then}
use Rattle.monomial_ordering.specs.Order.{order}
use Rattle.std.specs.declared.cmp.Ordering.{Ordering}
use Rattle.std.specs.declared.cmp.Ordering.TheVariants.{Less, Equal, Greater}
use Rattle.std.specs.Cmp.{IsTotalOrder}
use Rattle.std.proofs.lemmas.Cmp.{nat_cmp_total, on_total, then_total, tied_itself}
use Rattle.monomial_ordering.proofs.Laws.{order-total, order-equal, compare_same}
use Rattle.fast_compare.specs.Labels.{sorted, known, free, half, rebuilt, Labelled}
use Rattle.fast_compare.specs.Map.{Value, cmp, Good, Row, State, row, value, label, Valid, given, answer, stored, after, relabelled, rebuild}
use Rattle.fast_compare.specs.declared.Comparer.{Comparer}
use Rattle.fast_compare.specs.declared.Comparer.TheVariants.{Known, New}
use Rattle.fast_compare.specs.declared.Unlabelled.{Unlabelled}
use Rattle.fast_compare.specs.declared.Unlabelled.TheVariants.{Full, NoLabel}
use Rattle.words.proofs.Tables.{never}
use Rattle.fast_compare.proofs.Ranks.{less_equal, equal-greater, sorted_ext}
use Rattle.fast_compare.proofs.Neighbours.{known-none, none-known, some_known}
use Rattle.fast_compare.proofs.Rising.{Between, free-iff, half-between, insert-labelled, rebuilt-labelled, rebuilt-free}

-- ---- values
pub cmp-lawful : IsTotalOrder cmp
unfolding cmp
cmp-lawful = then_total (on_total (λ (v : Value). v.index) nat_cmp_total) (on_total (λ (v : Value). v.ratio) (order-total 2))

both_equal : (c d : Ordering) → ordering_then c d ≡ Equal → (c ≡ Equal) × (d ≡ Equal)
both_equal Less d e = less_equal e
both_equal Equal d e = (refl, e)
both_equal Greater d e = equal-greater (sym e)

value-eq : (a b : Value) → a.index ≡ b.index → a.ratio ≡ b.ratio → a ≡ b
value-eq a b e g = λ i. record { index = e i; ratio = g i }

-- canonical values compare as equal exactly where they are the same
pub cmp-equal : (m : ℕ) (a b : Value) → Good m a → Good m b → (cmp a b ≡ Equal) ↔ (a ≡ b)
unfolding cmp
cmp-equal m a b ga gb = (to, from)
  where
    to : ordering_then (nat_cmp a.index b.index) (order 2 a.ratio b.ratio) ≡ Equal → a ≡ b
    to e =
        let z = both_equal (nat_cmp a.index b.index) (order 2 a.ratio b.ratio) e in
        value-eq a b (compare_same a.index b.index z.0) ((order-equal 2 m a.ratio b.ratio (omega arith) ga.canonical gb.canonical).0 z.1)

    from : a ≡ b → ordering_then (nat_cmp a.index b.index) (order 2 a.ratio b.ratio) ≡ Equal
    from e = rw e (tied_itself cmp-lawful b)

-- ---- rows
pub row_old : (rs : List Row) (r : Row) (i : ℕ) → i < length rs → row (rs ++ (r ∷ [])) i ≡ row rs i
unfolding row
row_old rs r i h = get_or-append rs (r ∷ []) _ i h

pub row_new : (rs : List Row) (r : Row) → row (rs ++ (r ∷ [])) (length rs) ≡ r
unfolding row
row_new rs r = get_or_at rs r [] _ (length rs) refl

pub value-old : (rs : List Row) (r : Row) (i : ℕ) → i < length rs → value (rs ++ (r ∷ [])) i ≡ value rs i
value-old rs r i h = ap (λ (z : Row). z.value) (row_old rs r i h)

pub value-new : (rs : List Row) (r : Row) → value (rs ++ (r ∷ [])) (length rs) ≡ r.value
value-new rs r = ap (λ (z : Row). z.value) (row_new rs r)

pub label-old : (rs : List Row) (r : Row) (i : ℕ) → i < length rs → label (rs ++ (r ∷ [])) i ≡ label rs i
label-old rs r i h = ap (λ (z : Row). z.label) (row_old rs r i h)

pub label-new : (rs : List Row) (r : Row) → label (rs ++ (r ∷ [])) (length rs) ≡ r.label
label-new rs r = ap (λ (z : Row). z.label) (row_new rs r)

pub length-relabelled : (l : ℕ → ℕ) (rs : List Row) → length (relabelled l rs) ≡ length rs
unfolding relabelled
length-relabelled l [] = refl
length-relabelled l (r ∷ rs) = ap suc (length-relabelled (λ i. l (suc i)) rs)

pub value-relabelled : (l : ℕ → ℕ) (rs : List Row) (i : ℕ) → value (relabelled l rs) i ≡ value rs i
unfolding relabelled row
value-relabelled l [] i = refl
value-relabelled l (r ∷ rs) zero = refl
value-relabelled l (r ∷ rs) (suc i) = value-relabelled (λ i. l (suc i)) rs i

pub label-relabelled : (l : ℕ → ℕ) (rs : List Row) (i : ℕ) → i < length rs → label (relabelled l rs) i ≡ l i
unfolding relabelled row
label-relabelled l [] i h = absurd (omega arith)
label-relabelled l (r ∷ rs) zero h = refl
label-relabelled l (r ∷ rs) (suc i) h = label-relabelled (λ i. l (suc i)) rs i (omega arith)

labelled-as : (f g : ℕ → Value) (l k : ℕ → ℕ) (n : ℕ) → ((i : ℕ) → i < n → g i ≡ f i) → ((i : ℕ) → i < n → k i ≡ l i) → Labelled cmp f l n → Labelled cmp g k n
labelled-as f g l k n ef el lab = record {
  distinct = λ i j hi hj e. lab.distinct i j hi hj (rw (ef i hi, ef j hj) at e);
  rising = λ i j hi hj e. rw (el i hi, el j hj) (lab.rising i j hi hj (rw (ef i hi, ef j hj) at e));
  small = λ i hi. rw (el i hi) (lab.small i hi);
}

-- ---- each answer, and when it is given
pub data Answered (st : State) (q : Value) : Result Comparer Unlabelled → Type 0 where
  is_known : (i : ℕ) → known cmp (value st.rows) (length st.rows) q ≡ some i → Answered st q (Ok (Known (label st.rows i)))
  is-full : known cmp (value st.rows) (length st.rows) q ≡ none → st.capacity ≤ length st.rows → Answered st q (Err Full)
  is_none : known cmp (value st.rows) (length st.rows) q ≡ none → length st.rows < st.capacity
      → free cmp (value st.rows) (label st.rows) (length st.rows) q ≡ false → Answered st q (Err NoLabel)
  is-new : known cmp (value st.rows) (length st.rows) q ≡ none → length st.rows < st.capacity
      → free cmp (value st.rows) (label st.rows) (length st.rows) q ≡ true
      → Answered st q (Ok (New (half cmp (value st.rows) (label st.rows) (length st.rows) q)))

module _ (st : State) (q : Value) where
  abbrev n : ℕ
  n = length st.rows

  abbrev f : ℕ → Value
  f = value st.rows

  abbrev l : ℕ → ℕ
  l = label st.rows

  pub answer-known : (i : ℕ) → known cmp f n q ≡ some i → answer st q ≡ Ok (Known (l i))
  unfolding answer given
  answer-known i e = rw e

  pub answer-full : known cmp f n q ≡ none → st.capacity ≤ n → answer st q ≡ Err Full
  unfolding answer given
  answer-full e h = rw (e, le-ltb n st.capacity h)

  pub answer-none : known cmp f n q ≡ none → n < st.capacity → free cmp f l n q ≡ false → answer st q ≡ Err NoLabel
  unfolding answer given
  answer-none e h g = rw (e, lt-ltb n st.capacity h, g)

  pub answer-new : known cmp f n q ≡ none → n < st.capacity → free cmp f l n q ≡ true → answer st q ≡ Ok (New (half cmp f l n q))
  unfolding answer given
  answer-new e h g = rw (e, lt-ltb n st.capacity h, g)

  pub answered : Answered st q (answer st q)
  answered = go (known cmp f n q) refl
    where
      labels : known cmp f n q ≡ none → n < st.capacity → (b : Bool) → free cmp f l n q ≡ b → Answered st q (answer st q)
      labels e h true g = rw (answer-new e h g) (is-new e h g)
      labels e h false g = rw (answer-none e h g) (is_none e h g)

      room : known cmp f n q ≡ none → (b : Bool) → ltb n st.capacity ≡ b → Answered st q (answer st q)
      room e true h = labels e (ltb-true n st.capacity h) (free cmp f l n q) refl
      room e false h = let z = ltb-false n st.capacity h in rw (answer-full e z) (is-full e z)

      go : (o : Option ℕ) → known cmp f n q ≡ o → Answered st q (answer st q)
      go (some i) e = rw (answer-known i e) (is_known i e)
      go none e = room e (ltb n st.capacity) refl

  -- ---- what is left of the map
  pub after-as : (a : Result Comparer Unlabelled) → answer st q ≡ a → after st q ≡ stored a st q
  unfolding after
  after-as a e = rw e

  pub stored-new : (x : ℕ) → stored (Ok (New x)) st q ≡ record { variables = st.variables; capacity = st.capacity; rows = st.rows ++ (record { value = q; label = x } ∷ []) }
  unfolding stored
  stored-new x = refl

  pub stored_same : (a : Result Comparer Unlabelled) → ((x : ℕ) → a ≡ Ok (New x) → ⊥) → stored a st q ≡ st
  unfolding stored
  stored_same (Ok (Known x)) h = refl
  stored_same (Ok (New x)) h = absurd (h x refl)
  stored_same (Err r) h = refl

  -- a known value, and a refusal, change nothing
  pub known_same : (i : ℕ) → known cmp f n q ≡ some i → after st q ≡ st
  known_same i e = after-as (Ok (Known (l i))) (answer-known i e) ∙ stored_same (Ok (Known (l i))) (λ x z. let y : ◌≡◌ {A = ℕ} 0 1 = cc in omega arith)

  module _ (val : Valid st) where
    -- a known value answers the label of the one row that holds it
    pub known-label : (i : ℕ) → i < n → f i ≡ q → answer st q ≡ Ok (Known (l i))
    known-label i h e = go (known cmp f n q) refl
      where
        same : cmp (f i) q ≡ Equal
        same = rw e (tied_itself cmp-lawful q)

        go : (o : Option ℕ) → known cmp f n q ≡ o → answer st q ≡ Ok (Known (l i))
        go none z = absurd (none-known cmp-lawful f n q z i h same)
        go (some j) z =
            let k = some_known cmp-lawful f n q j z in
            let y : j ≡ i = val.labelled.distinct j i k.0 h (cmp-lawful.congr (f j) q (f i) k.1 ∙ cmp-lawful.antisymm q (f i) ∙ rw same) in
            answer-known j z ∙ rw y

    -- 10 exactly when the value is new, there is a row for it, and no label lies free between its neighbours
    pub no-label-iff : (answer st q ≡ Err NoLabel) ↔ ((((i : ℕ) → i < n → cmp (f i) q ≡ Equal → ⊥) × (n < st.capacity)) × ((x : ℕ) → Between cmp f l n q x → ⊥))
    no-label-iff = (to, from)
      where
        to : answer st q ≡ Err NoLabel → (((i : ℕ) → i < n → cmp (f i) q ≡ Equal → ⊥) × (n < st.capacity)) × ((x : ℕ) → Between cmp f l n q x → ⊥)
        to e = go (answer st q) e answered
          where
            go : (a : Result Comparer Unlabelled) → a ≡ Err NoLabel → Answered st q a → (((i : ℕ) → i < n → cmp (f i) q ≡ Equal → ⊥) × (n < st.capacity)) × ((x : ℕ) → Between cmp f l n q x → ⊥)
            go _ e (is_known i k) = absurd (let z : ◌≡◌ {A = ℕ} 0 1 = cc in omega arith)
            go _ e (is-full k h) = absurd (let z : ◌≡◌ {A = ℕ} 0 1 = cc in omega arith)
            go _ e (is_none k h g) = ((none-known cmp-lawful f n q k, h), λ x b. never (sym g ∙ (free-iff cmp-lawful f l n val.labelled q).1 (x, b)))
            go _ e (is-new k h g) = absurd (let z : ◌≡◌ {A = ℕ} 0 1 = cc in omega arith)

        from : (((i : ℕ) → i < n → cmp (f i) q ≡ Equal → ⊥) × (n < st.capacity)) × ((x : ℕ) → Between cmp f l n q x → ⊥) → answer st q ≡ Err NoLabel
        from ((new, h), taken) = answer-none (known-none cmp-lawful f n q new) h (go (free cmp f l n q) refl)
          where
            go : (b : Bool) → free cmp f l n q ≡ b → b ≡ false
            go true e = absurd (let z = (free-iff cmp-lawful f l n val.labelled q).0 e in taken z.0 z.1)
            go false e = refl

    -- never on an empty map
    pub never-empty : n ≡ 0 → answer st q ≡ Err NoLabel → ⊥
    never-empty e z =
        (no-label-iff.0 z).1 0 (record { over = λ i h. absurd (omega arith); under = λ i h. absurd (omega arith); small = omega arith })

    -- a new value with a label between its neighbours' keeps the map valid
    new-valid : Good st.variables q → (x : ℕ) → known cmp f n q ≡ none → n < st.capacity → Between cmp f l n q x → Valid (stored (Ok (New x)) st q)
    new-valid g x e h b =
        let rs = st.rows in
        let r : Row = record { value = q; label = x } in
        let ln : length (rs ++ (r ∷ [])) ≡ suc n = length-append rs (r ∷ []) ∙ omega arith in
        rw (stored-new x) (record {
          vars-from = val.vars-from;
          vars-to = val.vars-to;
          cap-from = val.cap-from;
          cap-to = val.cap-to;
          few = omega arith;
          good = λ i k. elim (dec_lt i n) [
            | yes y ↦ rw (value-old rs r i y) (val.good i y)
            | no y ↦ let z : i ≡ n = omega arith in rw (z, value-new rs r) g
          ];
          labelled = rw ln (insert-labelled cmp-lawful f l n val.labelled (value (rs ++ (r ∷ []))) (label (rs ++ (r ∷ []))) q x
              (value-old rs r) (value-new rs r) (label-old rs r) (label-new rs r) (none-known cmp-lawful f n q e) b);
        })

    -- a call keeps the map valid
    pub after-valid : Good st.variables q → Valid (after st q)
    after-valid g = go (answer st q) refl answered
      where
        go : (a : Result Comparer Unlabelled) → answer st q ≡ a → Answered st q a → Valid (after st q)
        go _ e (is_known i k) = rw (after-as (Ok (Known (l i))) e, stored_same (Ok (Known (l i))) (λ x z. let y : ◌≡◌ {A = ℕ} 0 1 = cc in omega arith)) val
        go _ e (is-full k h) = rw (after-as (Err Full) e, stored_same (Err Full) (λ x z. let y : ◌≡◌ {A = ℕ} 0 1 = cc in omega arith)) val
        go _ e (is_none k h b) = rw (after-as (Err NoLabel) e, stored_same (Err NoLabel) (λ x z. let y : ◌≡◌ {A = ℕ} 0 1 = cc in omega arith)) val
        go _ e (is-new k h b) = rw (after-as (Ok (New (half cmp f l n q))) e) (new-valid g (half cmp f l n q) k h (half-between cmp-lawful f l n val.labelled q b))

-- ---- rebuild
module _ (st : State) (val : Valid st) where
  pub rebuild-length : length (rebuild st).rows ≡ length st.rows
  unfolding rebuild
  rebuild-length = length-relabelled _ st.rows

  pub rebuild-value : (i : ℕ) → value (rebuild st).rows i ≡ value st.rows i
  unfolding rebuild
  rebuild-value i = value-relabelled _ st.rows i

  pub rebuild-label : (i : ℕ) → i < length st.rows → label (rebuild st).rows i ≡ rebuilt cmp (value st.rows) (length st.rows) i
  unfolding rebuild
  rebuild-label i h = label-relabelled _ st.rows i h

  -- a rebuild keeps the map valid: the same rows, and labels that rise
  pub rebuild-valid : Valid (rebuild st)
  unfolding rebuild
  rebuild-valid = record {
    vars-from = val.vars-from;
    vars-to = val.vars-to;
    cap-from = val.cap-from;
    cap-to = val.cap-to;
    few = omega (arith, rebuild-length, val.few);
    good = λ i h. rw (rebuild-value i) (val.good i (omega (arith, rebuild-length)));
    labelled = rw rebuild-length (labelled-as (value st.rows) (value (rebuild st).rows) (rebuilt cmp (value st.rows) (length st.rows)) (label (rebuild st).rows) (length st.rows)
        (λ i h. rebuild-value i) (λ i h. rebuild-label i h)
        (rebuilt-labelled cmp-lawful (value st.rows) (label st.rows) (length st.rows) val.labelled (omega (arith, val.few, val.cap-to))));
  }

  -- after a rebuild every value gets a label: a retry is never refused for want of one
  pub retry : (q : Value) → answer (rebuild st) q ≡ Err NoLabel → ⊥
  retry q e =
      let n = length st.rows in
      let f = value st.rows in
      let few : n ≤ 4096 = omega (arith, val.few, val.cap-to) in
      let lab = rebuilt-labelled cmp-lawful f (label st.rows) n val.labelled few in
      let b = half-between cmp-lawful f (rebuilt cmp f n) n lab q (rebuilt-free cmp-lawful f (label st.rows) n val.labelled few q) in
      let x = half cmp f (rebuilt cmp f n) n q in
      let ln = rebuild-length in
      ((no-label-iff (rebuild st) q rebuild-valid).0 e).1 x (record {
        over = λ i h g. rw (rebuild-label i (omega arith)) (b.over i (omega arith) (rw (rebuild-value i) at g));
        under = λ i h g. rw (rebuild-label i (omega arith)) (b.under i (omega arith) (rw (rebuild-value i) at g));
        small = b.small;
      })

-- ---- a label lasts: a value that got one answers it from then on, and those before it keep theirs
module _ (st : State) (q : Value) (val : Valid st) (good : Good st.variables q) (x : ℕ) (new : answer st q ≡ Ok (New x)) where
  abbrev next : State
  next = record { variables = st.variables; capacity = st.capacity; rows = st.rows ++ (record { value = q; label = x } ∷ []) }

  pub after-new : after st q ≡ next
  after-new = after-as st q (Ok (New x)) new ∙ stored-new st q x

  next-valid : Valid next
  next-valid = rw after-new at (after-valid st q val good)

  length-next : length next.rows ≡ suc (length st.rows)
  length-next = length-append st.rows _ ∙ omega arith

  pub new-known : answer (after st q) q ≡ Ok (Known x)
  new-known = rw after-new (known-label next q next-valid (length st.rows) (omega (arith, length-next)) (value-new st.rows _) ∙ rw (label-new st.rows (record { value = q; label = x })))

  pub old-known : (i : ℕ) → i < length st.rows → answer (after st q) (value st.rows i) ≡ Ok (Known (label st.rows i))
  old-known i h = rw after-new (known-label next (value st.rows i) next-valid i (omega (arith, length-next)) (value-old st.rows _ i h) ∙ rw (label-old st.rows (record { value = q; label = x }) i h))

-- a rebuild keeps the order: the same rows at the same places
pub rebuild-order : (st : State) → sorted cmp (value (rebuild st).rows) (length (rebuild st).rows) ≡ sorted cmp (value st.rows) (length st.rows)
unfolding rebuild
rebuild-order st =
    let l = rebuilt cmp (value st.rows) (length st.rows) in
    rw (length-relabelled l st.rows) (sorted_ext cmp-lawful (value (relabelled l st.rows)) (value st.rows) (length st.rows) (λ i h. value-relabelled l st.rows i))
