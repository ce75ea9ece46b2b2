-- The loops over a leaf's entries: what is left of the fold, and one entry more. Assumes nothing.
use mathlib.Core.Path.{◌≡◌, refl, sym, ap, ◌∙◌}
use mathlib.Core.Bool.{Bool, true, false, not}
use mathlib.Core.Option as math
use mathlib.Core.List.{List, [], ◌∷◌}
use Prim.Native.Nat.{ℕ, zero, suc, ◌+◌, ◌-◌, ◌≤◌, ◌<◌, max}
use native.Mathlib.Omega.{arith}
use lib.Dec.{ltb}
use lib.ListN.{length, get_or, drop, drop_of_length-le}
use borrow.Author.Tests.{lt-ltb, le-ltb}
use Rattle.std.specs.Prelude.{Option, None, Some, IfSome, MatchOption}
use Rattle.words.specs.Words.{words}
use Rattle.words.proofs.Laws.{word-and-rest}
use Rattle.words.proofs.Tables.{part-get, length_part}
use Rattle.kd_theory.specs.Bag.{Step, fold_until}
use Rattle.kd_theory.specs.Tree.{start}
use Rattle.kd_theory.proofs.BagLaws.{fold-stopped}
use Rattle.index_theory.specs.State.{State, ratioed}
use Rattle.index_theory.specs.Searches.{Query, process}
use Rattle.index_image.specs.Shape as at
use Rattle.index_image.specs.Rows.{entries_from}
use Rattle.index_image.specs.Walk as walk
use Rattle.index_image.specs.Walk.{label}
use Rattle.index_image.specs.declared.Shape.{Shape}
use Rattle.index_image.proofs.Places.{place-fits}
use Rattle.kd_image.specs.HasTree.{Holds}
use Rattle.kd_image.proofs.Reading.{holds-ready}
use Rattle.query_words.specs.Asked.{search_in, from_in, floor_in, option_of, search_of, Asks}
use Rattle.kd_leaf.specs.Counted.{divisor_at, counted, least_above}
use Rattle.kd_leaf.specs.Visited.{absent, here, later, First, Visited}
use Rattle.kd_leaf.proofs.Counting.{labels-home, stops, goes_on_lem, floor-goes, contained-is, counted_is, largest-is, step-miss, step-hit}

-- what is left of the fold after i entries
pub Scanning : (bs ms : List ℕ) (s : Shape) (Q : List ℕ) (lo c best found i : ℕ) → Type 0
Scanning bs ms s Q lo c best found i =
    (st : State) (r : Query) → Asks st r ms s Q → Holds st (words bs) s
    → fold_until (process st.entries r) (start (option_of best)) (entries_from (words bs) s lo c) ≡ fold_until (process st.entries r) (start (option_of found))
    (drop i (entries_from (words bs) s lo c))

-- what is made of one entry
pub Made : (bs ms : List ℕ) (s : Shape) (Q : List ℕ) (e found found' : ℕ) (on : Bool) → Type 0
Made bs ms s Q e found found' on = (st : State) (r : Query) → Asks st r ms s Q → Holds st (words bs) s → record { acc = option_of found'; on = on } ≡ process st.entries r (option_of found) e

-- what either answer of a test makes of an entry
pub Decides : (bs ms : List ℕ) (s : Shape) (Q : List ℕ) (best e : ℕ) (passes : Bool) → Type 0
Decides bs ms s Q best e passes = (passes ≡ false → Made bs ms s Q e best best true) × (passes ≡ true → Made bs ms s Q e best (e + 1) false)

fold-first : (f : math.Option ℕ → ℕ → Step (math.Option ℕ)) (a : math.Option ℕ) (e : ℕ) (es : List ℕ) (s : Step (math.Option ℕ)) → s ≡ f a e → fold_until f (start a) (e ∷ es) ≡ fold_until f s es
unfolding fold_until
fold-first f a e es s h = rw h refl

fold-none : (f : math.Option ℕ → ℕ → Step (math.Option ℕ)) (s : Step (math.Option ℕ)) → fold_until f s [] ≡ s
unfolding fold_until
fold-none f s = refl

-- ---- the c entries from place lo on
module _ (bs : List ℕ) (s : Shape) (lo c : ℕ) (inside : lo + c ≤ s.entries) (R : walk.Ready (words bs) s) where
  many : length (entries_from (words bs) s lo c) ≡ c
  many = length_part (words bs) (at.permutation_at s + lo) c (omega (arith, place-fits (words bs) s R (lo + c) inside))

  pub entry-next : (i e : ℕ) → i < c → e ≡ get_or (words bs) (at.permutation_at s + (lo + i)) 0
      → drop i (entries_from (words bs) s lo c) ≡ e ∷ drop (i + 1) (entries_from (words bs) s lo c)
  entry-next i e b ee =
      let es = entries_from (words bs) s lo c in
      let j : at.permutation_at s + (lo + i) ≡ at.permutation_at s + lo + i = omega arith in
      word-and-rest es i e (omega (arith, many)) (ee ∙ ap (λ (k : ℕ). get_or (words bs) k 0) j ∙ sym (part-get (words bs) (at.permutation_at s + lo) c i b))

  pub entries-end : (i : ℕ) → c ≤ i → drop i (entries_from (words bs) s lo c) ≡ []
  entries-end i b = drop_of_length-le (entries_from (words bs) s lo c) {i = i} (omega (arith, many))

module _ (bs ms : List ℕ) (s : Shape) (Q : List ℕ) (lo c best : ℕ) (inside : lo + c ≤ s.entries) where
  pub scan-none : Scanning bs ms s Q lo c best best 0
  unfolding Scanning
  scan-none st r a h = refl

  module _ (found i e : ℕ) (S : Scanning bs ms s Q lo c best found i) (b : i < c) (ee : e ≡ get_or (words bs) (at.permutation_at s + (lo + i)) 0) where
    scan-one : (found' : ℕ) (on : Bool) → Made bs ms s Q e found found' on → (st : State) (r : Query) → Asks st r ms s Q → Holds st (words bs) s
        → fold_until (process st.entries r) (start (option_of best)) (entries_from (words bs) s lo c) ≡ fold_until (process st.entries r)
        (record { acc = option_of found'; on = on }) (drop (i + 1) (entries_from (words bs) s lo c))
    unfolding Scanning Made
    scan-one found' on v st r a h =
        let es = entries_from (words bs) s lo c in
        let d = entry-next bs s lo c inside (holds-ready st (words bs) s h) i e b ee in
        S st r a h ∙ rw d (fold-first (process st.entries r) (option_of found) e (drop (i + 1) es) (record { acc = option_of found'; on = on }) (v st r a h))

    pub scan-more : (found' : ℕ) → Made bs ms s Q e found found' true → Scanning bs ms s Q lo c best found' (i + 1)
    unfolding Scanning
    scan-more found' v st r a h = scan-one found' true v st r a h

    pub scan-stop : (found' best' : ℕ) (on : Bool) → best' ≡ found' → on ≡ false → found' ≤ s.entries → Made bs ms s Q e found found' false → Visited bs ms s Q lo c best best' on
    unfolding Visited
    scan-stop found' best' on w t l v st r a h = record {
      is = rw (w, t) (sym (scan-one found' false v st r a h ∙ fold-stopped (process st.entries r) (record { acc = option_of found'; on = false })
          (drop (i + 1) (entries_from (words bs) s lo c)) refl));
      small = omega arith;
    }

  pub scan-end : (found i best' : ℕ) (on : Bool) → Scanning bs ms s Q lo c best found i → c ≤ i → best' ≡ found → on ≡ true → found ≤ s.entries → Visited bs ms s Q lo c best best' on
  unfolding Scanning Visited
  scan-end found i best' on S b e t l st r a h =
      let d = entries-end bs s lo c inside (holds-ready st (words bs) s h) i b in
      record { is = rw (e, t) (sym (S st r a h ∙ rw d (fold-none (process st.entries r) (start (option_of found))))); small = omega arith }

-- ---- one entry, by the search
module _ (bs ms : List ℕ) (s : Shape) (Q : List ℕ) (e found : ℕ) (he : e < s.entries) (hit : Bool) where
  module _ (z : search_in Q ≡ 0) (t : hit ≡ divisor_at (words bs) s Q (words ms) e) where
    pub contained-miss : hit ≡ false → Made bs ms s Q e found found true
    unfolding Made
    contained-miss f st r a h = step-miss st r ms s Q (words bs) a h e he found hit (contained-is st r ms s Q (words bs) a h e he found (sym a.search ∙ z) ∙ sym t) f

    pub contained-hit : hit ≡ true → Made bs ms s Q e found (e + 1) false
    unfolding Made
    contained-hit f st r a h =
        step-hit st r ms s Q (words bs) a h e he found hit false (contained-is st r ms s Q (words bs) a h e he found (sym a.search ∙ z) ∙ sym t) f
        (stops st.entries r e (λ y. omega (arith, a.search)) (λ x y. omega (arith, a.search)))

    pub contained-decides : Decides bs ms s Q found e hit
    unfolding Decides
    contained-decides = (contained-miss, contained-hit)

  home : (st : State) (r : Query) → Asks st r ms s Q → (search_in Q ≡ 0 → ⊥) → st.kind ≡ ratioed
  home st r a n = a.home ∙ labels-home r (λ y. n (a.search ∙ y))

  module _ (n : search_in Q ≡ 0 → ⊥) (l : 2 ≤ search_in Q → search_in Q ≤ 3 → ⊥) (t : hit ≡ counted (words bs) s Q (words ms) (from_in Q) e) where
    not-largest : (st : State) (r : Query) → Asks st r ms s Q → 2 ≤ search_of r → search_of r ≤ 3 → ⊥
    not-largest st r a x y = l (omega (arith, a.search)) (omega (arith, a.search))

    pub counted-miss : hit ≡ false → Made bs ms s Q e found found true
    unfolding Made
    counted-miss f st r a h = step-miss st r ms s Q (words bs) a h e he found hit (counted_is st r ms s Q (words bs) a h e he (home st r a n) found (not-largest st r a) ∙ sym t) f

    pub counted_stop : (search_in Q ≡ 1 → ⊥) → hit ≡ true → Made bs ms s Q e found (e + 1) false
    unfolding Made
    counted_stop o f st r a h =
        step-hit st r ms s Q (words bs) a h e he found hit false (counted_is st r ms s Q (words bs) a h e he (home st r a n) found (not-largest st r a) ∙ sym t) f
        (stops st.entries r e (λ y. o (a.search ∙ y)) (not-largest st r a))

    -- a reducer: its label against the floor
    by-floor : (on : Bool) → search_in Q ≡ 1 → hit ≡ true → not (ltb (label (words bs) s e) (floor_in Q)) ≡ on → Made bs ms s Q e found (e + 1) on
    unfolding Made
    by-floor on o f g st r a h =
        step-hit st r ms s Q (words bs) a h e he found hit on (counted_is st r ms s Q (words bs) a h e he (home st r a n) found (not-largest st r a) ∙ sym t) f
        (floor-goes st r ms s Q (words bs) a h e he (home st r a n) (sym a.search ∙ o) ∙ g)

  module _ (z : search_in Q ≡ 4) (t : hit ≡ counted (words bs) s Q (words ms) (from_in Q) e) where
    pub singular-decides : Decides bs ms s Q found e hit
    unfolding Decides
    singular-decides =
        let n : search_in Q ≡ 0 → ⊥ = λ y. omega (arith, z, y) in
        let l : 2 ≤ search_in Q → search_in Q ≤ 3 → ⊥ = λ x y. omega (arith, z, x, y) in
        (counted-miss n l t, counted_stop n l t (λ y. omega (arith, z, y)))

  module _ (o : search_in Q ≡ 1) (t : hit ≡ counted (words bs) s Q (words ms) (from_in Q) e) where
    labelled : search_in Q ≡ 0 → ⊥
    labelled y = omega (arith, o, y)

    no-largest : 2 ≤ search_in Q → search_in Q ≤ 3 → ⊥
    no-largest x y = omega (arith, o, x, y)

    pub reducer-miss : hit ≡ false → Made bs ms s Q e found found true
    reducer-miss f = counted-miss labelled no-largest t f

    pub regular-made : (x : ℕ) → hit ≡ true → x ≡ label (words bs) s e → x < floor_in Q → Made bs ms s Q e found (e + 1) false
    regular-made x f ex b =
        by-floor labelled no-largest t false o f (let y : ltb (label (words bs) s e) (floor_in Q) ≡ true = lt-ltb (label (words bs) s e) (floor_in Q) (omega (arith, ex, b)) in rw y refl)

    pub singular-made : (x : ℕ) → hit ≡ true → x ≡ label (words bs) s e → floor_in Q ≤ x → Made bs ms s Q e found (e + 1) true
    singular-made x f ex b =
        by-floor labelled no-largest t true o f (let y : ltb (label (words bs) s e) (floor_in Q) ≡ false = le-ltb (label (words bs) s e) (floor_in Q) (omega (arith, ex, b)) in rw y refl)

  module _ (x : 2 ≤ search_in Q) (y : search_in Q ≤ 3) (hf : found ≤ s.entries) (t : hit ≡ counted (words bs) s Q (words ms) (least_above (label (words bs) s) (from_in Q) found) e) where
    pub largest-miss : hit ≡ false → Made bs ms s Q e found found true
    unfolding Made
    largest-miss f st r a h =
        step-miss st r ms s Q (words bs) a h e he found hit (largest-is st r ms s Q (words bs) a h e he (home st r a (λ z. omega arith)) found hf
        (omega (arith, a.search)) (omega (arith, a.search)) ∙ sym t) f

    pub largest-hit : hit ≡ true → Made bs ms s Q e found (e + 1) true
    unfolding Made
    largest-hit f st r a h =
        step-hit st r ms s Q (words bs) a h e he found hit true (largest-is st r ms s Q (words bs) a h e he (home st r a (λ z. omega arith)) found hf
        (omega (arith, a.search)) (omega (arith, a.search)) ∙ sym t) f
        (goes_on_lem st.entries r e (omega (arith, a.search)) (omega (arith, a.search)))

-- ---- a search for the first entry that passes a test
module _ (answers : ℕ → Bool → Type 0) (es : List ℕ) (i : ℕ) (rest : (found : Option ℕ) → First answers (drop i es) found → First answers es found) where
  module _ (e : ℕ) (d : drop i es ≡ e ∷ drop (i + 1) es) where
    pub first-hit : answers e true → First answers es (Some e)
    first-hit p = rest (Some e) (rw d (here e (drop (i + 1) es) p))

    pub first-miss : answers e false → (found : Option ℕ) → First answers (drop (i + 1) es) found → First answers es found
    first-miss p found f = rest found (rw d (later e (drop (i + 1) es) found p f))

  pub first-end : drop i es ≡ [] → First answers es None
  first-end d = rest None (rw d absent)

-- what is found passes
pub first-passes : (answers : ℕ → Bool → Type 0) (P : ℕ → Type 0) → ((e : ℕ) → answers e true → P e) → (es : List ℕ) (found : Option ℕ) → First answers es found → IfSome found P
first-passes answers P f _ _ absent = tt
first-passes answers P f _ _ (here e es p) = f e p
first-passes answers P f _ _ (later e es found p q) = first-passes answers P f es found q

first-fold : (bs ms : List ℕ) (s : Shape) (Q : List ℕ) (best : ℕ) (answers : ℕ → Bool → Type 0) → ((e : ℕ) (b : Bool) → answers e b → Decides bs ms s Q best e b)
    → (es : List ℕ) (found : Option ℕ) → First answers es found → (best' : ℕ) (on : Bool) → MatchOption found ((best' ≡ best) × (on ≡ true)) (λ e. (best' ≡ e + 1) × (on ≡ false))
    → (st : State) (r : Query) → Asks st r ms s Q → Holds st (words bs) s
    → record { acc = option_of best'; on = on } ≡ fold_until (process st.entries r) (start (option_of best)) es
unfolding Made Decides
first-fold bs ms s Q best answers d _ _ absent best' on m st r a h = rw (m.0, m.1) (sym (fold-none (process st.entries r) (start (option_of best))))
first-fold bs ms s Q best answers d _ _ (here e es p) best' on m st r a h =
    let f = process st.entries r in
    rw (m.0, m.1) (sym (fold-first f (option_of best) e es (record { acc = option_of (e + 1); on = false }) ((d e true p).1 refl st r a h)
    ∙ fold-stopped f (record { acc = option_of (e + 1); on = false }) es refl))
first-fold bs ms s Q best answers d _ _ (later e es found p q) best' on m st r a h =
    first-fold bs ms s Q best answers d es found q best' on m st r a h
    ∙ sym (fold-first (process st.entries r) (option_of best) e es (start (option_of best)) ((d e false p).0 refl st r a h))

pub first-visited : (bs ms : List ℕ) (s : Shape) (Q : List ℕ) (lo c best : ℕ) (answers : ℕ → Bool → Type 0) → ((e : ℕ) → answers e true → e < s.entries)
    → ((e : ℕ) (b : Bool) → answers e b → Decides bs ms s Q best e b) → (found : Option ℕ) → First answers (entries_from (words bs) s lo c) found → best ≤ s.entries
    → (best' : ℕ) (on : Bool) → MatchOption found ((best' ≡ best) × (on ≡ true)) (λ e. (best' ≡ e + 1) × (on ≡ false)) → Visited bs ms s Q lo c best best' on
unfolding Visited
first-visited bs ms s Q lo c best answers inside decides found f hb best' on m st r a h = record {
  is = first-fold bs ms s Q best answers decides (entries_from (words bs) s lo c) found f best' on m st r a h;
  small = within found (first-passes answers (λ e. e < s.entries) inside (entries_from (words bs) s lo c) found f) m;
}
  where
    within : (found : Option ℕ) → IfSome found (λ e. e < s.entries) → MatchOption found ((best' ≡ best) × (on ≡ true)) (λ e. (best' ≡ e + 1) × (on ≡ false)) → best' ≤ s.entries
    within None u m = omega (arith, m.0)
    within (Some e) u m = omega (arith, u, m.0)

-- ---- from which label on an entry is larger
module _ (lb : ℕ → ℕ) (from best : ℕ) where
  pub least_first : best ≡ 0 → from ≡ least_above lb from best
  unfolding least_above
  least_first b = rw (b, least_above) refl

  pub least-next : (r l : ℕ) → (best ≡ 0 → ⊥) → l ≡ lb (best - 1) → r ≡ max from (suc l) → r ≡ least_above lb from best
  unfolding least_above
  least-next r l n el er = er ∙ rw el (go best n)
    where
      go : (best : ℕ) → (best ≡ 0 → ⊥) → max from (suc (lb (best - 1))) ≡ least_above lb from best
      go zero n = absurd (n refl)
      go (suc b) n = let a : suc b - 1 ≡ b = omega arith in rw a refl
