-- Labels rise strictly with values: kept by an insert and by a rebuild, after which a label is free next to every value. Assumes nothing.
use mathlib.Core.Path.{◌≡◌, sym, ap, ◌∙◌}
use mathlib.Core.Bool.{true}
use mathlib.Core.Option.{Option, none, some}
use mathlib.Core.List.{List}
use mathlib.Core.Logic.{◌↔◌}
use Prim.Native.Nat.{ℕ, suc, ◌+◌, ◌*◌, ◌/◌, ◌≤◌, ◌<◌}
use native.Mathlib.Nat.{le-div_iff_mul-le, div-lt_iff_lt-mul, div-mul-le_self, mul-le-mul_left, add-mul}
use native.Mathlib.Omega.{arith}
use native.Mathlib.Decide.{dec_lt}
use lib.Dec.{ltb}
use lib.ListN.{get_or}
use borrow.Author.Tests.{ltb-true, lt-ltb}
use Rattle.std.specs.Ordering.{nat_cmp}
use Rattle.std.specs.declared.cmp.Ordering.{Ordering}
use Rattle.std.specs.declared.cmp.Ordering.TheVariants.{Less, Equal}
use Rattle.std.specs.Cmp.{IsTotalOrder}
use Rattle.std.proofs.lemmas.Cmp.{back_total, alike_right, tied_itself}
use Rattle.monomial_ordering.proofs.Orders.{compare-less, compare-equal, compare-greater}
use Rattle.fast_compare.specs.Labels.{top, below, nearest, floor, ceiling, lowest, highest, free, half, spaced, rebuilt, Labelled}
use Rattle.fast_compare.proofs.Ranks.{less_equal, turn-less, by_cases, below_less, below-mono, below_top, Ranked, less-place, place_of}
use Rattle.fast_compare.proofs.Neighbours.{Near, nearest-near, above_place}

-- ---- spaced labels
-- neighbours after a rebuild of n values lie at least (2^32 − 1) / (n + 1) apart
pub spaced-gap : (n k : ℕ) → spaced n k + 4294967295 / (n + 1) ≤ spaced n (k + 1)
spaced-gap n k =
    (le-div_iff_mul-le {k = n + 1} {x = spaced n k + 4294967295 / (n + 1)} {y = (k + 1) * 4294967295} (omega arith)).1
    (omega (arith, add-mul (spaced n k) (4294967295 / (n + 1)) (n + 1), div-mul-le_self (k * 4294967295) (n + 1), div-mul-le_self 4294967295 (n + 1)))

pub spaced-mono : (n j k : ℕ) → j ≤ k → spaced n j ≤ spaced n k
spaced-mono n j k h =
    (le-div_iff_mul-le {k = n + 1} {x = spaced n j} {y = k * 4294967295} (omega arith)).1
    (omega (arith, div-mul-le_self (j * 4294967295) (n + 1)))

-- at most m values leave at least (2^32 − 1) / (m + 1)
pub room : (n m g : ℕ) → n ≤ m → g * (m + 1) ≤ 4294967295 → g ≤ 4294967295 / (n + 1)
room n m g h l =
    (le-div_iff_mul-le {k = n + 1} {x = g} {y = 4294967295} (omega arith)).1
    (omega (arith, mul-le-mul_left {m = n + 1} {n = m + 1} g (omega arith)))

pub spaced-apart : (n m g j k : ℕ) → n ≤ m → g * (m + 1) ≤ 4294967295 → j < k → spaced n j + g ≤ spaced n k
spaced-apart n m g j k h l i =
    omega (arith, spaced-gap n j, spaced-mono n (j + 1) k (omega arith), room n m g h l)

pub spaced-top : (n k : ℕ) → k ≤ n → spaced n k < 4294967295
spaced-top n k h =
    (div-lt_iff_lt-mul {k = n + 1} {x = k * 4294967295} {y = 4294967295} (omega arith)).1 (omega arith)

-- ---- labels between neighbours
-- x lies strictly between the labels of q's neighbours: above those of lower values, below those of higher ones
pub record Between {A : Type 0} (c : A → A → Ordering) (f : ℕ → A) (l : ℕ → ℕ) (n : ℕ) (q : A) (x : ℕ) : Type 0 where
  pub over : (i : ℕ) → i < n → c (f i) q ≡ Less → l i < x
  pub under : (i : ℕ) → i < n → c q (f i) ≡ Less → x < l i
  pub small : x < top

module _ {A : Type 0} {c : A → A → Ordering} (law : IsTotalOrder c) (f : ℕ → A) (l : ℕ → ℕ) (n : ℕ) (lab : Labelled c f l n) where
  -- two labels compare as their values do
  pub labels-compare : (i j : ℕ) → i < n → j < n → c (f i) (f j) ≡ nat_cmp (l i) (l j)
  labels-compare i j hi hj =
      by_cases law (f i) (f j)
      (λ e. e ∙ sym (compare-less (l i) (l j) (lab.rising i j hi hj e)))
      (λ e. e ∙ sym (compare-equal (l i) (l j) (ap l (lab.distinct i j hi hj e))))
      (λ e. turn-less law (f j) (f i) e ∙ sym (compare-greater (l i) (l j) (lab.rising j i hj hi e)))

  -- what a label that is not below the neighbour's is above
  pub lowest-over : (q : A) (x : ℕ) → lowest c f l n q ≤ x → (i : ℕ) → i < n → c (f i) q ≡ Less → l i < x
  unfolding lowest floor Near
  lowest-over q x h i hi e = go (nearest c f n q) h (nearest-near law f n q)
    where
      go : (o : Option ℕ) → floor l o ≤ x → Near law f n q o → l i < x
      go none h z = absurd (z i hi e)
      go (some j) h z =
          by_cases law (f i) (f j)
          (λ y. omega (arith, lab.rising i j hi z.inside y))
          (λ y. omega (arith, ap l (lab.distinct i j hi z.inside y)))
          (λ y. absurd (z.last i hi e y))

  pub highest-under : (q : A) (x : ℕ) → x < highest c f l n q → (i : ℕ) → i < n → c q (f i) ≡ Less → x < l i
  unfolding highest ceiling Near
  highest-under q x h i hi e = go (nearest (λ x y. c y x) f n q) h (nearest-near (back_total law) f n q)
    where
      go : (o : Option ℕ) → x < ceiling l o → Near (back_total law) f n q o → x < l i
      go none h z = absurd (z i hi e)
      go (some j) h z =
          by_cases law (f j) (f i)
          (λ y. omega (arith, lab.rising j i z.inside hi y))
          (λ y. omega (arith, ap l (lab.distinct j i z.inside hi y)))
          (λ y. absurd (z.last i hi e y))

  pub highest-top : (q : A) → highest c f l n q ≤ top
  unfolding highest ceiling Near
  highest-top q = go (nearest (λ x y. c y x) f n q) (nearest-near (back_total law) f n q)
    where
      go : (o : Option ℕ) → Near (back_total law) f n q o → ceiling l o ≤ top
      go none z = omega arith
      go (some j) z = omega (arith, lab.small j z.inside)

  -- from `lowest` on and below `highest`
  pub between-of : (q : A) (x : ℕ) → lowest c f l n q ≤ x → x < highest c f l n q → Between c f l n q x
  between-of q x h k = record { over = lowest-over q x h; under = highest-under q x k; small = omega (arith, highest-top q) }

  pub of-between : (q : A) (x : ℕ) → Between c f l n q x → (lowest c f l n q ≤ x) × (x < highest c f l n q)
  unfolding lowest highest floor ceiling Near
  of-between q x b = (lo (nearest c f n q) (nearest-near law f n q), hi (nearest (λ x y. c y x) f n q) (nearest-near (back_total law) f n q))
    where
      lo : (o : Option ℕ) → Near law f n q o → floor l o ≤ x
      lo none z = omega arith
      lo (some j) z = omega (arith, b.over j z.inside z.lower)

      hi : (o : Option ℕ) → Near (back_total law) f n q o → x < ceiling l o
      hi none z = omega (arith, b.small)
      hi (some j) z = b.under j z.inside z.lower

  -- the half sum of the neighbours' labels lies strictly between them
  pub half-between : (q : A) → free c f l n q ≡ true → Between c f l n q (half c f l n q)
  unfolding free half
  half-between q e =
      let h = ltb-true (lowest c f l n q) (highest c f l n q) e in
      between-of q _ (omega arith) (omega arith)

  -- a label is free exactly when one lies strictly between the neighbours'
  pub free-iff : (q : A) → (free c f l n q ≡ true) ↔ ((x : ℕ) × Between c f l n q x)
  unfolding free
  free-iff q = (to, from)
    where
      to : ltb (lowest c f l n q) (highest c f l n q) ≡ true → (x : ℕ) × Between c f l n q x
      to e = (half c f l n q, half-between q e)

      from : (x : ℕ) × Between c f l n q x → ltb (lowest c f l n q) (highest c f l n q) ≡ true
      from (x, b) = let z = of-between q x b in lt-ltb (lowest c f l n q) (highest c f l n q) (omega (arith, z.0, z.1))

  -- one row more: a new value with a label between its neighbours'
  module _ (f' : ℕ → A) (l' : ℕ → ℕ) (q : A) (x : ℕ) (ef : (i : ℕ) → i < n → f' i ≡ f i) (eq : f' n ≡ q) (el : (i : ℕ) → i < n → l' i ≡ l i) (ex : l' n ≡ x)
      (new : (i : ℕ) → i < n → c (f i) q ≡ Equal → ⊥) (b : Between c f l n q x) where
    pub insert-labelled : Labelled c f' l' (suc n)
    insert-labelled = record { distinct = distinct; rising = rising; small = small }
      where
        distinct : (i j : ℕ) → i < suc n → j < suc n → c (f' i) (f' j) ≡ Equal → i ≡ j
        distinct i j hi hj e =
            elim (dec_lt i n) [
              | yes a ↦ elim (dec_lt j n) [
                | yes z ↦ lab.distinct i j a z (rw (ef i a, ef j z) at e)
                | no z ↦ let y : j ≡ n = omega arith in absurd (new i a (rw (y, ef i a, eq) at e))
              ]
              | no a ↦ elim (dec_lt j n) [
                | yes z ↦ let y : i ≡ n = omega arith in absurd (new j z (law.antisymm (f j) q ∙ rw (rw (y, eq, ef j z) at e)))
                | no z ↦ omega arith
              ]
            ]

        rising : (i j : ℕ) → i < suc n → j < suc n → c (f' i) (f' j) ≡ Less → l' i < l' j
        rising i j hi hj e =
            elim (dec_lt i n) [
              | yes a ↦ elim (dec_lt j n) [
                | yes z ↦ rw (el i a, el j z) (lab.rising i j a z (rw (ef i a, ef j z) at e))
                | no z ↦ let y : j ≡ n = omega arith in rw (y, el i a, ex) (b.over i a (rw (y, ef i a, eq) at e))
              ]
              | no a ↦ elim (dec_lt j n) [
                | yes z ↦ let y : i ≡ n = omega arith in rw (y, el j z, ex) (b.under j z (rw (y, eq, ef j z) at e))
                | no z ↦
                    let y : i ≡ n = omega arith in
                    let w : j ≡ n = omega arith in
                    less_equal (sym (rw (y, w) at e) ∙ tied_itself law (f' n))
              ]
            ]

        small : (i : ℕ) → i < suc n → l' i < top
        small i h =
            elim (dec_lt i n) [
              | yes a ↦ rw (el i a) (lab.small i a)
              | no a ↦ let y : i ≡ n = omega arith in rw (y, ex) b.small
            ]

  -- ---- comparing a query by its place
  module _ (o : List ℕ) (r : Ranked law f n o) (q : A) (i : ℕ) (h : i < n) where
    -- a query that stands at place p compares by the label there
    pub compare-at : (p : ℕ) → p < n → c (f (get_or o p 0)) q ≡ Equal → c (f i) q ≡ nat_cmp (l i) (l (get_or o p 0))
    compare-at p k e = sym (alike_right law (f (get_or o p 0)) q (f i) e) ∙ labels-compare i (get_or o p 0) h (r.inside p k)

    -- one that is not known compares by the label at its place, above which and at which the values are above it
    pub compare-before : ((j : ℕ) → j < n → c (f j) q ≡ Equal → ⊥) → (p : ℕ) → p ≡ below c f n q → p < n
        → ((c (f i) q ≡ Less) ↔ (l i < l (get_or o p 0))) × ((c q (f i) ≡ Less) ↔ (l (get_or o p 0) ≤ l i))
    compare-before new p e k =
        let x = get_or o p 0 in
        let up : c q (f x) ≡ Less = above_place law f n o r q new p k (omega arith) in
        let less : c (f i) q ≡ Less → l i < l x = λ y. lab.rising i x h (r.inside p k) (law.trans (f i) q (f x) y up) in
        let more : c q (f i) ≡ Less → l x ≤ l i = λ y. not-below x k (omega arith) y in (
          (less, λ y. by_cases law (f i) q (λ z. z) (λ z. absurd (new i h z)) (λ z. absurd (omega (arith, more z)))),
          (more, λ y. by_cases law (f i) q (λ z. absurd (omega (arith, less z))) (λ z. absurd (new i h z)) (λ z. z)),
        )
      where
        not-below : (x : ℕ) → p < n → p ≤ below c f n q → c q (f i) ≡ Less → l (get_or o p 0) ≤ l i
        not-below x k m y =
            by_cases law (f i) (f (get_or o p 0))
            (λ z. absurd (omega (arith, e, r.rank p k, below_less law f n i (f (get_or o p 0)) h z, below-mono law f n q (f i) y)))
            (λ z. omega (arith, ap l (lab.distinct i (get_or o p 0) h (r.inside p k) z)))
            (λ z. omega (arith, lab.rising (get_or o p 0) i (r.inside p k) h z))

    -- where no place is left every value is below it
    pub compare-last : n ≤ below c f n q → c (f i) q ≡ Less
    compare-last e =
        let k = below c f n (f i) in
        let y = less-place law f n o r q k (below_top law f n i h) (omega (arith, below_top law f n i h)) in
        rw (place_of law f n o lab.distinct r i h) at y

  -- ---- rebuild
  pub rebuilt-apart : (m g : ℕ) → n ≤ m → g * (m + 1) ≤ 4294967295 → (i j : ℕ) → i < n → j < n → c (f i) (f j) ≡ Less → rebuilt c f n i + g ≤ rebuilt c f n j
  unfolding rebuilt
  rebuilt-apart m g h k i j hi hj e =
      spaced-apart n m g (below c f n (f i) + 1) (below c f n (f j) + 1) h k (omega (arith, below_less law f n i (f j) hi e))

  pub rebuilt-small : (i : ℕ) → i < n → rebuilt c f n i < 4294967295
  unfolding rebuilt
  rebuilt-small i h = spaced-top n (below c f n (f i) + 1) (omega (arith, below_top law f n i h))

  pub rebuilt-some : (i : ℕ) → n ≤ 4096 → 1048319 ≤ rebuilt c f n i
  unfolding rebuilt
  rebuilt-some i h = omega (arith, spaced-apart n 4096 1048319 0 (below c f n (f i) + 1) h (omega arith) (omega arith))

  -- the labels of a rebuild rise strictly with the values
  pub rebuilt-labelled : n ≤ 4096 → Labelled c f (rebuilt c f n) n
  rebuilt-labelled h = record {
    distinct = lab.distinct;
    rising = λ i j hi hj e. omega (arith, rebuilt-apart 4096 1 h (omega arith) i j hi hj e);
    small = λ i hi. omega (arith, rebuilt-small i hi);
  }

  -- after a rebuild a label is free for every value
  pub rebuilt-free : n ≤ 4096 → (q : A) → free c f (rebuilt c f n) n q ≡ true
  unfolding free lowest highest floor ceiling Near
  rebuilt-free h q = lt-ltb _ _ (go (nearest c f n q) (nearest (λ x y. c y x) f n q) (nearest-near law f n q) (nearest-near (back_total law) f n q))
    where
      go : (a b : Option ℕ) → Near law f n q a → Near (back_total law) f n q b → floor (rebuilt c f n) a < ceiling (rebuilt c f n) b
      go none none y z = omega arith
      go none (some j) y z = omega (arith, rebuilt-some j h)
      go (some i) none y z = omega (arith, rebuilt-small i y.inside)
      go (some i) (some j) y z =
          omega (arith, rebuilt-apart 4096 2 h (omega arith) i j y.inside z.inside (law.trans (f i) q (f j) y.lower z.lower))
