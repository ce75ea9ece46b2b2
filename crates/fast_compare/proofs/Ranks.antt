-- Values by rank: how many lie below. The sorted order of the rows is the one list whose k-th row has k values below it. Assumes nothing.
use mathlib.Core.Path.{◌≡◌, refl, sym, ap, ◌∙◌}
use mathlib.Core.Bool.{Bool, true}
use mathlib.Core.List.{List, ◌∷◌, ◌++◌}
use Prim.Native.Nat.{ℕ, zero, suc, ◌+◌, ◌-◌, ◌≤◌, ◌<◌}
use native.Mathlib.Omega.{arith}
use native.Mathlib.Decide.{ℕ_discrete, dec_lt}
use lib.ListN.{length, get_or, take, drop, length-append, length-take, length-drop, get_or-append}
use lib.Seq.{ext_get_or, get_or-take, get_or-drop, get_or-append-add, length-take-le}
use Rattle.std.specs.Ordering.{is_lt, is_eq}
use Rattle.std.specs.declared.cmp.Ordering.{Ordering}
use Rattle.std.specs.declared.cmp.Ordering.TheVariants.{Less, Equal, Greater}
use Rattle.std.specs.Cmp.{IsTotalOrder}
use Rattle.std.proofs.lemmas.Cmp.{alike_right, tied_itself}
use Rattle.fast_compare.specs.Labels.{one_if, count, insert_at, below, sorted}
use Rattle.words.proofs.Tables.{never}
use Rattle.fast_compare.proofs.Counts.{count-suc, count-ext, count_most, count-le, count-lt, count-two}

-- ---- comparisons and their tests
pub less_equal : {X : Type 0} → Less ≡ Equal → X
less_equal e = absurd (let z : ◌≡◌ {A = ℕ} 0 1 = cc in omega arith)

pub less-greater : {X : Type 0} → Less ≡ Greater → X
less-greater e = absurd (let z : ◌≡◌ {A = ℕ} 0 1 = cc in omega arith)

pub equal-greater : {X : Type 0} → Equal ≡ Greater → X
equal-greater e = absurd (let z : ◌≡◌ {A = ℕ} 0 1 = cc in omega arith)

pub is-less : (o : Ordering) → is_lt o ≡ true → o ≡ Less
is-less Less e = refl
is-less Equal e = never e
is-less Greater e = never e

pub is-equal : (o : Ordering) → is_eq o ≡ true → o ≡ Equal
is-equal Less e = never e
is-equal Equal e = refl
is-equal Greater e = never e

-- ---- the list with an element put in
pub length-insert : (p x : ℕ) (o : List ℕ) → length (insert_at p x o) ≡ length o + 1
unfolding insert_at
length-insert p x o = simp (length-append, length-take, length-drop) (omega arith)

module _ (p x : ℕ) (o : List ℕ) (h : p ≤ length o) where
  front : length (take p o) ≡ p
  front = length-take-le p o h

  pub insert-before : (k : ℕ) → k < p → get_or (insert_at p x o) k 0 ≡ get_or o k 0
  unfolding insert_at
  insert-before k l = get_or-append (take p o) (x ∷ drop p o) 0 k (omega (arith, front)) ∙ get_or-take p o k 0 l

  pub insert-here : get_or (insert_at p x o) p 0 ≡ x
  unfolding insert_at
  insert-here =
      let e : p ≡ length (take p o) + 0 = omega (arith, front) in
      ap (λ (z : ℕ). get_or (take p o ++ (x ∷ drop p o)) z 0) e ∙ get_or-append-add (take p o) (x ∷ drop p o) 0 0

  pub insert-after : (k : ℕ) → p ≤ k → get_or (insert_at p x o) (suc k) 0 ≡ get_or o k 0
  unfolding insert_at
  insert-after k l =
      let e : suc k ≡ length (take p o) + suc (k - p) = omega (arith, front) in
      let d : p + (k - p) ≡ k = omega arith in
      ap (λ (z : ℕ). get_or (take p o ++ (x ∷ drop p o)) z 0) e ∙ get_or-append-add (take p o) (x ∷ drop p o) (suc (k - p)) 0
      ∙ get_or-drop p o (k - p) 0 ∙ ap (λ (z : ℕ). get_or o z 0) d

module _ {A : Type 0} {c : A → A → Ordering} (law : IsTotalOrder c) where
  -- ---- a total order
  pub turn : (x y : A) → c x y ≡ Greater → c y x ≡ Less
  turn x y e = law.antisymm y x ∙ rw e

  pub turn-less : (x y : A) → c x y ≡ Less → c y x ≡ Greater
  turn-less x y e = law.antisymm y x ∙ rw e

  -- every way that x and y can compare
  pub by_cases : {X : Type 0} (x y : A) → (c x y ≡ Less → X) → (c x y ≡ Equal → X) → (c y x ≡ Less → X) → X
  by_cases {X} x y l e g = go (c x y) refl
    where
      go : (o : Ordering) → c x y ≡ o → X
      go Less h = l h
      go Equal h = e h
      go Greater h = g (turn x y h)

  module _ (f : ℕ → A) where
    -- ---- ranks
    pub below-ext : (g : ℕ → A) (n : ℕ) (q : A) → ((i : ℕ) → i < n → f i ≡ g i) → below c f n q ≡ below c g n q
    unfolding below
    below-ext g n q h = count-ext n _ _ (λ i l. ap (λ (x : A). is_lt (c x q)) (h i l))

    pub below-most : (n : ℕ) (q : A) → below c f n q ≤ n
    unfolding below
    below-most n q = count_most n _

    pub below-mono : (n : ℕ) (x y : A) → c x y ≡ Less → below c f n x ≤ below c f n y
    unfolding below
    below-mono n x y h = count-le n _ _ (λ i l e. ap is_lt (law.trans (f i) x y (is-less _ e) h))

    pub below_alike : (n : ℕ) (x y : A) → c x y ≡ Equal → below c f n x ≡ below c f n y
    unfolding below
    below_alike n x y h = count-ext n _ _ (λ i l. ap is_lt (alike_right law x y (f i) h))

    -- row i counts in the rank of what is above it, and not in its own
    pub below_less : (n i : ℕ) (y : A) → i < n → c (f i) y ≡ Less → below c f n (f i) < below c f n y
    unfolding below
    below_less n i y l h =
        count-lt n _ _ i l (λ k j e. ap is_lt (law.trans (f k) (f i) y (is-less _ e) h)) (ap is_lt (tied_itself law (f i))) (ap is_lt h)

    pub below_top : (n i : ℕ) → i < n → below c f n (f i) < n
    unfolding below
    below_top n i l =
        omega (arith, count-lt n (λ k. is_lt (c (f k) (f i))) (λ k. true) i l (λ k j e. refl) (ap is_lt (tied_itself law (f i))) refl, count_most n (λ k. true))

    abbrev pub Distinct : ℕ → Type 0
    Distinct n = (i j : ℕ) → i < n → j < n → c (f i) (f j) ≡ Equal → i ≡ j

    -- the k-th row has k values below it
    pub record Ranked (n : ℕ) (o : List ℕ) : Type 0 where
      pub long : length o ≡ n
      pub inside : (k : ℕ) → k < n → get_or o k 0 < n
      pub rank : (k : ℕ) → k < n → below c f n (f (get_or o k 0)) ≡ k

    -- there is one such list
    pub ranked-unique : (n : ℕ) (o u : List ℕ) → Distinct n → Ranked n o → Ranked n u → o ≡ u
    ranked-unique n o u d a b =
        ext_get_or 0 o u (a.long ∙ sym b.long) (λ k h.
        let l : k < n = omega (arith, a.long) in
        let x = get_or o k 0 in
        let y = get_or u k 0 in
        let hx = a.inside k l in
        let hy = b.inside k l in
        let rx = a.rank k l in
        let ry = b.rank k l in
        by_cases (f x) (f y)
        (λ e. absurd (omega (arith, below_less n x (f y) hx e)))
        (λ e. d x y hx hy e)
        (λ e. absurd (omega (arith, below_less n y (f x) hy e))))

    -- ---- what a place in the order says of a value q
    module _ (n : ℕ) (o : List ℕ) (r : Ranked n o) (q : A) (k : ℕ) (h : k < n) where
      pub place-less : c (f (get_or o k 0)) q ≡ Less → k < below c f n q
      place-less e = omega (arith, r.rank k h, below_less n (get_or o k 0) q (r.inside k h) e)

      pub place-equal : c (f (get_or o k 0)) q ≡ Equal → below c f n q ≡ k
      place-equal e = sym (below_alike n _ q e) ∙ r.rank k h

      pub place-greater : c q (f (get_or o k 0)) ≡ Less → below c f n q ≤ k
      place-greater e = omega (arith, r.rank k h, below-mono n q (f (get_or o k 0)) e)

      pub less-place : k < below c f n q → c (f (get_or o k 0)) q ≡ Less
      less-place l =
          by_cases (f (get_or o k 0)) q (λ e. e) (λ e. absurd (omega (arith, place-equal e))) (λ e. absurd (omega (arith, place-greater e)))

    -- row i stands at the place of its rank
    pub place_of : (n : ℕ) (o : List ℕ) → Distinct n → Ranked n o → (i : ℕ) → i < n → get_or o (below c f n (f i)) 0 ≡ i
    place_of n o d r i h =
        let k = below c f n (f i) in
        let l : k < n = below_top n i h in
        let x = get_or o k 0 in
        by_cases (f x) (f i)
        (λ e. absurd (omega (arith, place-less n o r (f i) k l e)))
        (λ e. d x i (r.inside k l) h e)
        (λ e. absurd (omega (arith, below_less n i (f x) h e, r.rank k l)))

    -- ---- the sorted order is ranked
    fewer : (n : ℕ) → Distinct (suc n) → Distinct n
    fewer n d i j hi hj e = d i j (omega arith) (omega arith) e

    -- one row more, of a value that no other has
    module _ (n : ℕ) (d : Distinct (suc n)) (o : List ℕ) (r : Ranked n o) where
      p : ℕ
      p = below c f n (f n)

      fits : p ≤ length o
      unfolding p
      fits = omega (arith, r.long, below-most n (f n))

      more : (q : A) → below c f (suc n) q ≡ one_if (is_lt (c (f n) q)) + below c f n q
      unfolding below
      more q = count-suc n (λ i. is_lt (c (f i) q))

      early : (k : ℕ) → k < n → k < p → below c f (suc n) (f (get_or o k 0)) ≡ k
      unfolding p
      early k h l =
          let e = less-place n o r (f n) k h l in
          more (f (get_or o k 0)) ∙ rw (turn-less (f (get_or o k 0)) (f n) e) (omega (arith, r.rank k h))

      late : (k : ℕ) → k < n → p ≤ k → below c f (suc n) (f (get_or o k 0)) ≡ suc k
      unfolding p
      late k h l =
          let x = get_or o k 0 in
          let e : c (f n) (f x) ≡ Less =
          by_cases (f x) (f n)
          (λ e. absurd (omega (arith, place-less n o r (f n) k h e)))
          (λ e. absurd (omega (arith, r.inside k h, d x n (omega (arith, r.inside k h)) (omega arith) e)))
          (λ e. e) in
          more (f x) ∙ rw e (omega (arith, r.rank k h))

      own : below c f (suc n) (f n) ≡ p
      unfolding p
      own = more (f n) ∙ rw (tied_itself law (f n)) (omega arith)

      pub insert-ranked : Ranked (suc n) (insert_at (below c f n (f n)) n o)
      unfolding p
      insert-ranked = record { long = length-insert _ n o ∙ omega (arith, r.long); inside = inside; rank = rank }
        where
          at : (X : ℕ → Type 0) (k : ℕ) → k < suc n → (k < p → X (get_or o k 0)) → (k ≡ p → X n) → ((j : ℕ) → k ≡ suc j → j < n → p ≤ j → X (get_or o j 0)) → X (get_or (insert_at p n o) k 0)
          at X k h a b z =
              elim (dec_lt k p) [
                | yes l ↦ rw (insert-before p n o fits k l) (a l)
                | no l ↦ elim (ℕ_discrete k p) [
                  | yes e ↦ rw (e, insert-here p n o fits) (b e)
                  | no e ↦
                      let s : k ≡ suc (k - 1) = omega arith in
                      rw (s, insert-after p n o fits (k - 1) (omega arith)) (z (k - 1) s (omega arith) (omega arith))
                ]
              ]

          inside : (k : ℕ) → k < suc n → get_or (insert_at (below c f n (f n)) n o) k 0 < suc n
          inside k h =
              at (λ x. x < suc n) k h
              (λ l. omega (arith, r.inside k (omega (arith, r.long, fits)))) (λ e. omega arith) (λ j e i l. omega (arith, r.inside j i))

          rank : (k : ℕ) → k < suc n → below c f (suc n) (f (get_or (insert_at (below c f n (f n)) n o) k 0)) ≡ k
          rank k h =
              at (λ x. below c f (suc n) (f x) ≡ k) k h
              (λ l. early k (omega (arith, r.long, fits)) l) (λ e. own ∙ sym e) (λ j e i l. late j i l ∙ sym e)

    pub sorted-ranked : (n : ℕ) → Distinct n → Ranked n (sorted c f n)
    unfolding sorted
    sorted-ranked zero d = record { long = refl; inside = λ k h. absurd (omega arith); rank = λ k h. absurd (omega arith) }
    sorted-ranked (suc n) d = insert-ranked n d (sorted c f n) (sorted-ranked n (fewer n d))

    pub sorted_ext : (g : ℕ → A) (n : ℕ) → ((i : ℕ) → i < n → f i ≡ g i) → sorted c f n ≡ sorted c g n
    unfolding sorted
    sorted_ext g zero h = refl
    sorted_ext g (suc n) h =
        rw (below-ext g n (f n) (λ i l. h i (omega arith)), h n (omega arith), sorted_ext g n (λ i l. h i (omega arith)))

    pub sorted_suc : (n : ℕ) → sorted c f (suc n) ≡ insert_at (below c f n (f n)) n (sorted c f n)
    unfolding sorted
    sorted_suc n = refl

    -- ---- a list of n rows whose values rise is ranked, and the values of all rows differ
    module _ (n : ℕ) (o : List ℕ) (inside : (k : ℕ) → k < n → get_or o k 0 < n) (long : length o ≡ n)
        (up : (k : ℕ) → suc k < n → c (f (get_or o k 0)) (f (get_or o (suc k) 0)) ≡ Less) where
      step : (k : ℕ) → suc k < n → below c f n (f (get_or o k 0)) < below c f n (f (get_or o (suc k) 0))
      step k h = below_less n (get_or o k 0) _ (inside k (omega arith)) (up k h)

      least : (k : ℕ) → k < n → k ≤ below c f n (f (get_or o k 0))
      least zero h = omega arith
      least (suc k) h = omega (arith, least k (omega arith), step k h)

      most : (d k : ℕ) → k + suc d ≡ n → below c f n (f (get_or o k 0)) + suc d ≤ n
      most zero k e = omega (arith, below_top n (get_or o k 0) (inside k (omega arith)))
      most (suc d) k e = omega (arith, most d (suc k) (omega arith), step k (omega arith))

      pub rising-ranked : Ranked n o
      rising-ranked = record {
        long = long;
        inside = inside;
        rank = λ k h. omega (arith, least k h, most (n - suc k) k (omega arith));
      }

      pub rising-distinct : Distinct n
      unfolding below
      rising-distinct i j hi hj e =
          elim (ℕ_discrete i j) [ yes z ↦ z | no z ↦ absurd (clash z) ]
        where
          r : Ranked n o
          r = rising-ranked

          k : ℕ
          k = below c f n (f i)

          x : ℕ
          x = get_or o k 0

          h : k < n
          h = below_top n i hi

          alike : c (f i) (f x) ≡ Equal
          alike =
              by_cases (f i) (f x)
              (λ l. absurd (omega (arith, r.rank k h, below_less n i (f x) hi l)))
              (λ l. l)
              (λ l. absurd (omega (arith, place-less n o r (f i) k h l)))

          also : c (f j) (f x) ≡ Equal
          also = sym (law.congr (f i) (f j) (f x) e) ∙ alike

          two : (q : ℕ → Bool) → ((m : ℕ) → m < n → c (f m) (f x) ≡ Less → q m ≡ true) → q i ≡ true → q j ≡ true → (i ≡ j → ⊥) → below c f n (f x) + 2 ≤ count n q
          two q t a b z =
              count-two n (λ m. is_lt (c (f m) (f x))) q i j hi hj z (λ m l y. t m l (is-less _ y)) (ap is_lt alike) (ap is_lt also) a b

          clash : (i ≡ j → ⊥) → ⊥
          clash z =
              elim (dec_lt (suc k) n) [
                | yes l ↦
                    let y = f (get_or o (suc k) 0) in
                    let u = up k l in
                    omega (
                      arith,
                      r.rank k h,
                      r.rank (suc k) l,
                      two (λ m. is_lt (c (f m) y)) (λ m v w. ap is_lt (law.trans (f m) (f x) y w u))
                          (ap is_lt (law.congr (f i) (f x) y alike ∙ u)) (ap is_lt (law.congr (f j) (f x) y also ∙ u)) z,
                    )
                | no l ↦ omega (arith, r.rank k h, two (λ m. true) (λ m v w. refl) refl refl z, count_most n (λ m. true))
              ]
