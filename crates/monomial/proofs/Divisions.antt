-- The walks of `divides`, `find_power` and `eq`, and divisibility as a test. Assumes nothing.
use mathlib.Core.Path.{◌≡◌, refl, sym, ap, ◌∙◌}
use mathlib.Core.Bool.{Bool, true, false}
use mathlib.Core.List.{List, [], ◌∷◌}
use mathlib.Core.Logic.{◌⊎◌, inl, inr, ◌↔◌}
use Prim.Native.Nat.{ℕ, zero, suc, ◌+◌, ◌*◌, ◌≤◌, ◌<◌}
use native.Mathlib.Omega.{arith}
use native.Mathlib.Decide.{ℕ_discrete, dec_le}
use lib.Dec.{eqb, leb}
use lib.ListN.{length, get_or, drop, drop_of_length-le}
use Rattle.words.proofs.Laws.{word-and-rest}
use borrow.Author.Tests.{eq-eqb, ne_eqb, eqb-true, le-leb, leb-true}
use Rattle.words.specs.Kinds.{kind, ident, power, upper_half}
use Rattle.monomial.specs.Monomial.{bias, Canonical, find, pow}
use Rattle.monomial.specs.Operations.{Divides, all_below, divides, equal}
use Rattle.monomial.specs.Walk.{past}
use Rattle.monomial.specs.declared.Power.TheVariants.{Found, Absent}
use Rattle.monomial.proofs.Canon.{Canon, canon-of, both_true, false-not-true}
use Rattle.monomial.proofs.Powers.{pow-ids, pow-here, pow-past, pow-end}
use Rattle.monomial.proofs.Walks.{Rest, Last, Next, word_at, turn, at-yes, at-no}

-- ---- a test of every variable
pub all_true : (n : ℕ) (f : ℕ → Bool) → ((v : ℕ) → v < n → f v ≡ true) → all_below n f ≡ true
unfolding all_below
all_true zero f h = refl
all_true (suc n) f h = rw (h n (omega arith)) (all_true n f (λ v l. h v (omega arith)))

pub all-each : (n : ℕ) (f : ℕ → Bool) → all_below n f ≡ true → (v : ℕ) → v < n → f v ≡ true
unfolding all_below
all-each zero f e v l = absurd (omega arith)
all-each (suc n) f e v l =
    let t = both_true (f n) (all_below n f) e in
    elim (ℕ_discrete v n) [ yes z ↦ rw z t.0 | no z ↦ all-each n f t.1 v (omega arith) ]

pub divides-true : (a b : List ℕ) → Divides a b → divides a b ≡ true
unfolding Divides divides
divides-true a b h = all_true 4096 (λ v. leb (pow 1 a v) (pow 1 b v)) (λ v l. le-leb (pow 1 a v) (pow 1 b v) (h v))

pub true-divides : (a b : List ℕ) → divides a b ≡ true → Divides a b
unfolding Divides divides
true-divides a b e v =
    elim (dec_le 4096 v) [
      | yes l ↦ omega (arith, pow-ids 1 a v l)
      | no l ↦ leb-true (pow 1 a v) (pow 1 b v) (all-each 4096 (λ v. leb (pow 1 a v) (pow 1 b v)) e v (omega arith))
    ]

-- `divides` is "no power exceeds"
pub divides-iff : (a b : List ℕ) → (divides a b ≡ true) ↔ Divides a b
divides-iff a b = (true-divides a b, divides-true a b)

pub at_most : (a b : List ℕ) → Divides a b → (v : ℕ) → pow 1 a v ≤ pow 1 b v
unfolding Divides
at_most a b d v = d v

pub divides-by : (a b : List ℕ) → ((v : ℕ) → pow 1 a v ≤ pow 1 b v) → Divides a b
unfolding Divides
divides-by a b h = h

-- a variable with a higher power in a
pub divides-false : (a b : List ℕ) (v : ℕ) → pow 1 b v < pow 1 a v → divides a b ≡ false
divides-false a b v h = go (divides a b) refl
  where
    go : (t : Bool) → divides a b ≡ t → divides a b ≡ false
    go true e = absurd (omega (arith, at_most a b (true-divides a b e) v))
    go false e = e

-- ---- the walk of `divides`: no power from b up exceeds
pub record Dividing (A B : List ℕ) (i j : ℕ) : Type 0 where
  pub b : ℕ
  pub ra : Rest 1 A i b
  pub rb : Rest 1 B j b
  pub passed : (v : ℕ) → b ≤ v → pow 1 A v ≤ pow 1 B v

pub begin : {A B : List ℕ} → Rest 1 A 0 4096 → Rest 1 B 0 4096 → Dividing A B 0 0
begin {A} {B} ra rb = record { b = 4096; ra = ra; rb = rb; passed = λ v h. omega (arith, pow-ids 1 A v h) }

module _ {A B : List ℕ} {i j : ℕ} (s : Dividing A B i j) {x : ℕ} (ex : x ≡ get_or A i 0) where
  pub all-passed : kind x ≡ 0 → true ≡ divides A B
  all-passed h = sym (divides-true A B (divides-by A B (go (word_at (omega arith) x s.ra ex))))
    where
      go : Last 1 A s.b x ⊎ Next 1 A i s.b x → (v : ℕ) → pow 1 A v ≤ pow 1 B v
      go (inl z) v = elim (dec_le s.b v) [ yes l ↦ s.passed v l | no l ↦ omega (arith, z.none v (omega arith)) ]
      go (inr z) v = absurd (omega (arith, z.upper))

module _ {A B : List ℕ} {i j : ℕ} (s : Dividing A B i j) {x y : ℕ} (ex : x ≡ get_or A i 0) (ey : y ≡ get_or B j 0) where
  pub exceeds : (kind x ≡ 0 → ⊥) → y < x → false ≡ divides A B
  exceeds h l = sym (go (word_at (omega arith) x s.ra ex) (word_at (omega arith) y s.rb ey))
    where
      go : Last 1 A s.b x ⊎ Next 1 A i s.b x → Last 1 B s.b y ⊎ Next 1 B j s.b y → divides A B ≡ false
      go (inl z) w = absurd (h (omega (arith, z.upper)))
      go (inr z) (inl w) = divides-false A B (ident x) (omega (arith, z.here, z.var.low, w.none (ident x) z.var.below))
      go (inr z) (inr w) =
          elim (ℕ_discrete (ident y) (ident x)) [
            | yes e ↦ divides-false A B (ident x) (omega (arith, z.here, w.here, z.upper, w.upper, ap (pow 1 B) e))
            | no e ↦
                let q : ident y < ident x = omega (arith, z.upper, w.upper) in
                divides-false A B (ident x) (omega (arith, z.here, z.var.low, w.gap (ident x) q z.var.below))
          ]

  pub goes_on : (kind x ≡ 0 → ⊥) → x ≤ y → Dividing A B (past i x (upper_half y)) (j + 1)
  goes_on h l = go (word_at (omega arith) y s.rb ey)
    where
      go : Last 1 B s.b y ⊎ Next 1 B j s.b y → Dividing A B (past i x (upper_half y)) (j + 1)
      go (inl w) = absurd (h (omega (arith, w.upper)))
      go (inr w) =
          let t = turn (omega arith) x (ident y) (upper_half y) s.ra ex w.var.below w.upper (omega arith) in
          let here : pow 1 A (ident y) ≤ power y =
          elim (ℕ_discrete (upper_half x) (upper_half y)) [
            | yes e ↦ omega (arith, t.power-is, at-yes x (upper_half y) 0 e)
            | no e ↦ omega (arith, t.power-is, at-no x (upper_half y) 0 e)
          ] in
          record {
            b = ident y;
            ra = t.rest;
            rb = w.rest;
            passed = λ v q.
                elim (dec_le s.b v) [
                  | yes z ↦ s.passed v z
                  | no z ↦ elim (ℕ_discrete v (ident y)) [
                    | yes e ↦ rw e (omega (arith, w.here))
                    | no e ↦ omega (arith, t.gap v (omega arith) (omega arith))
                  ]
                ];
          }

-- ---- the walk of `find_power`
-- what a canonical list says of a variable: absent, or a power that is not 0
pub find_cases : (k b n : ℕ) (ws : List ℕ) (v : ℕ) → 0 < k → Canon k b n ws
    → ((find k ws v ≡ Absent) × (pow k ws v ≡ bias k)) ⊎ ((find k ws v ≡ Found (pow k ws v)) × (pow k ws v ≡ bias k → ⊥))
unfolding Canon find
find_cases k b n [] v h c = absurd c
find_cases k b n (w ∷ ws) v h (inl e) =
    let z : find k (w ∷ ws) v ≡ Absent = rw (ne_eqb (kind w) k (λ q. omega (arith, e.kinded)), e.last) in
    inl (z, pow-end k h n w ws v e)
find_cases k b n (w ∷ ws) v h (inr (x, c)) =
    elim (ℕ_discrete (ident w) v) [
      | yes e ↦
          let q = pow-here k w ws v x.kinded e in
          inr (rw (eq-eqb (kind w) k x.kinded, eq-eqb (ident w) v e, q), λ z. x.some (sym q ∙ z))
      | no e ↦ rw (pow-past k w ws v e, eq-eqb (kind w) k x.kinded, ne_eqb (ident w) v e) (find_cases k (ident w) (suc n) ws v h c)
    ]

-- at word i of A: below b stands the variable that is looked for
pub record Finding (k : ℕ) (A : List ℕ) (v i : ℕ) : Type 0 where
  pub b : ℕ
  pub below : v < b
  pub ra : Rest k A i b

module _ {k : ℕ} (pos : 0 < k) {A : List ℕ} (ca : Canonical k 4096 A) {v i : ℕ} (s : Finding k A v i) {w : ℕ} (e : w ≡ get_or A i 0) where
  pub absent-here : upper_half w < 4096 * k + v → Absent ≡ find k A v
  absent-here h = sym (absent (find_cases k 4096 0 A v pos (canon-of ca)) (zero (word_at pos w s.ra e)))
    where
      zero : Last k A s.b w ⊎ Next k A i s.b w → pow k A v ≡ bias k
      zero (inl z) = z.none v s.below
      zero (inr z) = z.gap v (omega (arith, z.upper)) s.below

      absent : ((find k A v ≡ Absent) × (pow k A v ≡ bias k)) ⊎ ((find k A v ≡ Found (pow k A v)) × (pow k A v ≡ bias k → ⊥)) → pow k A v ≡ bias k → find k A v ≡ Absent
      absent (inl z) q = z.0
      absent (inr z) q = absurd (z.1 q)

  pub found_here : upper_half w ≡ 4096 * k + v → Found (power w) ≡ find k A v
  found_here h = sym (there (find_cases k 4096 0 A v pos (canon-of ca)) (word_at pos w s.ra e))
    where
      there : ((find k A v ≡ Absent) × (pow k A v ≡ bias k)) ⊎ ((find k A v ≡ Found (pow k A v)) × (pow k A v ≡ bias k → ⊥)) → Last k A s.b w ⊎ Next k A i s.b w → find k A v ≡ Found (power w)
      there c (inl z) = absurd (omega (arith, z.upper))
      there (inl c) (inr z) =
          let q : ident w ≡ v = omega (arith, z.upper) in
          absurd (z.var.some (sym z.here ∙ ap (pow k A) q ∙ c.1))
      there (inr c) (inr z) =
          let q : ident w ≡ v = omega (arith, z.upper) in
          c.0 ∙ ap Found (ap (pow k A) (sym q) ∙ z.here)

  pub found-later : 4096 * k + v < upper_half w → Finding k A v (i + 1)
  found-later h = go (word_at pos w s.ra e)
    where
      go : Last k A s.b w ⊎ Next k A i s.b w → Finding k A v (i + 1)
      go (inl z) = absurd (omega (arith, z.upper))
      go (inr z) = record { b = ident w; below = omega (arith, z.upper); ra = z.rest }

-- ---- the walk of `eq`
pub equal-iff : (a b : List ℕ) → (equal a b ≡ true) ↔ (a ≡ b)
unfolding equal
equal-iff a b = (to a b, from a b)
  where
    to : (a b : List ℕ) → equal a b ≡ true → a ≡ b
    to [] [] e = refl
    to [] (y ∷ b) e = absurd (false-not-true e)
    to (x ∷ a) [] e = absurd (false-not-true e)
    to (x ∷ a) (y ∷ b) e =
        let t = both_true (eqb x y) (equal a b) e in
        rw (eqb-true x y t.0) (ap (λ (l : List ℕ). y ∷ l) (to a b t.1))

    same : (b : List ℕ) → equal b b ≡ true
    same [] = refl
    same (y ∷ b) = rw (eq-eqb y y refl) (same b)

    from : (a b : List ℕ) → a ≡ b → equal a b ≡ true
    from a b e = rw e (same b)

-- the words before i are the same on both sides
pub equal-at : (a b : List ℕ) (i : ℕ) → i < length a → i < length b → get_or a i 0 ≡ get_or b i 0 → equal (drop i a) (drop i b) ≡ equal (drop (i + 1) a) (drop (i + 1) b)
unfolding equal
equal-at a b i h l e =
    rw (word-and-rest a i (get_or a i 0) h refl, word-and-rest b i (get_or b i 0) l refl, eq-eqb (get_or a i 0) (get_or b i 0) e)

pub differ-at : (a b : List ℕ) (i : ℕ) → i < length a → i < length b → (get_or a i 0 ≡ get_or b i 0 → ⊥) → equal (drop i a) (drop i b) ≡ false
unfolding equal
differ-at a b i h l e =
    rw (word-and-rest a i (get_or a i 0) h refl, word-and-rest b i (get_or b i 0) l refl, ne_eqb (get_or a i 0) (get_or b i 0) e)

pub equal-end : (a b : List ℕ) (i : ℕ) → length a ≤ i → length b ≤ i → equal (drop i a) (drop i b) ≡ true
unfolding equal
equal-end a b i h l = rw (drop_of_length-le a {i = i} h, drop_of_length-le b {i = i} l)

pub other_length : (a b : List ℕ) → (length a ≡ length b → ⊥) → equal a b ≡ false
other_length a b h = go (equal a b) refl
  where
    go : (t : Bool) → equal a b ≡ t → equal a b ≡ false
    go true e = absurd (h (ap length ((equal-iff a b).0 e)))
    go false e = e
