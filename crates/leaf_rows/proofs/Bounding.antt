-- Entries within bounds: the walk over one monomial, and all entries of a part of the permutation. Assumes nothing.
use mathlib.Core.Path.{◌≡◌, refl}
use mathlib.Core.List.{List, ◌∷◌}
use mathlib.Core.Logic.{◌⊎◌, inl, inr, ◌↔◌}
use Prim.Native.Nat.{ℕ, zero, suc, ◌+◌, ◌≤◌, ◌<◌}
use native.Mathlib.Omega.{arith}
use native.Mathlib.Decide.{ℕ_discrete, dec_le}
use lib.ListN.{length, get_or}
use Rattle.words.specs.Kinds.{kind, ident, power as power_in}
use Rattle.words.specs.Tables.{part}
use Rattle.words.proofs.Tables.{part-nil, part-cons}
use Rattle.monomial.specs.Monomial.{Canonical, pow}
use Rattle.monomial.proofs.Canon.{canon-of}
use Rattle.monomial.proofs.Walks.{Rest, Last, Next, word_at}
use Rattle.kd_theory.specs.Bag.{◌∈◌}
use Rattle.kd_theory.proofs.BagLaws.{occurs-nil, here, there, at-cons}
use Rattle.index_image.specs.declared.Shape.{Shape}
use Rattle.leaf_rows.specs.Leaves.{Bounded}
use Rattle.leaf_rows.specs.Leaves.{Inside}

-- ---- the walk over a monomial: powers of the variables from b on are below their bounds
pub record Passing (m : ℕ) (A H : List ℕ) (i : ℕ) : Type 0 where
  pub b : ℕ
  pub below : b ≤ m
  pub ra : Rest 1 A i b
  pub passed : (v : ℕ) → b ≤ v → v < m → pow 1 A v < get_or H v 0

pub passing : {m : ℕ} (A H : List ℕ) → m ≤ 64 → Canonical 1 m A → Passing m A H 0
passing {m} A H h c = record {
  b = m;
  below = omega arith;
  ra = record { n = 0; few = omega arith; canon = canon-of c; same = λ v l. refl };
  passed = λ v l k. absurd (omega arith);
}

module _ {m : ℕ} {A H : List ℕ} (some : (v : ℕ) → v < m → 1 ≤ get_or H v 0) {i : ℕ} (s : Passing m A H i) {w : ℕ} (e : w ≡ get_or A i 0) where
  pub all-passed : kind w ≡ 0 → (v : ℕ) → v < m → pow 1 A v < get_or H v 0
  all-passed h v l = go (word_at (omega arith) w s.ra e)
    where
      go : Last 1 A s.b w ⊎ Next 1 A i s.b w → pow 1 A v < get_or H v 0
      go (inl z) = elim (dec_le s.b v) [ yes y ↦ s.passed v y l | no y ↦ omega (arith, z.none v (omega arith), some v l) ]
      go (inr z) = absurd (omega (arith, z.upper))

  pub record Here : Type 0 where
    pub known : ident w < m
    pub is : pow 1 A (ident w) ≡ power_in w
    pub next : power_in w < get_or H (ident w) 0 → Passing m A H (i + 1)

  pub at-variable : (kind w ≡ 0 → ⊥) → Here
  at-variable h = go (word_at (omega arith) w s.ra e)
    where
      go : Last 1 A s.b w ⊎ Next 1 A i s.b w → Here
      go (inl z) = absurd (h (omega (arith, z.upper)))
      go (inr z) =
          let u = ident w in
          let k : u < m = omega (arith, z.var.below, s.below) in
          record {
            known = k;
            is = z.here;
            next = λ l. record {
              b = u;
              below = omega arith;
              ra = z.rest;
              passed = λ v i j.
                  elim (ℕ_discrete v u) [
                    | yes y ↦ rw y (omega (arith, z.here))
                    | no y ↦ elim (dec_le s.b v) [ yes q ↦ s.passed v q j | no q ↦ omega (arith, z.gap v (omega arith) (omega arith), some v j) ]
                  ];
            };
          }

-- ---- the entries of a part
pub in-part : (Q : ℕ → Type 0) (W : List ℕ) (p c : ℕ) → p + c ≤ length W
    → ((e : ℕ) → e ∈ part W p c → Q e) ↔ ((i : ℕ) → i < c → Q (get_or W (p + i) 0))
in-part Q W p zero h = (
  λ (f : (e : ℕ) → e ∈ part W p 0 → Q e). λ i l. absurd (omega arith),
  λ f e m. absurd (omega (arith, occurs-nil e, rw (part-nil W p) at m)),
)
in-part Q W p (suc c) h =
    let eq : part W p (suc c) ≡ get_or W p 0 ∷ part W (p + 1) c = part-cons W p c (omega arith) in
    let ih = in-part Q W (p + 1) c (omega arith) in
    (λ (f : (e : ℕ) → e ∈ part W p (suc c) → Q e). to eq ih.0 f, λ f. from eq ih.1 f)
  where
    to : part W p (suc c) ≡ get_or W p 0 ∷ part W (p + 1) c → (((e : ℕ) → e ∈ part W (p + 1) c → Q e) → (i : ℕ) → i < c → Q (get_or W (p + 1 + i) 0))
        → ((e : ℕ) → e ∈ part W p (suc c) → Q e) → (i : ℕ) → i < suc c → Q (get_or W (p + i) 0)
    to eq rec f zero l = let z : p + 0 ≡ p = omega arith in rw z (f (get_or W p 0) (rw eq (here (get_or W p 0) (part W (p + 1) c))))
    to eq rec f (suc i) l =
        let z : p + suc i ≡ p + 1 + i = omega arith in
        rw z (rec (λ e m. f e (rw eq (there e (get_or W p 0) (part W (p + 1) c) m))) i (omega arith))

    from : part W p (suc c) ≡ get_or W p 0 ∷ part W (p + 1) c → (((i : ℕ) → i < c → Q (get_or W (p + 1 + i) 0)) → (e : ℕ) → e ∈ part W (p + 1) c → Q e)
        → ((i : ℕ) → i < suc c → Q (get_or W (p + i) 0)) → (e : ℕ) → e ∈ part W p (suc c) → Q e
    from eq rec f e m =
        let z : p + 0 ≡ p = omega arith in
        at-cons Q (get_or W p 0) (part W (p + 1) c) (rw z at (f 0 (omega arith)))
        (rec (λ i l. let y : p + 1 + i ≡ p + suc i = omega arith in rw y (f (suc i) (omega arith)))) e (rw eq at m)

module _ (W : List ℕ) (s : Shape) (H : List ℕ) (ll lh : ℕ) where
  pub bounded-each : (es : List ℕ) → Bounded W s H ll lh es ↔ ((e : ℕ) → e ∈ es → Inside W s H ll lh e)
  bounded-each es = (
    λ (b : Bounded W s H ll lh es). λ e m. record { powers = b.powers e m; labels = λ k. b.labels k e m },
    λ f. record { powers = λ e m. (f e m).powers; labels = λ k e m. (f e m).labels k },
  )

  pub bounded-part : (p c : ℕ) → p + c ≤ length W → Bounded W s H ll lh (part W p c) ↔ ((i : ℕ) → i < c → Inside W s H ll lh (get_or W (p + i) 0))
  bounded-part p c h =
      let a = bounded-each (part W p c) in
      let b = in-part (Inside W s H ll lh) W p c h in
      (λ (x : Bounded W s H ll lh (part W p c)). b.0 (a.0 x), λ x. a.1 (b.1 x))

  -- an entry that is not within the bounds
  pub not-bounded : (p c i : ℕ) → p + c ≤ length W → i < c → (Inside W s H ll lh (get_or W (p + i) 0) → ⊥) → Bounded W s H ll lh (part W p c) → ⊥
  not-bounded p c i h l n b = n ((bounded-part p c h).0 b i l)
