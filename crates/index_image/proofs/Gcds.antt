-- The gcds that nodes have, for any powers that are small and absent from variable m on. Assumes nothing.
use mathlib.Core.Path.{◌≡◌, refl, sym, ap, ◌∙◌}
use mathlib.Core.List.{List, [], ◌∷◌, ◌++◌, append_assoc}
use Prim.Native.Nat.{ℕ, min, ◌+◌, ◌-◌, ◌≤◌, ◌<◌}
use native.Mathlib.Omega.{arith}
use native.Mathlib.Decide.{ℕ_discrete, dec_le}
use lib.ListN.{length, drop, take-append-drop}
use lib.Seq.{take_at}
use Rattle.words.specs.Tables.{part, zeros}
use Rattle.words.proofs.Laws.{Words}
use Rattle.words.proofs.Tables.{part-nil}
use Rattle.monomial.specs.Monomial.{front, pow, Canonical, monomial_of}
use Rattle.monomial.specs.Operations.{powers, result_words}
use Rattle.monomial.specs.declared.ordered_ops.Op.TheVariants.{Gcd}
use Rattle.monomial.proofs.Powers.{pow-nil, pow-ids, vars-skip, vars-nil, pow-monomial, canonical-monomial, monomial-ext, monomial-small, canonical-powers, absent-above, powers-in-range}
use Rattle.monomial.proofs.Laws.{front-canonical, canonical-front}
use Rattle.kd_theory.specs.Bifurcate.{least_of, least}
use Rattle.kd_theory.proofs.BifurcateLaws.{least-append, least-most}
use Rattle.index_image.specs.declared.Shape.{Shape}
use Rattle.index_image.specs.Shape as at
use Rattle.index_image.specs.Layout.{slot, gcd_powers, gcd_of}
use Rattle.index_image.specs.Walk.{lm_length, lm_in, power}
use Rattle.index_image.specs.Rows.{monomial_in}

-- ---- monomials in the image
pub in-canonical : (W : List ℕ) (m g : ℕ) → (front 1 m 0 (drop g W) ≡ 0 → ⊥) → Canonical 1 m (monomial_in W m g)
unfolding monomial_in part
in-canonical W m g h = front-canonical 1 m (drop g W) (omega arith) h

-- a monomial in its slot is read again
pub record SlotHas (W : List ℕ) (m i : ℕ) (ws : List ℕ) : Type 0 where
  pub some : front 1 m 0 (drop i W) ≡ 0 → ⊥
  pub is : monomial_in W m i ≡ ws

pub slot_has : (W : List ℕ) (m i : ℕ) (ws : List ℕ) → Canonical 1 m ws → part W i (at.slot_width m) ≡ slot m ws → SlotHas W m i ws
unfolding slot monomial_in part
slot_has W m i ws can h =
    let rest = zeros (m + 1 - length ws) ++ drop (m + 1) (drop i W) in
    let split : drop i W ≡ ws ++ rest =
    sym (take-append-drop (m + 1) (drop i W)) ∙ ap (λ (l : List ℕ). l ++ drop (m + 1) (drop i W)) h
    ∙ append_assoc ws (zeros (m + 1 - length ws)) (drop (m + 1) (drop i W)) in
    let f : front 1 m 0 (drop i W) ≡ length ws = rw split (canonical-front 1 m ws rest (omega arith) can) in
    record { some = λ z. omega (arith, can.some); is = rw (f, split) (take_at ws rest (length ws) refl) }

pub lm-is : (W : List ℕ) (s : Shape) (e : ℕ) → lm_in W s e ≡ monomial_in W s.variables (at.lm_at s e)
unfolding lm_in monomial_in
lm-is W s e = refl

pub lm-canonical : (W : List ℕ) (s : Shape) (e : ℕ) → (lm_length W s e ≡ 0 → ⊥) → Canonical 1 s.variables (lm_in W s e)
lm-canonical W s e h = rw (lm-is W s e) (in-canonical W s.variables (at.lm_at s e) h)

-- ---- powers of entries: none is above 32,767, and none but the variables' is above 0
pub record Powers (m : ℕ) (pw : ℕ → ℕ → ℕ) : Type 0 where
  pub few : m ≤ 64
  pub small : (v e : ℕ) → pw v e ≤ 32767
  pub absent : (v e : ℕ) → m ≤ v → pw v e ≡ 0

-- those in the image; where no monomial stands, all are 0
module _ (W : List ℕ) (s : Shape) where
  lm-none : (e : ℕ) → lm_length W s e ≡ 0 → lm_in W s e ≡ []
  unfolding lm_in
  lm-none e z = rw z (part-nil W (at.lm_at s e))

  pub power_small : (v e : ℕ) → power W s v e ≤ 32767
  unfolding power
  power_small v e =
      elim (ℕ_discrete (lm_length W s e) 0) [
        | yes z ↦ rw (lm-none e z, pow-nil 1 v) (omega arith)
        | no z ↦ (powers-in-range 1 s.variables (lm_in W s e) v (omega arith) (omega arith) (lm-canonical W s e z)).high
      ]

  pub power-absent : (v e : ℕ) → s.variables ≤ v → power W s v e ≡ 0
  unfolding power
  power-absent v e h =
      elim (ℕ_discrete (lm_length W s e) 0) [
        | yes z ↦ rw (lm-none e z) (pow-nil 1 v)
        | no z ↦ absent-above 1 s.variables (lm_in W s e) v (omega arith) (lm-canonical W s e z) h
      ]

  pub image-powers : s.variables ≤ 64 → Powers s.variables (power W s)
  image-powers few = record { few = few; small = power_small; absent = power-absent }

  pub lm-powers : (v e : ℕ) → power W s v e ≡ pow 1 (lm_in W s e) v
  unfolding power
  lm-powers v e = refl

-- ---- the gcd of some entries
module _ (m : ℕ) (pw : ℕ → ℕ → ℕ) (P : Powers m pw) where
  pub powers-small : (es : List ℕ) (v : ℕ) → gcd_powers pw es v ≤ 32767
  unfolding gcd_powers
  powers-small es v = least-most (pw v) 32767 es (P.small v)

  pub powers-absent : (es : List ℕ) (v : ℕ) → m ≤ v → gcd_powers pw es v ≡ 0
  unfolding gcd_powers
  powers-absent es v h = let l : least (pw v) es ≤ 0 = least-most (pw v) 0 es (λ e. omega (arith, P.absent v e h)) in omega arith

  pub gcd-canonical : (es : List ℕ) → Canonical 1 m (gcd_of pw es)
  gcd-canonical es =
      canonical-monomial 1 m (gcd_powers pw es) (omega arith) (omega (arith, P.few)) (omega arith)
      (λ v. record { low = omega arith; high = omega (arith, powers-small es v) }) (powers-absent es)

  pub gcd-words : (es : List ℕ) → Words (gcd_of pw es)
  gcd-words es = monomial-small 1 (gcd_powers pw es) (omega arith) (λ v. omega (arith, powers-small es v))

  pub gcd-pow : (es : List ℕ) (v : ℕ) → pow 1 (gcd_of pw es) v ≡ least (pw v) es
  unfolding gcd_powers
  gcd-pow es v =
      elim (dec_le 4096 v) [
        | yes h ↦ pow-ids 1 (gcd_of pw es) v h ∙ sym (powers-absent es v (omega (arith, P.few)))
        | no h ↦ pow-monomial 1 (gcd_powers pw es) (omega arith) (λ u. omega (arith, powers-small es u)) v (omega arith)
      ]

  pub gcd-none : gcd_of pw [] ≡ 0 ∷ []
  unfolding monomial_of gcd_powers least
  gcd-none = rw (vars-skip 1 0 4096 (λ v. 0) (omega arith) (λ v i j. refl), vars-nil 1 (λ v. 0))

  -- of one entry, and of one entry more, whose powers are those of ws
  module _ (e : ℕ) (ws : List ℕ) (can : Canonical 1 m ws) (ep : (v : ℕ) → pw v e ≡ pow 1 ws v) where
    pub gcd-one : gcd_of pw (e ∷ []) ≡ ws
    unfolding gcd_powers least least_of
    gcd-one = monomial-ext 1 (λ v. pw v e) (pow 1 ws) ep ∙ sym (canonical-powers 1 m ws (omega arith) can)

  pub gcd-both : (xs ys : List ℕ) → 0 < length xs → 0 < length ys → result_words Gcd (gcd_of pw xs) (gcd_of pw ys) ≡ gcd_of pw (xs ++ ys)
  unfolding result_words powers gcd_powers
  gcd-both xs ys h k =
      monomial-ext 1 (λ v. min (pow 1 (gcd_of pw xs) v) (pow 1 (gcd_of pw ys) v)) (λ v. least (pw v) (xs ++ ys))
      (λ v. omega (arith, gcd-pow xs v, gcd-pow ys v, least-append (pw v) xs ys h k))

  pub gcd-more : (xs : List ℕ) (e : ℕ) (ws : List ℕ) → 0 < length xs → Canonical 1 m ws → ((v : ℕ) → pw v e ≡ pow 1 ws v)
      → result_words Gcd (gcd_of pw xs) ws ≡ gcd_of pw (xs ++ e ∷ [])
  gcd-more xs e ws h can ep = rw (← gcd-one e ws can ep) (gcd-both xs (e ∷ []) h (omega arith))
