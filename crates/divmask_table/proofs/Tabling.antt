-- The table of the bits that small powers set: how it is filled, and the walk of a map that goes by it. Assumes nothing.
use Rattle.std.proofs.Common.{◌≡◌, ℕ, ◌+◌, ◌-◌, ◌*◌, ◌/◌, ◌%◌, ◌^◌, ◌<◌, ◌≤◌, true, false, List, ◌∷◌, length, get_or, take, drop, set, sym, ap, ◌∙◌, mod-eq_of_lt, arith, length-set, drop_of_length-le, length-take, get_or-drop, get_or-set_other, get_or-take, get_or-set_same}
use native.Mathlib.Decide.{ℕ_discrete}
use Rattle.words.specs.Kinds.{kind, payload, ident, power}
use Rattle.words.specs.Words.{words, put_w}
use Rattle.words.proofs.Laws.{length-words, length-put_w, words-put_w, word-and-rest}
use Rattle.words.specs.Tables.{part}
use Rattle.monomial.specs.Monomial.{is_var, front}
use Rattle.monomial.proofs.Canon.{is-var, front-none, front-end, front-bad-end, front-var, front-bad-var}
use Rattle.monomial.proofs.Laws.{front-canonical}
use Rattle.monomial.proofs.Walks.{within}
use Rattle.divmask.specs.Mask.{both}
use Rattle.divmask.proofs.Sums.{Adding, adding, added, more}
use Rattle.divmask_table.specs.Table.{pair_at, Tabled, Stands}

-- ---- the first k pairs
pub record Filled (m : ℕ) (xs T : List ℕ) (k : ℕ) : Type 0 where
  pub pairs : (j : ℕ) → j < k → pair_at T j ≡ both m xs (j / 16) (j % 16 + 1)

pub filled_none : (m : ℕ) (xs T : List ℕ) → Filled m xs T 0
filled_none m xs T = record { pairs = λ j h. absurd (omega arith) }

pub fill_more : (m : ℕ) (xs t t' : List ℕ) (k x : ℕ) → 4 * (2 * k) + 8 ≤ length t → x < 2 ^ 64 → x ≡ both m xs (k / 16) (k % 16 + 1)
    → t' ≡ put_w (put_w t (2 * k) (x % 4294967296)) (2 * k + 1) (x / 4294967296) → Filled m xs (words t) k → Filled m xs (words t') (k + 1)
fill_more m xs t t' k x room small ex et f = record { pairs = λ j h. rw is (at j h) }
  where
    a : ℕ
    a = x % 4294967296

    b : ℕ
    b = x / 4294967296

    is : words t' ≡ set (set (words t) (2 * k) (x % 4294967296)) (2 * k + 1) (x / 4294967296)
    is =
        rw (
          et,
          words-put_w (put_w t (2 * k) (x % 4294967296)) (2 * k + 1) (x / 4294967296) (omega arith) (omega (arith, length-put_w t (2 * k) (x % 4294967296))),
          words-put_w t (2 * k) (x % 4294967296) (omega arith) (omega arith),
        )

    at : (j : ℕ) → j < k + 1 → pair_at (set (set (words t) (2 * k) (x % 4294967296)) (2 * k + 1) (x / 4294967296)) j ≡ both m xs (j / 16) (j % 16 + 1)
    at j h =
        elim (ℕ_discrete j k) [
          | yes e ↦ rw (
            e,
            get_or-set_other (set (words t) (2 * k) (x % 4294967296)) (2 * k + 1) (2 * k) (x / 4294967296) 0 (λ z. omega arith),
            get_or-set_same (words t) (2 * k) (x % 4294967296) 0 (omega (arith, length-words t)),
            get_or-set_same (set (words t) (2 * k) (x % 4294967296)) (2 * k + 1) (x / 4294967296) 0 (omega (arith, length-words t, length-set (words t) (2 * k) (x % 4294967296))),
          ) (omega arith)
          | no e ↦ rw (
            get_or-set_other (set (words t) (2 * k) (x % 4294967296)) (2 * k + 1) (2 * j) (x / 4294967296) 0 (λ z. omega arith),
            get_or-set_other (words t) (2 * k) (2 * j) (x % 4294967296) 0 (λ z. e (omega arith)),
            get_or-set_other (set (words t) (2 * k) (x % 4294967296)) (2 * k + 1) (2 * j + 1) (x / 4294967296) 0 (λ z. e (omega arith)),
            get_or-set_other (words t) (2 * k) (2 * j + 1) (x % 4294967296) 0 (λ z. omega arith),
          ) (f.pairs j (omega arith))
        ]

pub tabled : (m : ℕ) (xs T : List ℕ) (n k : ℕ) → n ≡ 16 * m → n ≤ k → Filled m xs T k → Tabled m xs T 16
tabled m xs T n k en h f = record {
  few = omega arith;
  has = λ v q hv lo hi.
      let j = 16 * v + (q - 1) in
      let ev : j / 16 ≡ v = omega arith in
      let eq : j % 16 + 1 ≡ q = omega arith in
      rw (ev, eq) at (f.pairs j (omega arith));
}

pub tabled-none : (m : ℕ) (xs T : List ℕ) → Tabled m xs T 0
tabled-none m xs T = record { few = omega arith; has = λ v q hv lo hi. absurd (omega arith) }

-- ---- one pass that judges and adds up: what is added up counts only where the monomial turns out to be canonical
pub record Going (m : ℕ) (xs W : List ℕ) (at i bound sum : ℕ) : Type 0 where
  pub from : at ≤ i
  pub few : (i - at) + bound ≤ m
  pub tail : front 1 m 0 (drop at W) ≡ front 1 bound (i - at) (drop i W)
  pub sums : (front 1 m 0 (drop at W) ≡ 0 → ⊥) → Adding m xs (part W at (front 1 m 0 (drop at W))) (i - at) sum

pub going : (m : ℕ) (xs W : List ℕ) (at : ℕ) → m ≤ 64 → Going m xs W at at m 0
unfolding part
going m xs W at h =
    let z : at - at ≡ 0 = omega arith in
    record {
      from = omega arith;
      few = omega arith;
      tail = rw z;
      sums = λ n. rw z (adding xs h (front-canonical 1 m (drop at W) (omega arith) n));
    }

module _ (m : ℕ) (xs W : List ℕ) (most : m ≤ 64) (at i bound sum : ℕ) (g : Going m xs W at i bound sum) where
  pub ran_out : length W ≤ i → front 1 m 0 (drop at W) ≡ 0
  ran_out h = g.tail ∙ rw (drop_of_length-le W h) (front-none 1 bound (i - at))

  module _ (w : ℕ) (hi : i < length W) (ew : w ≡ get_or W i 0) where
    this : drop i W ≡ w ∷ drop (i + 1) W
    this = word-and-rest W i w hi ew

    inside : (n : front 1 m 0 (drop at W) ≡ 0 → ⊥) → w ≡ get_or (part W at (front 1 m 0 (drop at W))) (i - at) 0
    unfolding part
    inside n =
        let F = front 1 m 0 (drop at W) in
        let l : i - at < length (take F (drop at W)) = within (g.sums n).masks.ra in
        let z : at + (i - at) ≡ i = omega (arith, g.from) in
        let q : i - at < F = omega (arith, length-take F (drop at W)) in
        ew ∙ sym (get_or-take F (drop at W) (i - at) 0 q ∙ get_or-drop at W (i - at) 0 ∙ ap (λ (k : ℕ). get_or W k 0) z)

    pub judged : (n : ℕ) → n ≡ i - at → kind w ≡ 0 → payload w ≡ n → Stands m xs W at (record { words = n + 1; masks = sum })
    judged n en k p =
        let e : n + 1 ≡ front 1 m 0 (drop at W) = sym (g.tail ∙ rw (this, ← en) (front-end 1 bound n w (drop (i + 1) W) k p)) in
        let z : n + 1 ≡ 0 → ⊥ = λ q. omega arith in
        record {
          some = z;
          words = e;
          masks = rw e (added (g.sums (λ q. z (e ∙ q))) (inside (λ q. z (e ∙ q))) k);
        }

    pub wrong-end : (n : ℕ) → n ≡ i - at → kind w ≡ 0 → (payload w ≡ n → ⊥) → front 1 m 0 (drop at W) ≡ 0
    wrong-end n en k p = g.tail ∙ rw (this, ← en) (front-bad-end 1 bound n w (drop (i + 1) W) k p)

    pub no_power : (kind w ≡ 0 → ⊥) → is_var 1 bound w ≡ false → front 1 m 0 (drop at W) ≡ 0
    no_power k v = g.tail ∙ rw this (front-bad-var 1 bound (i - at) w (drop (i + 1) W) k v)

    module _ (k : kind w ≡ 0 → ⊥) (v : is_var 1 bound w ≡ true) where
      pub known : (ident w < m) × ((1 ≤ power w) × (power w ≤ 32767))
      known = let u = is-var 1 bound w v in (omega (arith, u.below, g.few), (omega (arith, u.low), omega (arith, u.high)))

      pub go_on : (x y : ℕ) → x ≡ both m xs (ident w) (power w) → y ≡ (sum + x) % 2 ^ 64 → Going m xs W at (i + 1) (ident w) y
      go_on x y ex ey =
          let u = is-var 1 bound w v in
          let z : i + 1 - at ≡ (i - at) + 1 = omega (arith, g.from) in
          record {
            from = omega (arith, g.from);
            few = omega (arith, u.below, g.few, g.from);
            tail = rw z (g.tail ∙ rw this (front-var 1 bound (i - at) w (drop (i + 1) W) k v));
            sums = λ n.
                let s = more (g.sums n) (inside n) k x in
                rw (z, ey ∙ mod-eq_of_lt (s.fits ex)) (s.rest ex);
          }
