-- A monomial's powers laid out in a table, and another one held against them. Assumes nothing.
use mathlib.Core.Path.{◌≡◌, refl, sym, ap, ◌∙◌}
use mathlib.Core.Bool.{true, false}
use mathlib.Core.List.{List}
use mathlib.Core.Logic.{◌⊎◌, inl, inr}
use Prim.Native.Nat.{ℕ, ◌+◌, ◌*◌, ◌^◌, ◌≤◌, ◌<◌}
use native.Mathlib.Decide.{ℕ_discrete, dec_le}
use native.Mathlib.Omega.{arith}
use lib.ListN.{length, get_or}
use lib.Seq.{get_or-set_same, get_or-set_other}
use Rattle.words.specs.Kinds.{kind, ident, power}
use Rattle.words.specs.Words.{words, put_w, paste_w}
use Rattle.words.specs.Tables.{zeros}
use Rattle.words.proofs.Laws.{length-words, words-put_w}
use Rattle.words.proofs.Tables.{part-get, length-zeros, zeros-get, small-zeros}
use Rattle.words.proofs.Pasting.{part-pasted}
use Rattle.monomial.specs.Monomial.{Canonical, pow}
use Rattle.monomial.specs.Operations.{divides}
use Rattle.monomial.proofs.Canon.{canon-of}
use Rattle.monomial.proofs.Powers.{absent-above}
use Rattle.monomial.proofs.Divisions.{divides-true, divides-false, divides-by}
use Rattle.monomial.proofs.Walks.{Rest, Last, Next, word_at}
use Rattle.power_table.specs.Tabled.{Powers}

pub whole : {A : List ℕ} → Canonical 1 64 A → Rest 1 A 0 64
whole {A} c = record { n = 0; few = omega arith; canon = canon-of c; same = λ v l. refl }

-- ---- laid out from the highest variable down: those from b on have their power, the others are 0
pub record Laying (bs M : List ℕ) (i : ℕ) : Type 0 where
  pub b : ℕ
  pub few : b ≤ 64
  pub ra : Rest 1 M i b
  pub done : (v : ℕ) → v < 64 → b ≤ v → get_or (words bs) v 0 ≡ pow 1 M v
  pub none : (v : ℕ) → v < b → get_or (words bs) v 0 ≡ 0

pub lay-start : (bs bs' M : List ℕ) → Canonical 1 64 M → 256 ≤ length bs → bs' ≡ paste_w bs 0 (zeros 64) → Laying bs' M 0
lay-start bs bs' M c room e =
    let long : length (zeros 64) ≡ 64 = length-zeros 64 in
    let fits : 4 * (0 + length (zeros 64)) ≤ length bs = omega (arith, long) in
    record {
      b = 64;
      few = omega arith;
      ra = whole c;
      done = λ v h k. absurd (omega arith);
      none = λ v h.
          let zero : get_or (words (paste_w bs 0 (zeros 64))) (0 + v) 0 ≡ 0 = sym (part-get (words (paste_w bs 0 (zeros 64))) 0 (length (zeros 64)) v (omega (arith, long)))
          ∙ ap (λ (l : List ℕ). get_or l v 0) (part-pasted bs 0 (zeros 64) (small-zeros 64).each fits) ∙ zeros-get 64 v in
          let same : 0 + v ≡ v = omega arith in
          rw e (rw same at zero);
    }

module _ (bs M : List ℕ) (i w : ℕ) (S : Laying bs M i) (e : w ≡ get_or M i 0) where
  pub lay-end : kind w ≡ 0 → Powers (words bs) M
  lay-end h = record { each = λ v l. go v l (word_at (omega arith) w S.ra e) }
    where
      go : (v : ℕ) → v < 64 → Last 1 M S.b w ⊎ Next 1 M i S.b w → get_or (words bs) v 0 ≡ pow 1 M v
      go v l (inl z) =
          elim (dec_le S.b v) [
            | yes y ↦ S.done v l y
            | no y ↦ S.none v (omega arith) ∙ sym (z.none v (omega arith))
          ]
      go v l (inr z) = absurd (omega (arith, z.var.kinded))

  pub record LayStep : Type 0 where
    pub known : ident w < 64
    pub next : (bs' : List ℕ) → 256 ≤ length bs → bs' ≡ put_w bs (ident w) (power w) → Laying bs' M (i + 1)

  pub lay-more : (kind w ≡ 0 → ⊥) → LayStep
  lay-more h = go (word_at (omega arith) w S.ra e)
    where
      go : Last 1 M S.b w ⊎ Next 1 M i S.b w → LayStep
      go (inl z) = absurd (h (omega (arith, z.upper)))
      go (inr z) = record {
        known = omega (arith, z.var.below, S.few);
        next = λ bs' room eq.
            let fits : 4 * ident w + 4 ≤ length bs = omega (arith, z.var.below, S.few) in
            let small : power w < 2 ^ 32 = omega arith in
            let kept : (v : ℕ) → (v ≡ ident w → ⊥) → get_or (words (put_w bs (ident w) (power w))) v 0 ≡ get_or (words bs) v 0 = λ v n.
            rw (words-put_w bs (ident w) (power w) small fits) (get_or-set_other (words bs) (ident w) v (power w) 0 n) in
            record {
              b = ident w;
              few = omega (arith, z.var.below, S.few);
              ra = z.rest;
              done = λ v l k.
                  elim (ℕ_discrete v (ident w)) [
                    | yes y ↦ rw (eq, y, words-put_w bs (ident w) (power w) small fits)
                        (get_or-set_same (words bs) (ident w) (power w) 0 (omega (arith, length-words bs)) ∙ sym z.here)
                    | no y ↦ rw eq (kept v y ∙ elim (dec_le S.b v) [
                      | yes q ↦ S.done v l q
                      | no q ↦ S.none v (omega arith) ∙ sym (z.gap v (omega arith) (omega arith))
                    ])
                  ];
              none = λ v l. rw eq (kept v (λ y. omega arith) ∙ S.none v (omega (arith, z.var.below)));
            };
      }

-- ---- held against the table P: no power from b on exceeds it
pub record Passing (P A : List ℕ) (i : ℕ) : Type 0 where
  pub b : ℕ
  pub few : b ≤ 64
  pub ra : Rest 1 A i b
  pub passed : (v : ℕ) → v < 64 → b ≤ v → pow 1 A v ≤ get_or P v 0

pub pass-start : (P A : List ℕ) → Canonical 1 64 A → Passing P A 0
pass-start P A c = record { b = 64; few = omega arith; ra = whole c; passed = λ v h k. absurd (omega arith) }

module _ (P A : List ℕ) (i w : ℕ) (S : Passing P A i) (e : w ≡ get_or A i 0) where
  pub pass-end : Canonical 1 64 A → kind w ≡ 0 → (M : List ℕ) → Powers P M → true ≡ divides A M
  pass-end c h M T = sym (divides-true A M (divides-by A M (λ v. each v (word_at (omega arith) w S.ra e))))
    where
      each : (v : ℕ) → Last 1 A S.b w ⊎ Next 1 A i S.b w → pow 1 A v ≤ pow 1 M v
      each v (inl z) =
          elim (dec_le 64 v) [
            | yes y ↦ omega (arith, absent-above 1 64 A v (omega arith) c y)
            | no y ↦ elim (dec_le S.b v) [
              | yes q ↦ omega (arith, T.each v (omega arith), S.passed v (omega arith) q)
              | no q ↦ omega (arith, z.none v (omega arith))
            ]
          ]
      each v (inr z) = absurd (omega (arith, z.var.kinded))

  pub record PassStep : Type 0 where
    pub known : ident w < 64
    pub fails : get_or P (ident w) 0 < power w → (M : List ℕ) → Powers P M → false ≡ divides A M
    pub next : power w ≤ get_or P (ident w) 0 → Passing P A (i + 1)

  pub pass-more : (kind w ≡ 0 → ⊥) → PassStep
  pass-more h = go (word_at (omega arith) w S.ra e)
    where
      go : Last 1 A S.b w ⊎ Next 1 A i S.b w → PassStep
      go (inl z) = absurd (h (omega (arith, z.upper)))
      go (inr z) = record {
        known = omega (arith, z.var.below, S.few);
        fails = λ l M T. sym (divides-false A M (ident w) (omega (arith, z.here, T.each (ident w) (omega (arith, z.var.below, S.few)))));
        next = λ l. record {
          b = ident w;
          few = omega (arith, z.var.below, S.few);
          ra = z.rest;
          passed = λ v k r.
              elim (ℕ_discrete v (ident w)) [
                | yes y ↦ rw y (omega (arith, z.here))
                | no y ↦ elim (dec_le S.b v) [
                  | yes q ↦ S.passed v k q
                  | no q ↦ omega (arith, z.gap v (omega arith) (omega arith))
                ]
              ];
        };
      }
