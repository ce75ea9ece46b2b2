-- The limits of a query, written. Assumes nothing.
use mathlib.Core.Path.{◌≡◌, refl, sym, ap, ◌∙◌}
use mathlib.Core.Bool.{true, false}
use mathlib.Core.List.{List}
use mathlib.Core.Logic.{◌⊎◌, inl, inr}
use Prim.Native.Nat.{ℕ, ◌+◌, ◌*◌, ◌^◌, ◌≤◌, ◌<◌}
use native.Mathlib.Decide.{ℕ_discrete, dec_le}
use native.Mathlib.Omega.{arith}
use lib.ListN.{length, get_or}
use lib.Seq.{get_or-set_same, get_or-set_other}
use borrow.Author.Tests.{le-leb, lt-leb}
use Rattle.words.specs.Kinds.{kind, ident, power}
use Rattle.words.specs.Words.{words, put_w, paste_w}
use Rattle.words.specs.Tables.{zeros}
use Rattle.words.proofs.Laws.{length-words, words-put_w}
use Rattle.words.proofs.Tables.{part-get, length-zeros, zeros-get, small-zeros}
use Rattle.words.proofs.Pasting.{part-pasted, get_after}
use Rattle.monomial.specs.Monomial.{Canonical, pow}
use Rattle.monomial.proofs.Canon.{canon-of}
use Rattle.monomial.proofs.Walks.{Rest, Last, Next, word_at, narrow}
use Rattle.index_theory.specs.Searches.{dense}
use Rattle.index_image.specs.Shape as at
use Rattle.index_image.specs.declared.Shape.{Shape}
use Rattle.query_writing.specs.Written.{limit_for, Limited}

-- ---- one word written
put-here : (bs : List ℕ) (i w : ℕ) → w < 2 ^ 32 → 4 * i + 4 ≤ length bs → get_or (words (put_w bs i w)) i 0 ≡ w
put-here bs i w h r = rw (words-put_w bs i w h r) (get_or-set_same (words bs) i w 0 (omega (arith, length-words bs)))

put_other : (bs : List ℕ) (i w j : ℕ) → w < 2 ^ 32 → 4 * i + 4 ≤ length bs → (j ≡ i → ⊥) → get_or (words (put_w bs i w)) j 0 ≡ get_or (words bs) j 0
put_other bs i w j h r n = rw (words-put_w bs i w h r) (get_or-set_other (words bs) i j w 0 n)

-- ---- every key passes
abbrev pub AllPass : List ℕ → Shape → ℕ → Type 0
AllPass bs s n = (v : ℕ) → v < n → get_or (words bs) (1 + s.kind + v) 0 ≡ 4294967295

pub pass-more : (bs bs' : List ℕ) (s : Shape) (n : ℕ) → AllPass bs s n → 4 * (1 + s.kind + n) + 4 ≤ length bs → bs' ≡ put_w bs (1 + s.kind + n) 4294967295 → AllPass bs' s (n + 1)
pass-more bs bs' s n P r e v h =
    elim (ℕ_discrete v n) [
      | yes z ↦ rw (e, z) (put-here bs (1 + s.kind + n) 4294967295 (omega arith) r)
      | no z ↦ rw e (put_other bs (1 + s.kind + n) 4294967295 (1 + s.kind + v) (omega arith) r (λ y. omega arith) ∙ P v (omega arith))
    ]

pub pass-end : (bs : List ℕ) (s : Shape) (n : ℕ) → AllPass bs s n → s.variables ≤ n → Limited (words bs) s (λ v. 4294967295)
pass-end bs s n P h = record { each = λ v l. P v (omega arith) }

pub pass_all : (Q M : List ℕ) (s : Shape) → Limited Q s (λ v. 4294967295) → Limited Q s (limit_for false M)
unfolding limit_for
pass_all Q M s L = record { each = L.each }

-- ---- the limit of a variable by the highest of a monomial
limit-low : (M : List ℕ) (v : ℕ) → v ≤ ident (get_or M 0 0) → limit_for true M v ≡ pow 1 M v
unfolding limit_for dense
limit-low M v h = rw (le-leb v (ident (get_or M 0 0)) h) refl

limit-high : (M : List ℕ) (v : ℕ) → ident (get_or M 0 0) < v → limit_for true M v ≡ 4294967295
unfolding limit_for dense
limit-high M v h = rw (lt-leb v (ident (get_or M 0 0)) h) refl

-- ---- powers are set from the highest variable down: those from b on have their limit, the others are 0
pub record Setting (bs : List ℕ) (s : Shape) (M : List ℕ) (i : ℕ) : Type 0 where
  pub b : ℕ
  pub few : b ≤ s.variables
  pub top : b ≤ ident (get_or M 0 0) + 1
  pub ra : Rest 1 M i b
  pub done : (v : ℕ) → v < s.variables → b ≤ v → get_or (words bs) (1 + s.kind + v) 0 ≡ limit_for true M v
  pub none : (v : ℕ) → v < b → get_or (words bs) (1 + s.kind + v) 0 ≡ 0

module _ (s : Shape) (R : at.InRange s) (M : List ℕ) (c : Canonical 1 s.variables M) where
  whole : Rest 1 M 0 s.variables
  whole = record { n = 0; few = omega (arith, R.vars-to); canon = canon-of c; same = λ v l. refl }

  pub top-few : (x : ℕ) → x ≡ get_or M 0 0 → ident x < s.variables
  top-few x e = go (word_at (omega arith) x whole e)
    where
      go : Last 1 M s.variables x ⊎ Next 1 M 0 s.variables x → ident x < s.variables
      go (inl z) = omega (arith, z.upper, R.vars-from)
      go (inr z) = z.var.below

  pub set-start : (bs bs' : List ℕ) (x : ℕ) → 368 ≤ length bs → Limited (words bs) s (λ v. 4294967295) → x ≡ get_or M 0 0
      → bs' ≡ paste_w bs (1 + s.kind) (zeros (ident x + 1)) → Setting bs' s M 0
  set-start bs bs' x room L ex e =
      let t = top-few x ex in
      let o = 1 + s.kind in
      let long : length (zeros (ident x + 1)) ≡ ident x + 1 = length-zeros (ident x + 1) in
      let fits : 4 * (o + length (zeros (ident x + 1))) ≤ length bs = omega (arith, long, t, R.vars-to, R.kind-to) in
      let same : ident x ≡ ident (get_or M 0 0) = ap ident ex in
      record {
        b = ident x + 1;
        few = omega arith;
        top = omega (arith, same);
        ra = narrow (omega arith) x whole ex (ident x + 1) (omega arith) (λ z. omega arith);
        done = λ v h k. rw e (get_after bs o (zeros (ident x + 1)) (o + v) (omega (arith, long)) fits ∙ L.each v h ∙ sym (limit-high M v (omega (arith, same))));
        none = λ v h.
            rw e (sym (part-get (words (paste_w bs o (zeros (ident x + 1)))) o (length (zeros (ident x + 1))) v (omega (arith, long)))
            ∙ ap (λ (l : List ℕ). get_or l v 0) (part-pasted bs o (zeros (ident x + 1)) (small-zeros (ident x + 1)).each fits) ∙ zeros-get (ident x + 1) v);
      }

  module _ (bs : List ℕ) (i w : ℕ) (S : Setting bs s M i) (e : w ≡ get_or M i 0) where
    pub set-end : kind w ≡ 0 → Limited (words bs) s (limit_for true M)
    set-end h = record { each = λ v l. go v l (word_at (omega arith) w S.ra e) }
      where
        go : (v : ℕ) → v < s.variables → Last 1 M S.b w ⊎ Next 1 M i S.b w → get_or (words bs) (1 + s.kind + v) 0 ≡ limit_for true M v
        go v l (inl z) =
            elim (dec_le S.b v) [
              | yes y ↦ S.done v l y
              | no y ↦ S.none v (omega arith) ∙ sym (limit-low M v (omega (arith, S.top)) ∙ z.none v (omega arith))
            ]
        go v l (inr z) = absurd (omega (arith, z.var.kinded))

    pub record Step : Type 0 where
      pub known : ident w < s.variables
      pub next : (bs' : List ℕ) → 368 ≤ length bs → bs' ≡ put_w bs (1 + s.kind + ident w) (power w) → Setting bs' s M (i + 1)

    pub set_more : (kind w ≡ 0 → ⊥) → Step
    set_more h = go (word_at (omega arith) w S.ra e)
      where
        go : Last 1 M S.b w ⊎ Next 1 M i S.b w → Step
        go (inl z) = absurd (h (omega (arith, z.upper)))
        go (inr z) = record {
          known = omega (arith, z.var.below, S.few);
          next = λ bs' room eq.
              let o = 1 + s.kind in
              let fits : 4 * (o + ident w) + 4 ≤ length bs = omega (arith, z.var.below, S.few, R.vars-to, R.kind-to) in
              let kept : (v : ℕ) → (v ≡ ident w → ⊥) → get_or (words (put_w bs (o + ident w) (power w))) (o + v) 0 ≡ get_or (words bs) (o + v) 0 = λ v n. put_other bs
              (o + ident w) (power w) (o + v) (omega arith) fits (λ y. n (omega arith)) in
              record {
                b = ident w;
                few = omega (arith, z.var.below, S.few);
                top = omega (arith, z.var.below, S.top);
                ra = z.rest;
                done = λ v l k.
                    elim (ℕ_discrete v (ident w)) [
                      | yes y ↦ rw (eq, y) (put-here bs (o + ident w) (power w) (omega arith) fits ∙ sym (limit-low M (ident w) (omega (arith, z.var.below, S.top)) ∙ z.here))
                      | no y ↦ rw eq (kept v y ∙ elim (dec_le S.b v) [
                        | yes q ↦ S.done v l q
                        | no q ↦ S.none v (omega arith) ∙ sym (limit-low M v (omega (arith, S.top)) ∙ z.gap v (omega arith) (omega arith))
                      ])
                    ];
                none = λ v l. rw eq (kept v (λ y. omega arith) ∙ S.none v (omega (arith, z.var.below)));
              };
        }
