-- The walk of `sum`: what is written is the front of the result. Assumes nothing.
use mathlib.Core.Path.{◌≡◌, refl, sym, ap, ◌∙◌}
use mathlib.Core.Bool.{cond}
use mathlib.Core.List.{List, [], ◌∷◌, ◌++◌, append_assoc, append-nil}
use Prim.Native.Nat.{ℕ, suc, max, ◌+◌, ◌*◌, ◌%◌, ◌≤◌, ◌<◌}
use native.Mathlib.Omega.{arith}
use native.Mathlib.Decide.{ℕ_discrete}
use lib.Dec.{eqb}
use lib.ListN.{length, get_or, length-append}
use borrow.Author.Tests.{eq-eqb, ne_eqb}
use Rattle.words.specs.Kinds.{upper_half, var_word}
use Rattle.words.specs.Words.{put_w, paste_w}
use Rattle.words.proofs.Laws.{paste_w-snoc, put_w-paste, length-put_w}
use Rattle.words.proofs.Tables.{paste-over, over-mid}
use Rattle.monomial.specs.Monomial.{bias, Canonical, vars_of, monomial_of}
use Rattle.monomial.specs.Operations.{met, kind_of, powers, result_words}
use Rattle.monomial.specs.Walk.{power_at, past}
use Rattle.monomial.specs.declared.ordered_ops.Op.{Op}
use Rattle.monomial.specs.declared.ordered_ops.Op.TheVariants.{Gcd, Product, Quotient, Ratio}
use Rattle.monomial.proofs.Powers.{powers-in-range, vars-none, vars-some, vars-skip, vars-nil, vars-length}
use Rattle.monomial.proofs.Walks.{Rest, within, Turn, turn, Top, top, done-a, done-b}

-- two absent variables meet in an absent one
pub met-zero : (o : Op) → met o 0 0 ≡ bias (kind_of o)
met-zero Gcd = refl
met-zero Product = refl
met-zero Quotient = refl
met-zero Ratio = refl

pub met-small : (o : Op) (x y : ℕ) → x ≤ 32767 → y ≤ 32767 → met o x y < 65536
met-small Gcd x y h l = omega arith
met-small Product x y h l = omega arith
met-small Quotient x y h l = omega arith
met-small Ratio x y h l = omega arith

pub kind-small : (o : Op) → (0 < kind_of o) × (kind_of o ≤ 2)
kind-small Gcd = (omega arith, omega arith)
kind-small Product = (omega arith, omega arith)
kind-small Quotient = (omega arith, omega arith)
kind-small Ratio = (omega arith, omega arith)

-- what is done so far stands before word n; the next word goes to n, whatever stands there
pub record Summing (o : Op) (A B out₀ out : List ℕ) (i j n : ℕ) : Type 0 where
  pub b : ℕ
  pub ra : Rest 1 A i b
  pub rb : Rest 1 B j b
  pub done : List ℕ
  pub count : length done ≡ n
  pub kept : length out ≡ length out₀
  pub now : 4 * n + 4 ≤ length out₀ → (w : ℕ) → put_w out n w ≡ paste_w out₀ 0 (done ++ (w ∷ []))
  pub split : vars_of (kind_of o) 4096 (powers o A B) ≡ done ++ vars_of (kind_of o) b (powers o A B)

pub begin : {A B : List ℕ} (o : Op) (out : List ℕ) → Rest 1 A 0 4096 → Rest 1 B 0 4096 → Summing o A B out out 0 0 0
begin o out ra rb = record {
  b = 4096;
  ra = ra;
  rb = rb;
  done = [];
  count = refl;
  kept = refl;
  now = λ h w. put_w-paste out 0 w h;
  split = refl;
}

module _ {o : Op} {A B out₀ out : List ℕ} {i j n : ℕ} (s : Summing o A B out₀ out i j n) (room : 4 * length (result_words o A B) ≤ length out₀) where
  pub record SumFits : Type 0 where
    pub ia : i < length A
    pub jb : j < length B
    pub few : n ≤ 4096
    pub free : 4 * n + 4 ≤ length out₀
    pub kept : length out ≡ length out₀

  pub fits : SumFits
  unfolding result_words monomial_of
  fits =
      let l : length (vars_of (kind_of o) 4096 (powers o A B)) ≡ n + length (vars_of (kind_of o) s.b (powers o A B)) =
      ap length s.split ∙ length-append s.done _ ∙ rw s.count in
      let r : 4 * (length (vars_of (kind_of o) 4096 (powers o A B)) + 1) ≤ length out₀ = simp length-append at room in
      let f : 4 * n + 4 ≤ length out₀ = omega arith in
      record {
        ia = within s.ra;
        jb = within s.rb;
        few = omega (arith, vars-length (kind_of o) 4096 (powers o A B));
        free = f;
        kept = s.kept;
      }

  module _ {x y t : ℕ} (ex : x ≡ get_or A i 0) (ey : y ≡ get_or B j 0) (et : t ≡ max (upper_half x) (upper_half y)) where
    pub finished : t ≡ 0 → (n + 1 ≡ length (result_words o A B)) × (put_w out n n ≡ paste_w out₀ 0 (result_words o A B))
    unfolding result_words monomial_of powers
    finished h =
        let za = done-a (omega arith) x y t s.ra s.rb ex ey et h in
        let zb = done-b (omega arith) x y t s.ra s.rb ex ey et h in
        let e : vars_of (kind_of o) 4096 (powers o A B) ≡ s.done =
        s.split ∙ rw (vars-skip (kind_of o) 0 s.b (powers o A B) (omega arith) (λ v l u. rw (za v u, zb v u) (met-zero o)), vars-nil) (append-nil s.done) in
        rw e (simp (length-append, s.count), rw s.count (s.now fits.free n))

    module _ (h : t ≡ 0 → ⊥) where
      next : Top 1 s.b t
      next = top (omega arith) x y t s.ra s.rb ex ey et h

      ta : Turn 1 A i s.b x next.u t
      ta = turn (omega arith) x next.u t s.ra ex next.below next.is (omega arith)

      tb : Turn 1 B j s.b y next.u t
      tb = turn (omega arith) y next.u t s.rb ey next.below next.is (omega arith)

      pub record Powered : Type 0 where
        pub a_small : power_at x t 0 ≤ 32767
        pub b-small : power_at y t 0 ≤ 32767
        pub p-small : met o (power_at x t 0) (power_at y t 0) < 65536

      pub powered : Canonical 1 4096 A → Canonical 1 4096 B → Powered
      powered ca cb =
          let pa : power_at x t 0 ≤ 32767 = rw (← ta.power-is) (powers-in-range 1 4096 A next.u (omega arith) (omega arith) ca).high in
          let pb : power_at y t 0 ≤ 32767 = rw (← tb.power-is) (powers-in-range 1 4096 B next.u (omega arith) (omega arith) cb).high in
          record { a_small = pa; b-small = pb; p-small = met-small o _ _ pa pb }

      module _ {p : ℕ} {out' : List ℕ} {n' : ℕ} (ep : p ≡ met o (power_at x t 0) (power_at y t 0))
          (en : n' ≡ cond (eqb p (bias (kind_of o))) n (n + 1)) (eo : out' ≡ put_w out n (var_word (kind_of o) (t % 4096) p)) where
        here : powers o A B next.u ≡ p
        unfolding powers
        here = rw (ta.power-is, tb.power-is) (sym ep)

        skipped : vars_of (kind_of o) s.b (powers o A B) ≡ vars_of (kind_of o) (suc next.u) (powers o A B)
        unfolding powers
        skipped = vars-skip (kind_of o) (suc next.u) s.b (powers o A B) next.below (λ v l r. rw (ta.gap v l r, tb.gap v l r) (met-zero o))

        abbrev w : ℕ
        w = var_word (kind_of o) (t % 4096) p

        same_length : length out' ≡ length out₀
        same_length = ap length eo ∙ length-put_w out n w ∙ s.kept

        written : 4 * n + 4 ≤ length out₀ → out' ≡ paste_w out₀ 0 (s.done ++ (w ∷ []))
        written h = eo ∙ s.now h w

        -- the word written last is gone where the next goes over it
        instead : 4 * n + 4 ≤ length out₀ → (x : ℕ) → put_w out' n x ≡ paste_w out₀ 0 (s.done ++ (x ∷ []))
        instead h x =
            let l : length (s.done ++ (w ∷ [])) ≡ n + 1 = length-append s.done (w ∷ []) ∙ rw s.count in
            put_w-paste out' n x (omega (arith, same_length))
            ∙ rw (written h) (paste-over out₀ (s.done ++ (w ∷ [])) n (x ∷ []) (omega arith) (omega arith)
            ∙ rw (over-mid s.done (w ∷ []) [] (x ∷ []) n s.count refl))

        pub again : Summing o A B out₀ out' (past i x t) (past j y t) n'
        again =
            elim (ℕ_discrete p (bias (kind_of o))) [
              | yes z ↦ record {
                b = next.u;
                ra = ta.rest;
                rb = tb.rest;
                done = s.done;
                count = s.count ∙ sym (en ∙ rw (eq-eqb p (bias (kind_of o)) z));
                kept = same_length;
                now = let m : n' ≡ n = en ∙ rw (eq-eqb p (bias (kind_of o)) z) in rw m instead;
                split = s.split ∙ rw skipped (rw (vars-none (kind_of o) next.u (powers o A B) (here ∙ z)));
              }
              | no z ↦ record {
                b = next.u;
                ra = ta.rest;
                rb = tb.rest;
                done = s.done ++ (var_word (kind_of o) (t % 4096) p ∷ []);
                count = length-append s.done _ ∙ rw s.count (sym (en ∙ rw (ne_eqb p (bias (kind_of o)) z)));
                kept = same_length;
                now = λ h x.
                    let m : n' ≡ n + 1 = en ∙ rw (ne_eqb p (bias (kind_of o)) z) in
                    let l : n' ≡ 0 + length (s.done ++ (w ∷ [])) = omega (arith, length-append s.done (w ∷ []), s.count) in
                    rw (written fits.free) (paste_w-snoc out₀ 0 (s.done ++ (w ∷ [])) n' x l h);
                split =
                    let ids : t % 4096 ≡ next.u = omega (arith, next.is, next.below, s.ra.few) in
                    s.split ∙ rw (skipped, vars-some (kind_of o) next.u (powers o A B) (λ y. z (sym here ∙ y)), here, ids, append_assoc);
              }
            ]
