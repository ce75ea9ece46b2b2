-- The ratio of two monomials, compared word by word while it is merged. Assumes nothing.
use mathlib.Core.Path.{◌≡◌, refl, sym, ap, ◌∙◌}
use mathlib.Core.Bool.{true, false, cond}
use mathlib.Core.List.{List, [], ◌∷◌, ◌++◌, append_assoc, append-nil}
use mathlib.Core.Logic.{◌↔◌}
use Prim.Native.Nat.{ℕ, suc, max, ◌+◌, ◌-◌, ◌≤◌, ◌<◌}
use native.Mathlib.Omega.{arith}
use native.Mathlib.Decide.{ℕ_discrete}
use lib.Dec.{eqb}
use lib.ListN.{length, get_or, length-append}
use lib.Seq.{get_or-append_seam}
use borrow.Author.Tests.{eq-eqb, ne_eqb, eqb-true}
use Rattle.words.specs.Kinds.{upper_half, upper_ident, var_word}
use Rattle.words.specs.Tables.{part}
use Rattle.words.proofs.Tables.{part-nil, part-snoc, part-get, same-right}
use Rattle.words.proofs.Answers.{test}
use Rattle.monomial.specs.Monomial.{Canonical, vars_of, monomial_of}
use Rattle.monomial.specs.Operations.{powers, result_words}
use Rattle.monomial.specs.Walk.{power_at, past}
use Rattle.monomial.specs.declared.ordered_ops.Op.{Op}
use Rattle.monomial.proofs.Powers.{powers-in-range, vars-none, vars-some, vars-skip, vars-nil, vars-length}
use Rattle.index_image.specs.Door.{HasRatio}
use Rattle.monomial.proofs.Walks.{Rest, within, Turn, turn, Top, top, done-a, done-b}

-- the words of the ratio's variables from b on stand at the front of C
pub record Merging (A B C : List ℕ) (i j n : ℕ) : Type 0 where
  pub b : ℕ
  pub ra : Rest 1 A i b
  pub rb : Rest 1 B j b
  pub done : List ℕ
  pub count : length done ≡ n
  pub same : part C 0 n ≡ done
  pub split : vars_of 2 4096 (powers Op.Ratio A B) ≡ done ++ vars_of 2 b (powers Op.Ratio A B)

pub begin : {A B : List ℕ} (C : List ℕ) → Rest 1 A 0 4096 → Rest 1 B 0 4096 → Merging A B C 0 0 0
begin C ra rb = record { b = 4096; ra = ra; rb = rb; done = []; count = refl; same = part-nil C 0; split = refl }

module _ {A B C : List ℕ} {i j n : ℕ} (s : Merging A B C i j n) (room : length (result_words Op.Ratio A B) ≤ length C) where
  abbrev P : ℕ → ℕ
  P = powers Op.Ratio A B

  pub record MergeFits : Type 0 where
    pub ia : i < length A
    pub jb : j < length B
    pub few : n ≤ 4096
    pub free : n < length C

  pub fits : MergeFits
  unfolding result_words monomial_of
  fits =
      let l : length (vars_of 2 4096 P) ≡ n + length (vars_of 2 s.b P) = ap length s.split ∙ length-append s.done _ ∙ rw s.count in
      let r : length (vars_of 2 4096 P) + 1 ≤ length C = simp length-append at room in
      record { ia = within s.ra; jb = within s.rb; few = omega (arith, vars-length 2 4096 P); free = omega arith }

  module _ {x y t w : ℕ} (ex : x ≡ get_or A i 0) (ey : y ≡ get_or B j 0) (et : t ≡ max (upper_half x) (upper_half y)) (ew : w ≡ get_or C n 0) where
    grown : part C 0 (n + 1) ≡ s.done ++ (w ∷ [])
    grown = let z : 0 + n ≡ n = omega arith in part-snoc C 0 n (omega (arith, fits.free)) ∙ rw (s.same, z, ew)

    pub finished : t ≡ 0 → (eqb w n ≡ true) ↔ HasRatio A B C
    unfolding result_words monomial_of powers
    finished h =
        let za = done-a (omega arith) x y t s.ra s.rb ex ey et h in
        let zb = done-b (omega arith) x y t s.ra s.rb ex ey et h in
        let e : vars_of 2 4096 P ≡ s.done =
        s.split ∙ rw (vars-skip 2 0 s.b P (omega arith) (λ v l u. rw (za v u, zb v u)), vars-nil) (append-nil s.done) in
        let l : length (s.done ++ (n ∷ [])) ≡ n + 1 = length-append s.done (n ∷ []) ∙ omega (arith, s.count) in
        let front : part C 0 (n + 1) ≡ s.done ++ (w ∷ []) = grown in
        rw (e, s.count, l) (test w n
        (λ z. front ∙ ap (λ (k : ℕ). s.done ++ (k ∷ [])) z)
        (λ q. ap (λ (u : List ℕ). get_or u 0 0) (same-right s.done (w ∷ []) s.done (n ∷ []) refl (sym front ∙ q))))

    module _ (h : t ≡ 0 → ⊥) where
      next : Top 1 s.b t
      next = top (omega arith) x y t s.ra s.rb ex ey et h

      ta : Turn 1 A i s.b x next.u t
      ta = turn (omega arith) x next.u t s.ra ex next.below next.is (omega arith)

      tb : Turn 1 B j s.b y next.u t
      tb = turn (omega arith) y next.u t s.rb ey next.below next.is (omega arith)

      pub record Powered : Type 0 where
        pub a_small : power_at x t 0 ≤ 32767
        pub b-small : power_at y t 0 ≤ 32767

      pub powered : Canonical 1 4096 A → Canonical 1 4096 B → Powered
      powered ca cb = record {
        a_small = rw (← ta.power-is) (powers-in-range 1 4096 A next.u (omega arith) (omega arith) ca).high;
        b-small = rw (← tb.power-is) (powers-in-range 1 4096 B next.u (omega arith) (omega arith) cb).high;
      }

      module _ (p : ℕ) (ep : p ≡ power_at x t 0 + 32768 - power_at y t 0) where
        here : P next.u ≡ p
        unfolding powers
        here = rw (ta.power-is, tb.power-is) (sym ep)

        skipped : vars_of 2 s.b P ≡ vars_of 2 (suc next.u) P
        unfolding powers
        skipped = vars-skip 2 (suc next.u) s.b P next.below (λ v l r. rw (ta.gap v l r, tb.gap v l r))

        more : (p ≡ 32768 → ⊥) → vars_of 2 4096 P ≡ s.done ++ (var_word 2 (upper_ident t) p ∷ vars_of 2 next.u P)
        more z =
            let ids : upper_ident t ≡ next.u = omega (arith, next.is, next.below, s.ra.few) in
            s.split ∙ rw (skipped, vars-some 2 next.u P (λ y. z (sym here ∙ y)), here, ids)

        -- a word that is not the ratio's
        pub stopped : cond (eqb p 32768) true (eqb w (var_word 2 (upper_ident t) p)) ≡ false → HasRatio A B C → ⊥
        unfolding result_words monomial_of
        stopped f q =
            elim (ℕ_discrete p 32768) [
              | yes z ↦ let g = rw (eq-eqb p 32768 z) at f in let o : ◌≡◌ {A = ℕ} 0 1 = cc in omega arith
              | no z ↦
                  let g : eqb w (var_word 2 (upper_ident t) p) ≡ false = rw (ne_eqb p 32768 z) at f in
                  let rest = vars_of 2 next.u P in
                  let r : result_words Op.Ratio A B ≡ s.done ++ (var_word 2 (upper_ident t) p ∷ (rest ++ (length (vars_of 2 4096 P) ∷ []))) =
                  rw (more z) (append_assoc s.done (var_word 2 (upper_ident t) p ∷ rest) _) in
                  let k : n < length (result_words Op.Ratio A B) = rw r
                  (omega (arith, length-append s.done (var_word 2 (upper_ident t) p ∷ (rest ++ (length (vars_of 2 4096 P) ∷ []))), s.count)) in
                  let zn : 0 + n ≡ n = omega arith in
                  let at : get_or C n 0 ≡ get_or (result_words Op.Ratio A B) n 0 =
                  ap (λ (k : ℕ). get_or C k 0) (sym zn) ∙ sym (part-get C 0 (length (result_words Op.Ratio A B)) n k) ∙ ap (λ (l : List ℕ). get_or l n 0) q in
                  let is : w ≡ var_word 2 (upper_ident t) p = ew ∙ at ∙ ap (λ (l : List ℕ). get_or l n 0) r ∙ ap
                  (λ (m : ℕ). get_or (s.done ++ (var_word 2 (upper_ident t) p ∷ (rest ++ (length (vars_of 2 4096 P) ∷ [])))) m 0) (sym s.count)
                  ∙ get_or-append_seam s.done (var_word 2 (upper_ident t) p) (rest ++ (length (vars_of 2 4096 P) ∷ [])) 0 in
                  let y = sym (eq-eqb w (var_word 2 (upper_ident t) p) is) ∙ g in
                  let o : ◌≡◌ {A = ℕ} 0 1 = cc in omega arith
            ]

        pub again : {n' : ℕ} → cond (eqb p 32768) true (eqb w (var_word 2 (upper_ident t) p)) ≡ true → n' ≡ cond (eqb p 32768) n (n + 1)
            → Merging A B C (past i x t) (past j y t) n'
        again {n'} f en =
            elim (ℕ_discrete p 32768) [
              | yes z ↦ let e : n' ≡ n = en ∙ rw (eq-eqb p 32768 z) in rw e (record {
                b = next.u;
                ra = ta.rest;
                rb = tb.rest;
                done = s.done;
                count = s.count;
                same = s.same;
                split = s.split ∙ rw skipped (rw (vars-none 2 next.u P (here ∙ z)));
              })
              | no z ↦
                  let g : eqb w (var_word 2 (upper_ident t) p) ≡ true = rw (ne_eqb p 32768 z) at f in
                  let is : w ≡ var_word 2 (upper_ident t) p = eqb-true w (var_word 2 (upper_ident t) p) g in
                  let e : n' ≡ n + 1 = en ∙ rw (ne_eqb p 32768 z) in
                  rw e (record {
                    b = next.u;
                    ra = ta.rest;
                    rb = tb.rest;
                    done = s.done ++ (var_word 2 (upper_ident t) p ∷ []);
                    count = length-append s.done _ ∙ rw s.count;
                    same = grown ∙ rw is;
                    split = more z ∙ sym (append_assoc s.done (var_word 2 (upper_ident t) p ∷ []) (vars_of 2 next.u P));
                  })
            ]
