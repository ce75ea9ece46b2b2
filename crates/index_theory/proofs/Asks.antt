-- Questions 6 and 7, exactly: which call asks what, and which number refuses it. Assumes nothing.
use mathlib.Core.Path.{◌≡◌, refl, sym, ap, ◌∙◌, subst}
use mathlib.Core.Bool.{Bool, true, false, cond}
use mathlib.Core.List.{List, [], ◌∷◌, ◌++◌, append-nil}
use mathlib.Core.Logic.{◌⊎◌, inl, inr}
use Prim.Native.Nat.{ℕ, ◌≤◌, ◌<◌}
use native.Mathlib.Omega.{arith}
use lib.Dec.{eqb}
use lib.ListN.{length, take-append-drop}
use lib.Seq.{take-append_seam, drop-append_seam}
use borrow.Author.Tests.{eqb-true, eqb-false, eq-eqb, ne_eqb}
use Rattle.words.specs.Kinds.{kind, payload, index_word}
use Rattle.monomial.specs.Monomial.{front, Canonical}
use Rattle.monomial.proofs.Canon.{front-end}
use Rattle.monomial.proofs.Laws.{front-canonical, canonical-front}
use Rattle.index_theory.specs.Entries.{Entry, one}
use Rattle.index_theory.specs.State.{Kind, monomials, ratioed}
use Rattle.index_theory.specs.Searches.{containment, reducing, high, low, singular}
use Rattle.index_theory.specs.Calls.{Call, Request, insertion, query, GoodRequest, Asked, refused, asks, with_index, with_part, at_end, plain, ask_monomials, ask_ratioed, ask}
use Rattle.index_theory.specs.Claims.{Serves, CallOf, AskExact, AsksExact}

pub never : {X : Type 0} (n : ℕ) (r : Request) → refused n ≡ asks r → X
never n r e = absurd (let z : ◌≡◌ {A = ℕ} 0 1 = cc in omega arith)

either : {X : Type 0} (b : Bool) (x y z : Asked) → cond b x y ≡ z → (b ≡ true → x ≡ z → X) → (b ≡ false → y ≡ z → X) → X
either true x y z e f g = f refl e
either false x y z e f g = g refl e

-- ---- what was read of a body
index_reads : {X : Type 0} (ws : List ℕ) (f : ℕ → List ℕ → Asked) (r : Request) → with_index ws f ≡ asks r
    → ((i : ℕ) (rest : List ℕ) → i < 268435456 → ws ≡ index_word i ∷ rest → f i rest ≡ asks r → X) → X
unfolding with_index
index_reads [] f r e g = never _ r e
index_reads (w ∷ ws) f r e g =
    either (eqb (kind w) 3) _ _ (asks r) e
    (λ t h. g (payload w) ws (omega arith) (ap (λ (x : ℕ). x ∷ ws) (omega (arith, eqb-true (kind w) 3 t))) h)
    (λ t. never _ r)

part-reads : {X : Type 0} (k m : ℕ) → 0 < k → (ws : List ℕ) (f : List ℕ → List ℕ → Asked) (r : Request) → with_part k m ws f ≡ asks r
    → ((p rest : List ℕ) → Canonical k m p → ws ≡ p ++ rest → f p rest ≡ asks r → X) → X
unfolding with_part
part-reads k m pos ws f r e g =
    either (eqb (front k m 0 ws) 0) _ _ (asks r) e
    (λ t. never _ r)
    (λ t h. g _ _ (front-canonical k m ws pos (eqb-false (front k m 0 ws) 0 t)) (sym (take-append-drop (front k m 0 ws) ws)) h)

end_reads : (ws : List ℕ) (x r : Request) → at_end ws x ≡ asks r → (ws ≡ []) × (x ≡ r)
unfolding at_end
end_reads [] x r e = (refl, cc)
end_reads (w ∷ ws) x r e = never _ r e

-- ---- what is read of a body that is as it should be
index-stands : (i : ℕ) → i < 268435456 → (rest : List ℕ) (f : ℕ → List ℕ → Asked) → with_index (index_word i ∷ rest) f ≡ f i rest
unfolding with_index
index-stands i h rest f =
    let k : kind (index_word i) ≡ 3 = omega arith in
    let p : payload (index_word i) ≡ i = omega arith in
    rw (eq-eqb _ _ k, p) refl

part-stands : (k m : ℕ) → 0 < k → (p rest : List ℕ) → Canonical k m p → (f : List ℕ → List ℕ → Asked) → with_part k m (p ++ rest) f ≡ f p rest
unfolding with_part
part-stands k m pos p rest c f =
    let n = canonical-front k m p rest pos c in
    rw (n, ne_eqb (length p) 0 (λ z. omega (arith, c.some)), take-append_seam p rest, drop-append_seam p rest) refl

last-stands : (k m : ℕ) → 0 < k → (p : List ℕ) → Canonical k m p → (r : Request) (f : List ℕ → Request) → f p ≡ r → with_part k m p (λ q ws. at_end ws (f q)) ≡ asks r
unfolding at_end
last-stands k m pos p c r f e = ap (λ (ws : List ℕ). with_part k m ws (λ q ws. at_end ws (f q))) (sym (append-nil p)) ∙ part-stands k m pos p [] c (λ q ws. at_end ws (f q)) ∙ ap asks e

-- ---- what else is refused 7
same-refusal : (n k : ℕ) → refused n ≡ refused k → k ≡ n
same-refusal n k e = cc

index-refuses : (n : ℕ) (ws : List ℕ) (f : ℕ → List ℕ → Asked) → with_index ws f ≡ refused n → ((i : ℕ) (rest : List ℕ) → f i rest ≡ refused n → n ≡ 7) → n ≡ 7
unfolding with_index
index-refuses n [] f e g = same-refusal 7 n e
index-refuses n (w ∷ ws) f e g = either (eqb (kind w) 3) _ _ (refused n) e (λ t h. g _ _ h) (λ t h. same-refusal 7 n h)

part-refuses : (n k m : ℕ) (ws : List ℕ) (f : List ℕ → List ℕ → Asked) → with_part k m ws f ≡ refused n → ((p rest : List ℕ) → f p rest ≡ refused n → n ≡ 7) → n ≡ 7
unfolding with_part
part-refuses n k m ws f e g = either (eqb (front k m 0 ws) 0) _ _ (refused n) e (λ t h. same-refusal 7 n h) (λ t h. g _ _ h)

end-refuses : (n : ℕ) (ws : List ℕ) (x : Request) → at_end ws x ≡ refused n → n ≡ 7
unfolding at_end
end-refuses n [] x e = never n x (sym e)
end-refuses n (w ∷ ws) x e = same-refusal 7 n e

module _ (m : ℕ) (some-vars : 1 ≤ m) where
  -- one is canonical in any number of variables
  one-canonical : Canonical 1 m one
  one-canonical = record { some = omega arith; whole = front-end 1 m 0 0 [] refl refl }

  -- one monomial
  single : {X : Type 0} (body : List ℕ) (f : List ℕ → Request) (r : Request) → with_part 1 m body (λ q ws. at_end ws (f q)) ≡ asks r
      → ((q : List ℕ) → Canonical 1 m q → body ≡ q → f q ≡ r → X) → X
  single body f r e g =
      part-reads 1 m (omega arith) body _ r e (λ q ws c b h. let z = end_reads ws _ r h in g q c (b ∙ ap (λ (l : List ℕ). q ++ l) z.0 ∙ append-nil q) z.1)

  -- an index and a monomial
  double : {X : Type 0} (body : List ℕ) (f : ℕ → List ℕ → Request) (r : Request) → with_index body (λ i ws. with_part 1 m ws (λ s ws. at_end ws (f i s))) ≡ asks r
      → ((i : ℕ) (s : List ℕ) → i < 268435456 → Canonical 1 m s → body ≡ index_word i ∷ s → f i s ≡ r → X) → X
  double body f r e g =
      index_reads body _ r e (λ i ws small a h. single ws (f i) r h (λ s c b q. g i s small c (a ∙ ap (λ (l : List ℕ). index_word i ∷ l) b) q))

  -- an index, and two parts, of which the second is a monomial
  three : {X : Type 0} (k : ℕ) → 0 < k → (body : List ℕ) (f : ℕ → List ℕ → List ℕ → Request) (r : Request)
      → with_index body (λ i ws. with_part k m ws (λ s ws. with_part 1 m ws (λ l ws. at_end ws (f i s l)))) ≡ asks r
      → ((i : ℕ) (s l : List ℕ) → i < 268435456 → Canonical k m s → Canonical 1 m l → body ≡ index_word i ∷ s ++ l → f i s l ≡ r → X) → X
  three k pos body f r e g =
      index_reads body _ r e (λ i ws small a h. part-reads k m pos ws _ r h (λ s ws cs b h. single ws (f i s) r h (λ l cl d q.
      g i s l small cs cl (a ∙ ap (λ (l : List ℕ). index_word i ∷ l) (b ∙ ap (λ (l : List ℕ). s ++ l) d)) q)))

  three-stands : (k : ℕ) → 0 < k → (i : ℕ) (s l : List ℕ) → i < 268435456 → Canonical k m s → Canonical 1 m l → (f : ℕ → List ℕ → List ℕ → Request)
      → with_index (index_word i ∷ s ++ l) (λ i ws. with_part k m ws (λ s ws. with_part 1 m ws (λ l ws. at_end ws (f i s l)))) ≡ asks (f i s l)
  three-stands k pos i s l small cs cl f =
      index-stands i small (s ++ l) _ ∙ part-stands k m pos s l cs _ ∙ last-stands 1 m (omega arith) l cl (f i s l) (f i s) refl

  three-refuses : (n k : ℕ) (body : List ℕ) (f : ℕ → List ℕ → List ℕ → Request)
      → with_index body (λ i ws. with_part k m ws (λ s ws. with_part 1 m ws (λ l ws. at_end ws (f i s l)))) ≡ refused n → n ≡ 7
  three-refuses n k body f e = index-refuses n body _ e (λ i ws h. part-refuses n k m ws _ h (λ s ws h. part-refuses n 1 m ws _ h (λ l ws h. end-refuses n ws _ h)))

  -- ---- a call that is a request's asks it
  entry-same : (a b i j : ℕ) (s t l : List ℕ) → a ≡ b → i ≡ j → s ≡ t → ◌≡◌ {A = Entry} (record { number = a; index = i; sign = s; lm = l }) (record { number = b; index = j; sign = t; lm = l })
  entry-same a b i j s t l e f g = rw (e, f, g)

  no_kind : {X : Type 0} → monomials ≡ ratioed → X
  no_kind e = absurd (let z : ◌≡◌ {A = ℕ} 0 1 = cc in omega arith)

  monomials-stands : (c : Call) (r : Request) → CallOf monomials m r c → ask monomials m c ≡ asks r
  unfolding ask ask_monomials
  monomials-stands c (insertion e) h =
      rw (h.number, h.body)
      (last-stands 1 m (omega arith) e.lm h.fits.0.lm-canonical (insertion e) (λ q. insertion (plain q))
      (ap insertion (entry-same 0 e.number 0 e.index one e.sign e.lm (sym h.fits.2) (sym h.fits.1.0) (sym h.fits.1.1))))
  monomials-stands c (query (containment q)) h = rw (h.number, h.body) (last-stands 1 m (omega arith) q h.fits.1 (query (containment q)) (λ q. query (containment q)) refl)
  monomials-stands c (query (reducing v q)) h = no_kind h.fits.0
  monomials-stands c (query (high v q)) h = no_kind h.fits.0
  monomials-stands c (query (low i s)) h = no_kind h.fits.0
  monomials-stands c (query (singular i s l)) h = no_kind h.fits.0

  ratioed-stands : (c : Call) (r : Request) → CallOf ratioed m r c → ask ratioed m c ≡ asks r
  unfolding ask ask_ratioed
  ratioed-stands c (insertion e) h =
      rw (h.number, h.body)
      (three-stands 1 (omega arith) e.index e.sign e.lm h.fits.0.index-small h.fits.0.sign-canonical h.fits.0.lm-canonical (λ i s l. insertion (record { number = 0; index = i; sign = s; lm = l }))
      ∙ ap (λ (e : Entry). asks (insertion e)) (entry-same 0 e.number e.index e.index e.sign e.sign e.lm (sym h.fits.2) refl refl))
  ratioed-stands c (query (containment q)) h = no_kind (sym h.fits.0)
  ratioed-stands c (query (reducing v q)) h =
      rw (h.number, h.body) (three-stands 2 (omega arith) v.index v.ratio q h.fits.1.0.index-small h.fits.1.0.canonical h.fits.1.1 (λ i s l. query (reducing (record { index = i; ratio = s }) l)))
  ratioed-stands c (query (high v q)) h =
      rw (h.number, h.body) (three-stands 2 (omega arith) v.index v.ratio q h.fits.1.0.index-small h.fits.1.0.canonical h.fits.1.1 (λ i s l. query (high (record { index = i; ratio = s }) l)))
  ratioed-stands c (query (low i s)) h =
      rw (h.number, h.body) (index-stands i h.fits.1.0 s _ ∙ last-stands 1 m (omega arith) s h.fits.1.1 (query (low i s)) (λ s. query (low i s)) refl)
  ratioed-stands c (query (singular i s l)) h =
      rw (h.number, h.body) (three-stands 1 (omega arith) i s l h.fits.1.0 h.fits.1.1 h.fits.1.2 (λ i s l. query (singular i s l)))

  pub stands : (k : Kind) (c : Call) (r : Request) → CallOf k m r c → ask k m c ≡ asks r
  stands monomials c r h = monomials-stands c r h
  stands ratioed c r h = ratioed-stands c r h

  -- ---- what a call asks
  monomials-reads : (c : Call) (r : Request) → ask monomials m c ≡ asks r → CallOf monomials m r c
  unfolding ask ask_monomials
  monomials-reads c r e =
      either (eqb c.number 0) _ _ (asks r) e
      (λ t h. single c.body (λ q. insertion (plain q)) r h (λ q cq b x. subst (λ (r : Request). CallOf monomials m r c) x
      (record { fits = (record { index-small = omega arith; sign-canonical = one-canonical; lm-canonical = cq }, (refl, refl), refl); number = eqb-true c.number 0 t; body = b })))
      (λ t h. either (eqb c.number 1) _ _ (asks r) h
      (λ t h. single c.body (λ q. query (containment q)) r h (λ q cq b x. subst (λ (r : Request). CallOf monomials m r c) x
      (record { fits = (refl, cq); number = eqb-true c.number 1 t; body = b })))
      (λ t. never _ r))

  ratioed-reads : (c : Call) (r : Request) → ask ratioed m c ≡ asks r → CallOf ratioed m r c
  unfolding ask ask_ratioed
  ratioed-reads c r e =
      either (eqb c.number 2) _ _ (asks r) e
      (λ t h. three 1 (omega arith) c.body (λ i s l. insertion (record { number = 0; index = i; sign = s; lm = l })) r h (λ i s l small cs cl b x. subst (λ (r : Request). CallOf ratioed m r c) x
      (record { fits = (record { index-small = small; sign-canonical = cs; lm-canonical = cl }, tt, refl); number = eqb-true c.number 2 t; body = b })))
      (λ t h. either (eqb c.number 3) _ _ (asks r) h
      (λ t h. three 2 (omega arith) c.body (λ i s l. query (reducing (record { index = i; ratio = s }) l)) r h (λ i s l small cs cl b x. subst (λ (r : Request). CallOf ratioed m r c) x
      (record { fits = (refl, (record { index-small = small; canonical = cs }, cl)); number = eqb-true c.number 3 t; body = b })))
      (λ t h. either (eqb c.number 4) _ _ (asks r) h
      (λ t h. three 2 (omega arith) c.body (λ i s l. query (high (record { index = i; ratio = s }) l)) r h (λ i s l small cs cl b x. subst (λ (r : Request). CallOf ratioed m r c) x
      (record { fits = (refl, (record { index-small = small; canonical = cs }, cl)); number = eqb-true c.number 4 t; body = b })))
      (λ t h. either (eqb c.number 5) _ _ (asks r) h
      (λ t h. double c.body (λ i s. query (low i s)) r h (λ i s small cs b x. subst (λ (r : Request). CallOf ratioed m r c) x
      (record { fits = (refl, (small, cs)); number = eqb-true c.number 5 t; body = b })))
      (λ t h. either (eqb c.number 6) _ _ (asks r) h
      (λ t h. three 1 (omega arith) c.body (λ i s l. query (singular i s l)) r h (λ i s l small cs cl b x. subst (λ (r : Request). CallOf ratioed m r c) x
      (record { fits = (refl, (small, cs, cl)); number = eqb-true c.number 6 t; body = b })))
      (λ t. never _ r)))))

  pub reads : (k : Kind) (c : Call) (r : Request) → ask k m c ≡ asks r → CallOf k m r c
  reads monomials c r e = monomials-reads c r e
  reads ratioed c r e = ratioed-reads c r e

  -- ---- what is refused
  abbrev Refusal : Kind → Call → ℕ → Type 0
  Refusal k c n = ((n ≡ 6) × (Serves k c.number → ⊥)) ⊎ ((n ≡ 7) × Serves k c.number)

  refuses : (k : Kind) (c : Call) (n : ℕ) → ask k m c ≡ refused n → Refusal k c n
  unfolding ask ask_monomials ask_ratioed
  refuses monomials c n e =
      either (eqb c.number 0) _ _ (refused n) e
      (λ t h. inr (part-refuses n 1 m c.body _ h (λ q ws h. end-refuses n ws _ h), omega (arith, eqb-true c.number 0 t)))
      (λ t h. either (eqb c.number 1) _ _ (refused n) h
      (λ u h. inr (part-refuses n 1 m c.body _ h (λ q ws h. end-refuses n ws _ h), omega (arith, eqb-true c.number 1 u)))
      (λ u h. inl (same-refusal 6 n h, λ l. others l (eqb-false c.number 0 t) (eqb-false c.number 1 u))))
    where
      others : c.number ≤ 1 → (c.number ≡ 0 → ⊥) → (c.number ≡ 1 → ⊥) → ⊥
      others l f g = omega arith
  refuses ratioed c n e =
      either (eqb c.number 2) _ _ (refused n) e
      (λ t h. inr (three-refuses n 1 c.body _ h, (omega (arith, eqb-true c.number 2 t), omega (arith, eqb-true c.number 2 t))))
      (λ t h. either (eqb c.number 3) _ _ (refused n) h
      (λ u h. inr (three-refuses n 2 c.body _ h, (omega (arith, eqb-true c.number 3 u), omega (arith, eqb-true c.number 3 u))))
      (λ u h. either (eqb c.number 4) _ _ (refused n) h
      (λ v h. inr (three-refuses n 2 c.body _ h, (omega (arith, eqb-true c.number 4 v), omega (arith, eqb-true c.number 4 v))))
      (λ v h. either (eqb c.number 5) _ _ (refused n) h
      (λ w h. inr (index-refuses n c.body _ h (λ i ws h. part-refuses n 1 m ws _ h (λ q ws h. end-refuses n ws _ h)), (omega (arith, eqb-true c.number 5 w), omega (arith, eqb-true c.number 5 w))))
      (λ w h. either (eqb c.number 6) _ _ (refused n) h
      (λ x h. inr (three-refuses n 1 c.body _ h, (omega (arith, eqb-true c.number 6 x), omega (arith, eqb-true c.number 6 x))))
      (λ x h. inl (same-refusal 6 n h, λ l. others l.0 l.1 (eqb-false c.number 2 t) (eqb-false c.number 3 u) (eqb-false c.number 4 v) (eqb-false c.number 5 w) (eqb-false c.number 6 x)))))))
    where
      others : 2 ≤ c.number → c.number ≤ 6 → (c.number ≡ 2 → ⊥) → (c.number ≡ 3 → ⊥) → (c.number ≡ 4 → ⊥) → (c.number ≡ 5 → ⊥) → (c.number ≡ 6 → ⊥) → ⊥
      others l l' f g h i j = omega arith

  -- a request's number is served by its kind
  serves : (k : Kind) (c : Call) (r : Request) → CallOf k m r c → Serves k c.number
  serves monomials c (insertion e) h = omega (arith, h.number)
  serves monomials c (query (containment q)) h = omega (arith, h.number)
  serves monomials c (query (reducing v q)) h = no_kind h.fits.0
  serves monomials c (query (high v q)) h = no_kind h.fits.0
  serves monomials c (query (low i s)) h = no_kind h.fits.0
  serves monomials c (query (singular i s l)) h = no_kind h.fits.0
  serves ratioed c (insertion e) h = (omega (arith, h.number), omega (arith, h.number))
  serves ratioed c (query (containment q)) h = no_kind (sym h.fits.0)
  serves ratioed c (query (reducing v q)) h = (omega (arith, h.number), omega (arith, h.number))
  serves ratioed c (query (high v q)) h = (omega (arith, h.number), omega (arith, h.number))
  serves ratioed c (query (low i s)) h = (omega (arith, h.number), omega (arith, h.number))
  serves ratioed c (query (singular i s l)) h = (omega (arith, h.number), omega (arith, h.number))

  pub ask-exact : (k : Kind) (c : Call) → AskExact k m c
  ask-exact k c = record {
    request = λ r. (reads k c r, stands k c r);
    six = (λ e. not-served (refuses k c 6 e), λ h. six (ask k m c) refl h);
    seven = (λ e. (served (refuses k c 7 e), λ r q. never 7 r (sym e ∙ stands k c r q)), λ h. seven (ask k m c) refl h.0 h.1);
    no_other = λ n e. other n (refuses k c n e);
  }
    where
      not-served : Refusal k c 6 → Serves k c.number → ⊥
      not-served (inl h) = h.1
      not-served (inr h) = absurd (omega (arith, h.0))

      served : Refusal k c 7 → Serves k c.number
      served (inl h) = absurd (omega (arith, h.0))
      served (inr h) = h.1

      six : (a : Asked) → ask k m c ≡ a → (Serves k c.number → ⊥) → ask k m c ≡ refused 6
      six (asks r) e h = absurd (h (serves k c r (reads k c r e)))
      six (refused n) e h = go (refuses k c n e)
        where
          go : Refusal k c n → ask k m c ≡ refused 6
          go (inl z) = e ∙ ap refused z.0
          go (inr z) = absurd (h z.1)

      seven : (a : Asked) → ask k m c ≡ a → Serves k c.number → ((r : Request) → CallOf k m r c → ⊥) → ask k m c ≡ refused 7
      seven (asks r) e s h = absurd (h r (reads k c r e))
      seven (refused n) e s h = go (refuses k c n e)
        where
          go : Refusal k c n → ask k m c ≡ refused 7
          go (inl z) = absurd (z.1 s)
          go (inr z) = e ∙ ap refused z.0

      other : (n : ℕ) → Refusal k c n → (n ≡ 6) ⊎ (n ≡ 7)
      other n (inl h) = inl h.0
      other n (inr h) = inr h.0

pub asks-exact : AsksExact
asks-exact k m h c = ask-exact m h k c

pub fits : (m : ℕ) → 1 ≤ m → (k : Kind) (c : Call) (r : Request) → ask k m c ≡ asks r → GoodRequest k m r
fits m h k c r e = (reads m h k c r e).fits

-- a call asks one thing: a request has one number and one body
pub one-request : (m : ℕ) → 1 ≤ m → (k : Kind) (c : Call) (r x : Request) → CallOf k m r c → CallOf k m x c → r ≡ x
one-request m h k c r x a b = let e : asks r ≡ asks x = sym (stands m h k c r a) ∙ stands m h k c x b in cc
