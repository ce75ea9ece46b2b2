-- Calls of a list, by what they ask. Assumes nothing.
use mathlib.Core.Path.{◌≡◌, refl, sym, ap, ◌∙◌}
use mathlib.Core.List.{List}
use Prim.Native.Nat.{ℕ}
use native.Mathlib.Omega.{arith}
use borrow.Author.Tests.{eq-eqb, ne_eqb}
use Rattle.std.specs.Borrow.{Bor}
use Rattle.std.specs.Prelude.{Result, Ok, Err, IsErrAnd}
use Rattle.refusals.specs.declared.Refusal.{Refusal}
use Rattle.refusals.specs.declared.Refusal.TheVariants.{NotServed}
use Rattle.refusals.specs.Numbers.{number}
use Rattle.words.specs.Kinds.{refusal_word}
use Rattle.words.specs.Words.{words, paste_w}
use Rattle.words.proofs.Laws.{Bytes}
use Rattle.fast_compare.specs.Map.{value_of}
use Rattle.index_theory.specs.State.{monomials, ratioed, State}
use Rattle.index_theory.specs.Searches.{containment, reducing, high, low, singular}
use Rattle.index_theory.specs.Calls.{Call, Request, insertion, query, plain, Asked, refused, asks, ask_monomials, ask_ratioed, ask, reply, serve, step}
use Rattle.index_image.specs.Layout.{encode, Is}
use Rattle.index_image.specs.declared.Shape.{Shape}
use Rattle.index_image.proofs.Shapes.{code-ratio, code-monomial}
use Rattle.call_list.specs.Bodies.{asked_by, Single, Paired, Tripled}
use Rattle.kd_insert.specs.Inserting.{signed}
use Rattle.listing.specs.Listed.{Root}
use Rattle.index_replies.specs.Replied.{Replied}
use Rattle.index_replies.proofs.Inserts.{itself, shaped}

-- what a call asks of every state with this image
abbrev Asks : Call → List ℕ → Asked → Type 0
Asks c bs a = (st : State) → Is st bs → ask st.kind st.variables c ≡ a

step_is : (st : State) (c : Call) (a : Asked) → ask st.kind st.variables c ≡ a → step st c ≡ reply st a
unfolding step
step_is st c a e = ap (reply st) e

reply-refused : (st : State) (n : ℕ) → reply st (refused n) ≡ record { answer = refusal_word n; state = st }
unfolding reply
reply-refused st n = refl

reply-asks : (st : State) (r : Request) → reply st (asks r) ≡ serve st r
unfolding reply
reply-asks st r = refl

module _ (c : Call) (bs : List ℕ) where
  pub refuses : (e : Refusal) → Asks c bs (refused (number e)) → Bytes bs → Replied (λ st. step st c) bs bs (Err e)
  refuses e a b = record {
    answer = λ st I. ap (λ d. d.answer) (sym (step_is st c (refused (number e)) (a st I) ∙ reply-refused st (number e)));
    small = tt;
    bytes = λ st I. sym (ap (λ d. paste_w bs 0 (encode d.state)) (step_is st c (refused (number e)) (a st I) ∙ reply-refused st (number e)) ∙ itself bs st b I);
  }

  -- what the parts of its body were refused by
  pub refuses-parts : (r : Result ℕ Refusal) (e : Refusal) → IsErrAnd r (λ x. x ≡ e) → Asks c bs (refused (number e)) → Bytes bs → Replied (λ st. step st c) bs bs r
  refuses-parts (Ok n) e h a b = absurd h
  refuses-parts (Err x) e h a b = rw h (refuses e a b)

  pub serves : (r : Request) (bs' : List ℕ) (w : Result ℕ Refusal) → Asks c bs (asks r) → Replied (λ st. serve st r) bs bs' w → Replied (λ st. step st c) bs bs' w
  serves r bs' w a d = record {
    answer = λ st I. d.answer st I ∙ ap (λ d. d.answer) (sym (step_is st c (asks r) (a st I) ∙ reply-asks st r));
    small = d.small;
    bytes = λ st I. d.bytes st I ∙ ap (λ d. paste_w bs 0 (encode d.state)) (sym (step_is st c (asks r) (a st I) ∙ reply-asks st r));
  }

-- ---- the questions of a call to a monomial index
ask-monomials : (m : ℕ) (c : Call) → ask monomials m c ≡ ask_monomials m c.number c.body
unfolding ask
ask-monomials m c = refl

ask-ratioed : (m : ℕ) (c : Call) → ask ratioed m c ≡ ask_ratioed m c.number c.body
unfolding ask
ask-ratioed m c = refl

module _ (s : Shape) (c : Call) (bs : List ℕ) (R : Root bs s) (a : Asked) where
  pub of-monomials : s.kind ≡ 0 → ask_monomials s.variables c.number c.body ≡ a → Asks c bs a
  of-monomials k e st I =
      let q = shaped bs s R st I in
      let kind : st.kind ≡ monomials = code-monomial st.kind (sym (ap (λ x. x.kind) q) ∙ k) in
      let vars : s.variables ≡ st.variables = ap (λ x. x.variables) q in
      ap (λ k. ask k st.variables c) kind ∙ ask-monomials st.variables c ∙ rw (← vars) e

  pub of-ratioed : s.kind ≡ 1 → ask_ratioed s.variables c.number c.body ≡ a → Asks c bs a
  of-ratioed k e st I =
      let q = shaped bs s R st I in
      let kind : st.kind ≡ ratioed = code-ratio st.kind (sym (ap (λ x. x.kind) q) ∙ k) in
      let vars : s.variables ≡ st.variables = ap (λ x. x.variables) q in
      ap (λ k. ask k st.variables c) kind ∙ ask-ratioed st.variables c ∙ rw (← vars) e

-- what the bodies ask by their parts
module _ (m n : ℕ) (b : List ℕ) where
  module _ (r : Result (Bor (List ℕ)) Refusal) (o : Single m b r) where
    pub inserts-monomial : n ≡ 0 → ask_monomials m n b ≡ asked_by r (λ x. asks (insertion (plain (words x.now))))
    unfolding ask_monomials
    inserts-monomial e = rw (eq-eqb n 0 e) (o.asked (λ x. insertion (plain x)))

    pub asks-contained : n ≡ 1 → ask_monomials m n b ≡ asked_by r (λ x. asks (query (containment (words x.now))))
    unfolding ask_monomials
    asks-contained e = rw (ne_eqb n 0 (omega arith), eq-eqb n 1 e) (o.asked (λ x. query (containment x)))

  pub no-monomials : (n ≡ 0 → ⊥) → (n ≡ 1 → ⊥) → ask_monomials m n b ≡ refused (number NotServed)
  unfolding ask_monomials number
  no-monomials h0 h1 = rw (ne_eqb n 0 h0, ne_eqb n 1 h1)

-- ---- and to a ratio index
module _ (m n : ℕ) (b : List ℕ) where
  module _ (r : Result (ℕ × Bor (List ℕ) × Bor (List ℕ)) Refusal) where
    pub inserts-signed : Tripled 1 m b r → n ≡ 2 → ask_ratioed m n b ≡ asked_by r (λ p. asks (insertion (signed p.0 (words p.1.now) (words p.2.now))))
    unfolding ask_ratioed
    inserts-signed o h = rw (eq-eqb n 2 h) (o.asked (λ i x y. insertion (signed i x y)))

    pub asks-reducing : Tripled 2 m b r → n ≡ 3 → ask_ratioed m n b ≡ asked_by r (λ p. asks (query (reducing (value_of p.0 (words p.1.now)) (words p.2.now))))
    unfolding ask_ratioed
    asks-reducing o h = rw (ne_eqb n 2 (omega arith), eq-eqb n 3 h) (o.asked (λ i x y. query (reducing (value_of i x) y)))

    pub asks-high : Tripled 2 m b r → n ≡ 4 → ask_ratioed m n b ≡ asked_by r (λ p. asks (query (high (value_of p.0 (words p.1.now)) (words p.2.now))))
    unfolding ask_ratioed
    asks-high o h = rw (ne_eqb n 2 (omega arith), ne_eqb n 3 (omega arith), eq-eqb n 4 h) (o.asked (λ i x y. query (high (value_of i x) y)))

    pub asks-singular : Tripled 1 m b r → n ≡ 6 → ask_ratioed m n b ≡ asked_by r (λ p. asks (query (singular p.0 (words p.1.now) (words p.2.now))))
    unfolding ask_ratioed
    asks-singular o h = rw (ne_eqb n 2 (omega arith), ne_eqb n 3 (omega arith), ne_eqb n 4 (omega arith), ne_eqb n 5 (omega arith), eq-eqb n 6 h) (o.asked (λ i x y. query (singular i x y)))

  pub asks-low : (r : Result (ℕ × Bor (List ℕ)) Refusal) → Paired m b r → n ≡ 5 → ask_ratioed m n b ≡ asked_by r (λ p. asks (query (low p.0 (words p.1.now))))
  unfolding ask_ratioed
  asks-low r o h = rw (ne_eqb n 2 (omega arith), ne_eqb n 3 (omega arith), ne_eqb n 4 (omega arith), eq-eqb n 5 h) (o.asked (λ i x. query (low i x)))

  pub no-ratios : (n ≡ 2 → ⊥) → (n ≡ 3 → ⊥) → (n ≡ 4 → ⊥) → (n ≡ 5 → ⊥) → (n ≡ 6 → ⊥) → ask_ratioed m n b ≡ refused (number NotServed)
  unfolding ask_ratioed number
  no-ratios h2 h3 h4 h5 h6 = rw (ne_eqb n 2 h2, ne_eqb n 3 h3, ne_eqb n 4 h4, ne_eqb n 5 h5, ne_eqb n 6 h6)
