-- The claims of the index on bytes. Assumes nothing.
use mathlib.Core.Path.{◌≡◌, refl, sym, ap, ◌∙◌}
use mathlib.Core.Bool.{Bool, true, false, cond}
use mathlib.Core.Option.{Option, none, some}
use mathlib.Core.List.{List, [], ◌∷◌, ◌++◌}
use mathlib.Core.Logic.{◌⊎◌, inl, inr}
use Prim.Native.Nat.{ℕ, zero, suc, ◌+◌, ◌*◌, ◌%◌, ◌^◌, ◌≤◌, ◌<◌}
use native.Mathlib.Omega.{arith}
use native.Mathlib.Decide.{ℕ_discrete, dec_le}
use lib.Dec.{ltb}
use lib.ListN.{length, get_or, drop, length-append}
use lib.Seq.{drop_at, get_or_at}
use Rattle.words.specs.Kinds.{kind, answer_word, refusal_word}
use Rattle.words.specs.Words.{words, bytes, paste_w}
use Rattle.words.specs.Tables.{part, zeros}
use Rattle.words.proofs.Laws.{length-bytes, length-paste_w, words-paste_w, paste_w-front}
use Rattle.words.proofs.Tables.{Small, small-nil, small-cons, part-mid, part-get, part-nil, length-zeros}
use Rattle.fast_compare.specs.Map as map
use Rattle.kd_theory.specs.Tree.{inorder}
use Rattle.index_theory.specs.Entries.{Entry, entry_at}
use Rattle.index_theory.specs.State.{Kind, State, Valid, opened}
use Rattle.index_theory.specs.Searches.{Query, containment, reducing, high, low, singular}
use Rattle.index_theory.specs.Calls.{Call, listed, Request, insertion, query, insert_number, Asked, refused, asks, ask, Done, step, after, answers}
use Rattle.index_theory.specs.Claims as claims
use Rattle.index_theory.specs.Claims.{YesNo, ReducerIs, no_reducer, a_regular, a_singular, BaseIs, no_divisor, the_largest, CallOf, Finds, AnswerIs, Ties}
use Rattle.index_theory.specs.Demand3.{Answered, NotUnsaid}
use Rattle.index_theory.proofs.Asks.{ask-exact, fits}
use Rattle.index_theory.proofs.Answering.{serve-answers}
use Rattle.index_theory.proofs.Keeps.{step-valid, after-valid}
use Rattle.index_theory.proofs.Lists.{answers-many, answers-two, after_two, lists-exact}
use Rattle.index_theory.proofs.Theorems.{opening-valid, stored-held, same-ask, step-serves, answers-held, refused-kept, ties-fixed}
use Rattle.index_theory.proofs.Demand.{side, demand3-counted}
use Rattle.index_image.specs.Layout.{shape_of, encode, Is, Sound}
use Rattle.index_image.specs.Shape as at
use Rattle.index_image.specs.Size as size
use Rattle.index_image.proofs.Encoding.{image-length}
use Rattle.index_image.proofs.Lengths.{valid-fits}
use Rattle.index_image.proofs.Pasted.{pasted}
use Rattle.index_image.proofs.Unique.{state-unique}
use Rattle.call_list.specs.Bodies.{IsList}
use Rattle.index_opening.specs.Kinds.{index_kind}
use Rattle.index_run.specs.Ran.{Ran}
use Rattle.divisor_index.specs.Doors.{opening_good, RunIs}
use Rattle.index_claims.specs.Claims.{OpeningLeaves, OpeningServed, ran_calls, RunLeaves, SoundKept, Right, EveryAnswer, Queried, Demand3Bytes}
use Rattle.index_run.proofs.Running.{after_is, list-calls}
use Rattle.divisor_index.proofs.Replying as replying

-- ---- an opening
opening-size : (k m c : ℕ) (xs : List ℕ) → k ≤ 1 → at.size (shape_of (opened (index_kind k) m c xs)) ≡ at.size (size.empty_shape k m c)
opening-size zero m c xs h = refl
opening-size (suc zero) m c xs h = refl
opening-size (suc (suc k)) m c xs h = absurd (omega arith)

pub opening-served : OpeningServed
opening-served k m c xs bs = go (opening_good k m c xs) refl
  where
    go : (t : Bool) → opening_good k m c xs ≡ t → OpeningLeaves k m c xs bs
    go false e =
        let o = replying.open-one k m c xs bs e in
        record { image = λ z. absurd (omega (arith, o.0)); kept = λ z. sym o.1 }
    go true e =
        elim (dec_le (size.bytes k m c) (length bs)) [
          | yes h ↦
              let q = replying.sizes k m c xs e in
              let st = opened (index_kind k) m c (words xs) in
              let o = replying.open-served k m c xs e bs (paste_w bs 0 (encode st)) h refl in
              let v : Valid st = opening-valid (index_kind k) m c (words xs) (replying.maxima k m c xs e).1 q.cap-from q.cap-to in
              let i = pasted st v bs (omega (arith, opening-size k m c (words xs) (replying.one-kind k m c xs e))) in
              record { image = λ z. rw o.1 at i; kept = λ z. absurd (z (sym o.0)) }
          | no h ↦
              let o = replying.open-two k m c xs e bs (omega arith) in
              record { image = λ z. absurd (omega (arith, o.0)); kept = λ z. sym o.1 }
        ]

-- ---- answers are words
yes-small : (P : Type 0) (a : ℕ) → YesNo P a → a < 2 ^ 32
yes-small P _ (claims.yes h) = omega arith
yes-small P _ (claims.no h) = omega arith

module _ (st : State) (val : Valid st) where
  number_small : (i : ℕ) → i < length st.entries → (entry_at st.entries i).number < 4096
  number_small i h = omega (arith, val.numbered i h, val.few, val.cap-to)

  reducer-small : (v : map.Value) (q : List ℕ) (a : ℕ) → ReducerIs st.entries v q a → a < 2 ^ 32
  reducer-small v q _ (no_reducer h) = omega arith
  reducer-small v q _ (a_regular i l h) = omega (arith, number_small i l)
  reducer-small v q _ (a_singular i l h free) = omega (arith, number_small i l)

  base-small : (P : Entry → Type 0) (a : ℕ) → BaseIs st.entries P a → a < 2 ^ 32
  base-small P _ (no_divisor h) = omega arith
  base-small P _ (the_largest i l h) = omega (arith, number_small i l)

  finds-small : (r : Query) (a : ℕ) → Finds st.entries r a → a < 2 ^ 32
  finds-small (containment q) a h = yes-small _ a h
  finds-small (reducing v q) a h = reducer-small v q a h
  finds-small (high v q) a h = base-small _ a h
  finds-small (low i s) a h = base-small _ a h
  finds-small (singular i s l) a h = yes-small _ a h

  request-small : (r : Request) (a : ℕ) → AnswerIs st.capacity st.entries r a → a < 2 ^ 32
  request-small (insertion e) a h = go (ltb (length st.entries) st.capacity) h
    where
      go : (t : Bool) → a ≡ cond t (answer_word (length st.entries)) (refusal_word 8) → a < 2 ^ 32
      go true h = omega (arith, val.few, val.cap-to)
      go false h = omega arith
  request-small (query r) a h = finds-small r a h

  step_small : (c : Call) → (step st c).answer < 2 ^ 32
  step_small c = go (ask st.kind st.variables c) refl
    where
      six-seven : (n : ℕ) → (n ≡ 6) ⊎ (n ≡ 7) → refusal_word n < 2 ^ 32
      six-seven n (inl e) = omega arith
      six-seven n (inr e) = omega arith

      go : (a : Asked) → ask st.kind st.variables c ≡ a → (step st c).answer < 2 ^ 32
      go (refused n) e = rw (refused-kept st c n e) (six-seven n ((ask-exact st.variables val.maxima-good.some st.kind c).no_other n e))
      go (asks r) e = rw (step-serves st c r e) (request-small r _ (serve-answers st val r (fits st.variables val.maxima-good.some st.kind c r e)))

answers-small : (cs : List Call) (st : State) → Valid st → Small (answers st cs)
unfolding answers
answers-small [] st val = small-nil
answers-small (c ∷ cs) st val = small-cons (step_small st val c) (answers-small cs (step st c).state (step-valid st val c))

-- ---- a list
-- a list that is served is one, and has its answers' room
module _ (bs list out bs' out' : List ℕ) (S : Sound bs) (d : RunIs bs list out bs' out' 0) where
  is-list : IsList list
  is-list = elim (ℕ_discrete (length list % 4) 0) [
    | yes w ↦ go w (listed (words list)) refl
    | no w ↦ absurd (omega (arith, d.four S (λ l. w l.whole)))
  ]
    where
      go : length list % 4 ≡ 0 → (o : Option (List Call)) → listed (words list) ≡ o → IsList list
      go w (some cs) e = record { whole = w; calls = cs; are = e }
      go w none e = absurd (omega (arith, d.four S (λ l. none-some l.calls (sym e ∙ l.are))))
        where
          none-some : (cs : List Call) → none ≡ some cs → ⊥
          none-some cs e = let z : ◌≡◌ {A = ℕ} 0 1 = cc in omega arith

  room : (l : IsList list) → 4 * length l.calls ≤ length out
  room l = elim (dec_le (4 * length l.calls) (length out)) [
    | yes h ↦ h
    | no h ↦ absurd (omega (arith, d.five S l (omega arith)))
  ]

paste-rest : (bs ws : List ℕ) (n : ℕ) → length ws ≡ n → drop (4 * n) (paste_w bs 0 ws) ≡ drop (4 * n) bs
paste-rest bs ws n e =
    ap (drop (4 * n)) (paste_w-front bs ws) ∙ drop_at (bytes ws) (drop (4 * length ws) bs) (4 * n) (length-bytes ws ∙ ap (λ k. 4 * k) e) ∙ ap (λ k. drop (4 * k) bs) e

module _ (st : State) (bs out bs' out' : List ℕ) (I : Is st bs) where
  kept-none : bs' ≡ bs → out' ≡ out → RunLeaves st [] bs out bs' out'
  unfolding after answers
  kept-none eb eo = record {
    image = rw eb I;
    only = λ u J. state-unique bs u st (rw eb at J) I;
    side = side st I.valid [];
    answered = part-nil (words out') 0;
    image-rest = rw eb refl;
    answers-rest = rw eo refl;
    image-long = ap length eb;
    answers-long = ap length eo;
  }

  kept-all : (cs : List Call) → 4 * length cs ≤ length out → Ran cs bs bs' out out' → RunLeaves st cs bs out bs' out'
  kept-all cs h d =
      let u = after st cs in
      let eb = d.image st I in
      let eo = d.answered st I in
      let v = after-valid cs st I.valid in
      let s = stored-held st cs in
      let n = answers-many st cs in
      let same : at.size (shape_of u) ≡ at.size (shape_of st) = rw (s.kind, s.variables, s.capacity) refl in
      let long : length (encode u) ≡ at.size (shape_of st) =
      image-length (zeros (at.size (shape_of u))) u (valid-fits u v) (omega (arith, length-zeros (at.size (shape_of u)))) ∙ same in
      let now = after_is st cs bs bs' I eb in
      record {
        image = now;
        only = λ w J. state-unique bs' w u J now;
        side = side st I.valid cs;
        answered = rw (eo, words-paste_w out 0 (answers st cs) (answers-small cs st I.valid).each (omega arith)) (part-mid [] (answers st cs) _ 0 (length cs) refl n);
        image-rest = rw eb (paste-rest bs (encode u) (at.size (shape_of st)) long);
        answers-rest = rw eo (paste-rest out (answers st cs) (length cs) n);
        image-long = ap length eb ∙ length-paste_w bs 0 (encode u) (omega (arith, I.room));
        answers-long = ap length eo ∙ length-paste_w out 0 (answers st cs) (omega arith);
      }

pub sound-kept : SoundKept
sound-kept st bs list out bs' out' zero I d =
    let S : Sound bs = record { state = st; is = I } in
    let l = is-list bs list out bs' out' S d in
    let e = list-calls list l in
    let k : RunLeaves st l.calls bs out bs' out' = kept-all st bs out bs' out' I l.calls (room bs list out bs' out' S d l) (d.ran refl l) in
    (λ z. l.are ∙ ap some e, rw e at k)
sound-kept st bs list out bs' out' (suc r) I d =
    let z = d.refused (λ z. omega arith) in
    (λ z. absurd (omega arith), kept-none st bs out bs' out' I z.0 z.1)

-- ---- each answer
answer-in : (st : State) (cs : List Call) (c : Call) (ds : List Call) → get_or (answers st (cs ++ (c ∷ ds))) (length cs) 0 ≡ (step (after st cs) c).answer
unfolding answers
answer-in st cs c ds =
    let u = after st cs in
    ap (λ (l : List ℕ). get_or l (length cs) 0) (answers-two st cs (c ∷ ds)) ∙ get_or_at (answers st cs) (step u c).answer (answers (step u c).state ds) 0 (length cs) (answers-many st cs)

-- word by word
word_in : (st : State) (bs list out bs' out' : List ℕ) (r : ℕ) → Is st bs → RunIs bs list out bs' out' r
    → (cs : List Call) (c : Call) (ds : List Call) → ran_calls r list ≡ cs ++ (c ∷ ds) → get_or (words out') (length cs) 0 ≡ (step (after st cs) c).answer
word_in st bs list out bs' out' r I d cs c ds e =
    let a : part (words out') 0 (length (cs ++ (c ∷ ds))) ≡ answers st (cs ++ (c ∷ ds)) = rw e at (sound-kept st bs list out bs' out' r I d).1.answered in
    let g = part-get (words out') 0 (length (cs ++ (c ∷ ds))) (length cs) (omega (arith, length-append cs (c ∷ ds))) in
    let z : length cs ≡ 0 + length cs = omega arith in
    ap (λ (n : ℕ). get_or (words out') n 0) z ∙ sym g ∙ ap (λ (l : List ℕ). get_or l (length cs) 0) a ∙ answer-in st cs c ds

same-ties : (H K : List Entry) (xs ys : List ℕ) (x : Query) (a : ℕ) → H ≡ K → xs ≡ ys → Ties H xs x a → Ties K ys x a
same-ties H K xs ys x a p q h = rw (p, q) at h

right-step : (st : State) → Valid st → (cs : List Call) (c : Call) → Right st cs c (step (after st cs) c).answer
right-step st val cs c =
    let u = after st cs in
    let s = stored-held st cs in
    let v = after-valid cs st val in
    let again = same-ask u.kind st.kind u.variables st.variables c s.kind s.variables in
    let next : (step u c).state ≡ after st (cs ++ (c ∷ [])) = sym (after_two st cs (c ∷ []) ∙ (lists-exact u).one-after c) in
    record {
      six-seven = λ n e. ap (λ (d : Done). d.answer) (refused-kept u c n (again ∙ e));
      right = λ x e. answers-held st val cs c x e;
      tie = λ x e. same-ties _ _ _ _ x _ s.entries (ap (λ (w : State). inorder w.tree) next) (ties-fixed u v c x (again ∙ e));
    }

pub every-answer : EveryAnswer
every-answer st bs list out bs' out' r I d cs c ds e = rw (word_in st bs list out bs' out' r I d cs c ds e) (right-step st I.valid cs c)

-- ---- demand 3
some_same : (x y : List Call) → some x ≡ some y → x ≡ y
some_same x y e = cc

module _ (st u : State) (cs : List Call) (c : Call) (a : ℕ) (q : Queried st u cs c a) where
  abbrev run : List Call
  run = ran_calls q.returned q.list

  -- u is the state after the list
  u-is : u ≡ after st run
  u-is = (sound-kept st q.image q.list q.out q.image' q.out' q.returned q.is q.ran).1.only u q.then

  u-kind : u.kind ≡ st.kind
  u-kind = ap (λ (w : State). w.kind) u-is ∙ (stored-held st run).kind

  u-variables : u.variables ≡ st.variables
  u-variables = ap (λ (w : State). w.variables) u-is ∙ (stored-held st run).variables

  question-calls : ran_calls 0 q.question ≡ cs ++ (c ∷ q.behind)
  question-calls =
      some_same _ _ (sym ((sound-kept u q.image' q.question q.answers q.image'' q.answers' 0 q.then q.asked).0 refl) ∙ q.calls)

  told : a ≡ (step (after u cs) c).answer
  told = q.answer ∙ word_in u q.image' q.question q.answers q.image'' q.answers' 0 q.then q.asked cs c q.behind question-calls

  query-answered : (c.number ≡ insert_number st.kind → ⊥) → Answered (after u cs) c
  query-answered h = record {
    no-insert = λ e. h (e ∙ ap insert_number ((stored-held u cs).kind ∙ u-kind));
    no-refusal = λ e. q.no-refusal (ap kind told ∙ e);
  }

same-calls : (k j : Kind) (m n : ℕ) (r : Request) (c : Call) → k ≡ j → m ≡ n → CallOf k m r c → CallOf j n r c
same-calls k j m n r c p q h = rw (p, q) at h

same-said : (H H' K K' : List Entry) (x : Query) (a a' b b' : ℕ) → H ≡ H' → K ≡ K' → a' ≡ a → b' ≡ b → NotUnsaid H K x a b → NotUnsaid H' K' x a' b'
same-said H H' K K' x a a' b b' h k p q n = rw (p, q) (rw (h, k) at n)

pub demand3-bytes : Demand3Bytes
demand3-bytes st su u v cs ds c a b q p k m other each =
    let ku = u-kind st u cs c a q in
    let kv = u-kind su v ds c b p in
    let mu = u-variables st u cs c a q in
    let mv = u-variables su v ds c b p in
    let x = query-answered st u cs c a q other in
    let y = query-answered su v ds c b p (λ e. other (e ∙ ap insert_number (sym k))) in
    let h = stored-held u cs in
    let g = stored-held v ds in
    let s = demand3-counted u v q.then.valid p.then.valid (ku ∙ k ∙ sym kv) (mu ∙ m ∙ sym mv) cs ds c x y each in
    record {
      question = s.question;
      calls = same-calls _ _ _ _ _ c (h.kind ∙ ku) (h.variables ∙ mu) s.calls;
      not-unsaid = same-said _ _ _ _ s.question _ a _ b h.entries g.entries (told st u cs c a q) (told su v ds c b p) s.not-unsaid;
    }
