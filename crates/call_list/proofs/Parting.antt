-- Bodies of calls, part by part. Assumes nothing.
use mathlib.Core.Path.{◌≡◌, refl, sym, ap, ◌∙◌}
use mathlib.Core.Bool.{Bool, true, false, cond}
use mathlib.Core.List.{List, [], ◌∷◌}
use mathlib.Core.Option.{some}
use mathlib.Core.Option as option
use mathlib.Core.Logic.{◌↔◌}
use Prim.Native.Nat.{ℕ, zero, suc, ◌+◌, ◌-◌, ◌*◌, ◌%◌, ◌≤◌, ◌<◌}
use native.Mathlib.Omega.{arith}
use mir.Val.{bool_byte}
use lib.Dec.{eqb}
use lib.ListN.{length, get_or, take, drop, length-drop, length-take}
use lib.Seq.{drop-cons, take_all}
use borrow.Author.Tests.{eq-eqb, ne_eqb}
use Rattle.std.specs.Borrow.{Bor}
use Rattle.std.specs.Prelude.{Result, Ok, Err, IsErrAnd}
use Rattle.refusals.specs.declared.Refusal.{Refusal}
use Rattle.refusals.specs.Numbers.{number}
use Rattle.refusals.specs.declared.Refusal.TheVariants.{BadWords}
use Rattle.words.specs.Kinds.{kind, payload}
use Rattle.words.specs.Words.{words}
use Rattle.words.proofs.Laws.{length-words, words_take, words-drop}
use Rattle.monomial.specs.Monomial.{front, found}
use Rattle.monomial.proofs.Canon.{front-short}
use Rattle.monomial.proofs.Laws.{front-canonical}
use Rattle.index_theory.specs.Calls.{listed, Request, Asked, refused, asks, body_of, calls, with_index, with_part, at_end}
use Rattle.call_list.specs.Bodies.{IsList, Body, Leads, Begins, Single, Paired, Tripled}

-- ---- the questions of a body, one at a time
part-bad : (k m : ℕ) (b : List ℕ) (f : List ℕ → List ℕ → Asked) → front k m 0 b ≡ 0 → with_part k m b f ≡ refused 7
unfolding with_part
part-bad k m b f h = rw (eq-eqb (front k m 0 b) 0 h)

part-good : (k m n : ℕ) (b : List ℕ) (f : List ℕ → List ℕ → Asked) → n ≡ front k m 0 b → (n ≡ 0 → ⊥) → with_part k m b f ≡ f (take n b) (drop n b)
unfolding with_part
part-good k m n b f e h = rw (← e, ne_eqb n 0 h)

end_good : (ws : List ℕ) (r : Request) → length ws ≡ 0 → at_end ws r ≡ asks r
unfolding at_end
end_good [] r h = refl
end_good (w ∷ ws) r h = absurd (omega arith)

end_bad : (ws : List ℕ) (r : Request) → 0 < length ws → at_end ws r ≡ refused 7
unfolding at_end
end_bad [] r h = absurd (omega arith)
end_bad (w ∷ ws) r h = refl

index-bad : (w : ℕ) (ws : List ℕ) (f : ℕ → List ℕ → Asked) → (kind w ≡ 3 → ⊥) → with_index (w ∷ ws) f ≡ refused 7
unfolding with_index
index-bad w ws f h = rw (ne_eqb (kind w) 3 h)

index-good : (w : ℕ) (ws : List ℕ) (f : ℕ → List ℕ → Asked) → kind w ≡ 3 → with_index (w ∷ ws) f ≡ f (payload w) ws
unfolding with_index
index-good w ws f h = rw (eq-eqb (kind w) 3 h)

index-none : (f : ℕ → List ℕ → Asked) → with_index [] f ≡ refused 7
unfolding with_index
index-none f = refl

bad-words : refused 7 ≡ refused (number BadWords)
unfolding number
bad-words = refl

-- what is behind a part
pub rest_of : (n : ℕ) (b : List ℕ) → take (length b - n) (drop n b) ≡ drop n b
rest_of n b = take_all _ _ (omega (arith, length-drop n b))

nothing : (b : List ℕ) → length b ≡ 0 → b ≡ []
nothing [] h = refl
nothing (x ∷ b) h = absurd (omega arith)

-- ---- an index word in front of the body b
pub leads-none : (b : List ℕ) → length b < 4 → Leads (words b) (Err BadWords)
leads-none b h = rw (nothing (words b) (omega (arith, length-words b))) (record { asked = λ f. index-none f ∙ bad-words; good = tt })

module _ (b : List ℕ) (w : ℕ) (h : 4 ≤ length b) (e : w ≡ get_or (words b) 0 0) where
  front-word : words b ≡ w ∷ drop 1 (words b)
  front-word = drop-cons (words b) 0 0 (omega (arith, length-words b)) ∙ rw (← e)

  pub leads-other : (kind w ≡ 3 → ⊥) → Leads (words b) (Err BadWords)
  leads-other k = rw front-word (record { asked = λ f. index-bad w (drop 1 (words b)) f k ∙ bad-words; good = tt })

  pub leads : kind w ≡ 3 → (i : ℕ) (rest : Bor (List ℕ)) → i ≡ payload w → rest.now ≡ drop 4 b → Leads (words b) (Ok (i, rest))
  leads k i rest ei er = record {
    asked = λ f. ap (λ ws. with_index ws f) front-word ∙ index-good w (drop 1 (words b)) f k ∙ rw (← ei, er) (ap (f i) (sym (words-drop b 1)));
    good = omega arith;
  }

-- ---- a monomial or ratio there, as the finder hands it back
module _ (k m : ℕ) (b x : List ℕ) (e : x ≡ found k m b 0) where
  abbrev n : ℕ
  n = front k m 0 (words b)

  most : n ≤ length (words b)
  most = omega (arith, front-short k m 0 (words b))

  pub found-long : length x ≡ 4 * n
  unfolding found
  found-long = omega (arith, ap length e, most, length-words b, length-take (4 * n) b)

  pub found-inside : length x ≤ length b
  found-inside = omega (arith, found-long, most, length-words b)

  found-words : words x ≡ take n (words b)
  unfolding found
  found-words = ap words e ∙ words_take b n

  pub begins-none : length x ≡ 0 → Begins k m (words b) (Err BadWords)
  begins-none z = record { asked = λ f. part-bad k m (words b) f (omega (arith, found-long)) ∙ bad-words; good = tt }

  pub begins : 1 ≤ k → (length x ≡ 0 → ⊥) → (p rest : Bor (List ℕ)) → p.now ≡ x → rest.now ≡ drop (length x) b → Begins k m (words b) (Ok (p, rest))
  begins pos z p rest ep er =
      let some : n ≡ 0 → ⊥ = λ y. z (omega (arith, found-long)) in
      let ex : words p.now ≡ take n (words b) = ap words ep ∙ found-words in
      let ey : words rest.now ≡ drop n (words b) = ap words er ∙ rw found-long (words-drop b n) in
      record {
        asked = λ f. part-good k m n (words b) f refl some ∙ rw (ex, ey);
        good = record { canonical = rw ex (front-canonical k m (words b) pos some); whole = omega (arith, found-long, ap length ep) };
      }

-- ---- the bodies of the calls
module _ (m : ℕ) (b : List ℕ) (p rest : Bor (List ℕ)) (l : Begins 1 m b (Ok (p, rest))) where
  pub single-more : 4 ≤ length rest.now → Single m b (Err BadWords)
  single-more h = record { asked = λ f. l.asked _ ∙ end_bad (words rest.now) _ (omega (arith, length-words rest.now)) ∙ bad-words; good = tt }

  pub single-all : length rest.now < 4 → Single m b (Ok p)
  single-all h = record { asked = λ f. l.asked _ ∙ end_good (words rest.now) _ (omega (arith, length-words rest.now)); good = l.good }

module _ (m : ℕ) (b : List ℕ) (i : ℕ) (rest : Bor (List ℕ)) (l : Leads b (Ok (i, rest))) where
  pub paired : (x : Bor (List ℕ)) → Single m (words rest.now) (Ok x) → Paired m b (Ok (i, x))
  paired x s = record { asked = λ f. l.asked _ ∙ s.asked (f i); good = (l.good, s.good) }

  pub paired_bad : (r : Result (ℕ × Bor (List ℕ)) Refusal) (e : Refusal) → IsErrAnd r (λ x. x ≡ e) → Single m (words rest.now) (Err e) → Paired m b r
  paired_bad (Ok p) e h s = absurd h
  paired_bad (Err x) e h s = rw h (record { asked = λ f. l.asked _ ∙ s.asked (f i); good = tt })

  pub tripled_bad : (k : ℕ) (x more : Bor (List ℕ)) → Begins k m (words rest.now) (Ok (x, more))
      → (r : Result (ℕ × Bor (List ℕ) × Bor (List ℕ)) Refusal) (e : Refusal) → IsErrAnd r (λ x. x ≡ e) → Single m (words more.now) (Err e) → Tripled k m b r
  tripled_bad k x more g (Ok p) e h s = absurd h
  tripled_bad k x more g (Err y) e h s = rw h (record { asked = λ f. l.asked _ ∙ g.asked _ ∙ s.asked (f i (words x.now)); good = tt })

  pub tripled : (k : ℕ) (x more y : Bor (List ℕ)) → Begins k m (words rest.now) (Ok (x, more)) → Single m (words more.now) (Ok y) → Tripled k m b (Ok (i, x, y))
  tripled k x more y g s = record { asked = λ f. l.asked _ ∙ g.asked _ ∙ s.asked (f i (words x.now)); good = (l.good, g.good, s.good) }

-- ---- a body at the front of a list
body-cons : (w : ℕ) (ws : List ℕ) → body_of (w ∷ ws) ≡ cond (eqb (kind w) 6) [] (w ∷ body_of ws)
unfolding body_of
body-cons w ws = refl

pub body-nil : body_of [] ≡ []
unfolding body_of
body-nil = refl

pub body-most : (ws : List ℕ) → length (body_of ws) ≤ length ws
unfolding body_of
body-most [] = omega arith
body-most (w ∷ ws) = go (eqb (kind w) 6) (body-most ws)
  where
    go : (t : Bool) → length (body_of ws) ≤ length ws → length (cond t [] (w ∷ body_of ws)) ≤ suc (length ws)
    go true h = omega arith
    go false h = omega arith

pub body-take : (ws : List ℕ) (n : ℕ) → n ≤ length (body_of ws) → take n (body_of ws) ≡ take n ws
unfolding body_of
body-take ws zero h = refl
body-take [] (suc n) h = refl
body-take (w ∷ ws) (suc n) h = go (eqb (kind w) 6) h (body-take ws n)
  where
    go : (t : Bool) → suc n ≤ length (cond t [] (w ∷ body_of ws)) → (n ≤ length (body_of ws) → take n (body_of ws) ≡ take n ws)
        → take (suc n) (cond t [] (w ∷ body_of ws)) ≡ w ∷ take n ws
    go true l r = absurd (omega arith)
    go false l r = ap (λ (l : List ℕ). w ∷ l) (r (omega arith))

pub body-front : (bs b : List ℕ) → b ≡ take (4 * length (body_of (words bs))) bs → Body bs b
body-front bs b e = record { front = e; words-are = ap words e ∙ words_take bs _ ∙ sym (body-take (words bs) _ (omega arith)) ∙ take_all _ _ (omega arith) }

-- ---- question 4, and the calls counted
listed_nil : listed (words []) ≡ some []
unfolding words listed
listed_nil = refl

pub list-empty : (bs : List ℕ) → length bs ≡ 0 → IsList bs
list-empty bs h = rw (nothing bs h) (record { whole = refl; calls = []; are = listed_nil })

listed_cons : (w : ℕ) (ws : List ℕ) → listed (w ∷ ws) ≡ cond (eqb (kind w) 6) (some (calls (w ∷ ws))) option.none
unfolding listed
listed_cons w ws = refl

first_word : (ws : List ℕ) → 0 < length ws → ws ≡ get_or ws 0 0 ∷ drop 1 ws
first_word [] h = absurd (omega arith)
first_word (w ∷ ws) h = refl

pub list-starts : (bs : List ℕ) (w : ℕ) → length bs % 4 ≡ 0 → (length bs ≡ 0 → ⊥) → w ≡ get_or (words bs) 0 0 → (eqb (kind w) 6 ≡ true) ↔ IsList bs
list-starts bs w h z e = (yes, no)
  where
    ws : List ℕ
    ws = drop 1 (words bs)

    is : words bs ≡ w ∷ ws
    is = first_word (words bs) (omega (arith, length-words bs)) ∙ rw (← e)

    yes : eqb (kind w) 6 ≡ true → IsList bs
    yes t = record { whole = h; calls = calls (w ∷ ws); are = ap listed is ∙ listed_cons w ws ∙ rw t }

    no : IsList bs → eqb (kind w) 6 ≡ true
    no l = go (eqb (kind w) 6) (sym (listed_cons w ws) ∙ ap listed (sym is) ∙ l.are)
      where
        go : (t : Bool) → cond t (some (calls (w ∷ ws))) option.none ≡ some l.calls → t ≡ true
        go true q = refl
        go false q = absurd (let y : ◌≡◌ {A = ℕ} 0 1 = cc in omega arith)

calls-cons : (w : ℕ) (ws : List ℕ) → calls (w ∷ ws) ≡ cond (eqb (kind w) 6) (record { number = payload w; body = body_of ws } ∷ calls ws) (calls ws)
unfolding calls
calls-cons w ws = refl

pub calls-nil : calls [] ≡ []
unfolding calls
calls-nil = refl

-- the calls from word i on, and from the next word on
module _ (W : List ℕ) (i w : ℕ) (h : i < length W) (e : w ≡ get_or W i 0) where
  here-word : drop i W ≡ w ∷ drop (i + 1) W
  here-word = let e1 : suc i ≡ i + 1 = omega arith in drop-cons W i 0 h ∙ rw (e1, ← e)

  pub counted : (t : Bool) (n : ℕ) → t ≡ eqb (kind w) 6 → n ≡ bool_byte t → (n ≤ 1) × (length (calls (drop i W)) ≡ n + length (calls (drop (i + 1) W)))
  counted t n et en = rw (here-word, calls-cons w (drop (i + 1) W), ← et, en) (go t)
    where
      go : (t : Bool) → (bool_byte t ≤ 1) × (length (cond t (record { number = payload w; body = body_of (drop (i + 1) W) } ∷ calls (drop (i + 1) W)) (calls (drop (i + 1) W))) ≡ bool_byte t + length (calls (drop (i + 1) W)))
      go true = (omega arith, omega arith)
      go false = (omega arith, omega arith)

  pub body-stops : true ≡ eqb (kind w) 6 → length (body_of (drop i W)) ≡ 0
  body-stops k = rw (here-word, body-cons w (drop (i + 1) W), ← k)

  pub body-goes : false ≡ eqb (kind w) 6 → length (body_of (drop i W)) ≡ 1 + length (body_of (drop (i + 1) W))
  body-goes k = rw (here-word, body-cons w (drop (i + 1) W), ← k) (omega arith)

pub past_end : (W : List ℕ) (i : ℕ) → length W ≤ i → drop i W ≡ []
past_end W i h = nothing (drop i W) (simp length-drop (omega arith))
