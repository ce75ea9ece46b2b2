-- What a walk over the words of variables reads: each word up to the end word, and nothing else. Assumes nothing.
use mathlib.Core.Path.{◌≡◌, refl, sym, ap, ◌∙◌}
use mathlib.Core.List.{List, [], ◌∷◌, ◌++◌}
use mathlib.Core.Logic.{◌⊎◌, inl, inr}
use Prim.Native.Nat.{ℕ, zero, suc, ◌+◌, ◌-◌, ◌≤◌, ◌<◌}
use native.Mathlib.Omega.{arith}
use native.Mathlib.Decide.{ℕ_discrete}
use lib.ListN.{length, get_or, take, drop, length-append, length-take}
use lib.Seq.{take-suc}
use native.Mathlib.Numerals.{add-one}
use borrow.Author.Tests.{eq-eqb, ne_eqb}
use Rattle.std.specs.Prelude.{Option, Some, None}
use Rattle.std.specs.Iterator.{YieldsFirst, Yields}
use Rattle.std.proofs.lemmas.List.{get_or_default}
use Rattle.std.proofs.lemmas.Iterator.{YieldsList}
use Rattle.std.proofs.lemmas.Iterator.Consumers.{YieldsList-from_first, YieldsList-turn, YieldsList-end}
use Rattle.words.specs.Kinds.{kind}
use Rattle.words.specs.Words.{words}
use Rattle.words.proofs.Laws.{word-and-rest, length-words, words-rest}
use Rattle.std.specs.List.{slice_range}
use Rattle.monomial.specs.Monomial.{bias, Starts, first, front, to_end, pow}
use Rattle.monomial.proofs.Canon.{front-short, nil-of}
use Rattle.monomial.specs.Walk.{variable_words, words_left}
use Rattle.monomial.specs.declared.variables.Variables.{Variables}
use Rattle.monomial.proofs.Ends.{end_none, end-here, end-past, front_ends}
use Rattle.monomial.proofs.Firsts.{read}
use Rattle.monomial.proofs.Walks.{Rest, Last, Next, word_at}

-- ---- by the first word
pub variables-nil : variable_words [] ≡ []
unfolding variable_words
variables-nil = refl

pub variables-stop : (w : ℕ) (ws : List ℕ) → kind w ≡ 0 → variable_words (w ∷ ws) ≡ []
unfolding variable_words
variables-stop w ws h = rw (eq-eqb _ _ h)

pub variables-more : (w : ℕ) (ws : List ℕ) → (kind w ≡ 0 → ⊥) → variable_words (w ∷ ws) ≡ w ∷ variable_words ws
unfolding variable_words
variables-more w ws h = rw (ne_eqb _ _ h)

-- ---- one call of `next`, on the bytes that are left
pub bytes-none : (bs : List ℕ) → length bs < 4 → variable_words (words bs) ≡ []
bytes-none bs h = rw (nil-of (words bs) (omega (arith, length-words bs))) variables-nil

module _ (bs : List ℕ) (h : 4 ≤ length bs) {w : ℕ} (e : w ≡ get_or (words bs) 0 0) where
  front-word : words bs ≡ w ∷ drop 1 (words bs)
  front-word = word-and-rest (words bs) 0 w (omega (arith, length-words bs)) e

  pub bytes-stop : kind w ≡ 0 → variable_words (words bs) ≡ []
  bytes-stop z = rw front-word (variables-stop w _ z)

  pub bytes-more : (kind w ≡ 0 → ⊥) → variable_words (words bs) ≡ w ∷ variable_words (words (slice_range bs 4 (length bs)))
  bytes-more z = rw (front-word, variables-more w (drop 1 (words bs)) z, words-rest bs 1 (length bs - 4) (omega arith)) refl

-- ---- by the place
pub variable-at : (W : List ℕ) (i : ℕ) → i < length (variable_words W) → (get_or (variable_words W) i 0 ≡ get_or W i 0) × (kind (get_or W i 0) ≡ 0 → ⊥)
variable-at [] i h = absurd (omega (arith, ap length variables-nil))
variable-at (w ∷ ws) i h =
    elim (ℕ_discrete (kind w) 0) [
      | yes z ↦ absurd (omega (arith, ap length (variables-stop w ws z)))
      | no z ↦ rw (variables-more w ws z) (go (variable-at ws) z i (rw (variables-more w ws z) at h))
    ]
  where
    go : ((i : ℕ) → i < length (variable_words ws) → (get_or (variable_words ws) i 0 ≡ get_or ws i 0) × (kind (get_or ws i 0) ≡ 0 → ⊥))
        → (kind w ≡ 0 → ⊥) → (i : ℕ) → i < length (w ∷ variable_words ws) → (get_or (w ∷ variable_words ws) i 0 ≡ get_or (w ∷ ws) i 0) × (kind (get_or (w ∷ ws) i 0) ≡ 0 → ⊥)
    go rec z zero l = (refl, z)
    go rec z (suc i) l = rec i (omega arith)

pub to_end-is : (n : ℕ) (W : List ℕ) → (to_end n W ≡ 0 → ⊥) → (to_end n W ≡ n + (length (variable_words W) + 1)) × (kind (get_or W (length (variable_words W)) 0) ≡ 0)
to_end-is n [] h = absurd (h (end_none n))
to_end-is n (w ∷ ws) h =
    elim (ℕ_discrete (kind w) 0) [
      | yes z ↦ rw (variables-stop w ws z) (end-here n w ws z ∙ omega arith, z)
      | no z ↦
          let r = to_end-is (n + 1) ws (λ e. h (end-past n w ws z ∙ e)) in
          rw (variables-more w ws z) (end-past n w ws z ∙ r.0 ∙ omega arith, r.1)
    ]

-- ---- of what stands at the front of a list
module _ {k : ℕ} {W : List ℕ} (s : Starts k 4096 W) where
  to_end-first : to_end 0 W ≡ length (first k W)
  unfolding first
  to_end-first = sym (front_ends k 4096 0 W s.some) ∙ omega (arith, length-take (front k 4096 0 W) W, front-short k 4096 0 W)

  ends : to_end 0 W ≡ 0 → ⊥
  ends e = s.some (front_ends k 4096 0 W s.some ∙ e)

  -- it has one word more, its end word
  pub first-length : length (first k W) ≡ length (variable_words W) + 1
  first-length = omega (arith, to_end-first, (to_end-is 0 W ends).0)

  pub end-word : kind (get_or (first k W) (length (variable_words W)) 0) ≡ 0
  end-word = ap kind (sym (read k W (length (variable_words W)) (omega (arith, first-length)) refl)) ∙ (to_end-is 0 W ends).1

  pub variable-word : (i : ℕ) → i < length (variable_words W) → (get_or (variable_words W) i 0 ≡ get_or (first k W) i 0) × (kind (get_or (first k W) i 0) ≡ 0 → ⊥)
  variable-word i h =
      let v = variable-at W i h in
      let e = read k W i {x = get_or W i 0} (omega (arith, first-length)) refl in
      (v.0 ∙ e, λ z. v.1 (ap kind e ∙ z))

-- it is the variables' words, and then an end word
front-variables : (W : List ℕ) → take (length (variable_words W)) W ≡ variable_words W
front-variables [] = rw variables-nil
front-variables (w ∷ ws) =
    elim (ℕ_discrete (kind w) 0) [
      | yes z ↦ rw (variables-stop w ws z)
      | no z ↦ rw (variables-more w ws z) (ap (λ (l : List ℕ). w ∷ l) (front-variables ws))
    ]

pub first-variables : {k : ℕ} {W : List ℕ} → Starts k 4096 W → (e : ℕ) × (first k W ≡ variable_words W ++ (e ∷ [])) × (kind e ≡ 0)
unfolding first
first-variables {k} {W} s =
    let n : front k 4096 0 W ≡ length (variable_words W) + 1 = omega (arith, first-length s, length-take (front k 4096 0 W) W, front-short k 4096 0 W) in
    let l : length (variable_words W) < length W = omega (arith, front-short k 4096 0 W) in (
      get_or W (length (variable_words W)) 0,
      rw (n, add-one) (take-suc W (length (variable_words W)) 0 l ∙ rw (front-variables W)),
      (to_end-is 0 W (ends s)).1,
    )

-- ---- in a `for w in variables_of(m)` that has yielded xs: W are the words of m, and the next call of `next` answers r
all : (s : Variables) (W : List ℕ) → words_left s ≡ variable_words W → YieldsList (YieldsFirst words_left) (λ x. x) s (variable_words W)
all s W from = YieldsList-from_first (λ (x : ℕ). x) words_left (variable_words W) from

-- what came and what is left
pub left-over : (s : Variables) (xs : List ℕ) (t : Variables) → Yields (YieldsFirst words_left) s xs t → words_left s ≡ xs ++ words_left t
left-over s [] t e = ap words_left e
left-over s (x ∷ xs) t (j, h, y) = h ∙ ap (λ (l : List ℕ). x ∷ l) (left-over j xs t y)

module _ {k : ℕ} {W : List ℕ} (starts : Starts k 4096 W) (s t u : Variables) (r : Option ℕ) (xs : List ℕ)
    (from : words_left s ≡ variable_words W) (by : Yields (YieldsFirst words_left) s xs t) (step : YieldsFirst words_left t r u) where
  -- an item is the word at the place of as many words as came before it, and no end word
  pub item-read : {w : ℕ} → r ≡ Some w → (w ≡ get_or (first k W) (length xs) 0) × (kind w ≡ 0 → ⊥)
  item-read {w} e =
      let h = YieldsList-turn (all s W from) xs t by r u w e step in
      let v = variable-word starts (length xs) h.0 in
      let i : w ≡ get_or (first k W) (length xs) 0 = h.1 ∙ get_or_default (variable_words W) (length xs) w 0 h.0 ∙ v.0 in
      (i, λ z. v.1 (ap kind (sym i) ∙ z))

  -- after the last item stands the end word
  pub rest-read : r ≡ None → kind (get_or (first k W) (length xs) 0) ≡ 0
  rest-read e =
      let h = YieldsList-end (all s W from) xs t by r u e step in
      rw h.1 (end-word starts)

  -- where what is left is canonical, its ids below b: what an item says, and what the end says
  module _ {b : ℕ} (pos : 0 < k) (at : Rest k (first k W) (length xs) b) where
    pub item-next : {w : ℕ} → r ≡ Some w → Next k (first k W) (length xs) b w
    item-next {w} e = go (word_at pos w at (item-read e).0)
      where
        go : Last k (first k W) b w ⊎ Next k (first k W) (length xs) b w → Next k (first k W) (length xs) b w
        go (inl z) = absurd ((item-read e).1 (omega (arith, z.upper)))
        go (inr z) = z

    pub rest-last : r ≡ None → (v : ℕ) → v < b → pow k (first k W) v ≡ bias k
    rest-last e = go (word_at pos _ at refl)
      where
        go : Last k (first k W) b (get_or (first k W) (length xs) 0) ⊎ Next k (first k W) (length xs) b (get_or (first k W) (length xs) 0) → (v : ℕ) → v < b → pow k (first k W) v ≡ bias k
        go (inl z) = z.none
        go (inr z) = absurd (omega (arith, rest-read e, z.var.kinded))

-- one item more
pub rest-more : {k b : ℕ} {A : List ℕ} (w : ℕ) (xs : List ℕ) → Rest k A (length xs + 1) b → Rest k A (length (xs ++ (w ∷ []))) b
rest-more w xs r = rw (length-append xs (w ∷ [])) r
