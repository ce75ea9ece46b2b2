-- Question 4 of a list, and which bodies the parts of a call make up. Assumes nothing.
use Rattle.std.specs.Prelude.{◌≡◌, List, ℕ, ◌*◌, ◌%◌, ◌<◌, length, take, Result, Ok, Err, IfOk}
use Rattle.std.specs.Borrow.{Bor}
use Rattle.std.proofs.Math.Option.{some}
use Rattle.words.specs.Words.{words}
use Rattle.refusals.specs.declared.Refusal.{Refusal}
use Rattle.refusals.specs.Numbers.{number}
use Rattle.monomial.specs.Monomial.{Canonical}
use Rattle.call_list.specs.declared.Call.{Call}
use Rattle.index_theory.specs.Calls as theory
use Rattle.index_theory.specs.Calls.{listed, body_of, Request, Asked, refused, asks, with_index, with_part, at_end}

-- a whole number of words that are calls
pub record IsList (bs : List ℕ) : Type 0 where
  pub whole : length bs % 4 ≡ 0
  pub calls : List theory.Call
  pub are : listed (words bs) ≡ some calls

-- the bytes b are the front of the list bs that has the words before its next call
pub record Body (bs b : List ℕ) : Type 0 where
  pub front : b ≡ take (4 * length (body_of (words bs))) bs
  pub words-are : words b ≡ body_of (words bs)

-- a call as it is read, and as the theory has it
abbrev pub call_of : Call → theory.Call
call_of c = record { number = c.number; body = words c.body.now }

-- ---- the parts that are read of a body b
-- what is asked by what a reader gave: whatever f makes of the parts, or its refusal
abbrev pub asked_by : {A : Type 0} → Result A Refusal → (A → Asked) → Asked
asked_by (Ok p) f = f p
asked_by (Err e) f = refused (number e)

-- the bytes of a monomial (kind 1) or ratio (kind 2)
pub record Part (k m : ℕ) (x : List ℕ) : Type 0 where
  pub canonical : Canonical k m (words x)
  pub whole : length x % 4 ≡ 0

-- an index word, and the rest of the body behind it
pub record Leads (b : List ℕ) (r : Result (ℕ × Bor (List ℕ)) Refusal) : Type 0 where
  pub asked : (f : ℕ → List ℕ → Asked) → with_index b f ≡ asked_by r (λ p. f p.0 (words p.1.now))
  pub good : IfOk r (λ p. p.0 < 268435456)

-- a monomial or ratio, and the rest of the body behind it
pub record Begins (k m : ℕ) (b : List ℕ) (r : Result (Bor (List ℕ) × Bor (List ℕ)) Refusal) : Type 0 where
  pub asked : (f : List ℕ → List ℕ → Asked) → with_part k m b f ≡ asked_by r (λ p. f (words p.0.now) (words p.1.now))
  pub good : IfOk r (λ p. Part k m p.0.now)

-- ---- what the body b asks, whatever request f is made of its parts; 7 where it has other words
-- a monomial
pub record Single (m : ℕ) (b : List ℕ) (r : Result (Bor (List ℕ)) Refusal) : Type 0 where
  pub asked : (f : List ℕ → Request) → with_part 1 m b (λ x ws. at_end ws (f x)) ≡ asked_by r (λ p. asks (f (words p.now)))
  pub good : IfOk r (λ p. Part 1 m p.now)

-- an index word and a monomial
pub record Paired (m : ℕ) (b : List ℕ) (r : Result (ℕ × Bor (List ℕ)) Refusal) : Type 0 where
  pub asked : (f : ℕ → List ℕ → Request) → with_index b (λ i ws. with_part 1 m ws (λ x ws. at_end ws (f i x))) ≡ asked_by r (λ p. asks (f p.0 (words p.1.now)))
  pub good : IfOk r (λ p. (p.0 < 268435456) × Part 1 m p.1.now)

-- an index word, a monomial (kind 1) or ratio (kind 2), and a monomial
pub record Tripled (k m : ℕ) (b : List ℕ) (r : Result (ℕ × Bor (List ℕ) × Bor (List ℕ)) Refusal) : Type 0 where
  pub asked : (f : ℕ → List ℕ → List ℕ → Request)
      → with_index b (λ i ws. with_part k m ws (λ x ws. with_part 1 m ws (λ y ws. at_end ws (f i x y)))) ≡ asked_by r (λ p. asks (f p.0 (words p.1.now) (words p.2.now)))
  pub good : IfOk r (λ p. (p.0 < 268435456) × Part k m p.1.now × Part 1 m p.2.now)
