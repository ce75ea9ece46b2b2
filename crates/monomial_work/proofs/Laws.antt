-- What the doors cite: room for every answer in at most 64 variables, and the questions one by one. Assumes nothing.
use mathlib.Core.Path.{◌≡◌, refl}
use mathlib.Core.Bool.{Bool, true, false, cond}
use mathlib.Core.List.{List}
use Prim.Native.Nat.{ℕ, ◌*◌, ◌≤◌, ◌<◌}
use native.Mathlib.Omega.{arith}
use lib.ListN.{length}
use lib.Seq.{take_all}
use Rattle.monomial.specs.Monomial.{Canonical, Starts, first}
use Rattle.monomial.specs.Operations.{result_words, divides, divided}
use Rattle.std.specs.Prelude.{Some, None}
use Rattle.std.specs.declared.cmp.Ordering.{Ordering}
use Rattle.std.specs.declared.cmp.Ordering.TheVariants.{Less, Equal, Greater}
use Rattle.monomial.specs.declared.ordered_ops.Op.{Op}
use Rattle.monomial.proofs.Laws.{length-result}
use Rattle.monomial.proofs.Firsts.{starts-wide, starts-whole, first-whole}
use Rattle.std.specs.Int.{from_bool}
use Rattle.monomial_work.specs.Served.{yes, number, one_answer, division, answer}
use Rattle.monomial_work.specs.Steps.{work_of}

pub starts : {k : ℕ} {a : List ℕ} → Canonical k 64 a → Starts k 4096 a
starts c = starts-wide (starts-whole c)

-- what each operation asks, for two monomials in at most 64 variables and room for 65 words
pub ready : (o : Op) (a b out : List ℕ) → Canonical 1 64 a → Canonical 1 64 b → 260 ≤ length out
    → Starts 1 4096 a × (Starts 1 4096 b × (4 * length (result_words o (first 1 a) (first 1 b)) ≤ length out))
ready o a b out ca cb h =
    (starts ca, (starts cb, rw (first-whole ca, first-whole cb) (omega (arith, length-result 64 a b ca cb o (omega arith)))))

-- a division's words, by the test that it makes
pub division-words : (a b : List ℕ) → division (divided a b) (result_words Op.Quotient a b) ≡ cond (divides b a) (result_words Op.Quotient a b) (one_answer 0)
unfolding divided division
division-words a b = go (divides b a)
  where
    go : (t : Bool) → division (cond t (Some (length (result_words Op.Quotient a b))) None) (result_words Op.Quotient a b) ≡ cond t (result_words Op.Quotient a b) (one_answer 0)
    go true = take_all (length (result_words Op.Quotient a b)) (result_words Op.Quotient a b) (omega arith)
    go false = refl

pub answer-length : (o : Op) (a b : List ℕ) → Canonical 1 64 a → Canonical 1 64 b → length (answer (work_of o) a b) ≤ 65
unfolding answer
answer-length Op.Gcd a b ca cb = length-result 64 a b ca cb Op.Gcd (omega arith)
answer-length Op.Product a b ca cb = length-result 64 a b ca cb Op.Product (omega arith)
answer-length Op.Quotient a b ca cb = rw (division-words a b) (go (divides b a))
  where
    go : (t : Bool) → length (cond t (result_words Op.Quotient a b) (one_answer 0)) ≤ 65
    go true = length-result 64 a b ca cb Op.Quotient (omega arith)
    go false = omega arith
answer-length Op.Ratio a b ca cb = length-result 64 a b ca cb Op.Ratio (omega arith)

-- what whole division answered
pub not-whole : (a b : List ℕ) → divided a b ≡ None → divides b a ≡ false
unfolding divided
not-whole a b e = go (divides b a) refl e
  where
    go : (t : Bool) → divides b a ≡ t → cond t (Some (length (result_words Op.Quotient a b))) None ≡ None → divides b a ≡ false
    go true q r = absurd (let z : ◌≡◌ {A = ℕ} 0 1 = cc in omega arith)
    go false q r = q

pub whole : (a b : List ℕ) (n : ℕ) → divided a b ≡ Some n → (divides b a ≡ true) × (n ≡ length (result_words Op.Quotient a b))
unfolding divided
whole a b n e = go (divides b a) refl e
  where
    go : (t : Bool) → divides b a ≡ t → cond t (Some (length (result_words Op.Quotient a b))) None ≡ Some n → (divides b a ≡ true) × (n ≡ length (result_words Op.Quotient a b))
    go true q r = (q, cc)
    go false q r = absurd (let z : ◌≡◌ {A = ℕ} 0 1 = cc in omega arith)

pub number_small : (c : Ordering) → number c < 268435456
number_small Less = omega arith
number_small Equal = omega arith
number_small Greater = omega arith

pub yes-byte : (t : Bool) → from_bool t ≡ yes t
yes-byte true = refl
yes-byte false = refl
