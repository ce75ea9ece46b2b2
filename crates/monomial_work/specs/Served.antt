-- The monomial work of document 01: what each door answers, which number it returns, and every byte after. Assumes nothing.
use Rattle.std.specs.Prelude.{◌≡◌, Bool, true, false, cond, ◌&&◌, List, [], ◌∷◌, ℕ, ◌+◌, ◌*◌, eqb, leb, length, take, Option, Some, None}
use Rattle.words.specs.Kinds.{answer_word}
use Rattle.words.specs.Words.{words, paste_w}
use Rattle.monomial.specs.Monomial.{pow, lent}
use Rattle.monomial.specs.Operations.{result_words, all_below, divides, divided, equal}
use Rattle.monomial_ordering.specs.Order.{order}
use Rattle.monomial.specs.Sizes.{variables_fit}
use Rattle.std.specs.declared.cmp.Ordering.{Ordering}
use Rattle.std.specs.declared.cmp.Ordering.TheVariants.{Less, Equal, Greater}
use Rattle.monomial.specs.declared.ordered_ops.Op.{Op}
use Rattle.monomial_work.specs.declared.Work.{Work}
use Rattle.monomial_work.specs.declared.Work.TheVariants.{Gcd, Mul, WholeDivision, FractionDivision, Divides, Eq, Cmp, RatioEq, RatioCmp}

-- the kind of the two lists lent: monomials, or ratios
abbrev pub lent_kind : Work → ℕ
lent_kind Gcd = 1
lent_kind Mul = 1
lent_kind WholeDivision = 1
lent_kind FractionDivision = 1
lent_kind Divides = 1
lent_kind Eq = 1
lent_kind Cmp = 1
lent_kind RatioEq = 2
lent_kind RatioCmp = 2

-- yes 1, no 0
abbrev pub yes : Bool → ℕ
yes true = 1
yes false = 0

-- less 0, equal 1, greater 2
abbrev pub number : Ordering → ℕ
number Less = 0
number Equal = 1
number Greater = 2

abbrev pub one_answer : ℕ → List ℕ
one_answer p = answer_word p ∷ []

-- a division's words: the n of its quotient q; no quotient is a kind 4 word, payload 0
unfoldable pub division : Option ℕ → List ℕ → List ℕ
division (Some n) q = take n q
division None q = one_answer 0

-- the words answered
unfoldable pub answer : Work → List ℕ → List ℕ → List ℕ
answer Gcd a b = result_words Op.Gcd a b
answer Mul a b = result_words Op.Product a b
answer WholeDivision a b = division (divided a b) (result_words Op.Quotient a b)
answer FractionDivision a b = result_words Op.Ratio a b
answer Divides a b = one_answer (yes (divides a b))
answer Eq a b = one_answer (yes (equal a b))
answer Cmp a b = one_answer (number (order 1 a b))
answer RatioEq a b = one_answer (yes (equal a b))
answer RatioCmp a b = one_answer (number (order 2 a b))

-- question 9: no power of a product is above 32,767
unfoldable pub powers_fit : List ℕ → List ℕ → Bool
powers_fit a b = all_below 4096 (λ v. leb (pow 1 a v + pow 1 b v) 32767)

unfoldable pub small : Work → List ℕ → List ℕ → Bool
small Gcd a b = true
small Mul a b = powers_fit a b
small WholeDivision a b = true
small FractionDivision a b = true
small Divides a b = true
small Eq a b = true
small Cmp a b = true
small RatioEq a b = true
small RatioCmp a b = true

-- the questions in order: 1, 7, 9, 5; 0 is served
unfoldable pub verdict : Work → ℕ → List ℕ → List ℕ → List ℕ → ℕ
verdict w m a b out =
    cond (variables_fit m)
    (cond (lent (lent_kind w) m a && lent (lent_kind w) m b)
    (cond (small w (words a) (words b))
    (cond (leb (4 * length (answer w (words a) (words b))) (length out)) 0 5)
    9)
    7)
    1

-- the answer stands at the front of the buffer, and the rest is as it was; a refusal changes no byte
pub record Served (w : Work) (m : ℕ) (a b out : List ℕ) (r : ℕ) (after : List ℕ) : Type 0 where
  pub number_is : r ≡ verdict w m a b out
  pub bytes-are : after ≡ cond (eqb (verdict w m a b out) 0) (paste_w out 0 (answer w (words a) (words b))) out
