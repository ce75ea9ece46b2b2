-- What the steps of a door give, for the contracts of its own functions. Assumes nothing.
use Rattle.std.specs.Prelude.{◌≡◌, Bool, false, cond, not, ◌&&◌, List, ℕ, leb, length, Result, Ok, Err}
use Rattle.words.specs.Words.{paste_w}
use Rattle.monomial.specs.Monomial.{lent}
use Rattle.monomial.specs.Sizes.{variables_fit}
use Rattle.monomial.specs.declared.ordered_ops.Op.{Op}
use Rattle.monomial.specs.declared.ordered_ops.Op.TheVariants as op
use Rattle.refusals.specs.declared.Refusal.{Refusal}
use Rattle.refusals.specs.declared.Refusal.TheVariants.{Sizes, BadWords, ShortBuffer}
use Rattle.monomial_work.specs.Served.{one_answer}
use Rattle.monomial_work.specs.declared.Work.{Work}
use Rattle.monomial_work.specs.declared.Work.TheVariants.{Gcd, Mul, WholeDivision, FractionDivision}

-- questions 1 and 7 of two lists of kind k
unfoldable pub refusal : ℕ → ℕ → List ℕ → List ℕ → Result Unit Refusal
refusal k m a b = cond (variables_fit m) (cond (lent k m a && lent k m b) (Ok tt) (Err BadWords)) (Err Sizes)

-- the work of a door that makes a monomial or ratio
abbrev pub work_of : Op → Work
work_of op.Gcd = Gcd
work_of op.Product = Mul
work_of op.Quotient = WholeDivision
work_of op.Ratio = FractionDivision

-- question 9 as it is asked of the words made: those of a product with a power too large are not canonical
abbrev pub too_large : Op → ℕ → List ℕ → Bool
too_large op.Gcd m s = false
too_large op.Product m s = not (lent 1 m s)
too_large op.Quotient m s = false
too_large op.Ratio m s = false

-- one answer word, by question 5 alone
pub record Told (p : ℕ) (out : List ℕ) (r : Result Unit Refusal) (after : List ℕ) : Type 0 where
  pub number_is : r ≡ cond (leb 4 (length out)) (Ok tt) (Err ShortBuffer)
  pub bytes-are : after ≡ cond (leb 4 (length out)) (paste_w out 0 (one_answer p)) out
