use native.Mathlib.Omega.{arith}
use Rattle.index_replies.proofs.Calling.{refuses, refuses-parts, serves, of-ratioed, no-ratios, inserts-signed, asks-reducing, asks-high, asks-low, asks-singular}
use Rattle.ratio_monomial_index.proofs.call.Goals as goal

pub returns-in_err-index-in-2 : goal.returns-in_err-index-in-2
returns-in_err-index-in-2 c =
    refuses-parts _ _ _ _ c.from_residual.ensures.1 (of-ratioed _ _ _ c.requires.root _ c.requires.kind_value (inserts-signed _ _ _ _ c.in_err-index-in-2.ensures (omega (arith, c.in-2.is)))) (λ j. (c.type_inv.image j).fits)

pub returns-in_ok-index-in-2 : goal.returns-in_ok-index-in-2
returns-in_ok-index-in-2 c =
    serves _ _ _ _ _ (of-ratioed _ _ _ c.requires.root _ c.requires.kind_value (inserts-signed _ _ _ _ c.in_ok-index-in-2.ensures (omega (arith, c.in-2.is)))) c.insert.ensures

pub returns-in_err-index-in-3 : goal.returns-in_err-index-in-3
returns-in_err-index-in-3 c =
    refuses-parts _ _ _ _ c.from_residual-in_err-index-in-3.ensures.1 (of-ratioed _ _ _ c.requires.root _ c.requires.kind_value (asks-reducing _ _ _ _ c.in_err-index-in-3.ensures (omega (arith, c.in-3.is)))) (λ j. (c.type_inv.image j).fits)

pub returns-in_ok-index-in-3 : goal.returns-in_ok-index-in-3
returns-in_ok-index-in-3 c =
    serves _ _ _ _ _ (of-ratioed _ _ _ c.requires.root _ c.requires.kind_value (asks-reducing _ _ _ _ c.in_ok-index-in-3.ensures (omega (arith, c.in-3.is)))) c.find_a_reducer.ensures

pub returns-in_err-index-in-4 : goal.returns-in_err-index-in-4
returns-in_err-index-in-4 c =
    refuses-parts _ _ _ _ c.from_residual-in_err-index-in-4.ensures.1 (of-ratioed _ _ _ c.requires.root _ c.requires.kind_value (asks-high _ _ _ _ c.in_err-index-in-4.ensures (omega (arith, c.in-4.is)))) (λ j. (c.type_inv.image j).fits)

pub returns-in_ok-index-in-4 : goal.returns-in_ok-index-in-4
returns-in_ok-index-in-4 c =
    serves _ _ _ _ _ (of-ratioed _ _ _ c.requires.root _ c.requires.kind_value (asks-high _ _ _ _ c.in_ok-index-in-4.ensures (omega (arith, c.in-4.is)))) c.find_high_base_divisor.ensures

pub returns-in_err-index-in-5 : goal.returns-in_err-index-in-5
returns-in_err-index-in-5 c =
    refuses-parts _ _ _ _ c.from_residual-in_err-index-in-5.ensures.1 (of-ratioed _ _ _ c.requires.root _ c.requires.kind_value (asks-low _ _ _ _ c.in_err-index-in-5.ensures (omega (arith, c.in-5.is)))) (λ j. (c.type_inv.image j).fits)

pub returns-in_ok-index-in-5 : goal.returns-in_ok-index-in-5
returns-in_ok-index-in-5 c =
    serves _ _ _ _ _ (of-ratioed _ _ _ c.requires.root _ c.requires.kind_value (asks-low _ _ _ _ c.in_ok-index-in-5.ensures (omega (arith, c.in-5.is)))) c.find_low_base_divisor.ensures

pub returns-in_err-index-in-6 : goal.returns-in_err-index-in-6
returns-in_err-index-in-6 c =
    refuses-parts _ _ _ _ c.from_residual-in_err-index-in-6.ensures.1 (of-ratioed _ _ _ c.requires.root _ c.requires.kind_value (asks-singular _ _ _ _ c.in_err-index-in-6.ensures (omega (arith, c.in-6.is)))) (λ j. (c.type_inv.image j).fits)

pub returns-in_ok-index-in-6 : goal.returns-in_ok-index-in-6
returns-in_ok-index-in-6 c =
    serves _ _ _ _ _ (of-ratioed _ _ _ c.requires.root _ c.requires.kind_value (asks-singular _ _ _ _ c.in_ok-index-in-6.ensures (omega (arith, c.in-6.is)))) c.test_singular_criterion.ensures

pub returns-in_default : goal.returns-in_default
returns-in_default c =
    refuses _ _ _ (of-ratioed _ _ _ c.requires.root _ c.requires.kind_value (no-ratios _ _ _ (λ z. omega (arith, z)) (λ z. omega (arith, z)) (λ z. omega (arith, z)) (λ z. omega (arith, z)) (λ z. omega (arith, z)))) (λ j. (c.type_inv.image j).fits)
