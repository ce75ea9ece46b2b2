use native.Mathlib.Omega.{arith}
use Rattle.index_replies.proofs.Calling.{refuses, refuses-parts, serves, of-monomials, no-monomials, inserts-monomial, asks-contained}
use Rattle.monomial_index.proofs.call.Goals as goal

pub returns-in_err-lm-in-0 : goal.returns-in_err-lm-in-0
returns-in_err-lm-in-0 c =
    refuses-parts _ _ _ _ c.from_residual.ensures.1 (of-monomials _ _ _ c.requires.root _ c.requires.kind_value (inserts-monomial _ _ _ _ c.in_err-lm-in-0.ensures (omega (arith, c.in-0.is)))) (λ j. (c.type_inv.image j).fits)

pub returns-in_ok-lm-in-0 : goal.returns-in_ok-lm-in-0
returns-in_ok-lm-in-0 c =
    serves _ _ _ _ _ (of-monomials _ _ _ c.requires.root _ c.requires.kind_value (inserts-monomial _ _ _ _ c.in_ok-lm-in-0.ensures (omega (arith, c.in-0.is)))) c.insert.ensures

pub returns-in_err-m-in-1 : goal.returns-in_err-m-in-1
returns-in_err-m-in-1 c =
    refuses-parts _ _ _ _ c.from_residual-in_err-m-in-1.ensures.1 (of-monomials _ _ _ c.requires.root _ c.requires.kind_value (asks-contained _ _ _ _ c.in_err-m-in-1.ensures (omega (arith, c.in-1.is)))) (λ j. (c.type_inv.image j).fits)

pub returns-in_ok-m-in-1 : goal.returns-in_ok-m-in-1
returns-in_ok-m-in-1 c =
    serves _ _ _ _ _ (of-monomials _ _ _ c.requires.root _ c.requires.kind_value (asks-contained _ _ _ _ c.in_ok-m-in-1.ensures (omega (arith, c.in-1.is)))) c.contains_divisor.ensures

pub returns-in_default : goal.returns-in_default
returns-in_default c =
    refuses _ _ _ (of-monomials _ _ _ c.requires.root _ c.requires.kind_value (no-monomials _ _ _ (λ z. omega (arith, z)) (λ z. omega (arith, z)))) (λ j. (c.type_inv.image j).fits)
