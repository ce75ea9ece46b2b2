use Rattle.call_list.proofs.Parting.{paired_bad, paired}
use Rattle.call_list.proofs.pair.Goals as goal

pub returns : goal.returns
returns c = paired _ _ _ _ c.in_ok-index.ensures _ c.in_ok-monomial.ensures

pub returns-in_err-monomial : goal.returns-in_err-monomial
returns-in_err-monomial c = paired_bad _ _ _ _ c.in_ok-index.ensures _ _ c.from_residual-in_err-monomial.ensures.1 c.in_err-monomial.ensures
