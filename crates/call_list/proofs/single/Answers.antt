use native.Mathlib.Omega.{arith}
use Rattle.call_list.proofs.Parting.{single-more, single-all}
use Rattle.call_list.proofs.single.Goals as goal

pub returns-then-rest-ge4 : goal.returns-then-rest-ge4
returns-then-rest-ge4 c = single-more _ _ _ _ c.in_ok-m.ensures (omega (arith, c.if-rest-ge4.true))

pub returns : goal.returns
returns c = single-all _ _ _ _ c.in_ok-m.ensures (omega (arith, c.if-rest-ge4.false))
