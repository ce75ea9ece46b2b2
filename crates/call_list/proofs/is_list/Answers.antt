use native.Mathlib.Omega.{arith}
use borrow.Author.Tests.{eq-eqb}
use lib.ListN.{length}
use Rattle.call_list.proofs.Parting.{list-empty, list-starts}
use Rattle.call_list.proofs.is_list.Goals as goal

pub returns-then-list-eq0-2 : goal.returns-then-list-eq0-2
returns-then-list-eq0-2 c = (λ t. list-empty c.args.list.now c.if-list-eq0-2.true, λ l. eq-eqb (length c.args.list.now) 0 c.if-list-eq0-2.true)

pub returns-else-list-eq0-2 : goal.returns-else-list-eq0-2
returns-else-list-eq0-2 c =
    rw c.is_call.ensures (list-starts c.args.list.now _ (omega (arith, c.if-list-eq0.true)) (λ z. omega (arith, c.if-list-eq0-2.false, z)) (omega (arith, c.get.ensures)))
