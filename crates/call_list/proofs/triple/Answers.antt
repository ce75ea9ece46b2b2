use mathlib.Core.Path.{◌≡◌, ◌∙◌}
use mathlib.Core.List.{List}
use Prim.Native.Nat.{ℕ}
use native.Mathlib.Omega.{arith}
use lib.ListN.{length, take}
use lib.Seq.{take_all}
use Rattle.std.specs.Borrow.{Bor}
use Rattle.std.specs.Prelude.{Result}
use Rattle.std.proofs.Common.{rules}
use Rattle.refusals.specs.declared.Refusal.{Refusal}
use Rattle.words.specs.Words.{words}
use Rattle.call_list.specs.Bodies.{Single}
use Rattle.call_list.proofs.Parting.{tripled_bad, tripled}
use Rattle.call_list.proofs.triple.Goals as goal

-- what is read of b is read of all that stands behind the first part
of-all : (m : ℕ) (b rest : List ℕ) (r : Result (Bor (List ℕ)) Refusal) → Single m (words b) r → b ≡ take (length rest) rest → Single m (words rest) r
of-all m b rest r s e = rw (e ∙ take_all _ _ (omega arith)) at s

pub returns : goal.returns
returns c = tripled _ _ _ _ c.in_ok-index.ensures _ _ _ _ c.in_ok-x.ensures (of-all _ _ _ _ c.in_ok-m.ensures (search (rules, take_all)))

pub returns-in_err-m : goal.returns-in_err-m
returns-in_err-m c =
    tripled_bad _ _ _ _ c.in_ok-index.ensures _ _ _ c.in_ok-x.ensures _ _ c.from_residual-in_err-m.ensures.1 (of-all _ _ _ _ c.in_err-m.ensures (search (rules, take_all)))
