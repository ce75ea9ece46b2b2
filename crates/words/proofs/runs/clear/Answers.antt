use mathlib.Core.Path.{ap, ◌∙◌}
use native.Mathlib.Omega.{arith}
use Prim.Native.Nat.{ℕ}
use lib.ListN.{replicate, length-take, length-drop}
use Rattle.words.specs.Tables.{zeros}
use Rattle.words.proofs.Tables.{length-zeros}
use Rattle.words.proofs.Copies.{copied, bytes-zeros}
use Rattle.words.proofs.runs.clear.Goals as goal

pub returns : goal.returns
returns c =
    copied c.args.s.now c.args.at _ c.fill.new.self (zeros c.args.n) (omega (arith, length-zeros c.args.n))
    (c.fill.ensures.after (λ y h. h) ∙ ap (λ (n : ℕ). replicate n 0) (simp (length-take, length-drop) (omega arith)) ∙ bytes-zeros c.args.n)
