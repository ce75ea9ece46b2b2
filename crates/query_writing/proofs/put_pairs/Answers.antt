use mathlib.Core.Path.{◌≡◌, refl}
use native.Mathlib.Omega.{arith}
use Prim.Native.Nat.{◌+◌}
use Rattle.words.proofs.Laws.{six-written}
use Rattle.query_writing.proofs.put_pairs.Goals as goal

pub returns-clause-q_after : goal.returns-clause-q_after
returns-clause-q_after c =
    let at = c.args.at in
    let third : at + 2 + 1 ≡ at + 3 = omega arith in
    let fifth : at + 4 + 1 ≡ at + 5 = omega arith in
    six-written _ _ _ _ _ _ _ _ _ _ _ _ _ _ c.requires refl c.put.ensures refl (rw third at c.put-2.ensures) refl (rw fifth at c.put-3.ensures)
