use native.Mathlib.Omega.{arith}
use Rattle.index_sound.proofs.Steps.{rooted}
use Rattle.index_sound.proofs.walk_from_root.Goals as goal

pub returns-then-shape-eq1 : goal.returns-then-shape-eq1
returns-then-shape-eq1 c =
    rooted c.args.bytes.now c.args.shape (λ j. (c.type_inv.bytes j).fits) _
    (λ v h. c.unbounded.ensures.by_index v (omega (arith, c.requires.hi_len))) _ c.one_row.ensures

pub returns : goal.returns
returns c =
    rooted c.args.bytes.now c.args.shape (λ j. (c.type_inv.bytes j).fits) _
    (λ v h. c.unbounded.ensures.by_index v (omega (arith, c.requires.hi_len))) _ c.walk.ensures.walked
