use mathlib.Core.Path.{refl, sym, ◌∙◌}
use Prim.Native.Nat.{◌+◌}
use native.Mathlib.Omega.{arith}
use lib.ListN.{take}
use Rattle.std.proofs.Common.{length-take}
use Rattle.std.proofs.lemmas.List.{take_more}
use Rattle.words.proofs.Laws.{paste_w-nil, paste_w-snoc}
use Rattle.query_writing.proofs.put_all.Goals as goal

pub loop-i-init : goal.loop-i-init
loop-i-init c = (refl, sym (paste_w-nil c.args.q.now c.args.at))

pub loop-i-preserved : goal.loop-i-preserved
loop-i-preserved c =
    let i = c.loop-i.i in
    let xs = c.args.xs.now in (
      omega (arith, c.put.auto.s, c.loop-i.invariant.0),
      c.put.ensures ∙ rw (c.loop-i.invariant.1, take_more xs i 0 c.loop-i-test.true)
          (paste_w-snoc c.args.q.now c.args.at (take i xs) (c.args.at + i) _ (omega (arith, length-take i xs, c.loop-i-test.true))
          (omega (arith, c.requires.in_bounds, c.loop-i-test.true))),
    )
