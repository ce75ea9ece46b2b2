use native.Mathlib.Omega.{arith}
use mathlib.Core.Path.{◌≡◌, ap, ◌∙◌}
use Prim.Native.Nat.{suc, ◌+◌, ◌-◌, ◌<◌}
use lib.ListN.{get_or}
use Rattle.words.proofs.Answers.{passed}
use Rattle.words.specs.Words.{words}
use Rattle.fast_compare.specs.Layout.{row_at, order_at}
use Rattle.label_sound.proofs.Checks.{row_inside, pairs-more, Up}
use Rattle.label_sound.proofs.Tables.rising_ok.Goals as goal

pub rises-requires-clause-variables_in_bounds : goal.rises-requires-clause-variables_in_bounds
rises-requires-clause-variables_in_bounds c =
    let t = c.args.self.now in
    let here = get_or (words t.map.now) (order_at t.variables t.capacity + (c.loop-i.i - 1)) 0 in
    let a : here < t.capacity = omega (arith, c.requires.numbers (c.loop-i.i - 1) (omega arith)) in
    let b : c.get-in-loop-i.result < t.capacity = omega (arith, rw c.row_at-at.ensures at c.get-in-loop-i.ensures, c.requires.numbers c.loop-i.i (omega arith)) in (
      omega (arith, c.loop-i.invariant.1.0, row_inside t.variables t.capacity here a),
      omega (arith, c.row_at-b.ensures, row_inside t.variables t.capacity c.get-in-loop-i.result b),
    )

pub loop-i-preserved : goal.loop-i-preserved
loop-i-preserved c =
    let loop = c.loop-i in
    let t = c.args.self.now in
    let order = order_at t.variables t.capacity in
    let e : suc (loop.i - 1) ≡ loop.i = omega arith in
    let d : loop.i + 1 - 1 ≡ loop.i = omega arith in
    let b : c.row_at-b.result ≡ row_at t.variables (get_or (words t.map.now) (order + loop.i) 0) = c.row_at-b.ensures ∙ ap (row_at t.variables) (rw c.row_at-at.ensures at c.get-in-loop-i.ensures) in
    let z : Up (words t.map.now) t.variables order (loop.i - 1) = rw (e, ← loop.invariant.1.0, ← b) (passed _ c.rises.ensures c.if-not-rises.false) in (
      (omega arith, omega arith),
      (rw d b, (c.total_at-t.ensures, pairs-more (Up (words t.map.now) t.variables order) loop.i loop.invariant.0.0 loop.invariant.1.1.1 z)),
    )
