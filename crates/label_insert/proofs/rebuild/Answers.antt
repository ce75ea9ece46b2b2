use Rattle.std.proofs.Common.{rules}
use native.Mathlib.Omega.{arith}
use Prim.Native.Nat.{◌+◌}
use Rattle.fast_compare.proofs.Rising.{spaced-top}
use Rattle.label_insert.proofs.Respacing.{respace-start, respace-end, spot, respace-more, Spot}
use Rattle.label_insert.proofs.rebuild.Goals.{After-get-row}
use Rattle.label_insert.proofs.rebuild.Goals as goal

-- the row at place k
spot-at : (c : After-get-row) → Spot c.args.map.now c.get-variables.result c.get-capacity.result c.get-row.result
spot-at c =
    let l = c.loop-k in
    spot c.args.map.now l.map l.k l.invariant c.requires (omega (arith, c.get-n.ensures)) _ _ c.get-n.result _
    c.get-variables.ensures c.get-capacity.ensures c.get-n.ensures c.get-row.ensures

pub loop-k-init : goal.loop-k-init
loop-k-init c = respace-start c.args.map.now (search rules)

pub put-requires : goal.put-requires
put-requires c = let s = spot-at (goal.at.put-requires c).After-get-row in omega (arith, s.below-c, s.room, c.loop-k.invariant.long)

pub loop-k-preserved : goal.loop-k-preserved
loop-k-preserved c =
    let l = c.loop-k in
    respace-more c.args.map.now l.map l.k l.invariant c.requires (omega (arith, c.get-n.ensures)) c.get-variables.result c.get-capacity.result
    c.get-n.result c.get-row.result c.get-variables.ensures c.get-capacity.ensures c.get-n.ensures c.get-row.ensures c.put.new.s c.spaced-label.result c.spaced-label.ensures
    (omega (arith, c.spaced-label.ensures, spaced-top c.get-n.result (l.k + 1) (omega arith))) c.put.ensures

pub returns : goal.returns
returns c = λ st i. respace-end c.args.map.now c.loop-k.map c.loop-k.k c.loop-k.invariant (omega (arith, c.get-n.ensures)) st i
