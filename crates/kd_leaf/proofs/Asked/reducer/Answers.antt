use native.Mathlib.Omega.{arith}
use Rattle.kd_leaf.proofs.Counting.{facts}
use Rattle.kd_leaf.proofs.Scanning.{scan-none, scan-more, scan-stop, scan-end, reducer-miss, regular-made, singular-made}
use Rattle.kd_leaf.proofs.Asked.reducer.Goals.{else-counts, then-counts+else-label-pair}
use Rattle.kd_leaf.proofs.Asked.reducer.Goals as goal

pub loop-i-init : goal.loop-i-init
loop-i-init c = (rw c.best-found.ensures c.requires.acc_value.0, rw c.best-found.ensures (scan-none _ _ _ _ _ _ _ c.args.self.now.inside))

pub counts-requires : goal.counts-requires
counts-requires c = record { inside = c.entry-e.ensures.1.0; labelled = (facts _ _ _ c.args.self.now.known).labelled (λ z. omega (arith, c.requires.searched)) }

pub label-requires : goal.label-requires
label-requires c = record {
  ready = (facts _ _ _ c.args.self.now.known).ready;
  labelled = ((facts _ _ _ c.args.self.now.known).labelled (λ z. omega (arith, c.requires.searched)), c.entry-e.ensures.1.0);
}

pub returns-then-label-pair : goal.returns-then-label-pair
returns-then-label-pair c =
    let e = c.entry-e in (
      scan-stop _ _ _ _ _ _ _ c.args.self.now.inside _ _ _ c.loop-i.invariant.1 c.loop-i-test.true e.ensures.0 _ _ _ c.stopped.ensures.1.0
          c.stopped.ensures.1.1 (omega (arith, e.ensures.1.0))
          (regular-made _ _ _ _ _ _ e.ensures.1.0 _ c.requires.searched (rw c.pair-from.ensures at c.counts.ensures) _ c.if-counts.true c.label.ensures.0
          (omega (arith, c.if-label-pair.true, c.pair.ensures))),
      c.stopped.ensures.0,
    )

pub loop-i-preserved : goal.loop-i-preserved
loop-i-preserved c =
    let e = c.entry-e in
    let p = rw c.pair-from.ensures at c.counts.ensures in
    elim c.if-counts.branch [
      | then-counts+else-label-pair w ↦ (
        rw w.found-is (omega (arith, e.ensures.1.0)),
        rw w.found-is (scan-more _ _ _ _ _ _ _ c.args.self.now.inside _ _ _ c.loop-i.invariant.1 c.loop-i-test.true e.ensures.0 _
            (singular-made _ _ _ _ _ _ e.ensures.1.0 _ c.requires.searched p _ w.if-counts.true w.label.ensures.0 (omega (arith, w.if-label-pair.false, w.pair.ensures)))),
      )
      | else-counts w ↦ (
        rw w.found-is c.loop-i.invariant.0,
        rw w.found-is (scan-more _ _ _ _ _ _ _ c.args.self.now.inside _ _ _ c.loop-i.invariant.1 c.loop-i-test.true e.ensures.0 _
            (reducer-miss _ _ _ _ _ _ e.ensures.1.0 _ c.requires.searched p w.if-counts.false)),
      )
    ]

pub returns : goal.returns
returns c =
    let loop = c.loop-i in (
      scan-end _ _ _ _ _ _ _ c.args.self.now.inside _ _ _ _ loop.invariant.1 (omega arith) c.going.ensures.1.0
          c.going.ensures.1.1 loop.invariant.0,
      c.going.ensures.0,
    )
