use native.Mathlib.Omega.{arith}
use Rattle.kd_leaf.proofs.Counting.{facts}
use Rattle.kd_leaf.proofs.Scanning.{scan-none, scan-more, scan-end, largest-miss, largest-hit}
use Rattle.kd_leaf.proofs.Asked.largest.Goals.{else-counts, then-counts}
use Rattle.kd_leaf.proofs.Asked.largest.Goals as goal

pub least_above-least-requires : goal.least_above-least-requires
least_above-least-requires c = record {
  labelled = (facts _ _ _ c.args.self.now.known).labelled (λ z. omega (arith, c.requires.searched));
  found_bound = rw c.best-found.ensures c.requires.acc_value.0;
}

pub loop-i-init : goal.loop-i-init
loop-i-init c = (rw c.best-found.ensures c.requires.acc_value.0, (c.least_above-least.ensures, rw c.best-found.ensures (scan-none _ _ _ _ _ _ _ c.args.self.now.inside)))

pub counts-requires : goal.counts-requires
counts-requires c = record { inside = c.entry-e.ensures.1.0; labelled = (facts _ _ _ c.args.self.now.known).labelled (λ z. omega (arith, c.requires.searched)) }

pub least_above-least-requires-then-counts : goal.least_above-least-requires-then-counts
least_above-least-requires-then-counts c = record {
  labelled = (facts _ _ _ c.args.self.now.known).labelled (λ z. omega (arith, c.requires.searched));
  found_bound = omega (arith, c.entry-e.ensures.1.0);
}

pub loop-i-preserved : goal.loop-i-preserved
loop-i-preserved c =
    let loop = c.loop-i in
    let e = c.entry-e in
    let p = rw loop.invariant.1.0 at c.counts.ensures in
    elim c.if-counts.branch [
      | then-counts w ↦ (
        rw w.found-is (omega (arith, e.ensures.1.0)),
        (
          rw (w.found-is, w.least-is) w.least_above-least-then-counts.ensures,
          rw w.found-is (scan-more _ _ _ _ _ _ _ c.args.self.now.inside _ _ _ loop.invariant.1.1 c.loop-i-test.true e.ensures.0
              _ (largest-hit _ _ _ _ _ _ e.ensures.1.0 _ c.requires.searched.0 c.requires.searched.1 loop.invariant.0 p w.if-counts.true)),
        ),
      )
      | else-counts w ↦ (
        rw w.found-is loop.invariant.0,
        (
          rw (w.found-is, w.least-is) loop.invariant.1.0,
          rw w.found-is (scan-more _ _ _ _ _ _ _ c.args.self.now.inside _ _ _ loop.invariant.1.1 c.loop-i-test.true e.ensures.0 _
              (largest-miss _ _ _ _ _ _ e.ensures.1.0 _ c.requires.searched.0 c.requires.searched.1 loop.invariant.0 p w.if-counts.false)),
        ),
      )
    ]

pub returns : goal.returns
returns c =
    let loop = c.loop-i in (
      scan-end _ _ _ _ _ _ _ c.args.self.now.inside _ _ _ _ loop.invariant.1.1 (omega arith) c.going.ensures.1.0
          c.going.ensures.1.1 loop.invariant.0,
      c.going.ensures.0,
    )
