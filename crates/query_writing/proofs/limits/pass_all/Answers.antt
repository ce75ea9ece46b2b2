use native.Mathlib.Omega.{arith}
use Rattle.query_writing.proofs.Limiting.{pass-more}
use Rattle.query_writing.proofs.limits.pass_all.Goals as goal

pub loop-v-preserved : goal.loop-v-preserved
loop-v-preserved c = (
  (omega (arith, c.loop-v-test.true), omega (arith, c.put.auto.s, c.loop-v.invariant.0.1)),
  pass-more c.loop-v.q _ c.args.s c.loop-v.v
      c.loop-v.invariant.1 (omega (arith, c.requires.in_range.kind-to, c.loop-v-test.true, c.requires.in_range.vars-to, c.requires.in_bounds, c.loop-v.invariant.0.1)) c.put.ensures,
)
