use native.Mathlib.Omega.{arith}
use Rattle.std.proofs.Common.{◌≡◌}
use Rattle.fast_compare.specs.Halving.{found, between}
use Rattle.fast_compare.proofs.halve.Goals as goal

pub returns-in-Equal : goal.returns-in-Equal
returns-in-Equal g c = found _ (omega arith) c.in-Equal.ensures

pub returns : goal.returns
returns g c =
    let e : c.loop-lo.hi ≡ c.loop-lo.lo = omega arith in
    let i = c.loop-lo.invariant in
    between c.loop-lo.lo (omega arith) i.1.1.0 (rw e at i.1.1.1)
