use Rattle.std.proofs.Common.{◌-◌, ◌≤◌, ◌<◌}
use Rattle.std.specs.declared.cmp.Ordering.TheVariants.{Less, Greater}
use Rattle.fast_compare.proofs.halve.Given as goal

abbrev pub invariant-loop-lo : goal.invariant-loop-lo
invariant-loop-lo g l =
    (l.lo ≤ l.hi) × ((l.hi ≤ l.n) × ((0 < l.lo → goal.F-post g l.order (l.lo - 1) Less) × (l.hi < l.n → goal.F-post g l.order l.hi Greater)))

abbrev pub decreases-loop-lo : goal.decreases-loop-lo
decreases-loop-lo g l = l.hi - l.lo
