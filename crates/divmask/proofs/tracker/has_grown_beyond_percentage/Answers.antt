use native.Mathlib.Omega.{arith}
use Rattle.words.specs.Words.{words}
use Rattle.divmask.specs.Tracker.{grown}
use Rattle.divmask.proofs.Growth.{total-low, total-high}
use Rattle.divmask.proofs.tracker.has_grown_beyond_percentage.Goals as goal

pub overflow_sub-result : goal.overflow_sub-result
overflow_sub-result c = omega (arith, c.total-t.ensures, total-low c.args.variables (words c.args.maxima.now) c.requires)

pub overflow_mul-result : goal.overflow_mul-result
overflow_mul-result c = omega (arith, c.total-t.ensures, total-high c.args.variables (words c.args.maxima.now) c.requires)

pub nonzero_div-result : goal.nonzero_div-result
nonzero_div-result c =
    omega (
      arith,
      c.total-t.ensures,
      total-low c.args.variables (words c.args.maxima.now)
          c.requires,
      c.requires.some,
    )

pub returns : goal.returns
unfolding grown
returns c = rw (c.from.ensures, c.total-t.ensures)
