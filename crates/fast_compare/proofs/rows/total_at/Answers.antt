use native.Mathlib.Omega.{arith}
use Rattle.fast_compare.proofs.Scans.{row_fits, ratio-starts, total-lent}
use Prim.Native.Nat.{◌+◌}
use Rattle.fast_compare.proofs.rows.total_at.Goals as goal

pub overflow_add-a : goal.overflow_add-a
overflow_add-a c = omega (arith, row_fits c.args.map.now c.args.at c.requires)

pub overflow_mul-a : goal.overflow_mul-a
overflow_mul-a c = omega (arith, row_fits c.args.map.now c.args.at c.requires)

pub slice_bounds-total_of-count : goal.slice_bounds-total_of-count
slice_bounds-total_of-count c = omega (arith, row_fits c.args.map.now c.args.at c.requires)

pub slice_bounds-total_of-start : goal.slice_bounds-total_of-start
slice_bounds-total_of-start c = omega (arith, row_fits c.args.map.now c.args.at c.requires)

pub total_of-requires : goal.total_of-requires
total_of-requires c = record { starts = ratio-starts c.args.map.now c.requires.vars (c.args.at + 1) c.requires.some }

pub returns : goal.returns
returns c = (total-lent c.args.map.now c.args.at c.total_of.result).1 c.total_of.ensures
