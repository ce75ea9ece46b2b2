use mathlib.Core.Path.{sym, ap, ◌∙◌}
use Rattle.divmask_work.specs.Doors.{test_number}
use Rattle.divmask_work.proofs.divisor_index_divmask_divides.Goals as goal

pub returns-in-NotDivisible : goal.returns-in-NotDivisible
unfolding test_number
returns-in-NotDivisible c = ap test_number (sym c.in-NotDivisible.is ∙ c.divides.ensures)

pub returns-in-Unsure : goal.returns-in-Unsure
unfolding test_number
returns-in-Unsure c = ap test_number (sym c.in-Unsure.is ∙ c.divides.ensures)
