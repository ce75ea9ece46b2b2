-- Every case of the table holds: by computation, and where a case speaks of every power, by the law of masks. Assumes nothing.
use mathlib.Core.Path.{refl}
use Rattle.monomial.specs.Monomial.{find, power_of, pow, vars_of, monomial_of}
use Rattle.monomial.specs.Operations.{powers, result_words}
use Rattle.monomial_ordering.specs.Order.{total, revlex, grevlex, order}
use Rattle.fast_compare.specs.Labels.{count, pick, below, known, greater, nearest, floor, ceiling, lowest, highest, free, half, rebuilt}
use Rattle.fast_compare.specs.Map.{row, cmp, given, answer, stored, after, relabelled, rebuild}
use Rattle.divmask.specs.Mask.{bits, first_bit, cutoff, parts, field, fields, mask}
use Rattle.divmask.specs.Tracker.{updated}
use Rattle.divmask.proofs.Cases.{mask_of, three-id-0, three-id-2, id-32-unseen}
use Rattle.bench_cases.specs.Cases.{AllHold, table}

pub all_hold : AllHold table
unfolding result_words powers monomial_of vars_of pow power_of find order grevlex total revlex mask_of mask fields field parts cutoff bits first_bit updated answer after stored given known pick free half lowest highest floor ceiling nearest greater rebuild relabelled rebuilt below count cmp row
all_hold =
    (refl, (refl, (refl, (refl, (refl, (refl, (refl, (refl, (three-id-0, (three-id-2, (id-32-unseen, (refl, (refl, (refl, (refl, (refl, (refl, (refl, (refl, (refl, tt))))))))))))))))))))
