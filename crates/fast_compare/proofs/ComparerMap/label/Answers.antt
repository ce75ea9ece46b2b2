use native.Mathlib.Omega.{arith}
use mathlib.Core.Path.{◌∙◌}
use Rattle.fast_compare.proofs.Exact.{sound-known, count_of}
use Rattle.fast_compare.proofs.Reading.{row_room, label-of}
use Rattle.fast_compare.proofs.ComparerMap.label.Goals as goal

pub overflow_add-variables : goal.overflow_add-variables
overflow_add-variables c = omega (arith, row_room c.args.self.now.bytes.now (sound-known c.args.self.now.sound) c.args.row c.get-variables.result c.requires.row_bound c.get-variables.ensures)

pub overflow_mul-row : goal.overflow_mul-row
overflow_mul-row c = omega (arith, row_room c.args.self.now.bytes.now (sound-known c.args.self.now.sound) c.args.row c.get-variables.result c.requires.row_bound c.get-variables.ensures)

pub overflow_add-row : goal.overflow_add-row
overflow_add-row c = omega (arith, row_room c.args.self.now.bytes.now (sound-known c.args.self.now.sound) c.args.row c.get-variables.result c.requires.row_bound c.get-variables.ensures)

pub overflow_add-variables-2 : goal.overflow_add-variables-2
overflow_add-variables-2 c = omega (arith, row_room c.args.self.now.bytes.now (sound-known c.args.self.now.sound) c.args.row c.get-variables.result c.requires.row_bound c.get-variables.ensures)

pub overflow_add-row-2 : goal.overflow_add-row-2
overflow_add-row-2 c = omega (arith, row_room c.args.self.now.bytes.now (sound-known c.args.self.now.sound) c.args.row c.get-variables.result c.requires.row_bound c.get-variables.ensures)

pub get-requires : goal.get-requires
get-requires c = omega (arith, row_room c.args.self.now.bytes.now (sound-known c.args.self.now.sound) c.args.row c.get-variables.result c.requires.row_bound c.get-variables.ensures)

pub returns : goal.returns
returns c =
    λ st i. c.get.ensures ∙ rw c.get-variables.ensures (label-of c.args.self.now.bytes.now st i c.args.row
    (omega (arith, c.requires.row_bound, count_of c.args.self.now.bytes.now st i)))
