use native.Mathlib.Omega.{arith}
use mathlib.Core.Path.{◌∙◌, ap}
use Rattle.fast_compare.specs.Map as Map
use Rattle.fast_compare.proofs.Exact.{sound-known, count_of}
use Rattle.fast_compare.proofs.ComparerMap.label_at.Goals as goal

pub label-requires : goal.label-requires
label-requires c = omega (arith, (c.row_at-row.ensures (sound-known c.args.self.now.sound).state (sound-known c.args.self.now.sound).is).0, count_of c.args.self.now.bytes.now (sound-known c.args.self.now.sound).state (sound-known c.args.self.now.sound).is)

pub returns : goal.returns
returns c = λ st i. c.label.ensures st i ∙ ap (Map.label st.rows) (c.row_at-row.ensures st i).1
