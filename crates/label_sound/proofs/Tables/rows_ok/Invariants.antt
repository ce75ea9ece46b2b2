use Prim.Native.Nat.{ℕ, ◌<◌}
use Rattle.words.specs.Words.{words}
use Rattle.fast_compare.specs.Layout.{row_at, RowOk}
use Rattle.label_sound.proofs.Tables.rows_ok.Given as goal

abbrev pub invariant-loop-i : goal.invariant-loop-i
invariant-loop-i l = (k : ℕ) → k < l.i → RowOk (words l.self.map.now) l.self.variables (row_at l.self.variables k)
