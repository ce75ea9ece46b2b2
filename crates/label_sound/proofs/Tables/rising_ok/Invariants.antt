use mathlib.Core.Path.{◌≡◌}
use Prim.Native.Nat.{ℕ, suc, ◌+◌, ◌-◌, ◌≤◌, ◌<◌}
use lib.ListN.{get_or}
use Rattle.words.specs.Words.{words}
use Rattle.fast_compare.specs.Layout.{row_at, order_at, Rises, TotalAt}
use Rattle.label_sound.proofs.Tables.rising_ok.Given as goal

abbrev pub invariant-loop-i : goal.invariant-loop-i
invariant-loop-i l = ((1 ≤ l.i) × (l.i ≤ l.self.rows)) × ((l.a ≡ row_at l.self.variables (get_or (words l.self.map.now) (order_at l.self.variables l.self.capacity + (l.i - 1)) 0)) × (TotalAt (words l.self.map.now) l.a l.s × ((k : ℕ) → suc k < l.i → Rises (words l.self.map.now) l.self.variables (row_at l.self.variables (get_or (words l.self.map.now) (order_at l.self.variables l.self.capacity + k) 0)) (row_at l.self.variables (get_or (words l.self.map.now) (order_at l.self.variables l.self.capacity + suc k) 0)))))
