-- What a search has come to, in one number: the rows in use, what was found, and whether to go on. Assumes nothing.
use Rattle.std.specs.Prelude.{Bool, ℕ, ◌/◌, ◌%◌, eqb}

unfoldable pub rows_of : ℕ → ℕ
rows_of acc = acc / 16384

unfoldable pub best_of : ℕ → ℕ
best_of acc = acc % 16384 / 2

unfoldable pub on_of : ℕ → Bool
on_of acc = eqb (acc % 2) 1
