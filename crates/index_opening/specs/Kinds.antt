-- The kinds of index by their numbers. Assumes nothing.
use Rattle.std.specs.Prelude.{ℕ, zero, suc}
use Rattle.index_theory.specs.State.{Kind, monomials, ratioed}

-- the index kind of a number: 0 for a monomial index, else a ratio index
abbrev pub index_kind : ℕ → Kind
index_kind zero = monomials
index_kind (suc k) = ratioed
