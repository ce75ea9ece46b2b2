use Rattle.std.proofs.Common.{◌≤◌, ℕ, Bool}
use Rattle.words.specs.Words.{words}
use Rattle.kd_sides.specs.Sides.{Says}
use Rattle.kd_sides.proofs.Parting.{Gathering}
use Rattle.kd_sides.proofs.gather.Given as goal

abbrev pub invariant-loop-i : goal.invariant-loop-i
invariant-loop-i g l =
    (l.n ≤ l.i)
    × ((p : ℕ → Bool) → Says (goal.F-post g l.wanted) l.image.shape.entries p
    → Gathering (words l.image.bytes.now) l.image.shape p l.lo l.i l.initial.out l.out l.at l.n)
