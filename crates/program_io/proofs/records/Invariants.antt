-- The records that were found and what is left make up the input.
use Rattle.std.proofs.Common.{◌≡◌, ◌++◌, ◌<◌, length, map}
use Rattle.std.specs.List.{concat}
use Rattle.program_io.proofs.records.Given as goal

abbrev pub invariant-loop-record : goal.invariant-loop-record
invariant-loop-record l = (0 < l.least) × (concat (map (λ r. r.now) l.found.items) ++ l.rest ≡ l.input)

abbrev pub decreases-loop-record : goal.decreases-loop-record
decreases-loop-record l = length l.rest
