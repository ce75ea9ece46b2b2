-- The words of the variables behind.
use Rattle.std.proofs.Common.{◌≡◌, map, take}
use Rattle.words.specs.Kinds.{var_word}
use Rattle.program_io.proofs.monomial.Given as goal

abbrev pub invariant-loop-factor : goal.invariant-loop-factor
invariant-loop-factor l = l.list.items ≡ map (λ p. var_word 1 p.0 p.1) (take l.factor-index l.powers)
