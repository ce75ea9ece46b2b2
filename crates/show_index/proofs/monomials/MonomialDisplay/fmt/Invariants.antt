use denote.Text.{Utf8}
use denote.Shadow.{shadow}
use Rattle.show_index.proofs.monomials.MonomialDisplay.fmt.Given as goal

-- The separator is text.
abbrev pub invariant-loop-variable : goal.invariant-loop-variable
invariant-loop-variable g l =
    (goal.iterator-loop-variable g).can_next l.variable-iterator ×
    (goal.iterator-loop-variable g).is_finite l.variable-iterator ×
    shadow (Utf8 l.separator)
