use mathlib.Core.Path.{◌∙◌}
use Rattle.monomial.proofs.Ends.{ended-found}
use Rattle.index_image.proofs.Reading.{taken}
use Rattle.index_image.proofs.stored.monomial_in.Goals as goal

pub returns : goal.returns
returns c =
    taken c.args.image.now c.args.s.variables c.args.g c.known_at.result.now
    (c.known_at.ensures ∙ ended-found 1 c.args.s.variables c.args.image.now c.args.g c.requires)
