use mathlib.Core.Path.{◌∙◌}
use Rattle.listing.proofs.Wholes.{whole}
use Rattle.listing.proofs.listing_words.Goals as goal

pub invariant_of-words_of : goal.invariant_of-words_of
invariant_of-words_of c = record { ready = (whole c.args.image.now c.requires.state c.args.s c.requires.is c.requires.shape).ready_at }

pub returns : goal.returns
returns c = λ st i e. c.words_of.ensures ∙ (whole c.args.image.now st c.args.s i e).long
