use mathlib.Core.Path.{sym, ◌∙◌}
use Rattle.monomial.proofs.Sizing.{sizes-fit}
use Rattle.label_work.proofs.length.Goals as goal

pub length-requires : goal.length-requires
length-requires c = let a = (sizes-fit _ _).0 (sym c.sizes_fit.ensures ∙ c.if-not-sizes_fit.false) in (a.vars-to, a.cap-to)
