use Rattle.monomial.proofs.Canon.{number-some}
use Rattle.call_list.proofs.Parting.{rest_of, begins-none, begins, found-inside}
use mathlib.Core.Path.{refl}
use Rattle.call_list.proofs.part.Goals as goal

pub returns-then-x-eq0 : goal.returns-then-x-eq0
returns-then-x-eq0 c = begins-none _ _ _ _ c.canonical_at-x.ensures c.if-x-eq0.true

pub slice_bounds-result-count : goal.slice_bounds-result-count
slice_bounds-result-count c = found-inside _ _ _ _ c.canonical_at-x.ensures

pub slice_bounds-result-start : goal.slice_bounds-result-start
slice_bounds-result-start c = found-inside _ _ _ _ c.canonical_at-x.ensures

pub returns : goal.returns
returns c = begins _ _ _ _ c.canonical_at-x.ensures (number-some c.args.kind) c.if-x-eq0.false _ _ refl (rest_of _ c.args.body.now)
