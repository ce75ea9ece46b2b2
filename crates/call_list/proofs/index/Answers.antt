use mathlib.Core.Path.{sym, ◌∙◌}
use Rattle.call_list.proofs.Parting.{rest_of, leads-none, leads-other, leads}
use Rattle.call_list.proofs.index.Goals as goal

pub returns-then-body-lt4 : goal.returns-then-body-lt4
returns-then-body-lt4 c = leads-none _ c.if-body-lt4.true

pub returns-then-kind-ne-INDEX : goal.returns-then-kind-ne-INDEX
returns-then-kind-ne-INDEX c = leads-other _ _ c.if-body-lt4.false c.get-w.ensures (λ z. c.if-kind-ne-INDEX.true (c.kind.ensures ∙ z))

pub returns : goal.returns
returns c = leads _ _ c.if-body-lt4.false c.get-w.ensures (sym c.kind.ensures ∙ c.if-kind-ne-INDEX.false) _ _ c.payload.ensures (rest_of 4 c.args.body.now)
