use Rattle.std.proofs.Common.{rules}
use Rattle.monomial.proofs.Firsts.{canonical-wide}
use Rattle.label_insert.proofs.Answers.{known-place, new-place, gave-known}
use Rattle.label_insert.proofs.get_comparer.Goals as goal

pub search-requires : goal.search-requires
search-requires c = record { canonical = canonical-wide c.requires.good.canonical }

pub label_at-requires : goal.label_at-requires
label_at-requires c = let s = c.requires.sound in record { position_bound = known-place c.args.map.now s.state _ s.is c.in-Ok.p (c.in-Ok.ensures s.state s.is) }

pub add-requires-clause-p_bound : goal.add-requires-clause-p_bound
add-requires-clause-p_bound c = let s = c.requires.sound in new-place c.args.map.now s.state _ s.is c.in-Err.p (c.in-Err.ensures s.state s.is)

pub returns-in-Ok : goal.returns-in-Ok
returns-in-Ok c = λ st i. gave-known c.args.map.now st _ (search rules) i c.in-Ok.p c.label_at.result (c.in-Ok.ensures st i) (c.label_at.ensures st i)
