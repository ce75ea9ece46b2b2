use mathlib.Core.Path.{ap, ◌∙◌}
use Rattle.query_words.specs.Asked.{search_number}
use Rattle.kd_leaf.proofs.Counting.{facts}
use Rattle.kd_leaf.proofs.Asked.visit.Goals as goal

pub search-requires : goal.search-requires
search-requires c = (facts _ _ _ c.args.self.now.known).searches

pub contained-requires-clause-searched : goal.contained-requires-clause-searched
unfolding search_number
contained-requires-clause-searched c = c.search.ensures ∙ ap search_number c.in-Contained.is

pub reducer-requires-clause-searched : goal.reducer-requires-clause-searched
unfolding search_number
reducer-requires-clause-searched c = c.search.ensures ∙ ap search_number c.in-Reducer.is

pub singular-requires-clause-searched : goal.singular-requires-clause-searched
unfolding search_number
singular-requires-clause-searched c = c.search.ensures ∙ ap search_number c.in-Singular.is
