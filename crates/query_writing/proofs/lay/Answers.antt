use mathlib.Core.Path.{sym, ap, subst, ◌∙◌}
use mathlib.Core.List.{List}
use Prim.Native.Nat.{ℕ}
use Rattle.words.specs.Words.{paste_w}
use Rattle.words.proofs.Laws.{Words}
use Rattle.query_writing.proofs.Posing.{laid-words, laid-small}
use Rattle.query_writing.proofs.lay.Goals as goal

pub put_all-requires-clause-small : goal.put_all-requires-clause-small
put_all-requires-clause-small c =
    subst Words (sym (laid-words c.args.s _ _ _ _ _ c.node_at.ensures c.permutation_at.ensures c.entry_width.ensures c.entry_at.ensures c.labels_at.ensures))
    (laid-small c.args.s c.requires.in_range)

pub returns : goal.returns
returns c =
    c.put_all.ensures ∙ ap (λ (l : List ℕ). paste_w c.args.q.now 80 l)
    (laid-words c.args.s _ _ _ _ _ c.node_at.ensures c.permutation_at.ensures c.entry_width.ensures c.entry_at.ensures c.labels_at.ensures)
