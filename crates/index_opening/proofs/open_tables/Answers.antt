use Rattle.index_opening.proofs.Openings.{opened-tables}
use Rattle.index_opening.proofs.open_tables.Goals as goal

pub returns : goal.returns
returns c =
    opened-tables _ c.requires.in_range _ c.requires.maxima _ _ _ _ _ _ _ _ _ _ _ c.requires.s_in_bounds c.entry_at-entries.ensures c.labels_at.ensures c.node_at-nodes.ensures
    c.size.ensures c.open_head.ensures c.paste.ensures c.paste-2.ensures c.clear.ensures c.open_labels.ensures c.clear-2.ensures
