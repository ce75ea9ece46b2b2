use borrow.Author.Count.{below_more}
use Rattle.index_tables.proofs.entries.Judging.all_entries.Goals as goal

pub loop-i-preserved : goal.loop-i-preserved
loop-i-preserved c = below_more _ _ c.loop-i.invariant (c.entry_ok.ensures.0 (c.if-not-entry_ok.false))
