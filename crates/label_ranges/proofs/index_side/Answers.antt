use native.Mathlib.Omega.{arith}
use Rattle.fast_compare.proofs.Exact.{sound-known, count_of}
use Rattle.label_ranges.proofs.Indexing.{side-below, side-from}
use Rattle.label_ranges.proofs.index_side.Goals as goal

pub index_of-requires : goal.index_of-requires
index_of-requires c = let s = sound-known c.args.labels.now.sound in omega (arith, (c.row_at-row.ensures s.state s.is).0, count_of c.args.labels.now.bytes.now s.state s.is)

pub returns-then-index_of-index : goal.returns-then-index_of-index
returns-then-index_of-index c = λ l i. side-below l c.args.p c.args.index c.row_at-row.result c.index_of.result (c.row_at-row.ensures l i).1 (c.index_of.ensures l i) c.if-index_of-index.true

pub returns-else-index_of-index : goal.returns-else-index_of-index
returns-else-index_of-index c = λ l i. side-from l c.args.p c.args.index c.row_at-row.result c.index_of.result (c.row_at-row.ensures l i).1 (c.index_of.ensures l i) c.if-index_of-index.false
