use borrow.Author.Tests.{ne_eqb}
use Rattle.index_tables.proofs.Ratios.{Read, other-index, asks, answered}
use Rattle.fast_compare.specs.Layout as labels
use native.Mathlib.Omega.{arith}
use mathlib.Core.Path.{◌∙◌}
use Prim.Native.Nat.{◌+◌}
use Rattle.words.proofs.Answers.{refuse}
use Rattle.index_image.proofs.Bounds.{Spots, spots}
use Rattle.index_tables.proofs.entries.has_ratio.Goals.{After-get-2, After-get-row, Start}
use Rattle.index_tables.proofs.entries.has_ratio.Goals as goal

-- the words of the entry, and of the label map's row that it names, lie within the image
entry_here : (a : Start) → Spots a.args.image.now.shape a.args.image.now.range a.args.i 0
entry_here a =
    spots a.args.image.now.shape a.args.image.now.range a.requires.kind_value.0 a.args.i 0 (omega (arith, a.requires.kind_value.1, a.args.image.now.range.few)) a.args.image.now.range.cap-from

row_here : (c : After-get-row) → Spots c.args.image.now.shape c.args.image.now.range c.args.i c.get-row.result
row_here c =
    spots c.args.image.now.shape c.args.image.now.range c.requires.kind_value.0 c.args.i c.get-row.result
    (omega (arith, c.requires.kind_value.1, c.args.image.now.range.few)) (rw (c.get-row.ensures, c.entry_at-e.ensures) c.requires.ratio_ready.row)

all_read : (c : After-get-2) → let entry_at = c.entry_at-e in
    Read c.args.image.now.bytes.now c.args.image.now.shape c.args.i entry_at.result ((c.labels_at.result + labels.row_at c.args.image.now.shape.variables c.get-row.result))
    c.get.result c.get-2.result
all_read c =
    let entry_at = c.entry_at-e in
    record {
      few = c.args.image.now.range.vars-to;
      ready = c.requires.ratio_ready;
      entry = entry_at.ensures;
      row = rw (c.labels_at.ensures, c.get-row.ensures, entry_at.ensures);
      index = c.get.ensures ∙ rw entry_at.ensures;
      index-of-row = c.get-2.ensures;
    }

pub slice_bounds-is_ratio-count : goal.slice_bounds-is_ratio-count
slice_bounds-is_ratio-count c =
    omega (arith, entry_here (goal.at.slice_bounds-is_ratio-count c).Start, c.entry_at-e.ensures, c.args.image.now.room)

pub slice_bounds-is_ratio-start : goal.slice_bounds-is_ratio-start
slice_bounds-is_ratio-start c =
    omega (arith, entry_here (goal.at.slice_bounds-is_ratio-start c).Start, c.entry_at-e.ensures, c.args.image.now.room)

pub slice_bounds-is_ratio-count-then-get : goal.slice_bounds-is_ratio-count-then-get
slice_bounds-is_ratio-count-then-get c =
    omega (arith, entry_here (goal.at.slice_bounds-is_ratio-count-then-get c).Start, c.entry_at-e.ensures, c.args.image.now.room)

pub slice_bounds-is_ratio-start-then-get : goal.slice_bounds-is_ratio-start-then-get
slice_bounds-is_ratio-start-then-get c =
    omega (arith, entry_here (goal.at.slice_bounds-is_ratio-start-then-get c).Start, c.entry_at-e.ensures, c.args.image.now.room)

pub slice_bounds-is_ratio-count-then-get-2 : goal.slice_bounds-is_ratio-count-then-get-2
slice_bounds-is_ratio-count-then-get-2 c =
    omega (arith, row_here (goal.at.slice_bounds-is_ratio-count-then-get-2 c).After-get-row, c.labels_at.ensures, c.args.image.now.room)

pub slice_bounds-is_ratio-start-then-get-2 : goal.slice_bounds-is_ratio-start-then-get-2
slice_bounds-is_ratio-start-then-get-2 c =
    omega (arith, row_here (goal.at.slice_bounds-is_ratio-start-then-get-2 c).After-get-row, c.labels_at.ensures, c.args.image.now.room)

pub is_ratio-requires : goal.is_ratio-requires
is_ratio-requires c =
    let named = rw (c.get-row.ensures, c.entry_at-e.ensures) at (row_here (goal.at.is_ratio-requires c).After-get-row) in
    let k = asks (all_read (goal.at.is_ratio-requires c).After-get-2) (omega (arith, c.args.image.now.room, named.row)) in record { starts = k.sign-starts; starts_2 = k.lm-starts; b_in_bounds = k.fits }

pub returns-else-get : goal.returns-else-get
returns-else-get c = rw (ne_eqb c.get.result c.get-2.result c.if-get.false) (refuse (other-index (all_read (goal.at.returns-else-get c).After-get-2) c.if-get.false))

pub returns-then-get : goal.returns-then-get
returns-then-get c = answered (all_read (goal.at.returns-then-get c).After-get-2) c.if-get.true _ c.is_ratio.ensures
