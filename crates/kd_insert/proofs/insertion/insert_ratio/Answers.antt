use native.Mathlib.Omega.{arith}
use Rattle.words.specs.Words.{words}
use Rattle.index_image.proofs.Bounds.{entry-inside, ratio-width}
use Rattle.kd_slots.proofs.Writing.{mapped_still}
use Rattle.kd_insert.proofs.Monomials.{Basics, basics-tracked}
use Rattle.kd_insert.proofs.Ratios.{Calls, Early, label-ready, early, late, ratio-inserted}
use Rattle.kd_insert.proofs.insertion.insert_ratio.Goals.{After-label_entry-row, After-track-2, After-write_ratio_row}
use Rattle.kd_insert.proofs.insertion.insert_ratio.Goals as goal

labelled : (c : After-label_entry-row) → Early c.label_entry-row.new.image c.args.s c.label_entry-row.result
labelled c = early c.requires.room (λ j. grind arith) c.requires.kind_value c.requires.index_bound c.requires.canonical.0 c.requires.canonical_2.0 c.label_entry-row.ensures

tracked : (c : After-track-2) → Basics c.label_entry-row.new.image c.args.s → Basics c.track-2.new.image c.args.s
tracked c b = basics-tracked (basics-tracked b c.requires.canonical.0 c.track.ensures) c.requires.canonical_2.0 c.track-2.ensures

-- all is written but the tree
calls : (c : After-write_ratio_row) → Calls c.args.image.now c.args.index (words c.args.sign.now) (words c.args.lm.now) c.label_entry-row.new.image c.label_entry-row.result c.row_label-label.result
    c.track.new.image c.track-2.new.image c.write_ratio_row.new.image c.args.s
calls c = record {
  one = c.requires.kind_value;
  few = c.requires.room.few;
  index-small = c.requires.index_bound;
  sign-canonical = c.requires.canonical.0;
  lm-canonical = c.requires.canonical_2.0;
  labels-done = c.label_entry-row.ensures;
  label-read = c.row_label-label.ensures;
  sign-tracked = c.track.ensures;
  lm-tracked = c.track-2.ensures;
  row_written = rw c.entry_at.ensures at c.write_ratio_row.ensures;
}

pub label_entry-row-requires-clause-sound_for : goal.label_entry-row-requires-clause-sound_for
label_entry-row-requires-clause-sound_for c = label-ready c.requires.room c.requires.kind_value

pub row_label-label-requires : goal.row_label-label-requires
row_label-label-requires c = (c.requires.kind_value, (labelled (goal.at.row_label-label-requires c).After-label_entry-row).small)

pub track-requires-clause-maxima : goal.track-requires-clause-maxima
track-requires-clause-maxima c = (labelled (goal.at.track-requires-clause-maxima c).After-label_entry-row).basics.present

pub track-requires-2-clause-maxima : goal.track-requires-2-clause-maxima
track-requires-2-clause-maxima c =
    (basics-tracked (labelled (goal.at.track-requires-2-clause-maxima c).After-label_entry-row).basics c.requires.canonical.0 c.track.ensures).present

pub overflow_cast-row : goal.overflow_cast-row
overflow_cast-row c = omega (arith, (labelled (goal.at.overflow_cast-row c).After-label_entry-row).small, c.requires.room.head.range.cap-to)

pub write_ratio_row-requires-clause-mapped : goal.write_ratio_row-requires-clause-mapped
write_ratio_row-requires-clause-mapped c =
    let a = goal.at.write_ratio_row-requires-clause-mapped c in (tracked a.After-track-2 (labelled a.After-label_entry-row).basics).mapped

pub write_ratio_row-requires-clause-inside : goal.write_ratio_row-requires-clause-inside
write_ratio_row-requires-clause-inside c =
    let R = c.requires.room.head.range in (
      omega (arith, c.entry_at.ensures),
      omega (arith, c.entry_at.ensures, entry-inside c.args.s R c.args.s.entries c.requires.room.few, ratio-width c.args.s R c.requires.kind_value),
    )

pub hang-requires-clause-mapped : goal.hang-requires-clause-mapped
hang-requires-clause-mapped c =
    let a = goal.at.hang-requires-clause-mapped c in
    let M = (tracked a.After-track-2 (labelled a.After-label_entry-row).basics).mapped in
    mapped_still c.track-2.new.image c.write_ratio_row.new.image c.args.s c.entry_at.result _ M (omega (arith, c.entry_at.ensures))
    (omega (arith, c.entry_at.ensures, entry-inside c.args.s M.range c.args.s.entries c.requires.room.few)) c.write_ratio_row.auto.image c.write_ratio_row.ensures

pub hang-requires-clause-hangs : goal.hang-requires-clause-hangs
hang-requires-clause-hangs c = late c.requires.room (λ j. grind arith) (calls (goal.at.hang-requires-clause-hangs c).After-write_ratio_row)

pub returns : goal.returns
returns c = ratio-inserted c.requires.room (λ j. grind arith) (calls (goal.at.returns c).After-write_ratio_row) c.hang.ensures
