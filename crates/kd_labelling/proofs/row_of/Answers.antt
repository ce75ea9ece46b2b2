use Rattle.words.specs.Words.{words}
use Rattle.fast_compare.specs.Map.{value_of}
use Rattle.fast_compare.proofs.Exact.{sound-known}
use Rattle.label_insert.proofs.Answers.{known-place}
use Rattle.kd_labelling.proofs.Settling.{row-at-place, no_row}
use Rattle.kd_labelling.proofs.row_of.Goals as goal

pub row_at-requires : goal.row_at-requires
row_at-requires c =
    let s = sound-known c.args.labels.now.sound in
    record { position_bound = known-place c.args.labels.now.bytes.now s.state _ s.is c.in-Ok.p (c.in-Ok.ensures s.state s.is) }

pub returns-in-Ok : goal.returns-in-Ok
returns-in-Ok c =
    λ l i. row-at-place l (value_of c.args.index (words c.args.ratio.now)) c.in-Ok.p c.row_at.result i.valid (c.in-Ok.ensures l i) (c.row_at.ensures l i).1

pub returns-in-Err : goal.returns-in-Err
returns-in-Err c = λ l i. no_row l (value_of c.args.index (words c.args.ratio.now)) c.in-Err.field-0 (c.in-Err.ensures l i)
