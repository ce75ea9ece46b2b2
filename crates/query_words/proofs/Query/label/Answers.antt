use native.Mathlib.Omega.{arith}
use mathlib.Core.Path.{refl, ◌∙◌}
use Rattle.query_words.proofs.Laying.{LabelRead, row_read, label-read}
use Rattle.query_words.specs.Asked.{shape_in}
use Rattle.words.specs.Words.{words}
use Rattle.query_words.proofs.Query.label.Goals.{After-get-row}
use Rattle.query_words.proofs.Query.label.Goals as goal

read : (c : After-get-row) → LabelRead c.args.image.now c.args.self.bytes.now (shape_in (words c.args.self.bytes.now)) c.args.e c.get-row.result
read c =
    label-read c.args.self.laid c.requires.ready c.requires.labelled.0 c.requires.labelled.1 c.get-row.result
    (c.get-row.ensures ∙ rw (c.num.ensures.0, c.num-2.ensures.0) refl)

pub get-row-requires : goal.get-row-requires
get-row-requires c =
    let r = row_read c.args.self.laid c.requires.ready c.requires.labelled.0 c.requires.labelled.1 in
    rw c.num-2.ensures.0 (omega (arith, r.is, r.room, c.num.ensures.0))

pub get-requires : goal.get-requires
get-requires c = rw c.num-4.ensures.0 (omega (arith, (read (goal.at.get-requires c).After-get-row).room, c.num-3.ensures.0))

pub returns : goal.returns
returns c = (
  (read (goal.at.returns c).After-get-row).is _ (c.from.ensures ∙ c.get.ensures ∙ rw (c.num-3.ensures.0, c.num-4.ensures.0) refl),
  omega (arith, c.from.ensures, c.get.type_inv),
)
