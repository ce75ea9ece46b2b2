use Rattle.std.proofs.Common.{arith}
use Rattle.words.specs.Words.{words}
use Rattle.index_image.specs.Walk as walk
use Rattle.kd_sides.proofs.Parting.{lower-first, lower-new, lower-old}
use Rattle.kd_sides.proofs.lower.Goals as goal

pub returns-in_default-clause-value : goal.returns-in_default-clause-value
returns-in_default-clause-value c =
    rw c.in_default.is (lower-first (walk.label (words c.args.image.now.bytes.now) c.args.image.now.shape) c.args.x c.args.e _ c.label-l.ensures (omega arith))

pub returns-then-l-label-clause-value : goal.returns-then-l-label-clause-value
returns-then-l-label-clause-value c =
    rw c.in-Some.is
    (lower-new (walk.label (words c.args.image.now.bytes.now) c.args.image.now.shape) c.args.x c.args.e _ c.label-l.ensures c.in-Some.b _ (omega arith)
    c.label.ensures c.if-l-label.true)

pub returns-else-l-label-clause-value : goal.returns-else-l-label-clause-value
returns-else-l-label-clause-value c =
    rw c.in-Some.is
    (lower-old (walk.label (words c.args.image.now.bytes.now) c.args.image.now.shape) c.args.x c.args.e _ c.label-l.ensures c.in-Some.b _ (omega arith)
    c.label.ensures c.if-l-label.false)
