use Rattle.label_ranges.proofs.Lending.{lent_is, lent-sound}
use Rattle.label_ranges.proofs.labels_of.Goals as goal

pub invariant_of-result : goal.invariant_of-result
invariant_of-result c =
    let image = c.args.image.now in
    record { sound = lent-sound image.bytes.now image.shape image.head c.requires _ _ c.labels.ensures.0 c.labels.ensures.1 image.sound }

pub returns : goal.returns
returns c =
    let image = c.args.image.now in
    lent_is image.bytes.now image.shape image.head c.requires _ _ c.labels.ensures.0 c.labels.ensures.1
