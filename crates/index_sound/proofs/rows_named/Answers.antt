use mathlib.Core.Path.{◌∙◌}
use Rattle.index_sound.proofs.Steps.{is-ratio, rows-can}
use Rattle.index_sound.proofs.rows_named.Goals as goal

pub all_named-requires : goal.all_named-requires
all_named-requires c =
    let if1 = c.if-s-eq0 in
    let entry_at = c.entry_at in let all = rows-can c.args.image.now.bytes.now c.args.image.now.shape c.args.image.now.range c.args.image.now.room
    (is-ratio c.args.image.now.shape c.args.image.now.range if1.false) c.requires.tables c.requires.entries_ok _ _ _ entry_at.ensures
    c.entry_width.ensures (c.get-rows.ensures ∙ rw c.labels_at.ensures) in
    record { n_bound = all.0; by_index = all.1.0; by_index_2 = all.1.1 }
