use native.Mathlib.Omega.{arith}
use Rattle.index_image.proofs.Bounds.{rest}
use Rattle.index_tables.proofs.entries.entries_ok.Goals as goal

pub is_blank-requires : goal.is_blank-requires
is_blank-requires c =
    rw (c.entry_width.ensures, c.entry_at.ensures)
    (omega (arith, rest c.args.image.now.shape c.args.image.now.range, c.args.image.now.room))
