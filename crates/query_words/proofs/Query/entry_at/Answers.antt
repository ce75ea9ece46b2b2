use native.Mathlib.Omega.{arith}
use Rattle.index_image.proofs.Places.{place-room}
use Prim.Native.Nat.{◌+◌}
use Rattle.query_words.proofs.Query.entry_at.Goals as goal

pub get-requires : goal.get-requires
get-requires c =
    omega (arith, place-room c.args.image.now _ c.requires.ready (c.args.p + 1) (omega (arith, c.requires.p_bound)), c.num.ensures.0, c.args.self.laid.permutation)
