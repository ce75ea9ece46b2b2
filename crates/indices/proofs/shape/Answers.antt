use Rattle.index_replies.proofs.Queries.{root-of, head-room}
use native.Mathlib.Omega.{arith}
use Rattle.indices.proofs.shape.Goals as goal

pub get-requires : goal.get-requires
get-requires c = omega (arith, head-room _ c.requires)

pub get-requires-2 : goal.get-requires-2
get-requires-2 c = omega (arith, head-room _ c.requires)

pub get-requires-3 : goal.get-requires-3
get-requires-3 c = omega (arith, head-room _ c.requires)

pub get-requires-4 : goal.get-requires-4
get-requires-4 c = omega (arith, head-room _ c.requires)

pub get-requires-5 : goal.get-requires-5
get-requires-5 c = omega (arith, head-room _ c.requires)

pub returns : goal.returns
returns c =
    root-of _ c.requires _ _ _ _ _ c.get.ensures c.get-2.ensures c.get-3.ensures c.get-4.ensures c.get-5.ensures
