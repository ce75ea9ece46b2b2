-- The row of a node lies in the bytes of an image that is ready for the walk, and so does the row behind it. Assumes nothing.
use mathlib.Core.List.{List}
use Prim.Native.Nat.{ℕ, ◌+◌, ◌*◌, ◌≤◌, ◌<◌}
use native.Mathlib.Omega.{arith}
use lib.ListN.{length}
use Rattle.words.specs.Words.{words}
use Rattle.index_image.specs.declared.Shape.{Shape}
use Rattle.index_image.specs.Shape as at
use Rattle.index_image.specs.Walk.{Ready}
use Rattle.index_image.proofs.Places.{node-room, row-behind}

pub node_lent : (bs : List ℕ) (s : Shape) (k : ℕ) → Ready (words bs) s → k < s.nodes → 4 * (at.node_at s k + at.node_width s.variables) ≤ length bs
node_lent bs s k R h = node-room bs s R k h

pub behind_lent : (bs : List ℕ) (s : Shape) (k : ℕ) → Ready (words bs) s → k + 1 < s.nodes → 4 * (at.node_at s k + at.node_width s.variables + at.node_width s.variables) ≤ length bs
behind_lent bs s k R h = omega (arith, node-room bs s R (k + 1) h, row-behind s k)
