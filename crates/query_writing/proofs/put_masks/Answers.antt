use native.Mathlib.Omega.{arith}
use Prim.Native.Nat.{◌%◌, ◌/◌}
use Rattle.query_writing.proofs.Posing.{masks-written}
use Rattle.query_writing.proofs.put_masks.Goals as goal

pub returns : goal.returns
returns c =
    masks-written _ _ c.args.search c.args.lm (c.args.masks % 4294967296) (c.args.masks / 4294967296) c.node_mask-for_nodes.result c.requires.search_bound (omega arith)
    c.node_mask-for_nodes.ensures c.put_pairs.ensures.q_after
