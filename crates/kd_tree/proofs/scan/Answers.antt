use native.Mathlib.Omega.{arith}
use Rattle.kd_tree.proofs.Leaves.{leaf-numbers, leaf-ready, leaf-done}
use Rattle.kd_tree.proofs.scan.Goals as goal

pub node_at-requires : goal.node_at-requires
node_at-requires c = (leaf-numbers _ _ _ _ _ _ _ _ c.requires.ready_leaf).row

pub overflow_add-node_at : goal.overflow_add-node_at
overflow_add-node_at c = omega (arith, (leaf-numbers _ _ _ _ _ _ _ _ c.requires.ready_leaf).room, c.node_at.ensures)

pub get-c-requires : goal.get-c-requires
get-c-requires c = omega (arith, (leaf-numbers _ _ _ _ _ _ _ _ c.requires.ready_leaf).room, c.node_at.ensures)

pub search-requires : goal.search-requires
search-requires c = record { ready_entries = leaf-ready _ _ _ _ _ _ _ _ _ (rw c.node_at.ensures at c.get-c.ensures) c.requires.ready_leaf; acc_value = c.requires.acc_value }

pub returns : goal.returns
returns c = (leaf-done _ _ _ _ _ _ _ _ _ _ _ (rw c.node_at.ensures at c.get-c.ensures) c.search.ensures.0, c.search.ensures.1)
