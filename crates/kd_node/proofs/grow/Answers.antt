use native.Mathlib.Omega.{arith}
use mathlib.Core.Path.{◌∙◌}
use Rattle.kd_node.proofs.Growing.{grew}
use Rattle.kd_node.proofs.grow.Goals as goal

pub overflow_cast-skip-2 : goal.overflow_cast-skip-2
overflow_cast-skip-2 c =
    let Node-at = c.node_at-at in
    let get = c.get in
    omega (arith, (rw Node-at.ensures at get.ensures), c.requires.added_bound)

pub returns : goal.returns
returns c =
    let Node-at = c.node_at-at in
    let get = c.get in
    let num = c.num in
    let get2 = c.get-less in
    grew _ _ _ _ _ _ _ _ _ Node-at.ensures (num.ensures.0 ∙ c.args.q.laid.node-width) get.ensures get2.ensures c.put.ensures
