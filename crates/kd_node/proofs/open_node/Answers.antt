use native.Mathlib.Omega.{arith}
use mathlib.Core.Path.{sym, ◌∙◌}
use Rattle.kd_split.proofs.Opening.{node-numbers, node-branch, node-short}
use Rattle.kd_node.proofs.open_node.Goals as goal

pub node_at-at-requires : goal.node_at-at-requires
node_at-at-requires c = (node-numbers _ _ _ _ _ c.requires.standing).row

pub get-requires : goal.get-requires
get-requires c = omega (arith, (node-numbers _ _ _ _ _ c.requires.standing).room, c.node_at-at.ensures)

pub returns-then-get-ne0 : goal.returns-then-get-ne0
returns-then-get-ne0 c = node-branch _ _ _ _ _ _ (λ z. c.if-get-ne0.true ((rw c.node_at-at.ensures at c.get.ensures) ∙ z))

pub overflow_add-at : goal.overflow_add-at
overflow_add-at c = omega (arith, (node-numbers _ _ _ _ _ c.requires.standing).room, c.node_at-at.ensures)

pub get-requires-2 : goal.get-requires-2
get-requires-2 c = omega (arith, (node-numbers _ _ _ _ _ c.requires.standing).room, c.node_at-at.ensures)

pub returns-then-get-le64 : goal.returns-then-get-le64
returns-then-get-le64 c =
    let Node-at = c.node_at-at in
    let get = c.get in
    let if1 = c.if-get-ne0 in
    node-short _ _ _ _ _ (sym (rw Node-at.ensures at get.ensures) ∙ if1.false) _ (omega (arith, (rw Node-at.ensures at c.get-2.ensures), c.if-get-le64.true))

pub split_node-requires : goal.split_node-requires
split_node-requires c = record { standing = rw c.shape.ensures c.requires.standing; dim_bound = c.requires.dim_bound }

pub returns : goal.returns
returns c = rw c.shape.ensures at c.split_node.ensures
