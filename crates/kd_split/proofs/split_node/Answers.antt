use Rattle.std.proofs.Common.{sym, ◌∙◌, arith}
use Rattle.kd_split.proofs.Opening.{node-numbers, node-branch, node-short, leaf-here, node-flat, splittable, node-split}
use Rattle.kd_split.proofs.split_node.Goals as goal

pub node_at-at-requires : goal.node_at-at-requires
node_at-at-requires c = record { in_range = (node-numbers _ _ _ _ _ c.requires.standing).range; k_bound = (node-numbers _ _ _ _ _ c.requires.standing).row }

pub get-requires : goal.get-requires
get-requires c = omega (arith, (node-numbers _ _ _ _ _ c.requires.standing).room, c.node_at-at.ensures)

pub returns-then-get-ne0 : goal.returns-then-get-ne0
returns-then-get-ne0 c = node-branch _ _ _ _ _ _ (λ z. c.if-get-ne0.true (rw c.node_at-at.ensures at c.get.ensures ∙ z))

pub overflow_add-at : goal.overflow_add-at
overflow_add-at c = omega (arith, (node-numbers _ _ _ _ _ c.requires.standing).room, c.node_at-at.ensures)

pub get-c-requires : goal.get-c-requires
get-c-requires c = omega (arith, (node-numbers _ _ _ _ _ c.requires.standing).room, c.node_at-at.ensures)

pub returns-then-c-le64 : goal.returns-then-c-le64
returns-then-c-le64 c =
    node-short _ _ _ _ _ (sym (rw c.node_at-at.ensures at c.get.ensures) ∙ c.if-get-ne0.false) _
    (omega (arith, (rw c.node_at-at.ensures at c.get-c.ensures)))

pub choose-requires : goal.choose-requires
choose-requires c = record {
  ready = (node-numbers _ _ _ _ _ c.requires.standing).ready;
  dim_bound = (
    c.requires.dim_bound,
    (
      (leaf-here _ _ _ _ _ (sym (rw c.node_at-at.ensures at c.get.ensures) ∙ c.if-get-ne0.false) _
          (rw c.node_at-at.ensures at c.get-c.ensures) c.requires.standing).few,
      omega arith,
    ),
  );
}

pub returns-in_err-average : goal.returns-in_err-average
returns-in_err-average c =
    rw c.from_residual.ensures (node-flat _ _ _ _ _ (sym (rw c.node_at-at.ensures at c.get.ensures) ∙ c.if-get-ne0.false) _
    (rw c.node_at-at.ensures at c.get-c.ensures) (omega arith) _ c.in_err-average.ensures)

pub split_leaf-requires : goal.split_leaf-requires
split_leaf-requires c =
    splittable _ _ _ _ _ (sym (rw c.node_at-at.ensures at c.get.ensures) ∙ c.if-get-ne0.false) _ (rw c.node_at-at.ensures at c.get-c.ensures)
    (omega arith) _ c.in_ok-average.average c.in_ok-average.ensures c.requires.standing

pub returns : goal.returns
returns c =
    node-split _ _ _ _ _ (sym (rw c.node_at-at.ensures at c.get.ensures) ∙ c.if-get-ne0.false) _ (rw c.node_at-at.ensures at c.get-c.ensures)
    (omega arith) _ c.in_ok-average.average c.in_ok-average.ensures _ c.split_leaf.ensures
