use Rattle.std.proofs.Common.{◌∙◌, arith}
use Rattle.kd_tree.proofs.Visiting.{standing, scan-ready, scan-done, branch-ready, branch-done, few-rows, as-node, as-branch}
use Rattle.kd_tree.proofs.search_root.Goals as goal

pub split_node-requires : goal.split_node-requires
split_node-requires c = record { standing = rw (c.shape.ensures, c.rows.ensures) (standing _ _ _ _ _ _ _ _ c.requires.ready); dim_bound = omega arith }

pub scan-requires : goal.scan-requires
scan-requires c = record { ready_leaf = scan-ready _ _ _ _ _ _ _ _ _ _ (rw (c.shape.ensures, c.rows.ensures) at c.in-None.ensures) c.requires.ready; acc_value = c.requires.acc_value }

pub returns-in-None : goal.returns-in-None
returns-in-None c =
    rw c.scan.ensures.1 (scan-done _ _ _ _ _ _ _ _ _ _ (rw (c.shape.ensures, c.rows.ensures) at c.in-None.ensures) _ _ c.scan.ensures.0)

pub with_rows-requires : goal.with_rows-requires
with_rows-requires c =
    few-rows _ _ _ _ _ _ _ _ (branch-ready _ _ _ _ _ _ _ _ _ _ _ (rw (c.shape.ensures, c.rows.ensures) at c.in-Some.ensures) c.requires.ready)

pub search-requires : goal.search-requires
search-requires c = record {
  ready = rw (c.with_rows.ensures.0, c.with_rows.ensures.1.0) (as-node _ _ _ _ _ _ _ _
      (branch-ready _ _ _ _ _ _ _ _ _ _ _ (rw (c.shape.ensures, c.rows.ensures) at c.in-Some.ensures) c.requires.ready));
  acc_value = (c.with_rows.ensures.1.1 ∙ c.requires.acc_value, omega arith);
}

pub returns-in-Some : goal.returns-in-Some
returns-in-Some c =
    branch-done _ _ _ _ _ _ _ _ _ _ _ (rw (c.shape.ensures, c.rows.ensures) at c.in-Some.ensures) _ _ _ _
    (as-branch _ _ _ _ _ _ _ _ _ _ _ _ _ (rw (c.with_rows.ensures.0, c.with_rows.ensures.1.0) at c.search.ensures))
