use native.Mathlib.Omega.{arith}
use mathlib.Core.Path.{refl, sym, ap, ◌∙◌}
use Rattle.kd_node.specs.Path.{visits_less, visits_other}
use Rattle.kd_tree.proofs.Visiting.{scan-ready, scan-done, branch-ready, branch-done, branch-falls, few-rows, less-ready, next_small, less-falls, numbers, growing, halfway, skipped, skip-fits, ret-neither, ret-stopped, ret-less, other-ready, other_place, other-falls, ret-other}
use Rattle.kd_tree.proofs.+branch_search_search.Goals as goal

pub branch_search-returns-in-Neither : goal.branch_search-returns-in-Neither
branch_search-returns-in-Neither t c =
    rw c.requires.acc_value (ret-neither _ _ _ _ _ _ _ _ _ _ _ c.path_at-path.ensures (ap visits_less c.in-Neither.is) (ap visits_other c.in-Neither.is) c.requires.ready_branch.small)

-- ---- the less side alone
pub branch_search-search-a-requires : goal.branch_search-search-a-requires
branch_search-search-a-requires t c =
    let path = c.path_at-path.ensures in
    let ready = c.requires.ready_branch in (
      omega (arith, less-falls _ _ _ _ _ _ _ _ _ _ _ path ready, c.decreases),
      (less-ready _ _ _ _ _ _ _ _ _ _ _ path ready, (c.requires.acc_value, next_small _ _ _ _ _ _ _ _ _ _ _ path ready)),
    )

pub branch_search-overflow_sub-rows : goal.branch_search-overflow_sub-rows
branch_search-overflow_sub-rows t c = rw (c.rows.ensures, c.rows-in-Less.ensures) (growing _ _ _ _ _ _ _ _ _ _ _ c.path_at-path.ensures _ _ _ _ c.search-a.ensures c.requires.ready_branch).more

pub branch_search-grow-requires : goal.branch_search-grow-requires
branch_search-grow-requires t c =
    let n = numbers _ _ _ _ _ _ _ _ _ _ _ c.path_at-path.ensures c.requires.ready_branch in
    let g = growing _ _ _ _ _ _ _ _ _ _ _ c.path_at-path.ensures _ _ _ _ c.search-a.ensures c.requires.ready_branch in
    record {
      k_bound = (omega (arith, n.row, n.few), omega (arith, n.room, g.long));
      added_bound = rw (c.rows.ensures, c.rows-in-Less.ensures) g.fits;
    }

pub branch_search-returns-in-Less : goal.branch_search-returns-in-Less
branch_search-returns-in-Less t c = ret-less _ _ _ _ _ _ _ _ _ _ _ c.path_at-path.ensures _ _ _ _ _ _ (halfway _ _ _ _ _ _ _ _ _ _ _ c.path_at-path.ensures _ _ _ _ c.search-a.ensures (ap visits_less c.in-Less.is) _ _ _ (rw (c.rows.ensures, c.rows-in-Less.ensures) at c.grow.ensures)) (ap visits_other c.in-Less.is)

-- ---- the other side alone
pub branch_search-grow-o-requires : goal.branch_search-grow-o-requires
branch_search-grow-o-requires t c =
    let n = numbers _ _ _ _ _ _ _ _ _ _ _ c.path_at-path.ensures c.requires.ready_branch in
    record { k_bound = (omega (arith, n.row, n.few), n.room); added_bound = skip-fits _ _ _ _ _ _ _ _ _ _ _ c.path_at-path.ensures c.requires.ready_branch }

pub branch_search-overflow_add-lo : goal.branch_search-overflow_add-lo
branch_search-overflow_add-lo t c =
    let ready = c.requires.ready_branch in
    let p = skipped _ _ _ _ _ _ _ _ _ _ _ c.path_at-path.ensures (ap visits_less c.in-Other.is) ready.small _ _ _ c.grow-o.ensures in
    omega (arith, other_place _ _ _ _ _ _ _ _ _ _ _ c.path_at-path.ensures _ _ _ _ _ _ p ready)

pub branch_search-search-requires : goal.branch_search-search-requires
branch_search-search-requires t c =
    let path = c.path_at-path.ensures in
    let ready = c.requires.ready_branch in
    let p = skipped _ _ _ _ _ _ _ _ _ _ _ path (ap visits_less c.in-Other.is) ready.small _ _ _ c.grow-o.ensures in (
      omega (arith, other-falls _ _ _ _ _ _ _ _ _ _ _ path _ _ _ _ _ _ p ready, c.decreases),
      (other-ready _ _ _ _ _ _ _ _ _ _ _ path _ _ _ _ _ _ p ready, (c.requires.acc_value, next_small _ _ _ _ _ _ _ _ _ _ _ path ready)),
    )

pub branch_search-returns-in-Other : goal.branch_search-returns-in-Other
branch_search-returns-in-Other t c =
    let p = skipped _ _ _ _ _ _ _ _ _ _ _ c.path_at-path.ensures (ap visits_less c.in-Other.is) c.requires.ready_branch.small _ _ _ c.grow-o.ensures in
    ret-other _ _ _ _ _ _ _ _ _ _ _ c.path_at-path.ensures _ _ _ _ _ _ p refl (ap visits_other c.in-Other.is) _ _ _ _ c.search.ensures

-- ---- both sides
pub branch_search-search-a-requires-in-Both : goal.branch_search-search-a-requires-in-Both
branch_search-search-a-requires-in-Both t c =
    let path = c.path_at-path.ensures in
    let ready = c.requires.ready_branch in (
      omega (arith, less-falls _ _ _ _ _ _ _ _ _ _ _ path ready, c.decreases),
      (less-ready _ _ _ _ _ _ _ _ _ _ _ path ready, (c.requires.acc_value, next_small _ _ _ _ _ _ _ _ _ _ _ path ready)),
    )

pub branch_search-overflow_sub-rows-in-Both : goal.branch_search-overflow_sub-rows-in-Both
branch_search-overflow_sub-rows-in-Both t c = rw (c.rows-in-Both.ensures, c.rows-in-Both-2.ensures) (growing _ _ _ _ _ _ _ _ _ _ _ c.path_at-path.ensures _ _ _ _ c.search-a-in-Both.ensures c.requires.ready_branch).more

pub branch_search-grow-o-requires-in-Both : goal.branch_search-grow-o-requires-in-Both
branch_search-grow-o-requires-in-Both t c =
    let n = numbers _ _ _ _ _ _ _ _ _ _ _ c.path_at-path.ensures c.requires.ready_branch in
    let g = growing _ _ _ _ _ _ _ _ _ _ _ c.path_at-path.ensures _ _ _ _ c.search-a-in-Both.ensures c.requires.ready_branch in
    record {
      k_bound = (omega (arith, n.row, n.few), omega (arith, n.room, g.long));
      added_bound = rw (c.rows-in-Both.ensures, c.rows-in-Both-2.ensures) g.fits;
    }

pub branch_search-returns-then-not-goes_on : goal.branch_search-returns-then-not-goes_on
branch_search-returns-then-not-goes_on t c =
    let p = halfway _ _ _ _ _ _ _ _ _ _ _ c.path_at-path.ensures _ _ _ _ c.search-a-in-Both.ensures (ap visits_less c.in-Both.is) _ _ _ (rw (c.rows-in-Both.ensures, c.rows-in-Both-2.ensures) at c.grow-o-in-Both.ensures) in
    ret-stopped _ _ _ _ _ _ _ _ _ _ _ c.path_at-path.ensures _ _ _ _ _ _ p (sym c.goes_on.ensures ∙ c.if-not-goes_on.true)

pub branch_search-overflow_add-lo-in-Both : goal.branch_search-overflow_add-lo-in-Both
branch_search-overflow_add-lo-in-Both t c =
    let p = halfway _ _ _ _ _ _ _ _ _ _ _ c.path_at-path.ensures _ _ _ _ c.search-a-in-Both.ensures (ap visits_less c.in-Both.is) _ _ _ (rw (c.rows-in-Both.ensures, c.rows-in-Both-2.ensures) at c.grow-o-in-Both.ensures) in
    omega (arith, other_place _ _ _ _ _ _ _ _ _ _ _ c.path_at-path.ensures _ _ _ _ _ _ p c.requires.ready_branch)

pub branch_search-search-requires-in-Both : goal.branch_search-search-requires-in-Both
branch_search-search-requires-in-Both t c =
    let path = c.path_at-path.ensures in
    let ready = c.requires.ready_branch in
    let p = halfway _ _ _ _ _ _ _ _ _ _ _ c.path_at-path.ensures _ _ _ _ c.search-a-in-Both.ensures (ap visits_less c.in-Both.is) _ _ _ (rw (c.rows-in-Both.ensures, c.rows-in-Both-2.ensures) at c.grow-o-in-Both.ensures) in (
      omega (arith, other-falls _ _ _ _ _ _ _ _ _ _ _ path _ _ _ _ _ _ p ready, c.decreases),
      (
        other-ready _ _ _ _ _ _ _ _ _ _ _ path _ _ _ _ _ _ p ready,
        (sym c.goes_on.ensures ∙ c.if-not-goes_on.false, next_small _ _ _ _ _ _ _ _ _ _ _ path ready),
      ),
    )

pub branch_search-returns-else-not-goes_on : goal.branch_search-returns-else-not-goes_on
branch_search-returns-else-not-goes_on t c =
    let p = halfway _ _ _ _ _ _ _ _ _ _ _ c.path_at-path.ensures _ _ _ _ c.search-a-in-Both.ensures (ap visits_less c.in-Both.is) _ _ _ (rw (c.rows-in-Both.ensures, c.rows-in-Both-2.ensures) at c.grow-o-in-Both.ensures) in
    ret-other _ _ _ _ _ _ _ _ _ _ _ c.path_at-path.ensures _ _ _ _ _ _ p (sym c.goes_on.ensures ∙ c.if-not-goes_on.false) (ap visits_other c.in-Both.is) _ _ _ _ c.search-in-Both.ensures

-- ---- a node
pub search-scan-requires : goal.search-scan-requires
search-scan-requires t c = record {
  ready_leaf = scan-ready _ _ _ _ _ _ _ _ _ _ (rw c.rows.ensures at c.in-None.ensures) c.requires.ready;
  acc_value = c.requires.acc_value.0;
}

pub search-returns-in-None : goal.search-returns-in-None
search-returns-in-None t c =
    rw c.scan.ensures.1 (scan-done _ _ _ _ _ _ _ _ _ _ (rw c.rows.ensures at c.in-None.ensures) _ _ c.scan.ensures.0)

pub search-with_rows-requires : goal.search-with_rows-requires
search-with_rows-requires t c =
    few-rows _ _ _ _ _ _ _ _ (branch-ready _ _ _ _ _ _ _ _ _ _ _ (rw c.rows.ensures at c.in-Some.ensures) c.requires.ready)

pub search-branch_search-requires : goal.search-branch_search-requires
search-branch_search-requires t c =
    let opened = rw c.rows.ensures at c.in-Some.ensures in (
      omega (arith, branch-falls _ _ _ _ _ _ _ _ _ _ _ opened c.requires.ready, c.decreases),
      (
        rw (c.with_rows.ensures.0, c.with_rows.ensures.1.0) (branch-ready _ _ _ _ _ _ _ _ _ _ _ opened c.requires.ready),
        c.with_rows.ensures.1.1 ∙ c.requires.acc_value.0,
      ),
    )

pub search-returns-in-Some : goal.search-returns-in-Some
search-returns-in-Some t c =
    branch-done _ _ _ _ _ _ _ _ _ _ _ (rw c.rows.ensures at c.in-Some.ensures) _ _ _ _
    (rw (c.with_rows.ensures.0, c.with_rows.ensures.1.0) at c.branch_search.ensures)
