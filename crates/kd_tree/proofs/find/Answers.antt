use Rattle.query_words.proofs.Laying.{nodes-is}
use Rattle.kd_tree.proofs.Rooting.{root-ready, root-rows, root-numbers, root-answered}
use Rattle.words.specs.Words.{words}
use mathlib.Core.Path.{◌∙◌}
use native.Mathlib.Omega.{arith}
use Rattle.kd_tree.proofs.find.Goals as goal

pub invariant_of-query : goal.invariant_of-query
invariant_of-query c = record { laid = c.requires.root.asks.laid }

pub first-requires : goal.first-requires
first-requires c = rw (c.num.ensures.0 ∙ nodes-is (words c.args.q.now)) (root-rows _ _ _ c.requires)

pub search_root-r-requires : goal.search_root-r-requires
search_root-r-requires c = record { ready = rw (c.first.ensures.0 ∙ (c.num.ensures.0 ∙ nodes-is (words c.args.q.now)), c.first.ensures.1.0) (root-ready _ _ _ c.requires); acc_value = c.first.ensures.1.1 }

pub overflow_cast-rows : goal.overflow_cast-rows
overflow_cast-rows c =
    let num = c.num in
    let first = c.first in
    let search-root = c.search_root-r in
    omega (
      arith,
      (root-numbers _ _ _ _ _ _ _ (rw (first.ensures.0 ∙ (num.ensures.0 ∙ nodes-is (words c.args.q.now)), first.ensures.1.0) at
          search-root.ensures) c.requires).rows-to,
      c.rows.ensures,
    )

pub put-requires : goal.put-requires
put-requires c =
    let num = c.num in
    let first = c.first in
    let search-root = c.search_root-r in
    omega (arith, (root-numbers _ _ _ _ _ _ _ (rw (first.ensures.0 ∙ (num.ensures.0 ∙ nodes-is (words c.args.q.now)), first.ensures.1.0) at search-root.ensures) c.requires).room)

pub returns : goal.returns
returns c =
    let num = c.num in
    let first = c.first in
    let search-root = c.search_root-r in
    let rows = c.rows in
    let put = c.put in
    root-answered _ _ _ _ _ _ _ (rw (first.ensures.0 ∙ (num.ensures.0 ∙ nodes-is (words c.args.q.now)), first.ensures.1.0) at search-root.ensures) _
    (rw rows.ensures at put.ensures) (λ j. (c.type_inv.image j).fits) _ c.best.ensures _ c.checked_sub.ensures
