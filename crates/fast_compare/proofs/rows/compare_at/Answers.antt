use native.Mathlib.Omega.{arith}
use mathlib.Core.Path.{sym, ap, ◌∙◌}
use Prim.Native.Nat.{◌+◌}
use Rattle.std.specs.declared.cmp.Ordering.TheVariants.{Equal}
use Rattle.std.proofs.lemmas.Cmp.{ranked}
use mathlib.Core.Path.{◌≡◌}
use Rattle.monomial_ordering.proofs.Orders.{compare-equal}
use Rattle.words.specs.Words.{words}
use Rattle.monomial_ordering.specs.Order.{order}
use Rattle.monomial.specs.Monomial.{first}
use Rattle.std.proofs.Common.{rules}
use Rattle.fast_compare.specs.Map.{value_of, cmp}
use Rattle.fast_compare.specs.Layout.{value_at}
use Rattle.fast_compare.proofs.Scans.{row_fits, total-lent, ratio-starts, ratio-first, cmp-index, cmp-ratio, value-index, value-ratio}
use Rattle.fast_compare.proofs.rows.compare_at.Goals as goal

pub get-requires : goal.get-requires
get-requires c = omega (arith, row_fits c.args.map.now c.args.at c.requires.has_ratio)

pub overflow_add-a : goal.overflow_add-a
overflow_add-a c = omega (arith, row_fits c.args.map.now c.args.at c.requires.has_ratio)

pub overflow_mul-a : goal.overflow_mul-a
overflow_mul-a c = omega (arith, row_fits c.args.map.now c.args.at c.requires.has_ratio)

pub slice_bounds-ord_by_totals-count : goal.slice_bounds-ord_by_totals-count
slice_bounds-ord_by_totals-count c = omega (arith, row_fits c.args.map.now c.args.at c.requires.has_ratio)

pub slice_bounds-ord_by_totals-start : goal.slice_bounds-ord_by_totals-start
slice_bounds-ord_by_totals-start c = omega (arith, row_fits c.args.map.now c.args.at c.requires.has_ratio)

pub ord_by_totals-requires : goal.ord_by_totals-requires
ord_by_totals-requires c = record { starts = ratio-starts c.args.map.now c.requires.has_ratio.vars (c.args.at + 1) c.requires.has_ratio.some; total_of = (total-lent c.args.map.now c.args.at c.args.s).0 c.requires.total_at; starts_2 = c.requires.starts; total_of_2 = c.requires.total_of }

pub returns-in-Equal : goal.returns-in-Equal
returns-in-Equal c = λ m s. let W = words c.args.map.now in
    let a = c.args.at in
    let q = value_of c.args.index (first 2 (words c.args.ratio.now)) in
    let i : c.payload-i.result ≡ c.args.index = ranked c.payload-i.result c.args.index Equal (sym c.in-Equal.is ∙ c.cmp.ensures) in
    let o : c.ord_by_totals.result ≡ cmp (value_at W m a) q = c.ord_by_totals.ensures ∙ rw (ratio-first c.args.map.now m (a + 1) s)
    (ap (λ r. order 2 r q.ratio) (sym (value-ratio W m a)) ∙ cmp-ratio (value_at W m a) q (omega (arith, value-index W m a, c.get.ensures, c.payload-i.ensures))) in
    search rules

pub returns-in_default : goal.returns-in_default
returns-in_default c = λ m s. let v = value_at (words c.args.map.now) m c.args.at in
    let q = value_of c.args.index (first 2 (words c.args.ratio.now)) in
    let x : c.payload-i.result ≡ v.index = c.payload-i.ensures ∙ rw c.get.ensures (sym (value-index (words c.args.map.now) m c.args.at)) in
    c.cmp.ensures ∙ rw x (cmp-index v q (λ e. c.in_default.not-Equal (c.cmp.ensures ∙ compare-equal c.payload-i.result c.args.index (x ∙ e))))
