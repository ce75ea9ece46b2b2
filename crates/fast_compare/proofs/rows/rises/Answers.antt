use native.Mathlib.Omega.{arith}
use mathlib.Core.Path.{◌≡◌, sym, ap, ◌∙◌}
use Prim.Native.Nat.{ℕ, ◌+◌, ◌-◌, ◌*◌}
use lib.ListN.{length, get_or, take, drop}
use borrow.Author.Tests.{ltb-true, lt-ltb}
use Rattle.words.specs.Kinds.{payload}
use Rattle.std.specs.declared.cmp.Ordering.TheVariants.{Less}
use Rattle.std.proofs.Common.{rules}
use Rattle.words.specs.Words.{words}
use Rattle.words.proofs.Tables.{never}
use Rattle.monomial.specs.Monomial.{first}
use Rattle.fast_compare.specs.Map.{Value, value_of, cmp}
use Rattle.fast_compare.specs.Layout.{value_at}
use Rattle.fast_compare.proofs.Ranks.{is-less}
use Rattle.fast_compare.proofs.Scans.{ratio-starts, ratio-first, total-lent, value-parts}
use Rattle.fast_compare.proofs.rows.rises.Goals.{After-compare_at}
use Rattle.fast_compare.proofs.rows.rises.Goals as goal

-- what `compare_at` says of the two rows
compared : (c : After-compare_at) → (let W = words c.args.map.now in let m = c.args.variables in
    c.compare_at.result ≡ cmp (value_at W m c.args.a) (value_at W m c.args.b))
compared c =
    let W = words c.args.map.now in
    let m = c.args.variables in
    let b = c.args.b in
    let e = ratio-first c.args.map.now m (b + 1) c.requires.row_ok_2.some in
    let i : c.payload-i.result ≡ payload (get_or W b 0) = c.payload-i.ensures ∙ ap (λ (x : ℕ). payload x) c.get.ensures in
    let lent = take (length c.args.map.now - 4 * (b + 1)) (drop (4 * (b + 1)) c.args.map.now) in
    let v : value_of c.payload-i.result (first 2 (words lent)) ≡ value_at W m b = rw (i, e) (sym (value-parts W m b)) in
    c.compare_at.ensures m c.requires.row_ok.some ∙ ap (λ (x : Value). cmp (value_at W m c.args.a) x) v

pub compare_at-requires-clause-starts : goal.compare_at-requires-clause-starts
compare_at-requires-clause-starts c = ratio-starts c.args.map.now c.args.variables (c.args.b + 1) c.requires.row_ok_2.some

pub compare_at-requires-clause-total_of : goal.compare_at-requires-clause-total_of
compare_at-requires-clause-total_of c = (total-lent c.args.map.now c.args.b c.args.t).0 c.requires.total_at_2

pub returns-then-below : goal.returns-then-below
returns-then-below c = (
  λ z. record {
    values = sym (compared (goal.at.returns-then-below c).After-compare_at) ∙ is-less c.compare_at.result (search rules);
    labels = omega (arith, ltb-true c.get-then-below.result c.get-then-below-2.result z, c.get-then-below.ensures, c.get-then-below-2.ensures);
  },
  λ h. lt-ltb c.get-then-below.result c.get-then-below-2.result (omega (arith, h.labels, c.get-then-below.ensures, c.get-then-below-2.ensures)),
)

pub returns-else-below : goal.returns-else-below
returns-else-below c = (
  λ z. never (sym c.if-below.false ∙ z),
  λ h. let less : c.compare_at.result ≡ Less = compared (goal.at.returns-else-below c).After-compare_at ∙ h.values in search rules,
)
