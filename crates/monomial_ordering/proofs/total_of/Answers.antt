use native.Mathlib.Omega.{arith}
use Rattle.words.proofs.Fields.{is-end-true, is-end-false}
use Rattle.monomial.proofs.Walks.{within}
use Rattle.monomial.proofs.Firsts.{begins, seen, first-bytes, first-canonical}
use Rattle.monomial.specs.Monomial.{number}
use Rattle.monomial.proofs.Canon.{number-some, number-few}
use Rattle.monomial_ordering.proofs.Orders.{total-begin, totalled, counted}
use Rattle.monomial_ordering.proofs.total_of.Goals as goal

pub loop-absent-init : goal.loop-absent-init
loop-absent-init c = total-begin (begins (number-some c.args.kind) c.requires.starts)

pub get-w-requires : goal.get-w-requires
get-w-requires c = omega (arith, within c.loop-absent.invariant.ra, first-bytes (number c.args.kind) c.args.s.now)

pub overflow_cast-result : goal.overflow_cast-result
overflow_cast-result c =
    let loop = c.loop-absent in
    omega (
      arith,
      (totalled (number-some c.args.kind) (number-few c.args.kind) loop.invariant (seen _ loop.invariant.ra c.get-w.ensures)
          (first-canonical (number-some c.args.kind) c.requires.starts) (is-end-true _ c.is_end.ensures c.if-is_end.true)).few,
    )

pub overflow_sub-result : goal.overflow_sub-result
overflow_sub-result c =
    let loop = c.loop-absent in
    omega (
      arith,
      (totalled (number-some c.args.kind) (number-few c.args.kind) loop.invariant (seen _ loop.invariant.ra c.get-w.ensures)
          (first-canonical (number-some c.args.kind) c.requires.starts) (is-end-true _ c.is_end.ensures c.if-is_end.true)).few,
    )

pub overflow_mul-result : goal.overflow_mul-result
overflow_mul-result c =
    let loop = c.loop-absent in
    rw c.bias-absent.ensures (omega (
      arith,
      (totalled (number-some c.args.kind) (number-few c.args.kind) loop.invariant (seen _ loop.invariant.ra c.get-w.ensures)
          (first-canonical (number-some c.args.kind) c.requires.starts) (is-end-true _ c.is_end.ensures c.if-is_end.true)).fits,
    ))

pub overflow_add-result : goal.overflow_add-result
overflow_add-result c =
    let loop = c.loop-absent in
    rw c.bias-absent.ensures (omega (
      arith,
      (totalled (number-some c.args.kind) (number-few c.args.kind) loop.invariant (seen _ loop.invariant.ra c.get-w.ensures)
          (first-canonical (number-some c.args.kind) c.requires.starts) (is-end-true _ c.is_end.ensures c.if-is_end.true)).fits,
    ))

pub returns-then-is_end : goal.returns-then-is_end
returns-then-is_end c =
    let loop = c.loop-absent in
    let t = totalled (number-some c.args.kind) (number-few c.args.kind) loop.invariant (seen _ loop.invariant.ra c.get-w.ensures)
    (first-canonical (number-some c.args.kind) c.requires.starts) (is-end-true _ c.is_end.ensures c.if-is_end.true) in
    record { sum = rw c.bias-absent.ensures t.is; variables = t.last }

pub overflow_add-sum : goal.overflow_add-sum
overflow_add-sum c =
    let loop = c.loop-absent in
    omega (
      arith,
      c.power-sum.ensures,
      (counted (number-some c.args.kind) (number-few c.args.kind) loop.invariant
          (seen _ loop.invariant.ra c.get-w.ensures) (is-end-false _ c.is_end.ensures c.if-is_end.false)).small,
    )

pub overflow_add-i : goal.overflow_add-i
overflow_add-i c =
    let loop = c.loop-absent in
    omega (arith, within loop.invariant.ra, first-bytes (number c.args.kind) c.args.s.now)

pub loop-absent-smaller : goal.loop-absent-smaller
loop-absent-smaller c = omega (arith, within c.loop-absent.invariant.ra)

pub loop-absent-preserved : goal.loop-absent-preserved
loop-absent-preserved c =
    let loop = c.loop-absent in
    rw c.power-sum.ensures (counted (number-some c.args.kind) (number-few c.args.kind) loop.invariant (seen _ loop.invariant.ra c.get-w.ensures)
    (is-end-false _ c.is_end.ensures c.if-is_end.false)).more
