use Rattle.monomial.proofs.Firsts.{begins, seen, first-bytes}
use native.Mathlib.Omega.{arith}
use Rattle.words.proofs.Fields.{is-end-true, is-end-false}
use Rattle.monomial.proofs.Walks.{within}
use Rattle.monomial.proofs.Divisions.{begin, all-passed, exceeds, goes_on}
use Rattle.monomial.proofs.divides.Goals as goal

pub loop-i-init : goal.loop-i-init
loop-i-init c = begin (begins (omega arith) c.requires.starts) (begins (omega arith) c.requires.starts_2)

pub get-x-requires : goal.get-x-requires
get-x-requires c = omega (arith, within c.loop-i.invariant.ra, first-bytes 1 c.args.a.now)

pub returns-then-is_end : goal.returns-then-is_end
returns-then-is_end c =
    let loop = c.loop-i in
    all-passed loop.invariant (seen _ loop.invariant.ra c.get-x.ensures) (is-end-true _ c.is_end.ensures c.if-is_end.true)

pub get-y-requires : goal.get-y-requires
get-y-requires c = omega (arith, within c.loop-i.invariant.rb, first-bytes 1 c.args.b.now)

pub returns-then-y-x : goal.returns-then-y-x
returns-then-y-x c =
    let get = c.get-x in
    let loop = c.loop-i in
    exceeds loop.invariant (seen _ loop.invariant.ra get.ensures) (seen _ loop.invariant.rb c.get-y.ensures)
    (is-end-false _ c.is_end.ensures c.if-is_end.false) c.if-y-x.true

pub step-i-requires : goal.step-i-requires
step-i-requires c =
    let loop = c.loop-i in
    omega (arith, within loop.invariant.ra, first-bytes 1 c.args.a.now)

pub overflow_add-j : goal.overflow_add-j
overflow_add-j c =
    omega (arith, within c.loop-i.invariant.rb, first-bytes 1 c.args.b.now)

pub loop-i-smaller : goal.loop-i-smaller
loop-i-smaller c = omega (arith, within c.loop-i.invariant.rb)

pub loop-i-preserved : goal.loop-i-preserved
loop-i-preserved c =
    let if1 = c.if-is_end in
    let is-end = c.is_end in
    let get = c.get-x in
    let loop = c.loop-i in
    rw (c.step-i.ensures, c.upper_half.ensures) (goes_on loop.invariant (seen _ loop.invariant.ra get.ensures)
    (seen _ loop.invariant.rb c.get-y.ensures) (is-end-false _ is-end.ensures if1.false) c.if-y-x.false)
