use native.Mathlib.Omega.{arith}
use Rattle.monomial.specs.Monomial.{number}
use Rattle.monomial.proofs.Canon.{number-some}
use Rattle.monomial.proofs.Firsts.{begins, seen, first-bytes, first-canonical}
use Rattle.monomial.proofs.Walks.{within}
use Rattle.monomial.proofs.Divisions.{absent-here, found_here, found-later}
use Rattle.monomial.proofs.find_power.Goals as goal

pub loop-i-init : goal.loop-i-init
loop-i-init c = record { b = 4096; below = c.requires.id; ra = begins (number-some c.args.kind) c.requires.starts }

pub returns-then-u-upper : goal.returns-then-u-upper
returns-then-u-upper c =
    let k = number-some c.args.kind in
    rw c.power.ensures (found_here k (first-canonical k c.requires.starts) c.loop-i.invariant (seen _ c.loop-i.invariant.ra c.get-w.ensures)
    (omega (arith, c.upper_half-u.ensures, c.number.ensures)))

pub returns-then-u-upper-2 : goal.returns-then-u-upper-2
returns-then-u-upper-2 c =
    let k = number-some c.args.kind in
    absent-here k (first-canonical k c.requires.starts) c.loop-i.invariant (seen _ c.loop-i.invariant.ra c.get-w.ensures)
    (omega (arith, c.upper_half-u.ensures, c.number.ensures))

pub loop-i-preserved : goal.loop-i-preserved
loop-i-preserved c =
    let k = number-some c.args.kind in
    found-later k (first-canonical k c.requires.starts) c.loop-i.invariant (seen _ c.loop-i.invariant.ra c.get-w.ensures)
    (omega (arith, c.upper_half-u.ensures, c.number.ensures))

-- the end word is never passed
pub returns : goal.returns
returns c = absurd (omega (arith, within c.loop-i.invariant.ra, first-bytes (number c.args.kind) c.args.m.now))
