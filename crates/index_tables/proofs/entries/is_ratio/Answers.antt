use native.Mathlib.Omega.{arith}
use mathlib.Core.Path.{sym, ◌∙◌}
use Prim.Native.Nat.{◌+◌, ◌-◌, ◌≤◌}
use lib.ListN.{length}
use Rattle.words.specs.Words.{words}
use Rattle.words.proofs.Laws.{length-words}
use Rattle.words.proofs.Answers.{refuse}
use Rattle.monomial.specs.Monomial.{first}
use Rattle.monomial.specs.Operations.{result_words}
use Rattle.monomial.specs.Walk.{power_at}
use Rattle.monomial.specs.declared.ordered_ops.Op.{Op}
use Rattle.monomial.proofs.Firsts.{begins, seen, first-bytes, first-canonical}
use Rattle.monomial.proofs.Walks.{falls}
use Rattle.index_tables.proofs.Merging.{MergeFits, begin, fits, finished, powered, stopped, again}
use Rattle.index_tables.proofs.entries.is_ratio.Goals.{At-loop-i, Else-u-eq0, Start}
use Rattle.index_tables.proofs.entries.is_ratio.Goals as goal

room : (a : Start) → length (result_words Op.Ratio (first 1 (words a.args.a.now)) (first 1 (words a.args.b.now))) ≤ length (words a.args.c.now)
room a = omega (arith, a.requires.b_in_bounds, length-words a.args.c.now)

fitting : (c : At-loop-i) → MergeFits c.loop-i.invariant ((omega (arith, c.requires.b_in_bounds, length-words c.args.c.now)))
fitting c = fits c.loop-i.invariant ((omega (arith, c.requires.b_in_bounds, length-words c.args.c.now)))

-- where a variable is left, the powers that both monomials have of it
small : (c : Else-u-eq0) → let get = c.get-x in
    let get2 = c.get-y in
    let upper = c.upper-u in
    (power_at get.result upper.result 0 ≤ 32767) × (power_at get2.result upper.result 0 ≤ 32767)
small c =
    let loop = c.loop-i in
    let k = powered loop.invariant ((omega (arith, c.requires.b_in_bounds, length-words c.args.c.now))) (seen _ loop.invariant.ra c.get-x.ensures)
    (seen _ loop.invariant.rb c.get-y.ensures)
    c.upper-u.ensures c.get-w.ensures c.if-u-eq0.false (first-canonical (omega arith) c.requires.starts)
    (first-canonical (omega arith) c.requires.starts_2) in
    (k.a_small, k.b-small)

pub loop-i-init : goal.loop-i-init
loop-i-init c =
    begin (words c.args.c.now) (begins (omega arith) c.requires.starts) (begins (omega arith) c.requires.starts_2)

pub get-x-requires : goal.get-x-requires
get-x-requires c = omega (arith, (fitting (goal.at.get-x-requires c).At-loop-i).ia, first-bytes 1 c.args.a.now)

pub get-y-requires : goal.get-y-requires
get-y-requires c = omega (arith, (fitting (goal.at.get-y-requires c).At-loop-i).jb, first-bytes 1 c.args.b.now)

pub get-w-requires : goal.get-w-requires
get-w-requires c = omega (arith, (fitting (goal.at.get-w-requires c).At-loop-i).free, length-words c.args.c.now)

pub returns-then-u-eq0 : goal.returns-then-u-eq0
returns-then-u-eq0 c =
    let loop = c.loop-i in
    let get = c.get-x in
    let get2 = c.get-y in
    finished loop.invariant (room (goal.at.returns-then-u-eq0 c).Start) (seen _ loop.invariant.ra get.ensures)
    (seen _ loop.invariant.rb get2.ensures) c.upper-u.ensures c.get-w.ensures c.if-u-eq0.true

pub overflow_add-p : goal.overflow_add-p
overflow_add-p c = omega (arith, c.power_at.ensures, (small (goal.at.overflow_add-p c).Else-u-eq0).0)

pub overflow_sub-p : goal.overflow_sub-p
overflow_sub-p c = omega (arith, c.power_at-q.ensures, (small (goal.at.overflow_sub-p c).Else-u-eq0).1)

pub agrees-requires : goal.agrees-requires
agrees-requires c =
    let k = small (goal.at.agrees-requires c).Else-u-eq0 in
    (omega (arith, c.upper_id.ensures), omega (arith, c.power_at.ensures, c.power_at-q.ensures, k.0, k.1))

pub returns-then-not-agrees : goal.returns-then-not-agrees
returns-then-not-agrees c =
    let loop = c.loop-i in
    let power_at = c.power_at-q in
    let power-at2 = c.power_at in
    let upper-id = c.upper_id in
    refuse
    (stopped loop.invariant (room (goal.at.returns-then-not-agrees c).Start)
    (seen _ loop.invariant.ra c.get-x.ensures) (seen _ loop.invariant.rb c.get-y.ensures)
    c.upper-u.ensures c.get-w.ensures c.if-u-eq0.false
    (power-at2.result + 32768 - power_at.result) (rw (power-at2.ensures, power_at.ensures))
    (sym (rw upper-id.ensures at c.agrees.ensures) ∙ c.if-not-agrees.true))

pub place_after-n-requires : goal.place_after-n-requires
place_after-n-requires c = (fitting (goal.at.place_after-n-requires c).At-loop-i).few

pub step-i-requires : goal.step-i-requires
step-i-requires c =
    omega (arith, (fitting (goal.at.step-i-requires c).At-loop-i).ia, first-bytes 1 c.args.a.now)

pub step-j-requires : goal.step-j-requires
step-j-requires c =
    omega (arith, (fitting (goal.at.step-j-requires c).At-loop-i).jb, first-bytes 1 c.args.b.now)

pub loop-i-smaller : goal.loop-i-smaller
loop-i-smaller c =
    let upper = c.upper-u in
    let get2 = c.get-y in
    let get = c.get-x in
    let loop = c.loop-i in
    let k = fitting (goal.at.loop-i-smaller c).At-loop-i in
    rw (c.step-i.ensures, c.step-j.ensures)
    (falls get.result get2.result upper.result loop.i loop.j _ _ upper.ensures k.ia k.jb)

pub loop-i-preserved : goal.loop-i-preserved
loop-i-preserved c =
    let loop = c.loop-i in
    let power_at = c.power_at-q in
    let power-at2 = c.power_at in
    let upper-id = c.upper_id in
    let agrees = c.agrees in
    rw (c.step-i.ensures, c.step-j.ensures)
    (again loop.invariant (room (goal.at.loop-i-preserved c).Start)
    (seen _ loop.invariant.ra c.get-x.ensures) (seen _ loop.invariant.rb c.get-y.ensures)
    c.upper-u.ensures c.get-w.ensures c.if-u-eq0.false
    (power-at2.result + 32768 - power_at.result) (rw (power-at2.ensures, power_at.ensures))
    (sym (rw upper-id.ensures at agrees.ensures) ∙ c.if-not-agrees.false) c.place_after-n.ensures)
