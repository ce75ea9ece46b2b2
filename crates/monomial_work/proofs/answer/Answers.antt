use Rattle.words.specs.Words.{words}
use Rattle.monomial.proofs.Firsts.{first-whole}
use Rattle.monomial_work.specs.Served.{answer}
use Rattle.monomial_work.proofs.Laws.{ready}
use native.Mathlib.Omega.{arith}
use Rattle.monomial.specs.declared.ordered_ops.Op.{Op}
use Rattle.monomial_work.proofs.answer.Goals as goal

pub gcd-requires : goal.gcd-requires
gcd-requires c =
    let a = c.args.a.now in
    let b = c.args.b.now in
    let t = c.args.out.now in let all = ready Op.Gcd (words a) (words b) t c.requires.canonical c.requires.canonical_2 c.requires.in_bounds in
    record { starts = all.0; starts_2 = all.1.0; b_in_bounds = all.1.1 }

pub mul-requires : goal.mul-requires
mul-requires c =
    let a = c.args.a.now in
    let b = c.args.b.now in
    let t = c.args.out.now in let all = ready Op.Product (words a) (words b) t c.requires.canonical c.requires.canonical_2 c.requires.in_bounds in
    record { starts = all.0; starts_2 = all.1.0; b_in_bounds = all.1.1 }

pub quotient-requires : goal.quotient-requires
quotient-requires c =
    let a = c.args.a.now in
    let b = c.args.b.now in
    let t = c.args.out.now in
    let r = ready Op.Quotient (words a) (words b) t c.requires.canonical c.requires.canonical_2 c.requires.in_bounds in record { starts = r.0; starts_2 = r.1.0; in_bounds = (omega arith, r.1.1) }

pub fraction_division-requires : goal.fraction_division-requires
fraction_division-requires c =
    let a = c.args.a.now in
    let b = c.args.b.now in
    let t = c.args.out.now in let all = ready Op.Ratio (words a) (words b) t c.requires.canonical c.requires.canonical_2 c.requires.in_bounds in
    record { starts = all.0; starts_2 = all.1.0; b_in_bounds = all.1.1 }

pub returns-in-Gcd : goal.returns-in-Gcd
unfolding answer
returns-in-Gcd c =
    rw c.in-Gcd.is (let e = rw (first-whole c.requires.canonical, first-whole c.requires.canonical_2) at c.gcd.ensures in (e.value, e.out_after))

pub returns-in-Product : goal.returns-in-Product
unfolding answer
returns-in-Product c =
    rw c.in-Product.is (let e = rw (first-whole c.requires.canonical, first-whole c.requires.canonical_2) at c.mul.ensures in (e.value, e.out_after))

pub returns-in-Quotient : goal.returns-in-Quotient
unfolding answer
returns-in-Quotient c =
    rw c.in-Quotient.is (rw (first-whole c.requires.canonical, first-whole c.requires.canonical_2) at c.quotient.ensures)

pub returns-in-Ratio : goal.returns-in-Ratio
unfolding answer
returns-in-Ratio c =
    rw c.in-Ratio.is (let e = rw (first-whole c.requires.canonical, first-whole c.requires.canonical_2) at c.fraction_division.ensures in (e.value, e.out_after))
