use mathlib.Core.Path.{refl, sym}
use native.Mathlib.Omega.{arith}
use Rattle.words.specs.Words.{words}
use Rattle.monomial.specs.Operations.{result_words}
use Rattle.monomial.specs.declared.ordered_ops.Op.TheVariants.{Gcd}
use Rattle.monomial.proofs.Firsts.{starts-wide, starts-whole}
use Rattle.index_image.specs.Shape as at
use Rattle.index_image.specs.Rows.{monomial_in}
use Rattle.index_image.proofs.Gcds.{in-canonical}
use Rattle.index_image.proofs.Slots.{MadeAside}
use Rattle.kd_descent.proofs.Writing.{starts-there, gcd-room, gcd-aside, gcd-good}
use Rattle.kd_descent.proofs.make_gcd.Goals.{After-gcd-r}
use Rattle.kd_descent.proofs.make_gcd.Goals as goal

-- the gcd made aside
aside : (c : After-gcd-r) → MadeAside c.gcd-r.new.out (result_words Gcd (monomial_in (words c.args.image.now) c.args.s.variables (at.gcd_at c.args.at)) (words c.args.lm.now)) c.gcd-r.result
aside c =
    gcd-aside (words c.args.image.now) c.args.s.variables (at.gcd_at c.args.at) _ (words c.args.lm.now) c.requires.mapped.range.vars-to c.requires.row.gcd c.requires.canonical c.monomial_in.ensures.is
    _ c.gcd-r.new.out c.gcd-r.result refl c.gcd-r.ensures.value c.gcd-r.ensures.out_after

pub gcd-r-requires : goal.gcd-r-requires
gcd-r-requires c =
    let room = gcd-room (words c.args.image.now) c.args.s.variables (at.gcd_at c.args.at) _ (words c.args.lm.now) c.requires.mapped.range.vars-to c.requires.row.gcd c.requires.canonical c.monomial_in.ensures.is in record {
      starts = starts-there (words c.args.image.now) c.args.s.variables (at.gcd_at c.args.at) _ (words c.args.lm.now) c.requires.mapped.range.vars-to c.requires.row.gcd c.requires.canonical c.monomial_in.ensures.is;
      starts_2 = starts-wide (starts-whole c.requires.canonical);
      b_in_bounds = omega (arith, room);
    }

pub overflow_mul-e : goal.overflow_mul-e
overflow_mul-e c = omega (arith, (aside (goal.at.overflow_mul-e c).After-gcd-r).room, c.gcd-r.auto.out)

pub slice_bounds-made-end : goal.slice_bounds-made-end
slice_bounds-made-end c = (aside (goal.at.slice_bounds-made-end c).After-gcd-r).room

pub slice_bounds-write_gcd-end : goal.slice_bounds-write_gcd-end
slice_bounds-write_gcd-end c = sym (aside (goal.at.slice_bounds-write_gcd-end c).After-gcd-r).size

pub write_gcd-requires-clause-lent : goal.write_gcd-requires-clause-lent
write_gcd-requires-clause-lent c =
    let d = aside (goal.at.write_gcd-requires-clause-lent c).After-gcd-r in
    let q = in-canonical (words c.args.image.now) c.args.s.variables (at.gcd_at c.args.at) c.requires.row.gcd in
    record { canonical = rw d.are (gcd-good c.args.s.variables _ (words c.args.lm.now) c.requires.mapped.range.vars-to q c.requires.canonical); whole = rw d.size (omega arith) }

pub returns : goal.returns
returns c = rw (aside (goal.at.returns c).After-gcd-r).are at c.write_gcd.ensures
