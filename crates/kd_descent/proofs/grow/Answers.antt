use native.Mathlib.Omega.{arith}
use Rattle.words.specs.Words.{words}
use Rattle.kd_descent.proofs.Writing.{row_written}
use Rattle.kd_descent.proofs.grow.Goals as goal

pub returns : goal.returns
returns c =
    row_written c.args.image.now c.grow_gcd.new.image _ c.args.s c.args.at c.get-c.result (words c.args.lm.now.monomial.now) c.grow_gcd.auto.image
    (omega (arith, c.requires.mapped.room, c.requires.row.inside)) c.get-c.ensures c.grow_gcd.ensures c.put.ensures
