use Rattle.std.proofs.Common.{arith}
use Rattle.monomial.proofs.Firsts.{starts-wide}
use Rattle.index_image.proofs.Places.{entry-room}
use Rattle.kd_dimension.proofs.Choosing.{power-read}
use Rattle.kd_dimension.proofs.power_in.Goals as goal

pub monomial_from-lm-requires : goal.monomial_from-lm-requires
monomial_from-lm-requires c = record {
  fact = rw c.entry_at.ensures (c.args.image.now.ready.lms c.args.e c.requires.1);
  g_in_bounds = rw c.entry_at.ensures (omega (arith, entry-room c.args.image.now.bytes.now _ c.args.image.now.ready c.args.e c.requires.1));
}

pub power_of-requires : goal.power_of-requires
power_of-requires c = record { id = omega arith; starts = starts-wide c.monomial_from-lm.ensures.starts }

pub returns : goal.returns
returns c = power-read _ _ _ _ _ _ _ c.entry_at.ensures c.monomial_from-lm.ensures.is c.power_of.ensures
