use native.Mathlib.Omega.{arith}
use Rattle.fast_compare.proofs.Exact.{sound-known, count_of}
use Rattle.fast_compare.proofs.ComparerMap.compare_position.Goals as goal

pub compare-requires-clause-row_bound : goal.compare-requires-clause-row_bound
compare-requires-clause-row_bound c = omega (arith, (c.row_at-row.ensures (sound-known c.args.self.now.sound).state (sound-known c.args.self.now.sound).is).0, count_of c.args.self.now.bytes.now (sound-known c.args.self.now.sound).state (sound-known c.args.self.now.sound).is)
