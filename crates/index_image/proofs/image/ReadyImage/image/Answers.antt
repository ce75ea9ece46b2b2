use native.Mathlib.Omega.{arith}
use Rattle.words.proofs.Laws.{length-words}
use Rattle.index_image.proofs.image.ReadyImage.image.Goals as goal

pub invariant_of-result : goal.invariant_of-result
invariant_of-result c = record {
  range = c.args.self.now.ready.range;
  room = omega (arith, c.args.self.now.ready.room, length-words c.args.self.now.bytes.now);
}
