use native.Mathlib.Omega.{arith}
use mathlib.Core.Path.{refl}
use Rattle.query_words.specs.Asked.{shape_in}
use Rattle.words.specs.Words.{words}
use Rattle.kd_leaf.proofs.Counting.{Tested, facts, may-is}
use Rattle.kd_leaf.proofs.Asked.may.Goals.{Start}
use Rattle.kd_leaf.proofs.Asked.may.Goals as goal

tested : (c : Start) → Tested c.args.self.now.image.now c.args.self.now.query.bytes.now (shape_in (words c.args.self.now.query.bytes.now)) c.args.e
tested c = (facts _ _ _ c.args.self.now.known).tested c.args.e c.requires

pub overflow_mul-at : goal.overflow_mul-at
overflow_mul-at c = rw c.num-2.ensures.0 (omega (arith, (tested (goal.at.overflow_mul-at c).Start).mask-small))

pub overflow_add-at : goal.overflow_add-at
overflow_add-at c = rw c.num-2.ensures.0 (omega (arith, (tested (goal.at.overflow_add-at c).Start).mask-small, c.num.ensures.0))

pub get-requires : goal.get-requires
get-requires c = rw c.num-2.ensures.0 (omega (arith, (tested (goal.at.get-requires c).Start).mask-room, c.num.ensures.0))

pub returns : goal.returns
returns c =
    may-is _ _ _ _ _ _ _ (tested (goal.at.returns c).Start).mask-fits (facts _ _ _ c.args.self.now.known).mask-fits (rw (c.num.ensures.0, c.num-2.ensures.0) refl)
    c.get.ensures c.pair.ensures c.within.ensures
