use native.Mathlib.Omega.{arith}
use mathlib.Core.Path.{refl, ap, ◌∙◌}
use lib.ListN.{length}
use Prim.Native.Nat.{◌+◌, ◌*◌}
use Rattle.words.specs.Kinds.{payload}
use Rattle.call_list.proofs.Parting.{rest_of}
use Rattle.words.proofs.Laws.{length-words}
use Rattle.words.specs.Words.{words}
use Rattle.word_reader.proofs.Places.{end-of-list}
use Rattle.word_reader.proofs.Reading.{read-none, read-next, place-next}
use Rattle.word_reader.proofs.ReaderIterator.next.Goals as goal

pub returns-then-self-at-clause-steps : goal.returns-then-self-at-clause-steps
returns-then-self-at-clause-steps c =
    let stays = end-of-list (words c.args.self.now.list.now) c.args.self.now.at (omega (arith, c.if-self-at.true, length-words c.args.self.now.list.now)) in
    ((read-none c.args.self.now.list.now _ c.if-self-at.true, read-none c.args.self.now.list.now _ (omega (arith, c.if-self-at.true))), (refl, omega (arith, stays)))

pub returns-clause-steps : goal.returns-clause-steps
returns-clause-steps c =
    let back = rest_of (4 * (c.args.self.now.at + 1)) c.args.self.now.list.now in (
      read-next c.args.self.now.list.now _ _ c.args.self.now.at _ c.if-self-at.false back (c.payload-number.ensures ∙ ap payload c.get.ensures) c.body-body.ensures,
      (refl, omega (arith, place-next c.args.self.now.list.now _ _ c.args.self.now.at c.if-self-at.false back c.body-body.ensures)),
    )

pub returns-clause-goes : goal.returns-clause-goes
returns-clause-goes c =
    let e = read-next c.args.self.now.list.now _ _ c.args.self.now.at c.payload-number.result c.if-self-at.false (rest_of (4 * (c.args.self.now.at + 1)) c.args.self.now.list.now) (c.payload-number.ensures ∙ ap payload c.get.ensures) c.body-body.ensures in
    record { on = λ f. (tt, tt, omega (arith, ap length e)); keeps = tt; rests = λ f. tt }
