use native.Mathlib.Omega.{arith}
use mathlib.Core.Path.{◌≡◌, refl, ap, ◌∙◌}
use mathlib.Core.Logic.{inl}
use mathlib.Core.List.{List}
use Prim.Native.Nat.{ℕ}
use lib.ListN.{length}
use Rattle.std.specs.Borrow.{Bor}
use Rattle.std.specs.declared.iter.Enumerate.{Enumerate}
use Rattle.words.specs.Words.{words}
use Rattle.index_theory.specs.Calls.{calls}
use Rattle.word_reader.specs.declared.Reader.{Reader}
use Rattle.word_reader.specs.Reading.{read, calls_left}
use Rattle.word_reader.proofs.Reading.{read-list}
use Rattle.index_run.proofs.Running.{put_behind, running_none, running-sound, room-for-one, running-next, running-all}
use Rattle.index_run.proofs.run.Goals as goal

pub loop-i-init : goal.loop-i-init
loop-i-init c =
    let it = c.into_iter-i-iterator.result in
    let src : calls_left it.iter ≡ read (words c.args.list.now) = ap (λ (x : Enumerate Reader). calls_left x.iter) c.into_iter-i-iterator.ensures.into_iter_gives
    ∙ ap calls_left c.enumerate-i-items.ensures.source ∙ rw (c.new.ensures.1, ap (λ (x : Bor (List ℕ)). x.now) c.new.ensures.0) refl in
    let r : calls_left it.iter ≡ calls (words c.args.list.now) = src ∙ read-list _ c.requires.list in
    let n : it.count ≡ 0 = ap (λ (x : Enumerate Reader). x.count) c.into_iter-i-iterator.ensures.into_iter_gives ∙ c.enumerate-i-items.ensures.count in
    ((tt, tt, inl (omega (arith, n, ap length r, c.well_formed, c.requires.list_in_bounds))), tt, rw (r, n) (running_none _ _ _ c.requires.sound (λ j. (c.type_inv.image j).fits)), refl)

pub call-reply-requires : goal.call-reply-requires
call-reply-requires c = record { sound = running-sound _ _ _ c.requires.sound _ _ _ _ c.loop-i.invariant.2; in_bounds = omega (arith, c.loop-i.invariant.3) }

pub put-requires : goal.put-requires
put-requires c =
    let step = c.in-Some.ensures.steps in
    omega (arith, step.1, room-for-one _ _ _ c.requires.sound _ _ _ _ c.loop-i.invariant.2 _ _ step.0.0 c.requires.list_in_bounds)

pub loop-i-preserved : goal.loop-i-preserved
loop-i-preserved c =
    let step = c.in-Some.ensures.steps in
    let room = room-for-one _ _ _ c.requires.sound _ _ _ _ c.loop-i.invariant.2 _ _ step.0.0 c.requires.list_in_bounds in
    let word = put_behind c.loop-i.out _ c.in-Some.i _ _ (omega (arith, step.1, room)) refl c.put.ensures ∙ rw (step.1, c.word.ensures) in
    let ran = running-next _ _ _ c.requires.sound _ _ _ _ c.loop-i.invariant.2 _ _ step.0.0 c.requires.list_in_bounds _ _ _ c.call-reply.ensures word c.call-reply.auto.image in
    (c.in-Some.ensures.goes.keeps, tt, rw step.2 ran, c.call-reply.auto.q ∙ c.loop-i.invariant.3)

pub returns : goal.returns
returns c = running-all _ _ _ c.requires.sound _ _ _ _ c.loop-i.invariant.2 c.in-None.ensures.steps.0.0.0
