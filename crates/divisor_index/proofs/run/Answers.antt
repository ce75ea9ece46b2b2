use Rattle.refusals.specs.Numbers.{told, number}
use Rattle.divisor_index.proofs.Replying.{clash, run-three, run-four, run-five, run-served}
use native.Mathlib.Omega.{arith}
use Rattle.divisor_index.proofs.run.Goals as goal

pub returns-then-not-sound : goal.returns-then-not-sound
unfolding told number
returns-then-not-sound c = run-three _ _ _ (λ S. clash _ (c.if-not-sound.true) (c.sound.ensures.1 S))

pub returns-then-not-is_list : goal.returns-then-not-is_list
unfolding told number
returns-then-not-is_list c = run-four _ _ _ (c.sound.ensures.0 (c.if-not-sound.false)) (λ l. clash _ (c.if-not-is_list.true) (c.is_list.ensures.1 l))

pub returns-then-answers-count : goal.returns-then-answers-count
unfolding told number
returns-then-answers-count c =
    run-five _ _ _ (c.sound.ensures.0 (c.if-not-sound.false)) (c.is_list.ensures.0 (c.if-not-is_list.false)) (omega (arith, c.if-answers-count.true, c.count.ensures))

pub run-requires : goal.run-requires
run-requires c = record { sound = (c.sound.ensures.0 (c.if-not-sound.false)); list = (c.is_list.ensures.0 (c.if-not-is_list.false)); list_in_bounds = omega (arith, c.if-answers-count.false, c.count.ensures) }

pub returns : goal.returns
unfolding told
returns c =
    run-served _ _ _ (c.sound.ensures.0 (c.if-not-sound.false)) (c.is_list.ensures.0 (c.if-not-is_list.false)) _ _ (omega (arith, c.if-answers-count.false, c.count.ensures)) c.run.ensures
