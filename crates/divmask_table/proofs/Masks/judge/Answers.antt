use Rattle.std.proofs.Common.{◌-◌, sym, refl, ◌∙◌, arith}
use Rattle.words.specs.Words.{words}
use Rattle.words.proofs.Laws.{length-words}
use Rattle.words.proofs.Fields.{is-end-true, is-end-false}
use Rattle.divmask_table.proofs.Tabling.{going, ran_out, judged, wrong-end, no_power, known, go_on}
use Rattle.divmask_table.proofs.Masks.judge.Goals as goal

pub loop-i-init : goal.loop-i-init
loop-i-init c = going c.args.self.now.map.variables (words c.args.self.now.map.maxima.now) (words c.args.s.now) c.args.at c.args.self.now.map.lent.few

pub overflow_sub-n : goal.overflow_sub-n
overflow_sub-n c = c.loop-i.invariant.from

pub overflow_add-result : goal.overflow_add-result
overflow_add-result c = omega (arith, c.loop-i.invariant.few, c.args.self.now.map.lent.few)

pub returns-then-payload-n : goal.returns-then-payload-n
returns-then-payload-n c =
    wrong-end c.args.self.now.map.variables (words c.args.self.now.map.maxima.now) (words c.args.s.now) c.args.self.now.map.lent.few c.args.at
    c.loop-i.i c.loop-i.bound c.loop-i.masks c.loop-i.invariant c.get-w.result (omega (arith, length-words c.args.s.now)) c.get-w.ensures
    (c.loop-i.i - c.args.at) refl (is-end-true _ c.is_end.ensures c.if-is_end.true)
    (λ q. c.if-payload-n.true (c.payload.ensures ∙ q))

pub returns-then-is_end : goal.returns-then-is_end
returns-then-is_end c =
    judged c.args.self.now.map.variables (words c.args.self.now.map.maxima.now) (words c.args.s.now) c.args.self.now.map.lent.few c.args.at
    c.loop-i.i c.loop-i.bound c.loop-i.masks c.loop-i.invariant c.get-w.result (omega (arith, length-words c.args.s.now)) c.get-w.ensures
    (c.loop-i.i - c.args.at) refl (is-end-true _ c.is_end.ensures c.if-is_end.true)
    (sym c.payload.ensures ∙ c.if-payload-n.false)

pub returns-then-not-is_variable : goal.returns-then-not-is_variable
returns-then-not-is_variable c =
    no_power c.args.self.now.map.variables (words c.args.self.now.map.maxima.now) (words c.args.s.now) c.args.self.now.map.lent.few c.args.at
    c.loop-i.i c.loop-i.bound c.loop-i.masks c.loop-i.invariant c.get-w.result (omega (arith, length-words c.args.s.now)) c.get-w.ensures
    (is-end-false _ c.is_end.ensures c.if-is_end.false) (sym c.is_variable.ensures ∙ c.if-not-is_variable.true)

pub look_up-x-requires : goal.look_up-x-requires
look_up-x-requires c =
    rw (c.id-bound.ensures, c.power.ensures)
    (known c.args.self.now.map.variables (words c.args.self.now.map.maxima.now) (words c.args.s.now) c.args.self.now.map.lent.few c.args.at
    c.loop-i.i c.loop-i.bound c.loop-i.masks c.loop-i.invariant c.get-w.result (omega (arith, length-words c.args.s.now)) c.get-w.ensures
    (is-end-false _ c.is_end.ensures c.if-is_end.false) (sym c.is_variable.ensures ∙ c.if-not-is_variable.false))

pub loop-i-preserved : goal.loop-i-preserved
loop-i-preserved c =
    rw c.id-bound.ensures
    (go_on c.args.self.now.map.variables (words c.args.self.now.map.maxima.now) (words c.args.s.now) c.args.self.now.map.lent.few c.args.at
    c.loop-i.i c.loop-i.bound c.loop-i.masks c.loop-i.invariant c.get-w.result (omega (arith, length-words c.args.s.now)) c.get-w.ensures
    (is-end-false _ c.is_end.ensures c.if-is_end.false) (sym c.is_variable.ensures ∙ c.if-not-is_variable.false)
    c.look_up-x.result _
    (rw (c.id-bound.ensures, c.power.ensures) at c.look_up-x.ensures) refl)

pub returns : goal.returns
returns c =
    ran_out c.args.self.now.map.variables (words c.args.self.now.map.maxima.now) (words c.args.s.now) c.args.self.now.map.lent.few c.args.at
    c.loop-i.i c.loop-i.bound c.loop-i.masks c.loop-i.invariant (omega (arith, length-words c.args.s.now))
