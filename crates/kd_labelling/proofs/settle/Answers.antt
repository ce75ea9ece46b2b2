use Rattle.std.proofs.Common.{rules}
use Rattle.words.specs.Words.{words}
use Rattle.fast_compare.specs.Map.{State, value_of, rebuild}
use Rattle.fast_compare.specs.Layout.{Is}
use Rattle.kd_labelling.proofs.Settling.{Retried, first_done, retried}
use Rattle.kd_labelling.proofs.settle.Goals.{In-Err-NoLabel}
use Rattle.kd_labelling.proofs.settle.Goals as goal

-- no label was free
no-label : (c : In-Err-NoLabel) (l : State) → Is l c.args.labels.now → Retried c.args.labels.now c.get_comparer.new.map l (value_of c.args.index (words c.args.ratio.now))
no-label c l i = retried _ _ l _ c.get_comparer.result i c.requires.good (c.get_comparer.ensures l i) (search rules)

pub rebuild-requires : goal.rebuild-requires
rebuild-requires c = let s = c.requires.sound in record { state = s.state; is = (no-label (goal.at.rebuild-requires c).In-Err-NoLabel s.state s.is).is }

pub get_comparer-requires-in-Err-NoLabel : goal.get_comparer-requires-in-Err-NoLabel
get_comparer-requires-in-Err-NoLabel c =
    let s = c.requires.sound in
    let n = no-label (goal.at.get_comparer-requires-in-Err-NoLabel c).In-Err-NoLabel s.state s.is in
    let again = n.again c.rebuild.new.map (c.rebuild.ensures s.state n.is) in record { sound = record { state = rebuild s.state; is = again.0 }; good = again.1 }

pub returns-in-Err-NoLabel : goal.returns-in-Err-NoLabel
returns-in-Err-NoLabel c = λ l i.
    let n = no-label (goal.at.returns-in-Err-NoLabel c).In-Err-NoLabel l i in
    let dealt = c.rebuild.ensures l n.is in
    let call = c.get_comparer-in-Err-NoLabel in
    n.done c.rebuild.new.map call.new.map call.result dealt (call.ensures (rebuild l) (n.again c.rebuild.new.map dealt).0)

pub returns : goal.returns
returns c = λ l i. first_done _ _ l _ c.get_comparer.result (c.get_comparer.ensures l i) (λ e. search rules)

pub returns-2 : goal.returns-2
returns-2 c = λ l i. first_done _ _ l _ c.get_comparer.result (c.get_comparer.ensures l i) (λ e. search rules)
