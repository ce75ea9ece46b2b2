use mathlib.Core.Path.{sym, ◌∙◌}
use Rattle.words.proofs.Answers.{passed}
use Rattle.words.proofs.Tables.{never}
use Rattle.words.proofs.Laws.{words_small}
use Rattle.fast_compare.proofs.Exact.{sound-for-iff}
use Rattle.label_sound.proofs.sound_for.Goals as goal

pub returns-then-head_ok : goal.returns-then-head_ok
returns-then-head_ok c =
    let t = rw c.get.ensures at c.ok.ensures in
    let s = sound-for-iff c.args.map.now c.args.variables c.args.capacity (words_small c.args.map.now (λ j. (c.type_inv.map j).fits)) in
    (λ z. s.0 (passed _ c.head_ok.ensures c.if-head_ok.true, t.0 z), λ h. t.1 (s.1 h).1)

pub returns-else-head_ok : goal.returns-else-head_ok
returns-else-head_ok c =
    let s = sound-for-iff c.args.map.now c.args.variables c.args.capacity (words_small c.args.map.now (λ j. (c.type_inv.map j).fits)) in
    (λ z. never (sym c.if-head_ok.false ∙ z), λ h. c.head_ok.ensures.1 (s.1 h).0)
