use native.Mathlib.Omega.{arith}
use mathlib.Core.Path.{refl, ◌∙◌}
use Rattle.words.proofs.Laws.{put_w-paste}
use Rattle.monomial_work.proofs.put_answer.Goals as goal

pub returns : goal.returns
returns c = (refl, c.put.ensures ∙ rw c.answer_word.ensures (put_w-paste _ 0 _ (omega arith)))
