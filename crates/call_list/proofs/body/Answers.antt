use native.Mathlib.Omega.{arith}
use lib.ListN.{length-take}
use mathlib.Core.Path.{sym}
use Rattle.words.specs.Words.{words}
use Rattle.words.proofs.Laws.{length-words}
use Rattle.call_list.proofs.Parting.{body-front, body-most}
use Rattle.call_list.proofs.body.Goals as goal

pub overflow_mul-result : goal.overflow_mul-result
overflow_mul-result c = omega (arith, c.well_formed, c.body_words-n.ensures, body-most (words c.args.list.now), length-words c.args.list.now)

pub slice_bounds-result-end : goal.slice_bounds-result-end
slice_bounds-result-end c = sym (simp length-take (omega (arith, c.body_words-n.ensures, body-most (words c.args.list.now), length-words c.args.list.now)))

pub returns : goal.returns
returns c = body-front _ _ (rw c.body_words-n.ensures)
