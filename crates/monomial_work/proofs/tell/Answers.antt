use native.Mathlib.Omega.{arith}
use mathlib.Core.Path.{◌∙◌}
use lib.ListN.{length}
use borrow.Author.Tests.{le-leb}
use Rattle.words.proofs.Laws.{put_w-paste}
use Rattle.monomial_work.proofs.tell.Goals as goal

pub returns : goal.returns
returns c =
    let t = c.args.out.now in
    let h = le-leb 4 (length t) (omega arith) in
    record { number_is = rw h; bytes-are = rw h (c.put.ensures ∙ rw c.answer_word.ensures (put_w-paste t 0 _ (omega arith))) }
