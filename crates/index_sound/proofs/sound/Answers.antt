use Rattle.words.proofs.Answers.{refuse, last}
use Rattle.index_image.specs.Head.{HeadIs}
use Rattle.index_sound.proofs.Exact.{tables-sound, no-image}
use Rattle.index_sound.proofs.sound.Goals as goal

pub returns-in-Some : goal.returns-in-Some
unfolding HeadIs
returns-in-Some c =
    let e = tables-sound c.args.image.now c.in-Some.shape (rw c.in-Some.is at c.read.ensures) in
    last _ c.tables_ok.ensures e.0 e.1

pub returns-in-None : goal.returns-in-None
returns-in-None c = refuse (no-image c.args.image.now (rw c.in-None.is at c.read.ensures))
