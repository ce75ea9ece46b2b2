use Prim.Native.Nat.{◌+◌, ◌-◌, ◌*◌}
use native.Mathlib.Omega.{arith}
use Rattle.words.specs.Words.{words}
use Rattle.words.proofs.Drafts.{part_of}
use Rattle.monomial.proofs.Firsts.{first-whole}
use Rattle.index_image.specs.Shape as at
use Rattle.kd_insert.proofs.Tracking.{tracked-back}
use Rattle.kd_insert.proofs.insertion.track.Goals as goal

pub update-requires-clause-maxima : goal.update-requires-clause-maxima
update-requires-clause-maxima c = rw (part_of c.args.image.now at.maxima_at c.args.s.variables (96 + 4 * c.args.s.variables - 96) (omega arith)) c.requires.maxima

pub returns : goal.returns
returns c =
    tracked-back c.args.image.now c.args.s.variables (96 + 4 * c.args.s.variables - 96) c.update.new.maxima (words c.args.monomial.now) (omega arith) c.requires.room
    (rw (first-whole c.requires.canonical) at c.update.ensures)
