use native.Mathlib.Omega.{arith}
use Rattle.words.specs.Words.{words}
use Rattle.index_image.proofs.Bounds.{entry-inside, width-least}
use Rattle.kd_slots.proofs.Writing.{mapped_still}
use Rattle.kd_insert.proofs.Monomials.{basics, basics-tracked, First, monomial-hangs, monomial-inserted}
use Rattle.kd_insert.proofs.insertion.insert_monomial.Goals.{After-write_masked}
use Rattle.kd_insert.proofs.insertion.insert_monomial.Goals as goal

-- the entry's row is written
first : (c : After-write_masked) → First c.args.image.now (words c.args.lm.now) c.track.new.image c.write_masked.new.image c.args.s
first c = (c.track.ensures, (rw c.entry_at.ensures at c.write_masked.ensures, (c.requires.canonical, (c.requires.kind_value, c.requires.room.few))))

pub track-requires-clause-maxima : goal.track-requires-clause-maxima
track-requires-clause-maxima c = (basics c.requires.room).present

pub write_masked-requires-clause-mapped : goal.write_masked-requires-clause-mapped
write_masked-requires-clause-mapped c = (basics-tracked (basics c.requires.room) c.requires.canonical c.track.ensures).mapped

pub write_masked-requires-clause-inside : goal.write_masked-requires-clause-inside
write_masked-requires-clause-inside c =
    let R = c.requires.room.head.range in omega (arith, c.entry_at.ensures, entry-inside c.args.s R c.args.s.entries c.requires.room.few, width-least c.args.s R)

pub hang-requires-clause-mapped : goal.hang-requires-clause-mapped
hang-requires-clause-mapped c =
    let M = (basics-tracked (basics c.requires.room) c.requires.canonical c.track.ensures).mapped in
    mapped_still c.track.new.image c.write_masked.new.image c.args.s c.entry_at.result _ M (omega (arith, c.entry_at.ensures))
    (omega (arith, c.entry_at.ensures, entry-inside c.args.s M.range c.args.s.entries c.requires.room.few)) c.write_masked.auto.image c.write_masked.ensures

pub hang-requires-clause-hangs : goal.hang-requires-clause-hangs
hang-requires-clause-hangs c = monomial-hangs c.requires.room (λ j. grind arith) (first (goal.at.hang-requires-clause-hangs c).After-write_masked)

pub returns : goal.returns
returns c = monomial-inserted c.requires.room (λ j. grind arith) (first (goal.at.returns c).After-write_masked) c.hang.ensures
