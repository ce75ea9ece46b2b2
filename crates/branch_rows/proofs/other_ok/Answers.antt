use Rattle.words.specs.Words.{words}
use Rattle.monomial.specs.Monomial.{Canonical}
use Rattle.index_image.specs.Shape as shape
use Rattle.index_image.specs.Rows.{monomial_in}
use Rattle.branch_rows.proofs.Testing.{other-answer}
use Rattle.index_image.proofs.Gcds.{in-canonical}
use Rattle.monomial.proofs.Firsts.{starts-wide, starts-whole, first-whole}
use Rattle.branch_rows.proofs.other_ok.Goals.{Start}
use Rattle.branch_rows.proofs.other_ok.Goals as goal

-- the gcd of the other side's row
good : (a : Start) → Canonical 1 a.args.image.now.shape.variables (monomial_in (words a.args.image.now.bytes.now) a.args.image.now.shape.variables (shape.gcd_at a.args.b))
good a = in-canonical (words a.args.image.now.bytes.now) a.args.image.now.shape.variables (shape.gcd_at a.args.b) a.requires.slots.one

pub returns : goal.returns
returns c =
    let get = c.get-tag in
    let power-of = c.power_of-p in
    other-answer (words c.args.image.now.bytes.now) c.args.image.now.shape c.args.at c.args.b get.result c.get.result
    power-of.result get.ensures c.get.ensures c.if-tag-s.false
    (rw (c.monomial_in-gcd.ensures.is, first-whole (good (goal.at.returns c).Start)) at power-of.ensures)

pub power_of-p-requires-clause-starts : goal.power_of-p-requires-clause-starts
power_of-p-requires-clause-starts c = rw c.monomial_in-gcd.ensures.is (starts-wide (starts-whole (good (goal.at.power_of-p-requires-clause-starts c).Start)))
