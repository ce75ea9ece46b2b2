use Rattle.words.specs.Words.{words}
use native.Mathlib.Omega.{arith}
use Rattle.monomial.specs.Monomial.{first}
use mathlib.Core.Path.{sym, ◌∙◌}
use Rattle.monomial.proofs.Firsts.{starts-wide, starts-whole, first-whole}
use Rattle.index_image.proofs.Reading.{front-words, gcd-held}
use Rattle.index_image.proofs.stored.meet.Goals as goal

pub divides-requires : goal.divides-requires
divides-requires c = record { starts = rw (front-words c.args.acc.now c.args.n) (starts-wide (starts-whole c.requires.canonical)); starts_2 = c.requires.starts }

pub returns-then-divides : goal.returns-then-divides
returns-then-divides c =
    let h = gcd-held c.args.acc.now c.args.n (first 1 (words c.args.other.now))
    (λ i. omega (arith, c.slice_known-1.given i)) (omega (arith, c.requires.acc_len, c.requires.n_bound)) c.requires.canonical
    c.requires.canonical_2
    (sym (rw (front-words c.args.acc.now c.args.n, first-whole c.requires.canonical) at c.divides.ensures)
    ∙ c.if-divides.true) in record { r_value = h.long; acc_after = h.kept }
