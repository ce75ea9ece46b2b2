use mathlib.Core.Path.{refl}
use native.Mathlib.Omega.{arith}
use Prim.Native.Nat.{ℕ, ◌+◌, ◌*◌, ◌≤◌}
use lib.ListN.{length, drop}
use Rattle.words.specs.Words.{words}
use Rattle.words.proofs.Laws.{length-words}
use Rattle.monomial.specs.Monomial.{number, front, found}
use Rattle.monomial.proofs.Canon.{front-within, if-some, or-none}
use Rattle.monomial.proofs.canonical_at.Goals as goal

pub words_at-requires : goal.words_at-requires
words_at-requires c =
    let k = number c.args.kind in
    rw c.canonical_words.ensures (if-some (front k c.args.variables 0 (drop c.args.at (words c.args.s.now))) (λ (n : ℕ). 4 * (c.args.at + n) ≤ length c.args.s.now)
    (λ h. omega (arith, front-within k c.args.variables c.args.at _ (words c.args.s.now) refl h, length-words c.args.s.now)))

pub returns : goal.returns
unfolding found
returns c = rw (c.words_at.ensures, c.canonical_words.ensures, or-none)
