use mathlib.Core.Path.{refl}
use native.Mathlib.Omega.{arith}
use Prim.Native.Nat.{ℕ, ◌+◌, ◌*◌, ◌≤◌}
use lib.ListN.{length, drop}
use Rattle.words.specs.Words.{words}
use Rattle.words.proofs.Laws.{length-words}
use Rattle.monomial.specs.Monomial.{to_end, ended}
use Rattle.monomial.proofs.Canon.{if-some, or-none}
use Rattle.monomial.proofs.Ends.{end-within}
use Rattle.monomial.proofs.known_at.Goals as goal

pub words_at-requires : goal.words_at-requires
words_at-requires c =
    rw c.words_to_end.ensures (if-some (to_end 0 (drop c.args.at (words c.args.s.now))) (λ (n : ℕ). 4 * (c.args.at + n) ≤ length c.args.s.now)
    (λ h. omega (arith, end-within c.args.at _ (words c.args.s.now) refl h, length-words c.args.s.now)))

pub returns : goal.returns
unfolding ended
returns c = rw (c.words_at.ensures, c.words_to_end.ensures, or-none)
