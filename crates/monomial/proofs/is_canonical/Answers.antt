use native.Mathlib.Omega.{arith}
use borrow.Author.Tests.{lt-ltb, ne_eqb}
use mathlib.Core.Path.{◌≡◌, refl}
use mathlib.Core.Bool.{false, ◌&&◌}
use Prim.Native.Nat.{ℕ, zero, suc, ◌*◌}
use lib.Dec.{eqb, ltb}
use lib.ListN.{length}
use Rattle.std.specs.Prelude.{Some, None}
use Rattle.words.specs.Words.{words}
use Rattle.words.proofs.Laws.{length-words}
use Rattle.monomial.specs.Monomial.{number, lent, some_words}
use Rattle.monomial.proofs.Canon.{front-short, some-told}
use Rattle.monomial.proofs.is_canonical.Goals as goal

pub overflow_mul-result : goal.overflow_mul-result
overflow_mul-result c =
    omega (
      arith,
      some-told _ _ c.in-Some.ensures,
      front-short (number c.args.kind) c.args.variables 0 (words c.args.s.now),
      length-words c.args.s.now,
    )

some_fits : (m n l : ℕ) → Some n ≡ some_words m → eqb (4 * n) l ≡ (ltb 0 l && eqb (4 * m) l)
some_fits zero n zero e = cc
some_fits zero n (suc l) e = cc
some_fits (suc m) n zero e = let z : n ≡ suc m = cc in rw (z, ne_eqb (4 * suc m) 0 (λ q. omega arith))
some_fits (suc m) n (suc l) e = let z : n ≡ suc m = cc in rw (z, lt-ltb 0 (suc l) (omega arith))

none-fits : (m l : ℕ) → None ≡ some_words m → false ≡ (ltb 0 l && eqb (4 * m) l)
none-fits zero zero e = refl
none-fits zero (suc l) e = rw (lt-ltb 0 (suc l) (omega arith), ne_eqb 0 (suc l) (λ q. omega arith))
none-fits (suc m) l e = cc

pub returns-in-Some : goal.returns-in-Some
unfolding lent
returns-in-Some c = some_fits _ _ (length c.args.s.now) c.in-Some.ensures

pub returns-in-None : goal.returns-in-None
unfolding lent
returns-in-None c = none-fits _ (length c.args.s.now) c.in-None.ensures
