-- The parts of a word built from its parts, for every kind below 16. Assumes nothing.
use mathlib.Core.Path.{◌≡◌, sym, ◌∙◌}
use mathlib.Core.Bool.{Bool, true, false}
use Prim.Native.Nat.{ℕ, ◌+◌, ◌*◌, ◌^◌, ◌<◌}
use native.Mathlib.Omega.{arith}
use borrow.Author.Tests.{eqb-true, eqb-false}
use Rattle.words.specs.Kinds.{kind, payload, ident, power, upper_half, is_end, word_of, var_word}

pub kind-word : (k p : ℕ) → p < 2 ^ 28 → kind (word_of k p) ≡ k
kind-word k p h = omega arith

pub payload-word : (k p : ℕ) → p < 2 ^ 28 → payload (word_of k p) ≡ p
payload-word k p h = omega arith

pub kind-var : (k v p : ℕ) → v < 4096 → p < 65536 → kind (var_word k v p) ≡ k
kind-var k v p h l = omega arith

pub power-var : (k v p : ℕ) → p < 65536 → power (var_word k v p) ≡ p
power-var k v p l = omega arith

-- the upper half of a variable's word: its kind and its id
pub upper-var : (k v p : ℕ) → p < 65536 → upper_half (var_word k v p) ≡ 4096 * k + v
upper-var k v p l = omega arith

pub ident-var : (k v p : ℕ) → v < 4096 → p < 65536 → ident (var_word k v p) ≡ v
ident-var k v p h l = rw (upper-var k v p l) (omega arith)

pub var-fits : (k v p : ℕ) → k < 16 → v < 4096 → p < 65536 → var_word k v p < 2 ^ 32
var-fits k v p j h l = omega arith

-- what the test for the end of a monomial tells
pub is-end-true : (w : ℕ) {r : Bool} → r ≡ is_end w → r ≡ true → kind w ≡ 0
is-end-true w e t = eqb-true (kind w) 0 (sym e ∙ t)

pub is-end-false : (w : ℕ) {r : Bool} → r ≡ is_end w → r ≡ false → kind w ≡ 0 → ⊥
is-end-false w e t = eqb-false (kind w) 0 (sym e ∙ t)
