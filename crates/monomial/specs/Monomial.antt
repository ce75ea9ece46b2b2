-- Canonical monomials and ratios as lists of words, and the powers that they hold, from document 01. Assumes nothing.
-- Here and above, k is the kind of the variables' words: 1 in a monomial, 2 in a ratio.
use Rattle.std.specs.Prelude.{◌≡◌, Bool, cond, not, ◌&&◌, List, [], ◌∷◌, ◌++◌, ℕ, zero, suc, ◌+◌, ◌*◌, ◌-◌, ◌<◌, eqb, leb, ltb, length, take, drop, Option, Some, None}
use Rattle.words.specs.Kinds.{kind, payload, ident, power, var_word, end_word}
use Rattle.words.specs.Words.{words}
use Rattle.monomial.specs.declared.Kind.{Kind}
use Rattle.monomial.specs.declared.Power.{Power}
use Rattle.monomial.specs.declared.Power.TheVariants.{Found, Absent}
use Rattle.monomial.specs.declared.Kind.TheVariants.{Monomial, Ratio}

-- the kind of the words of a monomial's variables, and of a ratio's
abbrev pub number : Kind → ℕ
number Monomial = 1
number Ratio = 2

-- what a word of kind k holds for the power 0: a ratio's powers are held with 32,768 added
abbrev pub bias : ℕ → ℕ
bias k = 32768 * (k - 1)

-- a variable's word with an id below b; its power is 1 to 32,767, in a ratio −32,767 to 32,767 and not 0
unfoldable pub is_var : ℕ → ℕ → ℕ → Bool
is_var k b w = eqb (kind w) k && (ltb (ident w) b && (ltb 0 (power w) && (leb (power w) (32767 + bias k) && not (eqb (power w) (bias k)))))

-- how many words the canonical monomial at the front has, its end word with them; 0 where there is none.
-- n variables of it went by, and the ids left are below b and fall
unfoldable pub front : ℕ → ℕ → ℕ → List ℕ → ℕ
front k b n [] = 0
front k b n (w ∷ ws) =
    cond (eqb (kind w) 0) (cond (eqb (payload w) n) (n + 1) 0) (cond (is_var k b w) (front k (ident w) (n + 1) ws) 0)

-- a number of words, where 0 stands for none
abbrev pub some_words : ℕ → Option ℕ
some_words zero = None
some_words (suc n) = Some (suc n)

-- the whole list is one canonical monomial (k = 1) or ratio (k = 2) in m variables
pub record Canonical (k m : ℕ) (ws : List ℕ) : Type 0 where
  pub some : 0 < length ws
  pub whole : front k m 0 ws ≡ length ws

-- a canonical monomial or ratio in m variables stands at the front of a list, whatever follows it
pub record Starts (k m : ℕ) (ws : List ℕ) : Type 0 where
  pub some : front k m 0 ws ≡ 0 → ⊥

-- the canonical monomial or ratio at the front of a list. An id has 12 bits.
unfoldable pub first : ℕ → List ℕ → List ℕ
first k ws = take (front k 4096 0 ws) ws

-- the bytes lent are exactly one canonical monomial or ratio in m variables
unfoldable pub lent : ℕ → ℕ → List ℕ → Bool
lent k m s = ltb 0 (length s) && eqb (4 * front k m 0 (words s)) (length s)

-- the bytes of the canonical monomial or ratio that starts at word `at`; none where there is no such
unfoldable pub found : ℕ → ℕ → List ℕ → ℕ → List ℕ
found k m s at = take (4 * front k m 0 (drop at (words s))) (drop (4 * at) s)

-- how many words there are up to the first end word, with it, where n went by; 0 where there is none
unfoldable pub to_end : ℕ → List ℕ → ℕ
to_end n [] = 0
to_end n (w ∷ ws) = cond (eqb (kind w) 0) (n + 1) (to_end (n + 1) ws)

-- the bytes from word `at` up to the first end word, with it: where a canonical monomial or ratio starts there, its bytes
unfoldable pub ended : List ℕ → ℕ → List ℕ
ended s at = take (4 * to_end 0 (drop at (words s))) (drop (4 * at) s)

-- what a list of words says of variable v: the bits of its power, or that it is absent
unfoldable pub find : ℕ → List ℕ → ℕ → Power
find k [] v = Absent
find k (w ∷ ws) v = cond (eqb (kind w) k && eqb (ident w) v) (Found (power w)) (find k ws v)

-- an absent variable has power 0
unfoldable pub power_of : ℕ → Power → ℕ
power_of k (Found p) = p
power_of k Absent = bias k

-- the power of variable v; in a ratio, the power + 32,768
unfoldable pub pow : ℕ → List ℕ → ℕ → ℕ
pow k ws v = power_of k (find k ws v)

-- the words of the variables below n that have the powers p; ids fall, power 0 is left out
unfoldable pub vars_of : ℕ → ℕ → (ℕ → ℕ) → List ℕ
vars_of k zero p = []
vars_of k (suc v) p = cond (eqb (p v) (bias k)) (vars_of k v p) (var_word k v (p v) ∷ vars_of k v p)

-- the monomial or ratio with the powers p. An id has 12 bits.
unfoldable pub monomial_of : ℕ → (ℕ → ℕ) → List ℕ
monomial_of k p = vars_of k 4096 p ++ (end_word (length (vars_of k 4096 p)) ∷ [])
