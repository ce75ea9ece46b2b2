-- What the walks over products give. Assumes nothing.
use Rattle.std.specs.Prelude.{cond, List, [], ◌∷◌, ℕ, ◌+◌, eqb}
use Rattle.words.specs.Kinds.{kind, power, upper_half}
use Rattle.words.specs.Words.{words}
use Rattle.monomial.specs.declared.variables.Variables.{Variables}

-- the words in front of the first end word, or all where there is none: of a canonical monomial or ratio, those of its variables
unfoldable pub variable_words : List ℕ → List ℕ
variable_words [] = []
variable_words (w ∷ ws) = cond (eqb (kind w) 0) [] (w ∷ variable_words ws)

-- the words that an iterator over variables still has
unfoldable pub words_left : Variables → List ℕ
words_left it = variable_words (words it.rest.now)

-- the power in w where its upper half is u, else that of an absent variable
unfoldable pub power_at : ℕ → ℕ → ℕ → ℕ
power_at w u absent = cond (eqb (upper_half w) u) (power w) absent

-- the place after i where w, at i, has the upper half u, else i
unfoldable pub past : ℕ → ℕ → ℕ → ℕ
past i w u = cond (eqb (upper_half w) u) (i + 1) i
