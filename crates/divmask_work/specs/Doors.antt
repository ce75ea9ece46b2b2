-- What each door returns and every byte after it. The questions stand in document 01's order. Assumes nothing.
use Rattle.std.specs.Prelude.{Bool, cond, List, [], ◌∷◌, ℕ, eqb, leb, length}
use Rattle.words.specs.Kinds.{answer_word}
use Rattle.words.specs.Words.{words, paste_w}
use Rattle.monomial.specs.Monomial.{lent, pow}
use Rattle.divmask.specs.Mask.{mask}
use Rattle.divmask.specs.Tracker.{maxima_lent, updated, grown}
use Rattle.divmask.specs.declared.DivMaskTestResult.{DivMaskTestResult}
use Rattle.divmask.specs.declared.DivMaskTestResult.TheVariants.{NotDivisible, Unsure}

-- a question with its number, which is given where the reply is no; else what the rest gives
abbrev pub ask : Bool → ℕ → ℕ → ℕ
ask reply number rest = cond reply rest number

-- the bytes after a door that returned n: served is 0, and a refusal changes nothing
abbrev pub after : ℕ → List ℕ → List ℕ → List ℕ
after n done kept = cond (eqb n 0) done kept

-- room for one word
abbrev pub fits : List ℕ → Bool
fits out = leb 4 (length out)

-- the mask of a lent monomial, as a bare word
unfoldable pub mask_number : ℕ → List ℕ → List ℕ → List ℕ → ℕ
mask_number m maxima monomial out = ask (maxima_lent m maxima) 1 (ask (lent 1 m monomial) 7 (ask (fits out) 5 0))

unfoldable pub mask_bytes : ℕ → List ℕ → List ℕ → List ℕ → List ℕ
mask_bytes m maxima monomial out = after (mask_number m maxima monomial out) (paste_w out 0 (mask m (words maxima) (pow 1 (words monomial)) ∷ [])) out

-- the mask test's answers in numbers: 0 for not divisible, 1 for unsure. It has no question.
unfoldable pub test_number : DivMaskTestResult → ℕ
test_number NotDivisible = 0
test_number Unsure = 1

-- the lent maxima changed in place
unfoldable pub update_number : ℕ → List ℕ → List ℕ → ℕ
update_number m maxima monomial = ask (maxima_lent m maxima) 1 (ask (lent 1 m monomial) 7 0)

unfoldable pub update_bytes : ℕ → List ℕ → List ℕ → List ℕ
update_bytes m maxima monomial = after (update_number m maxima monomial) (paste_w maxima 0 (updated (words monomial) (words maxima))) maxima

-- growth beyond a percentage, yes 1 or no 0
unfoldable pub growth_number : ℕ → List ℕ → List ℕ → ℕ
growth_number m maxima out = ask (maxima_lent m maxima) 1 (ask (fits out) 5 0)

unfoldable pub growth_bytes : ℕ → List ℕ → ℕ → List ℕ → List ℕ
growth_bytes m maxima percentage out = after (growth_number m maxima out) (paste_w out 0 (answer_word (cond (grown m (words maxima) percentage) 1 0) ∷ [])) out
