-- What a leaf's loops ask of an entry. Assumes nothing.
use Rattle.std.specs.Prelude.{Bool, ◌&&◌, List, ℕ, zero, suc, ◌+◌, ◌*◌, max, leb, ltb, get_or}
use Rattle.monomial.specs.Operations.{divides}
use Rattle.divmask.specs.Mask.{within}
use Rattle.index_image.specs.Shape as at
use Rattle.index_image.specs.Rows.{monomial_in}
use Rattle.index_image.specs.Walk.{label}
use Rattle.index_image.specs.declared.Shape.{Shape}
use Rattle.query_words.specs.Asked.{mask_in, vector_in, slot_in, mask_at_in, entry_width_in, to_in}

-- the mask and short exponent vector of entry e leave it open that it divides
unfoldable pub may_at : (W Q : List ℕ) → ℕ → Bool
may_at W Q e = within (get_or W (mask_at_in Q + e * entry_width_in Q) 0) (mask_in Q) && within (get_or W (mask_at_in Q + e * entry_width_in Q + 1) 0) (vector_in Q)

-- its lm or signature monomial divides
unfoldable pub divisor_at : (W : List ℕ) (s : Shape) (Q M : List ℕ) → ℕ → Bool
divisor_at W s Q M e = divides (monomial_in W s.variables (slot_in Q + e * at.entry_width s)) M

-- and its label counts, from `least` on
unfoldable pub counted : (W : List ℕ) (s : Shape) (Q M : List ℕ) → ℕ → ℕ → Bool
counted W s Q M least e = (leb least (label W s e) && ltb (label W s e) (to_in Q)) && divisor_at W s Q M e

-- from which label on an entry is larger than the one found, which is 0 or a place + 1
unfoldable pub least_above : (ℕ → ℕ) → ℕ → ℕ → ℕ
least_above lb from zero = from
least_above lb from (suc b) = max from (suc (lb b))
