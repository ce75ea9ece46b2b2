-- Masks and the mask test, from document 01, for any number of variables. Assumes nothing.
-- Here and above, m is the number of variables, xs the maximum of each and p the power of each.
use Rattle.std.specs.Prelude.{Bool, cond, List, [], ◌∷◌, ℕ, zero, suc, max, ◌+◌, ◌*◌, ◌/◌, ◌%◌, ◌^◌, ◌≤◌, leb, ltb, get_or}
use Rattle.words.specs.Tables.{table}
use Rattle.monomial.specs.Operations.{all_below}
use Rattle.divmask.specs.declared.DivMaskTestResult.{DivMaskTestResult}
use Rattle.divmask.specs.declared.DivMaskTestResult.TheVariants.{NotDivisible, Unsure}

-- each variable has 32 / m bits, the first 32 % m one more
unfoldable pub bits : ℕ → ℕ → ℕ
bits m v = 32 / m + cond (ltb v (32 % m)) 1 0

-- the first bit of a variable comes after the bits of those before it
unfoldable pub first_bit : ℕ → ℕ → ℕ
first_bit m zero = 0
first_bit m (suc v) = first_bit m v + bits m v

-- the cutoff of a part, 1 to b, of a variable with b bits and maximum x
unfoldable pub cutoff : ℕ → ℕ → ℕ → ℕ
cutoff b x part = part * x / (b + 1)

-- the bits of a variable's first n parts, at power q: a bit is set when the power exceeds its cutoff
unfoldable pub parts : ℕ → ℕ → ℕ → ℕ → ℕ
parts b x q zero = 0
parts b x q (suc n) = parts b x q n + cond (ltb (cutoff b x (suc n)) q) (2 ^ n) 0

-- the bits of variable v at power q, from bit 0 on
unfoldable pub field : ℕ → List ℕ → ℕ → ℕ → ℕ
field m xs v q = parts (bits m v) (get_or xs v 0) q (bits m v)

-- the bits of the first n variables, each variable's from its first bit on
unfoldable pub fields : ℕ → List ℕ → (ℕ → ℕ) → ℕ → ℕ
fields m xs p zero = 0
fields m xs p (suc v) = fields m xs p v + field m xs v (p v) * 2 ^ first_bit m v

-- the mask
unfoldable pub mask : ℕ → List ℕ → (ℕ → ℕ) → ℕ
mask m xs p = fields m xs p m

-- the short exponent vector (Singular's term): the mask by the fixed map whose maxima are the numbers of bits, 1 for a variable without bits.
-- So bit j of a variable is set when its power is above j.
unfoldable pub bit_counts : ℕ → List ℕ
bit_counts m = table m (λ v. max 1 (bits m v) ∷ [])

unfoldable pub vector : ℕ → (ℕ → ℕ) → ℕ
vector m p = mask m (bit_counts m) p

-- what variable v adds to a mask at power q, and in the upper half what it adds to the short exponent vector
unfoldable pub both : ℕ → List ℕ → ℕ → ℕ → ℕ
both m xs v q = field m xs v q * 2 ^ first_bit m v + 4294967296 * (field m (bit_counts m) v q * 2 ^ first_bit m v)

-- bit i of a mask
unfoldable pub bit : ℕ → ℕ → ℕ
bit a i = a / 2 ^ i % 2

-- every bit of a is in b
unfoldable pub Within : ℕ → ℕ → Type 0
Within a b = (i : ℕ) → bit a i ≤ bit b i

-- the same as a test on masks
unfoldable pub within : ℕ → ℕ → Bool
within a b = all_below 32 (λ i. leb (bit a i) (bit b i))

-- the mask test: not divisible exactly where some bit of the first is not in the second
unfoldable pub tested : ℕ → ℕ → DivMaskTestResult
tested a b = cond (within a b) Unsure NotDivisible
