-- A refusal's number fits the payload of a word. Assumes nothing.
use Prim.Native.Nat.{◌<◌}
use native.Mathlib.Omega.{arith}
use Rattle.refusals.specs.Numbers.{number}
use Rattle.refusals.specs.declared.Refusal.{Refusal}
use Rattle.refusals.specs.declared.Refusal.TheVariants.{Sizes, ShortImage, Unsound, NoList, ShortBuffer, NotServed, BadWords, Full, TooLarge, NoLabel}

pub number_small : (e : Refusal) → number e < 268435456
unfolding number
number_small Sizes = omega arith
number_small ShortImage = omega arith
number_small Unsound = omega arith
number_small NoList = omega arith
number_small ShortBuffer = omega arith
number_small NotServed = omega arith
number_small BadWords = omega arith
number_small Full = omega arith
number_small TooLarge = omega arith
number_small NoLabel = omega arith
