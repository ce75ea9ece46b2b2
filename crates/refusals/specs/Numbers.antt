-- The numbers of the refusals. Assumes nothing.
use Rattle.std.specs.Prelude.{ℕ, Result, Ok, Err}
use Rattle.refusals.specs.declared.Refusal.{Refusal}
use Rattle.refusals.specs.declared.Refusal.TheVariants.{Sizes, ShortImage, Unsound, NoList, ShortBuffer, NotServed, BadWords, Full, TooLarge, NoLabel}

unfoldable pub number : Refusal → ℕ
number Sizes = 1
number ShortImage = 2
number Unsound = 3
number NoList = 4
number ShortBuffer = 5
number NotServed = 6
number BadWords = 7
number Full = 8
number TooLarge = 9
number NoLabel = 10

-- what C is told: 0 is served
unfoldable pub told : Result Unit Refusal → ℕ
told (Ok _) = 0
told (Err r) = number r
