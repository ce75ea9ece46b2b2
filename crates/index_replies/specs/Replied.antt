-- What a call leaves of an image: the theory's answer word, and the bytes of the theory's next state. Assumes nothing.
use Rattle.std.specs.Prelude.{◌≡◌, Result, Ok, Err, IfOk, List, ℕ, ◌<◌}
use Rattle.words.specs.Kinds.{answer_word, refusal_word}
use Rattle.words.specs.Words.{paste_w}
use Rattle.refusals.specs.declared.Refusal.{Refusal}
use Rattle.refusals.specs.Numbers.{number}
use Rattle.index_theory.specs.State.{State}
use Rattle.index_theory.specs.Calls.{Done}
use Rattle.index_image.specs.Layout.{encode, Is}

-- the word of a reply: that of an answer, or of a refusal
abbrev pub word_of : Result ℕ Refusal → ℕ
word_of (Ok n) = answer_word n
word_of (Err e) = refusal_word (number e)

-- a call on the image bs has the reply r and leaves the bytes bs': what f makes of the state that stands there
pub record Replied (f : State → Done) (bs bs' : List ℕ) (r : Result ℕ Refusal) : Type 0 where
  pub answer : (st : State) → Is st bs → word_of r ≡ (f st).answer
  pub small : IfOk r (λ n. n < 268435456)
  pub bytes : (st : State) → Is st bs → bs' ≡ paste_w bs 0 (encode (f st).state)
