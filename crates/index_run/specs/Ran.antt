-- What a list of calls leaves. Assumes nothing.
use Rattle.std.specs.Prelude.{◌≡◌, List, ℕ}
use Rattle.words.specs.Words.{paste_w}
use Rattle.index_theory.specs.State.{State}
use Rattle.index_theory.specs.Calls.{Call, after, answers}
use Rattle.index_image.specs.Layout.{encode, Is}

-- the calls cs on the image bs leave the bytes bs', and in the buffer one answer word a call, one behind the other
pub record Ran (cs : List Call) (bs bs' out out' : List ℕ) : Type 0 where
  pub image : (st : State) → Is st bs → bs' ≡ paste_w bs 0 (encode (after st cs))
  pub answered : (st : State) → Is st bs → out' ≡ paste_w out 0 (answers st cs)
