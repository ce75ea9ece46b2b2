-- Doors keep a map sound. Assumes nothing.
use mathlib.Core.Path.{◌≡◌, refl}
use mathlib.Core.Bool.{Bool, true, false, cond}
use mathlib.Core.List.{List}
use Prim.Native.Nat.{ℕ}
use Rattle.words.specs.Words.{words, paste_w}
use Rattle.fast_compare.specs.Map.{value_of, State, after, rebuild}
use Rattle.fast_compare.specs.Layout.{encode, Is}
use Rattle.fast_compare.proofs.Exact.{pasted}
use Rattle.fast_compare.proofs.Kept.{after_is, rebuild-is}
use Rattle.label_work.specs.Door.{value_lent, left, Asking, Rebuilt}
use Rattle.std.proofs.Common.{Result}
use Rattle.refusals.specs.declared.Refusal.{Refusal}
use Rattle.label_work.proofs.Replies.{lent-is-good}

-- a door's call keeps the map sound, whatever bytes are lent beside it
pub asking-keeps : (n : ℕ) (ratio : List ℕ) (r : Result ℕ Refusal) (entry exit : List ℕ) → Asking n ratio r entry exit → (st : State) → Is st entry → Is (left st n ratio) exit
unfolding left
asking-keeps n ratio r entry exit a st i = go (value_lent st.variables n ratio) refl (a.sound st i).1
  where
    go : (b : Bool) → value_lent st.variables n ratio ≡ b → exit ≡ paste_w entry 0 (encode (cond (value_lent st.variables n ratio) (after st (value_of n (words ratio))) st))
        → Is (cond (value_lent st.variables n ratio) (after st (value_of n (words ratio))) st) exit
    go true e w = rw e (after_is entry exit st (value_of n (words ratio)) i (lent-is-good st.variables n ratio e) (rw e at w))
    go false e w = rw e (rw (rw e at w) (pasted st i.valid entry i.room))

pub rebuilt-keeps : (r : ℕ) (entry exit : List ℕ) → Rebuilt r entry exit → (st : State) → Is st entry → Is (rebuild st) exit
rebuilt-keeps r entry exit a st i = rebuild-is entry exit st i (a.sound st i).1
