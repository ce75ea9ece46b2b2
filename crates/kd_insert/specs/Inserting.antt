-- What an insert is asked, and what it leaves of an image. Assumes nothing.
use Rattle.std.specs.Prelude.{◌≡◌, List, [], ◌∷◌, ℕ, ◌+◌, ◌-◌, ◌<◌, length}
use Rattle.words.specs.Words.{words, paste_w}
use Rattle.words.specs.Tables.{part}
use Rattle.kd_theory.specs.Tree.{count}
use Rattle.index_theory.specs.Entries.{Entry}
use Rattle.index_theory.specs.State.{State}
use Rattle.index_theory.specs.Calls.{inserted}
use Rattle.index_image.specs.Layout.{encode, Is, Sound}
use Rattle.index_image.specs.Head.{HeadOk}
use Rattle.index_image.specs.Shape as at
use Rattle.index_image.specs.declared.Shape.{Shape}
use Rattle.kd_descent.specs.Growing.{Growth, grown_rows, place}

-- a sound image with this header, and fewer entries than its capacity
pub record Room (bs : List ℕ) (s : Shape) : Type 0 where
  pub sound : Sound bs
  pub head : HeadOk (words bs) (length bs) s
  pub few : s.entries < s.capacity

-- an entry of a ratio index; its number is given when it is inserted
abbrev pub signed : ℕ → List ℕ → List ℕ → Entry
signed i s l = record { number = 0; index = i; sign = s; lm = l }

-- the entry's number, and every byte
pub record Inserted (e : Entry) (r : ℕ) (entry exit : List ℕ) : Type 0 where
  pub number : (st : State) → Is st entry → r ≡ length st.entries
  pub bytes : (st : State) → Is st entry → exit ≡ paste_w entry 0 (encode (inserted st e))

-- ---- the tree, the permutation and the header with one entry more. The tree has all entries that the header counts.
pub record Hangs (W : List ℕ) (s : Shape) (lm : List ℕ) (lab : ℕ) : Type 0 where
  pub growth : Growth W s lm lab 0
  pub all : count growth.tree ≡ s.entries

unfoldable pub hung : (bs : List ℕ) (s : Shape) (lm : List ℕ) (lab : ℕ) → Growth (words bs) s lm lab 0 → List ℕ
hung bs s lm lab g =
    paste_w
    (paste_w (paste_w bs (at.node_at s 0) (grown_rows g)) (at.permutation_at s + place g) (s.entries ∷ part (words bs) (at.permutation_at s + place g) (s.entries - place g)))
    at.length_at ((s.entries + 1) ∷ [])
