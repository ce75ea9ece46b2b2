-- The two sides of the c entries from place lo of the permutation on. Assumes nothing.
use Rattle.std.specs.Prelude.{◌≡◌, Bool, true, false, not, cond, Option, Some, None, List, ℕ, ◌+◌, ◌*◌, ◌<◌, ◌≤◌, ltb, length}
use Rattle.words.specs.Words.{paste_w}
use Rattle.index_image.specs.Rows.{entries_from}
use Rattle.index_image.specs.declared.Shape.{Shape}
use Rattle.kd_theory.specs.Bag.{keep}
use Rattle.kd_dimension.specs.Choice.{key_in}

-- the side of an entry
unfoldable pub on_side : (ℕ → ℕ → ℕ) → ℕ → ℕ → Bool → ℕ → Bool
on_side key d x want e = cond want (ltb (key d e) x) (not (ltb (key d e) x))

abbrev pub lesses : List ℕ → Shape → ℕ → ℕ → ℕ → ℕ → List ℕ
lesses W s d x lo c = keep (on_side (key_in W s) d x true) (entries_from W s lo c)

abbrev pub others : List ℕ → Shape → ℕ → ℕ → ℕ → ℕ → List ℕ
others W s d x lo c = keep (on_side (key_in W s) d x false) (entries_from W s lo c)

-- what a test answers of the entries below n is what p says
abbrev pub Says : (ℕ → Bool → Type 0) → ℕ → (ℕ → Bool) → Type 0
Says answers n p = (e : ℕ) (b : Bool) → e < n → answers e b → b ≡ p e

-- a test answers by some p, and from word `at` on there is room for those of es that p takes
pub record Takes (answers : ℕ → Bool → Type 0) (n : ℕ) (es : List ℕ) (at long : ℕ) : Type 0 where
  pub p : ℕ → Bool
  pub says : Says answers n p
  pub room : 4 * (at + length (keep p es)) ≤ long

-- those of es that p takes are counted, and written from word `at` on
pub record Gathered (p : ℕ → Bool) (es : List ℕ) (at : ℕ) (bs bs' : List ℕ) (n : ℕ) : Type 0 where
  pub count : n ≡ length (keep p es)
  pub bytes : bs' ≡ paste_w bs at (keep p es)

-- of entry y and the one so far, the one of the lower label; the first of equals
unfoldable pub lower_of : (ℕ → ℕ) → ℕ → Option ℕ → ℕ
lower_of lb y None = y
lower_of lb y (Some b) = cond (ltb (lb y) (lb b)) y b
