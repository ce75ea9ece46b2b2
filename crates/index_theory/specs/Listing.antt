-- The listing of a monomial index: its monomials' words, the less side of a branch before the other, nothing before or between. Assumes nothing.
use Rattle.std.specs.Prelude.{List, [], ◌∷◌, ◌++◌, ℕ}
use Rattle.kd_theory.specs.Tree.{inorder}
use Rattle.index_theory.specs.Entries.{entry_at}
use Rattle.index_theory.specs.State.{State}

-- the words of the entries at some places, one behind the other
unfoldable pub monomials_at : (ℕ → List ℕ) → List ℕ → List ℕ
monomials_at lm [] = []
monomials_at lm (e ∷ es) = lm e ++ monomials_at lm es

abbrev pub listing : State → List ℕ
listing st = monomials_at (λ e. (entry_at st.entries e).lm) (inorder st.tree)
