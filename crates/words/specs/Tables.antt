-- Tables of words inside a list of words. Assumes nothing.
use Rattle.std.specs.Prelude.{List, [], ◌∷◌, ◌++◌, ℕ, zero, suc, ◌+◌, length, take, drop}

-- the n words of W from word `at` on
unfoldable pub part : List ℕ → ℕ → ℕ → List ℕ
part W at n = take n (drop at W)

unfoldable pub zeros : ℕ → List ℕ
zeros zero = []
zeros (suc n) = 0 ∷ zeros n

-- the rows f 0, f 1 .. f (n - 1), one after the other
unfoldable pub table : ℕ → (ℕ → List ℕ) → List ℕ
table zero f = []
table (suc n) f = table n f ++ f n

-- W with the words ws from word `at` on: what `paste_w` does to the words of the bytes
unfoldable pub over : List ℕ → ℕ → List ℕ → List ℕ
over W at ws = take at W ++ (ws ++ drop (at + length ws) W)
