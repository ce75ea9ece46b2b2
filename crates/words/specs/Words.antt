-- A slice of bytes as a list of 32-bit words, low byte first. Assumes nothing.
use Rattle.std.specs.Prelude.{ℕ, ◌+◌, ◌*◌, ◌/◌, ◌%◌, List, [], ◌∷◌, ◌++◌, length, set, take, drop}

-- the word of four bytes
unfoldable pub word : ℕ → ℕ → ℕ → ℕ → ℕ
word a b c d = a + 256 * b + 65536 * c + 16777216 * d

-- the words of a list of bytes; up to three bytes at the end that make no word are left out
unfoldable pub words : List ℕ → List ℕ
words [] = []
words (a ∷ []) = []
words (a ∷ b ∷ []) = []
words (a ∷ b ∷ c ∷ []) = []
words (a ∷ b ∷ c ∷ d ∷ r) = word a b c d ∷ words r

-- the bytes of a list of words
unfoldable pub bytes : List ℕ → List ℕ
bytes [] = []
bytes (w ∷ ws) = w % 256 ∷ w / 256 % 256 ∷ w / 65536 % 256 ∷ w / 16777216 ∷ bytes ws

-- the bytes bs with w for word i
unfoldable pub put_w : List ℕ → ℕ → ℕ → List ℕ
put_w bs i w =
    set (set (set (set bs (4 * i) (w % 256)) (4 * i + 1) (w / 256 % 256)) (4 * i + 2) (w / 65536 % 256)) (4 * i + 3) (w / 16777216)

-- the bytes bs with the words ws from word `at` on; all other bytes stay
unfoldable pub paste_w : List ℕ → ℕ → List ℕ → List ℕ
paste_w bs at ws = take (4 * at) bs ++ (bytes ws ++ drop (4 * at + 4 * length ws) bs)
