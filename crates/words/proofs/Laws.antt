-- The laws of `specs/Words.antt`. Assumes nothing.
use mathlib.Core.Path.{◌≡◌, refl, sym, ap, ◌∙◌}
use Prim.Native.Nat.{ℕ, zero, suc, ◌+◌, ◌*◌, ◌/◌, ◌%◌, ◌^◌, ◌≤◌, ◌<◌}
use native.Mathlib.Omega.{arith}
use mathlib.Core.List.{List, [], ◌∷◌, ◌++◌, append_assoc}
use native.Mathlib.Nat.{add-zero, zero-add}
use lib.ListN.{length, get_or, set, take, drop, take-append-drop, length-append, length-set, length-take, length-drop}
use native.Mathlib.Numerals.{add-one}
use lib.Seq.{drop-cons, take_all, take_at, drop-append-add, drop-append-le, drop-drop, take-add, take-take, get_or-take, length-take-le}
use Rattle.words.specs.Words.{word, words, bytes, put_w, paste_w}

-- 4 * (i + 1) + k, as a list's clauses see it
four : (i k : ℕ) → 4 * suc i + k ≡ suc (suc (suc (suc (4 * i + k))))
four i k = omega arith

four₀ : (i : ℕ) → 4 * suc i ≡ suc (suc (suc (suc (4 * i))))
four₀ i = omega arith

pub length-words : (bs : List ℕ) → length (words bs) ≡ length bs / 4
unfolding words
length-words [] = refl
length-words (a ∷ []) = refl
length-words (a ∷ b ∷ []) = refl
length-words (a ∷ b ∷ c ∷ []) = refl
length-words (a ∷ b ∷ c ∷ d ∷ r) = omega (arith, length-words r)

-- word i, by its bytes
pub words-at : (bs : List ℕ) (i : ℕ) → 4 * i + 4 ≤ length bs → get_or (words bs) i 0 ≡ word (get_or bs (4 * i) 0) (get_or bs (4 * i + 1) 0) (get_or bs (4 * i + 2) 0) (get_or bs (4 * i + 3) 0)
unfolding words
words-at [] i h = absurd (omega arith)
words-at (a ∷ []) i h = absurd (omega arith)
words-at (a ∷ b ∷ []) i h = absurd (omega arith)
words-at (a ∷ b ∷ c ∷ []) i h = absurd (omega arith)
words-at (a ∷ b ∷ c ∷ d ∷ r) zero h = refl
words-at (a ∷ b ∷ c ∷ d ∷ r) (suc i) h = rw (four i 1, four i 2, four i 3, four₀ i) (words-at r i (omega arith))

pub words_take : (bs : List ℕ) (n : ℕ) → words (take (4 * n) bs) ≡ take n (words bs)
unfolding words
words_take bs zero = refl
words_take [] (suc n) = rw (four₀ n)
words_take (a ∷ []) (suc n) = rw (four₀ n)
words_take (a ∷ b ∷ []) (suc n) = rw (four₀ n)
words_take (a ∷ b ∷ c ∷ []) (suc n) = rw (four₀ n)
words_take (a ∷ b ∷ c ∷ d ∷ r) (suc n) = rw (four₀ n) (ap (λ (l : List ℕ). word a b c d ∷ l) (words_take r n))

pub words-drop : (bs : List ℕ) (n : ℕ) → words (drop (4 * n) bs) ≡ drop n (words bs)
unfolding words
words-drop bs zero = refl
words-drop [] (suc n) = rw (four₀ n)
words-drop (a ∷ []) (suc n) = rw (four₀ n)
words-drop (a ∷ b ∷ []) (suc n) = rw (four₀ n)
words-drop (a ∷ b ∷ c ∷ []) (suc n) = rw (four₀ n)
words-drop (a ∷ b ∷ c ∷ d ∷ r) (suc n) = rw (four₀ n) (words-drop r n)

-- the bytes of a word give it back
word-of-bytes : (w : ℕ) → w < 2 ^ 32 → word (w % 256) (w / 256 % 256) (w / 65536 % 256) (w / 16777216) ≡ w
unfolding word
word-of-bytes w h = omega arith

pub length-put_w : (bs : List ℕ) (i w : ℕ) → length (put_w bs i w) ≡ length bs
unfolding put_w
length-put_w bs i w = simp length-set

-- a store of a word is a store in the words
pub words-put_w : (bs : List ℕ) (i w : ℕ) → w < 2 ^ 32 → 4 * i + 4 ≤ length bs → words (put_w bs i w) ≡ set (words bs) i w
unfolding words put_w
words-put_w [] i w k h = absurd (omega arith)
words-put_w (a ∷ []) i w k h = absurd (omega arith)
words-put_w (a ∷ b ∷ []) i w k h = absurd (omega arith)
words-put_w (a ∷ b ∷ c ∷ []) i w k h = absurd (omega arith)
words-put_w (a ∷ b ∷ c ∷ d ∷ r) zero w k h = ap (λ (x : ℕ). x ∷ words r) (word-of-bytes w k)
words-put_w (a ∷ b ∷ c ∷ d ∷ r) (suc i) w k h = rw (four i 1, four i 2, four i 3, four₀ i) (ap (λ (l : List ℕ). word a b c d ∷ l) (words-put_w r i w k (omega arith)))

-- words of whole words, and what follows
pub words_append : (a b : List ℕ) → length a % 4 ≡ 0 → words (a ++ b) ≡ words a ++ words b
unfolding words
words_append [] b h = refl
words_append (x ∷ []) b h = absurd (omega arith)
words_append (x ∷ y ∷ []) b h = absurd (omega arith)
words_append (x ∷ y ∷ z ∷ []) b h = absurd (omega arith)
words_append (x ∷ y ∷ z ∷ t ∷ r) b h = ap (λ (l : List ℕ). word x y z t ∷ l) (words_append r b (omega arith))

-- each byte is one, each word is one; past the end stands 0, so no index needs a bound
abbrev pub Bytes : List ℕ → Type 0
Bytes bs = (k : ℕ) → get_or bs k 0 < 256

abbrev pub Words : List ℕ → Type 0
Words ws = (k : ℕ) → get_or ws k 0 < 2 ^ 32

pub words_small : (bs : List ℕ) → Bytes bs → Words (words bs)
unfolding words word
words_small [] h k = omega arith
words_small (x ∷ []) h k = omega arith
words_small (x ∷ y ∷ []) h k = omega arith
words_small (x ∷ y ∷ z ∷ []) h k = omega arith
words_small (x ∷ y ∷ z ∷ t ∷ r) h zero = omega (arith, h 0, h 1, h 2, h 3)
words_small (x ∷ y ∷ z ∷ t ∷ r) h (suc k) = words_small r (λ i. h (suc (suc (suc (suc i))))) k

pub length-bytes : (ws : List ℕ) → length (bytes ws) ≡ 4 * length ws
unfolding bytes
length-bytes [] = refl
length-bytes (w ∷ ws) = omega (arith, length-bytes ws)

pub bytes-append : (a b : List ℕ) → bytes (a ++ b) ≡ bytes a ++ bytes b
unfolding bytes
bytes-append [] b = refl
bytes-append (w ∷ a) b = rw (bytes-append a b)

pub words-bytes : (ws : List ℕ) → Words ws → words (bytes ws) ≡ ws
unfolding words bytes
words-bytes [] h = refl
words-bytes (w ∷ ws) h = rw (word-of-bytes w (h 0), words-bytes ws (λ k. h (suc k)))

low : (y r : ℕ) → y < 256 → (y + 256 * r) % 256 ≡ y
low y r h = omega arith

-- the words determine the bytes
pub bytes-words : (bs : List ℕ) → Bytes bs → length bs % 4 ≡ 0 → bytes (words bs) ≡ bs
unfolding words bytes word
bytes-words [] h k = refl
bytes-words (x ∷ []) h k = absurd (omega arith)
bytes-words (x ∷ y ∷ []) h k = absurd (omega arith)
bytes-words (x ∷ y ∷ z ∷ []) h k = absurd (omega arith)
bytes-words (x ∷ y ∷ z ∷ t ∷ r) h k =
    let w = x + 256 * y + 65536 * z + 16777216 * t in
    let hx : x < 256 = h 0 in
    let hy : y < 256 = h 1 in
    let hz : z < 256 = h 2 in
    let ht : t < 256 = h 3 in
    let e0 : w % 256 ≡ x = omega arith in
    let q1 : w / 256 ≡ y + 256 * (z + 256 * t) = omega arith in
    let e1 : w / 256 % 256 ≡ y = rw q1 (low y (z + 256 * t) hy) in
    let q2 : w / 65536 ≡ z + 256 * t = omega arith in
    let e2 : w / 65536 % 256 ≡ z = rw q2 (low z t hz) in
    let e3 : w / 16777216 ≡ t = omega arith in
    rw (e0, e1, e2, e3, bytes-words r (λ i. h (suc (suc (suc (suc i))))) (omega arith))

pub words-inj : (a b : List ℕ) → Bytes a → Bytes b → length a % 4 ≡ 0 → length b % 4 ≡ 0 → words a ≡ words b → a ≡ b
words-inj a b ha hb ka kb e = sym (bytes-words a ha ka) ∙ ap bytes e ∙ bytes-words b hb kb

-- a store of a word, by parts
pub put_w-split : (bs : List ℕ) (i w : ℕ) → 4 * i + 4 ≤ length bs → put_w bs i w ≡ take (4 * i) bs ++ (bytes (w ∷ []) ++ drop (4 * i + 4) bs)
unfolding put_w bytes
put_w-split [] i w h = absurd (omega arith)
put_w-split (x ∷ []) i w h = absurd (omega arith)
put_w-split (x ∷ y ∷ []) i w h = absurd (omega arith)
put_w-split (x ∷ y ∷ z ∷ []) i w h = absurd (omega arith)
put_w-split (x ∷ y ∷ z ∷ t ∷ r) zero w h = refl
put_w-split (x ∷ y ∷ z ∷ t ∷ r) (suc i) w h = rw (four i 1, four i 2, four i 3, four i 4, four₀ i) (ap (λ (l : List ℕ). x ∷ y ∷ z ∷ t ∷ l) (put_w-split r i w (omega arith)))

-- words pasted into bytes
pub length-paste_w : (bs : List ℕ) (at : ℕ) (ws : List ℕ) → 4 * at + 4 * length ws ≤ length bs → length (paste_w bs at ws) ≡ length bs
unfolding paste_w
length-paste_w bs at ws h = simp (length-append, length-take, length-drop, length-bytes) (omega arith)

pub paste_w-nil : (bs : List ℕ) (at : ℕ) → paste_w bs at [] ≡ bs
unfolding paste_w bytes
paste_w-nil bs at = rw (add-zero, take-append-drop)

-- one word more
pub paste_w-snoc : (bs : List ℕ) (at : ℕ) (ws : List ℕ) (i w : ℕ) → i ≡ at + length ws → 4 * i + 4 ≤ length bs → put_w (paste_w bs at ws) i w ≡ paste_w bs at (ws ++ (w ∷ []))
unfolding paste_w
paste_w-snoc bs at ws i w e h =
    let p = take (4 * at) bs ++ bytes ws in
    let q = drop (4 * at + 4 * length ws) bs in
    let el : length p ≡ 4 * i = simp (length-append, length-take, length-bytes) (omega arith) in
    let e4 : 4 * at + 4 * length (ws ++ (w ∷ [])) ≡ 4 * at + 4 * length ws + 4 = simp length-append (omega arith) in
    let e5 : 4 * i + 4 ≡ length p + 4 = omega arith in
    let ed : drop (4 * i + 4) (p ++ q) ≡ drop (4 * at + 4 * length ws + 4) bs =
    ap (λ (n : ℕ). drop n (p ++ q)) e5 ∙ drop-append-add p q 4 ∙ drop-drop 4 (4 * at + 4 * length ws) bs in
    let ep : paste_w bs at ws ≡ p ++ q = sym (append_assoc (take (4 * at) bs) (bytes ws) q) in
    let full : 4 * i + 4 ≤ length (paste_w bs at ws) = omega (arith, length-paste_w bs at ws (omega arith)) in
    put_w-split (paste_w bs at ws) i w full
    ∙ ap (λ (l : List ℕ). take (4 * i) l ++ (bytes (w ∷ []) ++ drop (4 * i + 4) l)) ep
    ∙ rw (e4, take_at p q (4 * i) el, ed, bytes-append) (simp append_assoc)

-- the words of what was pasted into
pub words-paste_w : (bs : List ℕ) (at : ℕ) (ws : List ℕ) → Words ws → 4 * at + 4 * length ws ≤ length bs → words (paste_w bs at ws) ≡ take at (words bs) ++ (ws ++ drop (at + length ws) (words bs))
unfolding paste_w
words-paste_w bs at ws h k =
    let lt : length (take (4 * at) bs) % 4 ≡ 0 = simp length-take (omega arith) in
    let lb : length (bytes ws) % 4 ≡ 0 = simp length-bytes (omega arith) in
    let ed : 4 * at + 4 * length ws ≡ 4 * (at + length ws) = omega arith in
    words_append (take (4 * at) bs) (bytes ws ++ drop (4 * at + 4 * length ws) bs) lt
    ∙ rw (words_append (bytes ws) (drop (4 * at + 4 * length ws) bs) lb, words-bytes ws h, ed, words_take, words-drop)

-- ---- parts. The words of a part `&s[4 * a..e]`, with e = 4 * (a + m): k is what the borrow checker says, e - 4 * a
pub words-part : (bs : List ℕ) (a m k : ℕ) → k ≡ 4 * m → words (take k (drop (4 * a) bs)) ≡ take m (drop a (words bs))
words-part bs a m k e = rw (e, words_take, words-drop)

-- what is lent from word `at` on, up to the last byte
pub words-rest : (bs : List ℕ) (at k : ℕ) → length bs ≤ 4 * at + k → words (take k (drop (4 * at) bs)) ≡ drop at (words bs)
words-rest bs at k h = rw (take_all k (drop (4 * at) bs) (omega (arith, length-drop (4 * at) bs))) (words-drop bs at)

-- a part `&mut s[4 * o..]` that came back with words pasted: they are pasted into the whole
pub paste_w-part : (bs : List ℕ) (o k at : ℕ) (ws : List ℕ) → 4 * o + k ≤ length bs → 4 * at + 4 * length ws ≤ k
    → take (4 * o) bs ++ (paste_w (take k (drop (4 * o) bs)) at ws ++ drop k (drop (4 * o) bs)) ≡ paste_w bs (o + at) ws
unfolding paste_w
paste_w-part bs o k at ws h l =
    let d = drop (4 * o) bs in
    let e1 : 4 * (o + at) ≡ 4 * o + 4 * at = omega arith in
    let e2 : 4 * o + 4 * at + 4 * length ws ≡ 4 * o + (4 * at + 4 * length ws) = omega arith in
    let ed : drop (4 * at + 4 * length ws) (take k d) ++ drop k d ≡ drop (4 * o + (4 * at + 4 * length ws)) bs =
    sym (drop-append-le (4 * at + 4 * length ws) (take k d) (drop k d) (simp (length-take, length-drop) (omega arith)))
    ∙ rw (take-append-drop) (drop-drop (4 * at + 4 * length ws) (4 * o) bs) in
    rw (e1, e2, take-add (4 * o) (4 * at) bs, ← ed, take-take (4 * at) k d (omega arith)) (simp append_assoc)

take-paste_w : (bs : List ℕ) (at : ℕ) (ws : List ℕ) → 4 * at ≤ length bs → take (4 * at) (paste_w bs at ws) ≡ take (4 * at) bs
unfolding paste_w
take-paste_w bs at ws h = take_at (take (4 * at) bs) (bytes ws ++ drop (4 * at + 4 * length ws) bs) (4 * at) (length-take-le (4 * at) bs h)

-- a word before the place where words are pasted
pub paste_w-before : (bs : List ℕ) (at : ℕ) (ws : List ℕ) (i : ℕ) → 4 * at ≤ length bs → i < at → get_or (words (paste_w bs at ws)) i 0 ≡ get_or (words bs) i 0
paste_w-before bs at ws i h l =
    sym (get_or-take at (words (paste_w bs at ws)) i 0 l)
    ∙ ap (λ (l : List ℕ). get_or l i 0) (sym (words_take (paste_w bs at ws) at) ∙ ap words (take-paste_w bs at ws h) ∙ words_take bs at)
    ∙ get_or-take at (words bs) i 0 l

-- the word that was read at i, and those behind it
pub word-and-rest : (ws : List ℕ) (i w : ℕ) → i < length ws → w ≡ get_or ws i 0 → drop i ws ≡ w ∷ drop (i + 1) ws
word-and-rest ws i w h e = rw (e, add-one) (drop-cons ws i 0 h)

-- a store of a word is a paste of it
pub put_w-paste : (bs : List ℕ) (i w : ℕ) → 4 * i + 4 ≤ length bs → put_w bs i w ≡ paste_w bs i (w ∷ [])
put_w-paste bs i w h =
    ap (λ (l : List ℕ). put_w l i w) (sym (paste_w-nil bs i)) ∙ paste_w-snoc bs i [] i w (omega arith) h

-- six words put one behind the other
pub six-written : (b₀ b₁ b₂ b₃ b₄ b₅ b₆ : List ℕ) (i a b c d e f : ℕ) → 4 * (i + 6) ≤ length b₀ → b₁ ≡ put_w b₀ i a → b₂ ≡ put_w b₁ (i + 1) b
    → b₃ ≡ put_w b₂ (i + 2) c → b₄ ≡ put_w b₃ (i + 3) d → b₅ ≡ put_w b₄ (i + 4) e → b₆ ≡ put_w b₅ (i + 5) f
    → b₆ ≡ paste_w b₀ i (a ∷ b ∷ c ∷ d ∷ e ∷ f ∷ [])
six-written b₀ b₁ b₂ b₃ b₄ b₅ b₆ i a b c d e f room e₁ e₂ e₃ e₄ e₅ e₆ =
    let p₁ : b₁ ≡ paste_w b₀ i (a ∷ []) = e₁ ∙ put_w-paste b₀ i a (omega arith) in
    let p₂ : b₂ ≡ paste_w b₀ i (a ∷ b ∷ []) = e₂ ∙ rw p₁ (paste_w-snoc b₀ i (a ∷ []) (i + 1) b (omega arith) (omega arith)) in
    let p₃ : b₃ ≡ paste_w b₀ i (a ∷ b ∷ c ∷ []) = e₃ ∙ rw p₂ (paste_w-snoc b₀ i (a ∷ b ∷ []) (i + 2) c (omega arith) (omega arith)) in
    let p₄ : b₄ ≡ paste_w b₀ i (a ∷ b ∷ c ∷ d ∷ []) = e₄ ∙ rw p₃ (paste_w-snoc b₀ i (a ∷ b ∷ c ∷ []) (i + 3) d (omega arith) (omega arith)) in
    let p₅ : b₅ ≡ paste_w b₀ i (a ∷ b ∷ c ∷ d ∷ e ∷ []) = e₅ ∙ rw p₄ (paste_w-snoc b₀ i (a ∷ b ∷ c ∷ d ∷ []) (i + 4) e (omega arith) (omega arith)) in
    e₆ ∙ rw p₅ (paste_w-snoc b₀ i (a ∷ b ∷ c ∷ d ∷ e ∷ []) (i + 5) f (omega arith) (omega arith))

-- the words that were pasted at the front, and the bytes behind them
pub paste_w-front : (bs ws : List ℕ) → paste_w bs 0 ws ≡ bytes ws ++ drop (4 * length ws) bs
unfolding paste_w
paste_w-front bs ws = rw (zero-add (4 * length ws))
