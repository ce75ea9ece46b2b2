-- What a reader reads of a list is its calls. Assumes nothing.
use mathlib.Core.Path.{◌≡◌, refl, sym, ap, ◌∙◌}
use mathlib.Core.Bool.{Bool, true, false, cond}
use mathlib.Core.List.{List, [], ◌∷◌}
use mathlib.Core.Option.{some, none}
use Prim.Native.Nat.{ℕ, suc, ◌+◌, ◌*◌, ◌/◌, ◌≤◌, ◌<◌}
use native.Mathlib.Omega.{arith}
use lib.Dec.{eqb}
use lib.ListN.{length, get_or, drop, length-take, length-drop}
use lib.Seq.{drop-cons, drop-drop}
use Rattle.words.specs.Kinds.{kind, payload}
use Rattle.words.specs.Words.{words}
use Rattle.words.proofs.Laws.{length-words, words-drop}
use Rattle.index_theory.specs.Calls.{body_of, calls, listed}
use Rattle.call_list.specs.Bodies.{IsList, Body}
use Rattle.call_list.proofs.Parting.{body-most}
use Rattle.word_reader.specs.Places.{call_at, call_end}
use Rattle.word_reader.specs.Reading.{read}
use Rattle.word_reader.proofs.Places.{end-of-call}

-- behind a body stands the next call, or the end
pub read-behind : (ws : List ℕ) → read (drop (length (body_of ws)) ws) ≡ calls ws
unfolding read calls body_of
read-behind [] = refl
read-behind (w ∷ ws) = go (eqb (kind w) 6) refl (read-behind ws)
  where
    go : (t : Bool) → eqb (kind w) 6 ≡ t → read (drop (length (body_of ws)) ws) ≡ calls ws
        → read (drop (length (cond t [] (w ∷ body_of ws))) (w ∷ ws)) ≡ cond t (record { number = payload w; body = body_of ws } ∷ calls ws) (calls ws)
    go true e r = refl
    go false e r = r

pub read-none : (bs : List ℕ) (i : ℕ) → length bs / 4 ≤ i → read (drop i (words bs)) ≡ []
unfolding read
read-none bs i h = go (drop i (words bs)) (omega (arith, length-drop i (words bs), length-words bs))
  where
    go : (ws : List ℕ) → length ws ≡ 0 → read ws ≡ []
    go [] e = refl
    go (w ∷ ws) e = absurd (omega arith)

pub read-first : (ws : List ℕ) (i : ℕ) → i < length ws
    → read (drop i ws) ≡ record { number = payload (get_or ws i 0); body = body_of (drop (i + 1) ws) } ∷ calls (drop (i + 1) ws)
unfolding read
read-first ws i h = let e : suc i ≡ i + 1 = omega arith in rw (drop-cons ws i 0 h, e) refl

pub read-list : (bs : List ℕ) → IsList bs → read (words bs) ≡ calls (words bs)
unfolding read calls listed
read-list bs l = go (words bs) l.are
  where
    go : (ws : List ℕ) → listed ws ≡ some l.calls → read ws ≡ calls ws
    go [] e = refl
    go (w ∷ ws) e = first (eqb (kind w) 6) e
      where
        first : (t : Bool) → cond t (some (cond t (record { number = payload w; body = body_of ws } ∷ calls ws) (calls ws))) none ≡ some l.calls
            → record { number = payload w; body = body_of ws } ∷ calls ws ≡ cond t (record { number = payload w; body = body_of ws } ∷ calls ws) (calls ws)
        first true e = refl
        first false e = absurd (let z : ◌≡◌ {A = ℕ} 0 1 = cc in omega arith)

-- a call is read, and what is left stands behind it
pub read-call : (W : List ℕ) (i : ℕ) → i < length W → read (drop i W) ≡ call_at W i ∷ read (drop (call_end W i) W)
read-call W i h =
    let k = length (body_of (drop (i + 1) W)) in
    let back : drop (call_end W i) W ≡ drop k (drop (i + 1) W) = ap (λ j. drop j W) (end-of-call W i h) ∙ sym (drop-drop k (i + 1) W) in
    rw (back, read-behind (drop (i + 1) W)) (read-first W i h)

-- the place behind a call, by the bytes R behind its first word and its body b
pub place-next : (bs R b : List ℕ) (i : ℕ) → i < length bs / 4 → R ≡ drop (4 * (i + 1)) bs → Body R b → i + 1 + length b / 4 ≡ call_end (words bs) i
place-next bs R b i h eR B =
    let k = length (body_of (words R)) in
    let most : 4 * k ≤ length R = omega (arith, body-most (words R), length-words R) in
    let back : words R ≡ drop (i + 1) (words bs) = rw eR (words-drop bs (i + 1)) in
    let l : i < length (words bs) = omega (arith, length-words bs) in
    let long : length b / 4 ≡ length (body_of (drop (i + 1) (words bs))) =
    omega (arith, ap length B.front, length-take (4 * k) R, ap (λ W. length (body_of W)) back) in
    rw long (sym (end-of-call (words bs) i l))

-- what is read there, and what is left
pub read-next : (bs R b : List ℕ) (i n : ℕ) → i < length bs / 4 → R ≡ drop (4 * (i + 1)) bs → n ≡ payload (get_or (words bs) i 0) → Body R b
    → read (drop i (words bs)) ≡ record { number = n; body = words b } ∷ read (drop (i + 1 + length b / 4) (words bs))
read-next bs R b i n h eR en B =
    let back : words R ≡ drop (i + 1) (words bs) = rw eR (words-drop bs (i + 1)) in
    rw (place-next bs R b i h eR B, en, B.words-are, back) (read-call (words bs) i (omega (arith, length-words bs)))
