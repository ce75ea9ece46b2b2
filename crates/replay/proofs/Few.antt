-- A list has no more calls than words, so the answers to 16 KiB of list fit in as much. Assumes nothing.
use native.Mathlib.Omega.{arith}
use mathlib.Core.Bool.{Bool, true, false, cond}
use mathlib.Core.List.{List, [], ◌∷◌}
use Prim.Native.Nat.{ℕ, ◌*◌, ◌≤◌}
use lib.Dec.{eqb}
use lib.ListN.{length}
use Rattle.words.specs.Kinds.{kind, payload}
use Rattle.words.specs.Words.{words}
use Rattle.words.proofs.Laws.{length-words}
use Rattle.index_theory.specs.Calls.{body_of, calls}

calls-words : (ws : List ℕ) → length (calls ws) ≤ length ws
unfolding calls
calls-words [] = omega arith
calls-words (w ∷ ws) = go (eqb (kind w) 6) (calls-words ws)
  where
    go : (t : Bool) → length (calls ws) ≤ length ws
        → length (cond t (record { number = payload w; body = body_of ws } ∷ calls ws) (calls ws)) ≤ length (w ∷ ws)
    go true h = omega arith
    go false h = omega arith

pub calls-few : (bs : List ℕ) → length bs ≤ 16384 → 4 * length (calls (words bs)) ≤ 16384
calls-few bs h = omega (arith, calls-words (words bs), length-words bs)
