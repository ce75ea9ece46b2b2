-- The call at a place of a list, and the place behind it. Assumes nothing.
use Rattle.std.specs.Prelude.{cond, List, ℕ, ◌+◌, ltb, length, get_or, drop}
use Rattle.words.specs.Kinds.{payload}
use Rattle.index_theory.specs.Calls.{Call, body_of}

-- the call at word i of a list
abbrev pub call_at : List ℕ → ℕ → Call
call_at W i = record { number = payload (get_or W i 0); body = body_of (drop (i + 1) W) }

-- the word behind the call at word i, which is the next call or the end of the list; the end has nothing behind it
unfoldable pub call_end : List ℕ → ℕ → ℕ
call_end W i = cond (ltb i (length W)) (i + 1 + length (body_of (drop (i + 1) W))) i
