-- The calls that a reader reads. Assumes nothing.
use Rattle.std.specs.Prelude.{◌≡◌, List, [], ◌∷◌, Option, ℕ, drop}
use Rattle.std.specs.Iterator.{YieldsFirstBy}
use Rattle.words.specs.Kinds.{payload}
use Rattle.words.specs.Words.{words}
use Rattle.index_theory.specs.Calls.{Call, body_of, calls}
use Rattle.call_list.specs.declared.Call as list
use Rattle.call_list.specs.Bodies.{call_of}
use Rattle.word_reader.specs.declared.Reader.{Reader}
use Rattle.word_reader.specs.Places.{call_end}

-- the calls from a word on, which is taken for a call's: of a list, its calls
unfoldable pub read : List ℕ → List Call
read [] = []
read (w ∷ ws) = record { number = payload w; body = body_of ws } ∷ calls ws

-- the calls that a reader has still to read
abbrev pub calls_left : Reader → List Call
calls_left r = read (drop r.at (words r.list.now))

-- a reader that has moved on: it keeps its list, and is behind the call that it was at; at the end it stays
abbrev pub Moved : Reader → Reader → Type 0
Moved s t = (t.list ≡ s.list) × (t.at ≡ call_end (words s.list.now) s.at)

-- a reader gives the call that it is at, with its number and its body, and moves on
abbrev pub Reads : Reader → Option list.Call → Reader → Type 0
Reads s r t = YieldsFirstBy call_of calls_left s r t × Moved s t
