use native.Mathlib.Omega.{arith}
use mathlib.Core.Path.{◌≡◌, ◌∙◌}
use Prim.Native.Nat.{◌-◌}
use lib.ListN.{length}
use Rattle.words.specs.Words.{words}
use Rattle.words.specs.Tables.{part}
use Rattle.words.proofs.Laws.{length-words}
use Rattle.words.proofs.Tables.{length_part, paste_w-cons}
use Rattle.words.proofs.runs.insert.Goals as goal

pub returns : goal.returns
returns c =
    let move_up = c.move_up in
    let W = words c.args.s.now in
    let l : length (part W c.args.at (c.args.end - c.args.at)) ≡ c.args.end - c.args.at = length_part W
    c.args.at (c.args.end - c.args.at) (omega (arith, length-words c.args.s.now)) in
    c.put.ensures ∙ rw move_up.ensures (paste_w-cons c.args.s.now c.args.at
    (part W c.args.at (c.args.end - c.args.at)) c.args.w (omega arith))
