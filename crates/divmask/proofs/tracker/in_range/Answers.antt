use native.Mathlib.Omega.{arith}
use Rattle.std.proofs.lemmas.Bool.Decides.{nat_tests}
use native.Mathlib.Decide.{dec_le}
use lib.ListN.{drop, drop_of_length-le}
use Prim.Native.Nat.{◌+◌}
use mathlib.Core.Path.{sym, ◌∙◌, ◌≡◌}
use mathlib.Core.Bool.{false}
use mathlib.Core.List.{◌∷◌}
use Rattle.words.specs.Words.{words}
use Rattle.words.proofs.Laws.{length-words, word-and-rest}
use Rattle.divmask.specs.Tracker.{all_in_range}
use Rattle.divmask.proofs.Growth.{range-low, range-high, range-in, range-nil}
use Rattle.divmask.proofs.tracker.in_range.Goals as goal

pub returns-then-not-contains : goal.returns-then-not-contains
returns-then-not-contains c =
    let h = c.if-not-contains.ensures.cases in
    let x = c.get-x.result in
    let rest = drop (c.loop-i.i + 1) (words c.args.s.now) in
    let no : all_in_range (x ∷ rest) ≡ false =
    elim (dec_le 1 x) [
      | yes l ↦ elim (dec_le x 32767) [ yes r ↦ absurd (grind (arith, nat_tests, h, c.new.ensures.start, c.new.ensures.end)) | no r ↦ range-high x rest l (omega arith) ]
      | no l ↦ range-low x rest (omega arith)
    ] in
    sym (c.loop-i.invariant ∙ rw (word-and-rest (words c.args.s.now) c.loop-i.i x (omega (arith, length-words c.args.s.now)) c.get-x.ensures) no)

pub loop-i-preserved : goal.loop-i-preserved
loop-i-preserved c =
    let h = c.if-not-contains.ensures.cases in
    let get = c.get-x in
    let loop = c.loop-i in
    loop.invariant ∙ rw (word-and-rest (words c.args.s.now) loop.i get.result (omega (arith, length-words c.args.s.now)) get.ensures)
    (range-in get.result _ (grind (arith, nat_tests, h.0, c.new.ensures.start)) (grind (arith, nat_tests, h.1, c.new.ensures.end)))

pub returns : goal.returns
returns c =
    sym (c.loop-i.invariant ∙ rw (drop_of_length-le (words c.args.s.now) {i = c.loop-i.i}
    (omega (arith, length-words c.args.s.now))) range-nil)
