use native.Mathlib.Omega.{arith}
use mathlib.Core.Path.{◌≡◌, sym, ap, ◌∙◌}
use Prim.Native.Nat.{ℕ, ◌+◌, ◌<◌}
use native.Mathlib.Numerals.{add-one}
use lib.ListN.{length, get_or, take}
use lib.Seq.{take-suc, take_all, length-take-le}
use Rattle.words.specs.Words.{words, paste_w}
use Rattle.words.proofs.Laws.{length-words, paste_w-nil, paste_w-snoc}
use Rattle.words.proofs.runs.paste.Goals as goal

pub loop-i-init : goal.loop-i-init
loop-i-init c = sym (paste_w-nil c.args.s.now c.args.at)

pub loop-i-preserved : goal.loop-i-preserved
loop-i-preserved c =
    let xs = words c.args.row.now in
    let i = c.loop-i.i in
    let len : i < length xs = omega (arith, length-words c.args.row.now) in
    let w : c.get.result ≡ get_or xs i 0 = c.get.ensures ∙ ap (λ (k : ℕ). get_or xs k 0) (omega arith) in
    let el : c.args.at + i ≡ c.args.at + length (take i xs) = rw (length-take-le i xs (omega arith)) in
    c.put.ensures ∙ rw (
      c.loop-i.invariant,
      w,
      paste_w-snoc c.args.s.now c.args.at (take i xs) (c.args.at + i) (get_or xs i 0) el (omega arith),
      add-one,
      take-suc xs i 0 len,
    )

pub returns : goal.returns
returns c =
    c.loop-i.invariant ∙ ap (paste_w c.args.s.now c.args.at)
    (take_all c.loop-i.i (words c.args.row.now) (omega (arith, length-words c.args.row.now)))
