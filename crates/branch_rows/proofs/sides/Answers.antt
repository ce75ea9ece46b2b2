use native.Mathlib.Omega.{arith}
use Rattle.words.specs.Words.{words}
use Rattle.words.proofs.Laws.{length-words}
use Rattle.branch_rows.proofs.Limiting.{cut-ratio, cut-variable}
use Rattle.branch_rows.proofs.sides.Goals as goal

pub label-l-requires : goal.label-l-requires
label-l-requires c = omega (arith, c.args.image.now.ready.room, length-words c.args.image.now.bytes.now)

pub returns-then-tag-kind : goal.returns-then-tag-kind
returns-then-tag-kind c =
    let get = c.get-tag in
    let get2 = c.get-key in
    let if1 = c.if-tag-kind in
    let label-in = c.label-l in
    let get3 = c.get in
    cut-ratio (words c.args.image.now.bytes.now) c.args.image.now.shape (words c.args.hi.now) c.args.labels.start c.args.labels.end
    c.args.at c.args.image.now.ready.range (omega (arith, length-words c.args.hi.now, c.requires.uppers.one_each))
    c.requires.uppers.some c.requires.key_in get.result get.ensures if1.true get2.result label-in.result
    get3.result c.min.result c.max.result get2.ensures label-in.ensures get3.ensures (omega (arith, get3.type_inv))
    c.min.ensures c.max.ensures

pub returns : goal.returns
returns c =
    let get = c.get-tag in
    let get2 = c.get-key in
    let if1 = c.if-tag-kind in
    cut-variable (words c.args.image.now.bytes.now) c.args.image.now.shape (words c.args.hi.now) c.args.labels.start c.args.labels.end
    c.args.at c.args.image.now.ready.range (omega (arith, length-words c.args.hi.now, c.requires.uppers.one_each))
    c.requires.uppers.some c.requires.key_in get.result get.ensures if1.false get2.result c.min-2.result
    get2.ensures (omega (arith, get2.type_inv)) (rw c.get-2.ensures at c.min-2.ensures)
