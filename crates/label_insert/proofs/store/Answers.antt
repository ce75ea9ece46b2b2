use Rattle.std.proofs.Common.{rules}
use native.Mathlib.Omega.{arith}
use mathlib.Core.Path.{◌∙◌}
use Prim.Native.Nat.{◌+◌}
use lib.ListN.{get_or}
use Rattle.words.specs.Words.{words}
use Rattle.words.proofs.Laws.{length-words}
use Rattle.words.proofs.Tables.{row_fits}
use Rattle.fast_compare.specs.Map.{value_of}
use Rattle.monomial.proofs.Powers.{canonical-length}
use Rattle.fast_compare.proofs.Exact.{count_of}
use Rattle.fast_compare.proofs.Reading.{HeadOf, head, vars-of, cap-of}
use Rattle.label_insert.proofs.Storing.{stored-call}
use Rattle.label_insert.proofs.store.Goals as goal

pub paste-requires : goal.paste-requires
paste-requires c =
    let W = words c.args.map.now in
    let h : HeadOf c.args.map.now = head c.args.map.now c.requires.sound in
    let l = canonical-length 2 (get_or W 1 0) (words c.args.ratio.now) (omega arith) (omega (arith, h.vars)) c.requires.good.canonical in
    let u = row_fits (get_or W 3 0) (get_or W 2 0) (get_or W 1 0 + 3) c.requires.p_bound.1 in
    rw (c.get-variables.ensures, c.get-n.ensures) (omega (arith, h.room, u, l, length-words c.args.ratio.now, c.insert.auto.s, c.put.auto.s))

pub returns : goal.returns
returns c = λ st i e.
    let bs = c.args.map.now in
    let q = value_of c.args.index (words c.args.ratio.now) in
    stored-call bs st (search rules) i (omega (arith, c.requires.p_bound.1, vars-of bs st i, cap-of bs st i, count_of bs st i)) q
    c.args.label c.args.p (rw (vars-of bs st i) at c.requires.good) e c.get-variables.result c.get-capacity.result c.get-n.result c.index_word.result
    c.insert.new.s c.put.new.s c.paste.new.s c.put-2.new.s c.put-3.new.s (c.get-variables.ensures ∙ vars-of bs st i) (c.get-capacity.ensures ∙ cap-of bs st i)
    (c.get-n.ensures ∙ count_of bs st i) c.index_word.ensures c.insert.ensures c.put.ensures c.paste.ensures c.put-2.ensures c.put-3.ensures
