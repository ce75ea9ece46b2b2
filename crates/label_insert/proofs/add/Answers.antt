use native.Mathlib.Omega.{arith}
use Rattle.std.proofs.Common.{rules}
use Rattle.fast_compare.proofs.Reading.{cap-of}
use Rattle.fast_compare.proofs.Giving.{before-place}
use Rattle.label_insert.proofs.Answers.{gave-full, gave-none, gave-new}
use Rattle.label_insert.proofs.add.Goals as goal

pub returns-then-get-count : goal.returns-then-get-count
returns-then-get-count c = λ st i e. gave-full c.args.map.now st _ (search rules) i c.args.p e (omega (arith, c.get.ensures, c.count.ensures.value_2 st i, cap-of c.args.map.now st i))

pub returns-then-is_empty : goal.returns-then-is_empty
returns-then-is_empty c = λ st i e.
    let free = c.free_labels-free in
    gave-none c.args.map.now st _ (search rules) i c.args.p free.result.start free.result.end e
    (omega (arith, c.get.ensures, c.count.ensures.value_2 st i, cap-of c.args.map.now st i)) (free.ensures.start st i _ e) (free.ensures.end st i _ e) (search rules)

pub returns : goal.returns
returns c = λ st i e.
    let free = c.free_labels-free in
    gave-new c.args.map.now st _ (search rules) i c.args.p free.result.start free.result.end c.store.new.map e
    (omega (arith, c.get.ensures, c.count.ensures.value_2 st i, cap-of c.args.map.now st i)) (free.ensures.start st i _ e) (free.ensures.end st i _ e) (search rules)
    (c.store.ensures st i (before-place st _ c.args.p e).place_is)
