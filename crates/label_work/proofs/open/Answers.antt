use mathlib.Core.Path.{◌∙◌}
use native.Mathlib.Omega.{arith}
use Rattle.refusals.specs.Numbers as Numbers
use Rattle.label_work.proofs.Replies.{length-ok, length-err, told-one, open-unasked, open-short, open-served}
use Rattle.label_work.proofs.open.Goals as goal

pub returns-in_err-length : goal.returns-in_err-length
returns-in_err-length c =
    let q = length-err _ _ _ c.in_err-length.ensures in
    let all = open-unasked c.args.variables c.args.capacity c.args.image.now q.1 in
    (told-one _ _ c.from_residual.ensures.1 q.0 ∙ all.0, all.1)

pub returns-then-branch : goal.returns-then-branch
unfolding Numbers.told Numbers.number
returns-then-branch c =
    let q = length-ok _ _ _ c.in_ok-length.ensures in
    open-short c.args.variables c.args.capacity c.args.image.now q.1 (omega (arith, c.if-branch.true, q.0))

pub open-requires-clause-sizes : goal.open-requires-clause-sizes
open-requires-clause-sizes c = (length-ok _ _ _ c.in_ok-length.ensures).1

pub returns : goal.returns
unfolding Numbers.told
returns c =
    let q = length-ok _ _ _ c.in_ok-length.ensures in
    open-served c.args.variables c.args.capacity c.args.image.now _ q.1 (omega (arith, c.if-branch.false, q.0)) c.«open».ensures
