use native.Mathlib.Omega.{arith}
use mathlib.Core.Path.{sym, ap}
use lib.ListN.{length}
use Rattle.listing.proofs.Monomials.{Next, next, none_yet, lm-held, lm-short}
use Rattle.listing.proofs.words_of.Goals.{After-get-e}
use Rattle.listing.proofs.words_of.Goals as goal

entry : (c : After-get-e) → Next c.args.image.now.bytes.now c.args.image.now.shape c.args.image.now.ready 0 c.loop-i.i c.get-e.result
entry c =
    next c.args.image.now.bytes.now c.args.image.now.shape c.args.image.now.ready 0 c.loop-i.i _ c.get-e.result (omega (arith, c.permutation_at-p.ensures))
    (omega (arith, c.loop-i-test.true)) c.get-e.ensures

pub loop-i-init : goal.loop-i-init
loop-i-init c = (omega arith, (sym (ap length (none_yet c.args.image.now.bytes.now c.args.image.now.shape c.args.image.now.ready 0)), omega arith))

pub loop-i-preserved : goal.loop-i-preserved
loop-i-preserved c =
    let e = entry (goal.at.loop-i-preserved c).After-get-e in
    let held = lm-held c.args.image.now.bytes.now c.args.image.now.shape c.args.image.now.ready c.get-e.result _ c.monomial_in.result.now c.entry_at.ensures c.monomial_in.ensures in
    let short = lm-short c.args.image.now.bytes.now c.args.image.now.shape c.args.image.now.ready c.get-e.result e.small in
    (omega (arith, c.loop-i-test.true), (omega (arith, e.long, held, c.loop-i.invariant.1.0), omega (arith, held, short, c.loop-i.invariant.1.1)))
