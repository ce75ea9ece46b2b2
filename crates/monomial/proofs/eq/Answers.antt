use native.Mathlib.Omega.{arith}
use mathlib.Core.Path.{sym, ◌∙◌}
use Rattle.words.specs.Words.{words}
use Rattle.words.proofs.Laws.{length-words}
use Rattle.monomial.proofs.Divisions.{equal-at, differ-at, equal-end, other_length}
use Rattle.monomial.proofs.eq.Goals as goal

pub returns-then-n-b : goal.returns-then-n-b
returns-then-n-b c =
    sym (other_length (words c.args.a.now) (words c.args.b.now)
    (λ e. c.if-n-b.true (omega (arith, length-words c.args.a.now, length-words c.args.b.now))))

pub returns-then-get : goal.returns-then-get
returns-then-get c =
    let loop = c.loop-i in
    sym (loop.invariant ∙ differ-at (words c.args.a.now) (words c.args.b.now) loop.i
    (omega (arith, length-words c.args.a.now, length-words c.args.b.now))
    (omega (arith, length-words c.args.a.now, length-words c.args.b.now))
    (λ e. c.if-get.true (c.get.ensures ∙ e ∙ sym c.get-in-loop-i.ensures)))

pub loop-i-preserved : goal.loop-i-preserved
loop-i-preserved c =
    let loop = c.loop-i in
    loop.invariant ∙ equal-at (words c.args.a.now) (words c.args.b.now) loop.i
    (omega (arith, length-words c.args.a.now, length-words c.args.b.now))
    (omega (arith, length-words c.args.a.now, length-words c.args.b.now))
    (sym c.get.ensures ∙ c.if-get.false ∙ c.get-in-loop-i.ensures)

pub returns : goal.returns
returns c =
    sym (c.loop-i.invariant ∙ equal-end (words c.args.a.now) (words c.args.b.now) c.loop-i.i
    (omega (arith, length-words c.args.a.now, length-words c.args.b.now))
    (omega (arith, length-words c.args.a.now, length-words c.args.b.now)))
