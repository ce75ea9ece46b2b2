use Prim.Native.Nat.{◌-◌}
use mathlib.Core.Path.{◌∙◌}
use native.Mathlib.Omega.{arith}
use Rattle.words.specs.Words.{words}
use Rattle.kd_descent.proofs.Ways.{below-ratio, below_power}
use Rattle.kd_descent.proofs.is_below.Goals as goal

pub returns-then-tag-kind : goal.returns-then-tag-kind
returns-then-tag-kind c =
    below-ratio (words c.args.image.now.bytes.now) c.args.image.now.shape (words c.args.lm.now.monomial.now) c.args.label c.args.tag c.args.key
    c.label.result c.if-tag-kind.true c.label.ensures

pub returns : goal.returns
returns c =
    let s = c.args.image.now.shape in
    below_power (words c.args.image.now.bytes.now) s (words c.args.lm.now.monomial.now) c.args.label c.args.tag c.args.key c.get.result c.if-tag-kind.false
    (c.get.ensures ∙ c.args.lm.now.laid.each (c.args.tag - 1 - s.kind) (omega (arith, c.requires.le_tag.1, c.args.image.now.range.vars-to)))
