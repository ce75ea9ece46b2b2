use Rattle.monomial.proofs.Firsts.{starts-whole}
use lib.ListN.{length, take}
use native.Mathlib.Omega.{arith}
use mathlib.Core.Path.{◌≡◌, refl, sym, ap, ◌∙◌}
use Prim.Native.Nat.{ℕ, ◌*◌}
use lib.Seq.{length-take-le}
use Rattle.words.specs.Words.{words}
use Rattle.index_image.proofs.Gcds.{image-powers, gcd-canonical}
use Rattle.index_image.proofs.Reading.{front-words}
use Rattle.kd_rows.proofs.Writing.{GcdNumbers, gcd-numbers, leaf-written}
use Rattle.kd_rows.proofs.write_leaf.Goals.{After-gcd_of-n}
use Rattle.kd_rows.proofs.write_leaf.Goals as goal

-- the gcd's length in words, and in bytes
numbers : (c : After-gcd_of-n) → GcdNumbers (words c.args.image.now) c.args.s c.requires.ready c.args.lo c.args.c c.requires.c_bound.0 c.gcd_of-n.result
numbers c = gcd-numbers (words c.args.image.now) c.args.s c.requires.ready c.args.lo c.args.c c.requires.c_bound.0
    c.gcd_of-n.new.acc c.gcd_of-n.result c.gcd_of-n.ensures.0 c.gcd_of-n.auto.acc c.gcd_of-n.ensures.1

long : (c : After-gcd_of-n) → length (take (4 * c.gcd_of-n.result) c.gcd_of-n.new.acc) ≡ 4 * c.gcd_of-n.result
long c = length-take-le (4 * c.gcd_of-n.result) c.gcd_of-n.new.acc (omega (arith, c.gcd_of-n.ensures.0, c.gcd_of-n.auto.acc))

pub map-mask-requires : goal.map-mask-requires
map-mask-requires c =
    let gcd-of = c.gcd_of-n in
    rw c.div_map.ensures.0 (starts-whole (rw ((front-words gcd-of.new.acc gcd-of.result), gcd-of.ensures.1)
    (gcd-canonical c.args.s.variables _ (image-powers (words c.args.image.now) c.args.s c.requires.ready.range.vars-to) _)))

pub overflow_cast-c : goal.overflow_cast-c
overflow_cast-c c = omega (arith, (numbers (goal.at.overflow_cast-c c).After-gcd_of-n).count)

pub paste-requires : goal.paste-requires
paste-requires c =
    let g = (goal.at.paste-requires c).After-gcd_of-n in
    omega (arith, long g, (numbers g).short, c.requires.c_bound.1, c.row_head.auto.image)

pub overflow_sub-s : goal.overflow_sub-s
overflow_sub-s c = (numbers (goal.at.overflow_sub-s c).After-gcd_of-n).short

pub clear-requires : goal.clear-requires
clear-requires c =
    omega (arith, (numbers (goal.at.clear-requires c).After-gcd_of-n).short, c.requires.c_bound.1, c.row_head.auto.image, c.paste.auto.s)

pub returns : goal.returns
returns c =
    let gcd-of = c.gcd_of-n in
    let p = numbers (goal.at.returns c).After-gcd_of-n in
    let q = front-words gcd-of.new.acc gcd-of.result in
    leaf-written (words c.args.image.now) c.args.s c.requires.ready c.args.lo c.args.c c.requires.c_bound.0 _ _ _ _ _ _ _ _ c.requires.c_bound.1
    (p.is ∙ ap (length {A = ℕ}) (sym gcd-of.ensures.1 ∙ sym q)) p.short (q ∙ gcd-of.ensures.1)
    (rw (c.div_map.ensures.0, c.div_map.ensures.1) at c.map-mask.ensures) c.row_head.ensures c.paste.ensures c.clear.ensures
