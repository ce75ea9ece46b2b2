use native.Mathlib.Omega.{arith}
use mathlib.Core.Path.{◌≡◌, sym, ◌∙◌}
use Prim.Native.Nat.{◌-◌, ◌+◌, ◌<◌}
use Rattle.std.specs.declared.cmp.Ordering.TheVariants.{Less, Equal, Greater}
use Rattle.std.proofs.lemmas.Cmp.{ranked}
use Rattle.monomial.proofs.Firsts.{begins, first-bytes, read}
use Rattle.words.specs.Words.{words}
use Rattle.monomial.specs.Monomial.{number, first}
use Rattle.monomial.proofs.Canon.{number-some}
use Rattle.monomial_ordering.proofs.Orders.{Matching, match-begin, all-equal, right-alone, left_alone, differs, matches}
use Rattle.monomial_ordering.proofs.revlex.Goals as goal

pub loop-k-init : goal.loop-k-init
loop-k-init c =
    let m : c.args.i - 0 ≡ c.args.i = omega arith in
    let n : c.args.j - 0 ≡ c.args.j = omega arith in
    rw (m, n) (match-begin (number-some c.args.kind) (begins (number-some c.args.kind) c.requires.starts) (begins (number-some c.args.kind) c.requires.starts_2) c.requires.i_value.0
    c.requires.i_value.1)

pub get-x-requires : goal.get-x-requires
get-x-requires c = omega (arith, c.loop-k.invariant.ia, first-bytes (number c.args.kind) c.args.a.now)

pub get-y-requires : goal.get-y-requires
get-y-requires c = omega (arith, c.loop-k.invariant.jb, first-bytes (number c.args.kind) c.args.b.now)

pub returns-then-x-y : goal.returns-then-x-y
returns-then-x-y c =
    let loop = c.loop-k in
    c.differ.ensures ∙ rw c.bias-absent.ensures (differs (number-some c.args.kind) (begins (number-some c.args.kind) c.requires.starts) (begins (number-some c.args.kind) c.requires.starts_2) loop.invariant
    (omega arith) (omega arith) (read (number c.args.kind) _ (c.args.i - loop.k - 1) (omega (arith, loop.invariant.ia)) c.get-x.ensures)
    (read (number c.args.kind) _ (c.args.j - loop.k - 1) (omega (arith, loop.invariant.jb)) c.get-y.ensures) c.if-x-y.true)

pub loop-k-preserved : goal.loop-k-preserved
loop-k-preserved c =
    let loop = c.loop-k in
    let m : c.args.i - (loop.k + 1) ≡ c.args.i - loop.k - 1 = omega arith in
    let n : c.args.j - (loop.k + 1) ≡ c.args.j - loop.k - 1 = omega arith in
    rw (m, n) (matches (number-some c.args.kind) (begins (number-some c.args.kind) c.requires.starts) (begins (number-some c.args.kind) c.requires.starts_2) loop.invariant
    (omega arith) (omega arith) (read (number c.args.kind) _ (c.args.i - loop.k - 1) (omega (arith, loop.invariant.ia)) c.get-x.ensures)
    (read (number c.args.kind) _ (c.args.j - loop.k - 1) (omega (arith, loop.invariant.jb)) c.get-y.ensures) (omega arith))

pub get-requires : goal.get-requires
get-requires c = omega (arith, c.requires.i_value.1, first-bytes (number c.args.kind) c.args.b.now)

pub get-requires-in-Greater : goal.get-requires-in-Greater
get-requires-in-Greater c = omega (arith, c.requires.i_value.0, first-bytes (number c.args.kind) c.args.a.now)

pub returns-in-Less : goal.returns-in-Less
returns-in-Less c =
    let l : c.args.i < c.args.j = ranked c.args.i c.args.j Less (sym c.in-Less.is ∙ c.cmp.ensures) in
    let e : c.loop-k.k ≡ c.args.i = omega arith in
    let m : Matching (number c.args.kind) (first (number c.args.kind) (words c.args.a.now)) (first (number c.args.kind) (words c.args.b.now)) (c.args.i - c.args.i) (c.args.j - c.args.i) = rw e at c.loop-k.invariant in
    c.cmp-in-Less.ensures ∙ rw (c.power.ensures, c.bias-absent.ensures) (right-alone (number-some c.args.kind) (begins (number-some c.args.kind) c.requires.starts) (begins (number-some c.args.kind) c.requires.starts_2) m (omega arith) (omega arith)
    (read (number c.args.kind) _ (c.args.j - c.args.i - 1) (omega (arith, c.requires.i_value.1)) c.get.ensures))

pub returns-in-Equal : goal.returns-in-Equal
returns-in-Equal c =
    let l : c.args.i ≡ c.args.j = ranked c.args.i c.args.j Equal (sym c.in-Equal.is ∙ c.cmp.ensures) in
    all-equal (number-some c.args.kind) (begins (number-some c.args.kind) c.requires.starts) (begins (number-some c.args.kind) c.requires.starts_2) c.loop-k.invariant (omega arith) (omega arith)

pub returns-in-Greater : goal.returns-in-Greater
returns-in-Greater c =
    let l : c.args.j < c.args.i = ranked c.args.i c.args.j Greater (sym c.in-Greater.is ∙ c.cmp.ensures) in
    let e : c.loop-k.k ≡ c.args.j = omega arith in
    let m : Matching (number c.args.kind) (first (number c.args.kind) (words c.args.a.now)) (first (number c.args.kind) (words c.args.b.now)) (c.args.i - c.args.j) (c.args.j - c.args.j) = rw e at c.loop-k.invariant in
    c.cmp-in-Greater.ensures ∙ rw (c.power-in-Greater.ensures, c.bias-absent.ensures) (left_alone (number-some c.args.kind) (begins (number-some c.args.kind) c.requires.starts) (begins (number-some c.args.kind) c.requires.starts_2) m (omega arith) (omega arith)
    (read (number c.args.kind) _ (c.args.i - c.args.j - 1) (omega (arith, c.requires.i_value.0)) c.get-in-Greater.ensures))
