use native.Mathlib.Omega.{arith}
use mathlib.Core.Path.{◌≡◌, sym, ◌∙◌}
use mathlib.Core.Bool.{true}
use mathlib.Core.Logic.{◌↔◌}
use Prim.Native.Nat.{◌+◌, ◌-◌, ◌/◌, ◌≤◌}
use lib.ListN.{length}
use Rattle.words.specs.Words.{words}
use Rattle.words.specs.Tables.{part, zeros}
use Rattle.words.proofs.Tables.{never}
use Rattle.index_image.specs.Layout.{slot}
use Rattle.index_image.proofs.Slots.{range-words}
use Rattle.leaf_rows.proofs.Testing.{slot_iff}
use Rattle.words.proofs.Laws.{length-words}
use Rattle.monomial.proofs.Powers.{canonical-length}
use Rattle.index_image.specs.Shape as at
use Rattle.leaf_rows.proofs.gcd_ok.Goals.{Start, After-eq}
use Rattle.leaf_rows.proofs.gcd_ok.Goals as goal

-- the gcd fits in its slot
short : (a : Start) → length a.args.gcd.now / 4 ≤ at.slot_width a.args.image.now.shape.variables
short a =
    omega (
      arith,
      length-words a.args.gcd.now,
      canonical-length 1 a.args.image.now.shape.variables (words a.args.gcd.now) (omega arith) (omega (arith, a.args.image.now.ready.range.vars-to)) a.requires.canonical,
    )

pub slice_bounds-eq-end : goal.slice_bounds-eq-end
slice_bounds-eq-end c = omega (arith, short (goal.at.slice_bounds-eq-end c).Start, c.requires.variables_in_bounds)

pub overflow_sub-s : goal.overflow_sub-s
overflow_sub-s c = omega (arith, short (goal.at.overflow_sub-s c).Start)

-- what is asked, by the two answers
decided : (c : After-eq) → let W = words c.args.image.now.bytes.now in
    let m = c.args.image.now.shape.variables in
    let g = at.gcd_at c.args.at in
    let n = length c.args.gcd.now / 4 in
    (part W g (at.slot_width m) ≡ slot m (words c.args.gcd.now)) ↔ ((c.eq.result ≡ true) × (part W (g + n) (at.slot_width m - n) ≡ zeros (at.slot_width m - n)))
decided c =
    rw (rw (range-words c.args.image.now.bytes.now (at.gcd_at c.args.at) (length c.args.gcd.now / 4)) at c.eq.ensures)
    (slot_iff (words c.args.image.now.bytes.now) c.args.image.now.shape.variables (at.gcd_at c.args.at) (length c.args.gcd.now / 4) (words c.args.gcd.now) c.args.image.now.ready.range.vars-to
    c.requires.canonical (sym (length-words c.args.gcd.now)) (omega (arith, length-words c.args.image.now.bytes.now, c.requires.variables_in_bounds)))

pub returns-then-eq : goal.returns-then-eq
returns-then-eq c =
    let d = decided (goal.at.returns-then-eq c).After-eq in
    (λ t. d.1 (c.if-eq.true, c.is_blank.ensures.0 t), λ o. c.is_blank.ensures.1 (d.0 o).1)

pub returns-else-eq : goal.returns-else-eq
returns-else-eq c =
    let d = decided (goal.at.returns-else-eq c).After-eq in
    (λ t. never (sym c.if-eq.false ∙ t), λ o. (d.0 o).0)
