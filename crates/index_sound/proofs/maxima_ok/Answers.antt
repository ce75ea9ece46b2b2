use native.Mathlib.Omega.{arith}
use mathlib.Core.Path.{◌≡◌, sym, ◌∙◌}
use mathlib.Core.Bool.{Bool, true}
use mathlib.Core.Logic.{◌↔◌}
use Prim.Native.Nat.{◌+◌, ◌-◌, ◌*◌}
use lib.ListN.{take, drop, length-take, length-drop}
use Rattle.words.specs.Words.{words}
use Rattle.words.specs.Tables.{part}
use Rattle.words.proofs.Laws.{length-words}
use Rattle.words.proofs.Tables.{never, length_part}
use Rattle.divmask.specs.Tracker.{Maxima, maxima_lent}
use Rattle.index_image.specs.Shape as at
use Rattle.index_image.proofs.Bounds.{inside}
use Rattle.index_image.proofs.Slots.{range-words}
use Rattle.index_sound.proofs.Steps.{maxima-is}
use Rattle.index_sound.proofs.maxima_ok.Goals.{Start}
use Rattle.index_sound.proofs.maxima_ok.Goals as goal

-- the answer for the present maxima
present : (s : Start) (r : Bool) → let image = s.args.image.now in let m = image.shape.variables in
    r ≡ maxima_lent m (take (4 * at.maxima_at + 4 * m - 4 * at.maxima_at) (drop (4 * at.maxima_at) image.bytes.now))
    → (r ≡ true) ↔ Maxima m (part (words image.bytes.now) at.maxima_at m)
present s r e =
    let image = s.args.image.now in
    maxima-is image.shape.variables _ _ r (range-words image.bytes.now at.maxima_at image.shape.variables)
    (simp (length-take, length-drop) (omega (arith, inside image.shape image.range 0 image.range.cap-from, image.room))) e

pub returns-then-maxima_good : goal.returns-then-maxima_good
returns-then-maxima_good c =
    let image = c.args.image.now in
    let m = image.shape.variables in
    let p = present (goal.at.returns-then-maxima_good c).Start _ c.maxima_good.ensures in
    let q = maxima-is m c.map.result.now _ _ c.map.ensures.is
    (omega (arith, c.map.ensures.long, length-words image.bytes.now, length_part (words image.bytes.now) (at.map_at m) m, inside image.shape image.range 0 image.range.cap-from, image.room))
    c.maxima_good-then-maxima_good.ensures in
    (λ z. record { present = p.0 c.if-maxima_good.true; map = q.0 z }, λ x. q.1 x.map)

pub returns-else-maxima_good : goal.returns-else-maxima_good
returns-else-maxima_good c =
    let p = present (goal.at.returns-else-maxima_good c).Start _ c.maxima_good.ensures in
    (λ z. never (sym c.if-maxima_good.false ∙ z), λ x. p.1 x.present)
