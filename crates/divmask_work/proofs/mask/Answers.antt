use Rattle.divmask.proofs.Masks.{mask-whole}
use Rattle.words.specs.Words.{words}
use native.Mathlib.Omega.{arith}
use borrow.Author.Tests.{leb-true}
use Rattle.monomial.proofs.Firsts.{starts-whole}
use mathlib.Core.Path.{◌≡◌, refl, sym, ◌∙◌}
use Rattle.std.specs.Prelude.{false}
use Rattle.refusals.specs.Numbers.{told, number}
use Rattle.divmask.specs.Tracker.{maxima_lent}
use Rattle.divmask.proofs.Growth.{lent-maxima}
use Rattle.monomial.specs.Monomial.{lent}
use Rattle.monomial.proofs.Laws.{lent-canonical}
use Rattle.divmask_work.proofs.Served.{put_one, asked-no, asked-yes, refused-by}
use Rattle.divmask_work.specs.Doors.{mask_number, mask_bytes}
use Rattle.divmask_work.proofs.mask.Goals as goal

pub returns-in_err-ask : goal.returns-in_err-ask
unfolding mask_number mask_bytes told number
returns-in_err-ask c =
    let a = asked-no _ _ _ (sym c.ask.ensures ∙ c.in_err-ask.was) in
    let no : maxima_lent c.args.variables c.args.maxima.now ≡ false = sym c.maxima_good.ensures ∙ a.0 in
    let e = refused-by _ _ _ a.1 c.from_residual.ensures.1 in
    record { value = rw (e, no) refl; out_after = rw no refl }

pub returns-in_err-ask-2 : goal.returns-in_err-ask-2
unfolding mask_number mask_bytes told number
returns-in_err-ask-2 c =
    let yes = sym c.maxima_good.ensures ∙ asked-yes _ _ _ (sym c.ask.ensures ∙ c.in_ok-ask.was) in
    let a = asked-no _ _ _ (sym c.ask-2.ensures ∙ c.in_err-ask-2.was) in
    let no : lent 1 c.args.variables c.args.monomial.now ≡ false = sym c.is_canonical.ensures ∙ a.0 in
    let e = refused-by _ _ _ a.1 c.from_residual-in_err-ask-2.ensures.1 in
    record { value = rw (e, yes, no) refl; out_after = rw (yes, no) refl }

pub returns-in_err-ask-3 : goal.returns-in_err-ask-3
unfolding mask_number mask_bytes told number
returns-in_err-ask-3 c =
    let yes = sym c.maxima_good.ensures ∙ asked-yes _ _ _ (sym c.ask.ensures ∙ c.in_ok-ask.was) in
    let canonical = sym c.is_canonical.ensures ∙ asked-yes _ _ _ (sym c.ask-2.ensures ∙ c.in_ok-ask-2.was) in
    let a = asked-no _ _ _ (sym c.ask-3.ensures ∙ c.in_err-ask-3.was) in
    let e = refused-by _ _ _ a.1 c.from_residual-in_err-ask-3.ensures.1 in
    record { value = rw (e, yes, canonical, a.0) refl; out_after = rw (yes, canonical, a.0) refl }

pub invariant_of-map : goal.invariant_of-map
invariant_of-map c =
    let yes = sym c.maxima_good.ensures ∙ asked-yes _ _ _ (sym c.ask.ensures ∙ c.in_ok-ask.was) in
    record { lent = ((lent-maxima c.args.variables c.args.maxima.now).0 yes).1 }

pub map-requires : goal.map-requires
map-requires c =
    let canonical = sym c.is_canonical.ensures ∙ asked-yes _ _ _ (sym c.ask-2.ensures ∙ c.in_ok-ask-2.was) in
    starts-whole ((lent-canonical 1 c.args.variables c.args.monomial.now).0 canonical).1

pub put-requires : goal.put-requires
put-requires c =
    let room = asked-yes _ _ _ (sym c.ask-3.ensures ∙ c.in_ok-ask-3.was) in
    omega (arith, leb-true _ _ room)

pub returns : goal.returns
unfolding mask_number mask_bytes told
returns c =
    let yes = sym c.maxima_good.ensures ∙ asked-yes _ _ _ (sym c.ask.ensures ∙ c.in_ok-ask.was) in
    let canonical = sym c.is_canonical.ensures ∙ asked-yes _ _ _ (sym c.ask-2.ensures ∙ c.in_ok-ask-2.was) in
    let room = asked-yes _ _ _ (sym c.ask-3.ensures ∙ c.in_ok-ask-3.was) in
    let w = c.map.ensures ∙ mask-whole (words c.args.maxima.now) ((lent-canonical 1 c.args.variables c.args.monomial.now).0 canonical).1 in
    record {
      value = rw (yes, canonical, room) refl;
      out_after = rw (yes, canonical, room, ← w) (c.put.ensures ∙ put_one c.args.out.now c.map.result (omega (arith, leb-true _ _ room)));
    }
