use Rattle.monomial.proofs.Firsts.{starts-whole, first-whole}
use mathlib.Core.Path.{◌≡◌, refl, sym, ◌∙◌}
use Rattle.std.specs.Prelude.{false}
use Rattle.refusals.specs.Numbers.{told, number}
use Rattle.divmask.specs.Tracker.{maxima_lent}
use Rattle.divmask.proofs.Growth.{lent-maxima}
use Rattle.monomial.specs.Monomial.{lent}
use Rattle.monomial.proofs.Laws.{lent-canonical}
use Rattle.divmask_work.proofs.Served.{asked-no, asked-yes, refused-by}
use Rattle.divmask_work.specs.Doors.{update_number, update_bytes}
use Rattle.divmask_work.proofs.update.Goals as goal

pub returns-in_err-ask : goal.returns-in_err-ask
unfolding update_number update_bytes told number
returns-in_err-ask c =
    let a = asked-no _ _ _ (sym c.ask.ensures ∙ c.in_err-ask.was) in
    let no : maxima_lent c.args.variables c.args.maxima.now ≡ false = sym c.maxima_good.ensures ∙ a.0 in
    let e = refused-by _ _ _ a.1 c.from_residual.ensures.1 in
    record { value = rw (e, no) refl; maxima_after = rw no refl }

pub returns-in_err-ask-2 : goal.returns-in_err-ask-2
unfolding update_number update_bytes told number
returns-in_err-ask-2 c =
    let yes = sym c.maxima_good.ensures ∙ asked-yes _ _ _ (sym c.ask.ensures ∙ c.in_ok-ask.was) in
    let a = asked-no _ _ _ (sym c.ask-2.ensures ∙ c.in_err-ask-2.was) in
    let no : lent 1 c.args.variables c.args.monomial.now ≡ false = sym c.is_canonical.ensures ∙ a.0 in
    let e = refused-by _ _ _ a.1 c.from_residual-in_err-ask-2.ensures.1 in
    record { value = rw (e, yes, no) refl; maxima_after = rw (yes, no) refl }

pub update-requires : goal.update-requires
update-requires c =
    let yes = sym c.maxima_good.ensures ∙ asked-yes _ _ _ (sym c.ask.ensures ∙ c.in_ok-ask.was) in
    let canonical = sym c.is_canonical.ensures ∙ asked-yes _ _ _ (sym c.ask-2.ensures ∙ c.in_ok-ask-2.was) in
    let g = (lent-maxima c.args.variables c.args.maxima.now).0 yes in record {
      maxima_len = g.0;
      maxima = g.1;
      starts = starts-whole ((lent-canonical 1 c.args.variables c.args.monomial.now).0 canonical).1;
    }

pub returns : goal.returns
unfolding update_number update_bytes told
returns c =
    let yes = sym c.maxima_good.ensures ∙ asked-yes _ _ _ (sym c.ask.ensures ∙ c.in_ok-ask.was) in
    let canonical = sym c.is_canonical.ensures ∙ asked-yes _ _ _ (sym c.ask-2.ensures ∙ c.in_ok-ask-2.was) in
    record {
      value = rw (yes, canonical) refl;
      maxima_after = rw (yes, canonical) (rw (first-whole ((lent-canonical 1 c.args.variables c.args.monomial.now).0 canonical).1) at c.update.ensures);
    }
