use native.Mathlib.Omega.{arith}
use borrow.Author.Tests.{leb-true}
use mathlib.Core.List.{[], ◌∷◌}
use mathlib.Core.Bool.{cond}
use Prim.Native.Nat.{ℕ}
use Rattle.words.specs.Words.{paste_w}
use Rattle.words.specs.Kinds.{answer_word}
use mathlib.Core.Path.{◌≡◌, refl, ap, sym, ◌∙◌}
use Rattle.std.specs.Prelude.{false}
use Rattle.refusals.specs.Numbers.{told, number}
use Rattle.divmask.specs.Tracker.{maxima_lent}
use Rattle.divmask.proofs.Growth.{lent-maxima}
use Rattle.divmask_work.proofs.Served.{put_one, asked-no, asked-yes, refused-by, byte-is}
use Rattle.divmask_work.specs.Doors.{growth_number, growth_bytes}
use Rattle.divmask_work.proofs.growth.Goals as goal

pub returns-in_err-ask : goal.returns-in_err-ask
unfolding growth_number growth_bytes told number
returns-in_err-ask c =
    let a = asked-no _ _ _ (sym c.ask.ensures ∙ c.in_err-ask.was) in
    let no : maxima_lent c.args.variables c.args.maxima.now ≡ false = sym c.maxima_good.ensures ∙ a.0 in
    let e = refused-by _ _ _ a.1 c.from_residual.ensures.1 in
    record { value = rw (e, no) refl; out_after = rw no refl }

pub returns-in_err-ask-2 : goal.returns-in_err-ask-2
unfolding growth_number growth_bytes told number
returns-in_err-ask-2 c =
    let yes = sym c.maxima_good.ensures ∙ asked-yes _ _ _ (sym c.ask.ensures ∙ c.in_ok-ask.was) in
    let a = asked-no _ _ _ (sym c.ask-2.ensures ∙ c.in_err-ask-2.was) in
    let e = refused-by _ _ _ a.1 c.from_residual-in_err-ask-2.ensures.1 in
    record { value = rw (e, yes, a.0) refl; out_after = rw (yes, a.0) refl }

pub has_grown_beyond_percentage-grown-requires : goal.has_grown_beyond_percentage-grown-requires
has_grown_beyond_percentage-grown-requires c =
    ((lent-maxima c.args.variables c.args.maxima.now).0 (sym c.maxima_good.ensures ∙ asked-yes _ _ _ (sym c.ask.ensures ∙ c.in_ok-ask.was))).1

pub put-requires : goal.put-requires
put-requires c =
    let room = asked-yes _ _ _ (sym c.ask-2.ensures ∙ c.in_ok-ask-2.was) in
    omega (arith, leb-true _ _ room)

pub returns : goal.returns
unfolding growth_number growth_bytes told
returns c =
    let yes = sym c.maxima_good.ensures ∙ asked-yes _ _ _ (sym c.ask.ensures ∙ c.in_ok-ask.was) in
    let room = asked-yes _ _ _ (sym c.ask-2.ensures ∙ c.in_ok-ask-2.was) in
    let e : c.answer_word.result ≡ answer_word (cond c.has_grown_beyond_percentage-grown.result 1 0) = c.answer_word.ensures ∙ ap answer_word (c.from.ensures ∙ byte-is _) in
    record {
      value = rw (yes, room) refl;
      out_after = rw (yes, room, ← c.has_grown_beyond_percentage-grown.ensures) (c.put.ensures ∙ put_one c.args.out.now c.answer_word.result (omega (arith, leb-true _ _ room))
          ∙ ap (λ (w : ℕ). paste_w c.args.out.now 0 (w ∷ [])) e);
    }
