use mathlib.Core.Path.{sym, ◌∙◌}
use native.Mathlib.Omega.{arith}
use lib.ListN.{get_or}
use Rattle.std.proofs.Common.{rules}
use Rattle.words.specs.Words.{words}
use Rattle.fast_compare.proofs.Reading.{vars-of}
use Rattle.label_work.proofs.Replies.{lent-good, large-index, bad-ratio, asking-bad, asking-given}
use Rattle.label_work.proofs.ask.Goals.{then-index-gt268435455-via-then-index-gt268435455, then-index-gt268435455-via-else-index-gt268435455+then-not-is_canonical}
use Rattle.label_work.proofs.ask.Goals as goal

pub returns-then-index-gt268435455 : goal.returns-then-index-gt268435455
returns-then-index-gt268435455 c =
    asking-bad c.args.index c.args.ratio.now c.args.image.now (search rules) (c.sound.ensures.0 c.if-not-sound.false) (λ st i.
    elim c.then-index-gt268435455.branch [
      | then-index-gt268435455-via-then-index-gt268435455 w ↦ large-index _ c.args.index c.args.ratio.now (omega (arith, w.if-index-gt268435455.true))
      | then-index-gt268435455-via-else-index-gt268435455+then-not-is_canonical w ↦ bad-ratio st.variables c.args.index c.args.ratio.now
          (rw (← vars-of c.args.image.now st i, ← w.get.ensures) (sym w.is_canonical.ensures ∙ w.if-not-is_canonical.true))
    ])

pub get_comparer-requires : goal.get_comparer-requires
get_comparer-requires c = record {
  sound = c.sound.ensures.0 c.if-not-sound.false;
  good = (lent-good (get_or (words c.args.image.now) 1 0) c.args.index c.args.ratio.now (omega arith) (rw (← c.get.ensures) (sym c.is_canonical.ensures ∙ c.if-not-is_canonical.false))).1;
}

pub returns : goal.returns
returns c =
    asking-given c.args.index c.args.ratio.now c.args.image.now (search rules) (c.sound.ensures.0 c.if-not-sound.false)
    (λ st i. (lent-good st.variables c.args.index c.args.ratio.now (omega arith)
    (rw (← vars-of c.args.image.now st i, ← c.get.ensures) (sym c.is_canonical.ensures ∙ c.if-not-is_canonical.false))).0) c.get_comparer.result
    c.get_comparer.new.map c.get_comparer.ensures c.told.result c.told.ensures
