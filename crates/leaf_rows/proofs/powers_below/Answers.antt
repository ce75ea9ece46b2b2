use mathlib.Core.Path.{◌≡◌, refl, ap, ◌∙◌}
use lib.ListN.{length, get_or}
use native.Mathlib.Omega.{arith}
use Rattle.words.proofs.Answers.{refuse, accept}
use Rattle.words.specs.Words.{words}
use Rattle.words.specs.Kinds.{kind, ident}
use Rattle.monomial.specs.Monomial.{first}
use Rattle.monomial.specs.Walk.{words_left}
use Rattle.monomial.proofs.Firsts.{first-canonical, starts-wide}
use Rattle.monomial.proofs.VariableWords.{item-read, rest-read, rest-more}
use Rattle.leaf_rows.proofs.Bounding.{passing, all-passed, Here, at-variable}
use Rattle.leaf_rows.proofs.powers_below.Goals.{In-Some}
use Rattle.leaf_rows.proofs.powers_below.Goals as goal

-- what is known of a variable's word
item : (c : In-Some) → (c.in-Some.w ≡ get_or (first 1 (words c.args.lm.now)) (length c.loop-w.yielded) 0) × (kind c.in-Some.w ≡ 0 → ⊥)
item c =
    item-read (starts-wide c.requires.starts) _ _ _ _ _ (ap words_left c.into_iter-w-iterator.ensures.into_iter_gives ∙ c.variables_of-w-items.ensures)
    c.loop-w.yielded_by c.next.ensures.steps c.in-Some.is

variable : (c : In-Some) → Here c.requires.uppers.some c.loop-w.invariant (item c).0
variable c = at-variable c.requires.uppers.some c.loop-w.invariant (item c).0 (item c).1

pub loop-w-init : goal.loop-w-init
loop-w-init c =
    passing (first 1 (words c.args.lm.now)) (words c.args.hi.now) c.requires.variables_bound (first-canonical (omega arith) c.requires.starts)

pub get-requires : goal.get-requires
get-requires c = omega (arith, c.id.ensures, (variable (goal.at.get-requires c).In-Some).known, c.requires.uppers.one_each)

pub returns-then-get-power : goal.returns-then-get-power
returns-then-get-power c =
    let k = variable (goal.at.returns-then-get-power c).In-Some in
    refuse (λ h. omega (arith, h (ident c.in-Some.w) k.known, k.is, rw c.id.ensures at c.get.ensures, c.power.ensures, c.if-get-power.true))

pub loop-w-preserved : goal.loop-w-preserved
loop-w-preserved c =
    let n = (variable (goal.at.loop-w-preserved c).In-Some).next (omega (arith, rw c.id.ensures at c.get.ensures, c.power.ensures, c.if-get-power.false)) in
    record { b = n.b; below = n.below; ra = rest-more c.in-Some.w c.loop-w.yielded n.ra; passed = n.passed }

pub returns : goal.returns
returns c =
    accept
    (all-passed c.requires.uppers.some c.loop-w.invariant refl
    (rest-read (starts-wide c.requires.starts) _ _ _ _ _ (ap words_left c.into_iter-w-iterator.ensures.into_iter_gives ∙ c.variables_of-w-items.ensures)
    c.loop-w.yielded_by c.next.ensures.steps c.in-None.is))
