use native.Mathlib.Omega.{arith}
use Rattle.monomial.specs.Monomial.{first}
use Rattle.monomial.proofs.Firsts.{starts-wide}
use mathlib.Core.Path.{◌≡◌, sym, ap}
use Prim.Native.Nat.{◌+◌, ◌*◌, ◌/◌, ◌≤◌}
use lib.ListN.{length}
use Rattle.words.specs.Words.{words}
use Rattle.words.proofs.Laws.{length-words}
use Rattle.index_image.specs.Shape as at
use Rattle.index_image.specs.Walk.{lm_in}
use Rattle.index_image.proofs.Gcds.{lm-canonical}
use Rattle.index_image.proofs.Places.{EntryAt, entry-room, place-room, place-fits, entry-at-place}
use Rattle.monomial.proofs.Powers.{canonical-length}
use Rattle.index_image.proofs.Reading.{lm-read, fold-none, fold-canonical, lm-64, fold-one, fold_more}
use Rattle.index_image.proofs.image.ReadyImage.gcd_of.Goals.{After-get-e, After-get-e-in-loop-i, After-monomial_from, After-monomial_in-first, Start}
use Rattle.index_image.proofs.image.ReadyImage.gcd_of.Goals as goal

places : (a : Start) → (at.permutation_at a.args.self.now.shape + a.args.lo) + a.args.c ≤ length (words a.args.self.now.bytes.now)
places a = omega (arith, place-fits (words a.args.self.now.bytes.now) a.args.self.now.shape a.args.self.now.ready (a.args.lo + a.args.c) a.requires.c_bound)

room : (a : Start) → 4 * ((at.permutation_at a.args.self.now.shape + a.args.lo) + a.args.c) ≤ length a.args.self.now.bytes.now
room a = omega (arith, place-room a.args.self.now.bytes.now a.args.self.now.shape a.args.self.now.ready (a.args.lo + a.args.c) a.requires.c_bound)

-- the first entry, and its lm
first_entry : (c : After-get-e) → EntryAt (words c.args.self.now.bytes.now) c.args.self.now.shape c.args.lo 0 c.get-e.result
first_entry c =
    entry-at-place (words c.args.self.now.bytes.now) c.args.self.now.shape c.args.self.now.ready c.args.lo 0
    (c.permutation_at.result + c.args.lo) c.get-e.result
    (omega (arith, c.permutation_at.ensures)) (omega (arith, c.requires.c_bound, c.if-c-eq0.false)) c.get-e.ensures

first-lm : (c : After-monomial_in-first) → words c.monomial_in-first.result.now ≡ lm_in (words c.args.self.now.bytes.now) c.args.self.now.shape c.get-e.result
first-lm c =
    lm-read _ c.args.self.now.shape c.get-e.result c.entry_at.result _
    c.entry_at.ensures c.monomial_in-first.ensures.is

-- the next one, and its lm
next-entry : (c : After-get-e-in-loop-i) → EntryAt (words c.args.self.now.bytes.now) c.args.self.now.shape c.args.lo c.loop-i.i c.get-e-in-loop-i.result
next-entry c =
    let permutation-at = c.permutation_at in
    let i = c.loop-i.i in
    entry-at-place (words c.args.self.now.bytes.now) c.args.self.now.shape c.args.self.now.ready c.args.lo i
    (permutation-at.result + c.args.lo + i) c.get-e-in-loop-i.result
    (omega (arith, permutation-at.ensures)) (omega (arith, c.requires.c_bound, c.loop-i-test.true)) c.get-e-in-loop-i.ensures

next-lm : (c : After-monomial_from) → let get2 = c.get-e-in-loop-i in
    first 1 (words c.monomial_from.result.now) ≡ lm_in (words c.args.self.now.bytes.now) c.args.self.now.shape get2.result
next-lm c =
    lm-read _ c.args.self.now.shape
    c.get-e-in-loop-i.result c.entry_at-in-loop-i.result _ c.entry_at-in-loop-i.ensures c.monomial_from.ensures.is

pub returns-then-c-eq0 : goal.returns-then-c-eq0
returns-then-c-eq0 c =
    let put = c.put in (
      omega arith,
      fold-none (words c.args.self.now.bytes.now) c.args.self.now.shape c.args.self.now.ready ((at.permutation_at c.args.self.now.shape + c.args.lo)) c.args.c c.args.acc.now
          (omega (arith, c.requires.acc_len)) c.if-c-eq0.true put.new.s put.ensures,
    )

pub get-e-requires : goal.get-e-requires
get-e-requires c = omega (arith, room (goal.at.get-e-requires c).Start, c.permutation_at.ensures)

pub paste-requires : goal.paste-requires
paste-requires c =
    let get = c.get-e in
    let monomial-in = c.monomial_in-first in
    let lm = lm-canonical (words c.args.self.now.bytes.now) c.args.self.now.shape get.result
    (c.args.self.now.ready.lms get.result (first_entry (goal.at.paste-requires c).After-get-e).small) in
    omega (
      arith,
      monomial-in.ensures.long,
      canonical-length 1 c.args.self.now.shape.variables _ (omega arith) (omega (arith, c.args.self.now.ready.range.vars-to)) lm,
      ap length (first-lm (goal.at.paste-requires c).After-monomial_in-first),
      ap length monomial-in.ensures.is,
      c.requires.acc_len,
      c.args.self.now.ready.range.vars-to,
    )

pub loop-i-init : goal.loop-i-init
loop-i-init c =
    let permutation-at = c.permutation_at in
    let get = c.get-e in
    let monomial-in = c.monomial_in-first in
    let paste = c.paste in
    let left = c.if-c-eq0.false in
    fold-one (words c.args.self.now.bytes.now) c.args.self.now.shape c.args.self.now.ready ((at.permutation_at c.args.self.now.shape + c.args.lo)) c.args.c (places (goal.at.loop-i-init c).Start)
    get.result (c.args.self.now.ready.lms get.result (first_entry (goal.at.loop-i-init c).After-get-e).small)
    (omega (arith, left)) (rw permutation-at.ensures at get.ensures) c.args.acc.now paste.new.s
    (words monomial-in.result.now) (length monomial-in.result.now / 4) (omega (arith, paste.auto.s, c.requires.acc_len))
    (first-lm (goal.at.loop-i-init c).After-monomial_in-first) (sym (length-words monomial-in.result.now)) paste.ensures

pub get-e-requires-in-loop-i : goal.get-e-requires-in-loop-i
get-e-requires-in-loop-i c =
    let permutation-at = c.permutation_at in
    omega (arith, room (goal.at.get-e-requires-in-loop-i c).Start, permutation-at.ensures)

pub entry_at-requires-in-loop-i : goal.entry_at-requires-in-loop-i
entry_at-requires-in-loop-i c =
    let range = c.args.self.now.ready.range in record { in_range = range; i_le_capacity = omega (arith, (next-entry (goal.at.entry_at-requires-in-loop-i c).After-get-e-in-loop-i).small, range.few) }

pub monomial_from-requires : goal.monomial_from-requires
monomial_from-requires c =
    let small = (next-entry (goal.at.monomial_from-requires c).After-get-e-in-loop-i).small in record { fact = rw c.entry_at-in-loop-i.ensures (c.args.self.now.ready.lms _ small); g_in_bounds = rw c.entry_at-in-loop-i.ensures (omega (arith, entry-room c.args.self.now.bytes.now c.args.self.now.shape c.args.self.now.ready _ small)) }

pub meet-n-requires : goal.meet-n-requires
meet-n-requires c =
    let loop = c.loop-i in
    let get2 = c.get-e-in-loop-i in
    let W = words c.args.self.now.bytes.now in record {
      acc_len = loop.invariant.room;
      n_bound = loop.invariant.few;
      canonical = fold-canonical W c.args.self.now.shape c.args.self.now.ready ((at.permutation_at c.args.self.now.shape + c.args.lo)) c.args.c loop.acc loop.n loop.i loop.invariant;
      starts = starts-wide c.monomial_from.ensures.starts;
      canonical_2 = lm-64 W c.args.self.now.shape c.args.self.now.ready ((at.permutation_at c.args.self.now.shape + c.args.lo)) c.args.c (places (goal.at.meet-n-requires c).Start)
          get2.result (c.args.self.now.ready.lms get2.result (next-entry (goal.at.meet-n-requires c).After-get-e-in-loop-i).small) _ (next-lm (goal.at.meet-n-requires c).After-monomial_from);
    }

pub loop-i-preserved : goal.loop-i-preserved
loop-i-preserved c =
    let meet = c.meet-n in
    let monomial-from = c.monomial_from in
    let get2 = c.get-e-in-loop-i in
    let loop = c.loop-i in
    let permutation-at = c.permutation_at in
    fold_more (words c.args.self.now.bytes.now) c.args.self.now.shape c.args.self.now.ready ((at.permutation_at c.args.self.now.shape + c.args.lo)) c.args.c (places (goal.at.loop-i-preserved c).Start)
    get2.result (c.args.self.now.ready.lms get2.result (next-entry (goal.at.loop-i-preserved c).After-get-e-in-loop-i).small)
    loop.acc loop.n loop.i loop.invariant c.loop-i-test.true (rw permutation-at.ensures at get2.ensures) meet.new.acc
    (first 1 (words monomial-from.result.now)) meet.result (omega (arith, meet.auto.acc, loop.invariant.room))
    (next-lm (goal.at.loop-i-preserved c).After-monomial_from) meet.ensures.r_value meet.ensures.acc_after
