use native.Mathlib.Omega.{arith}
use mathlib.Core.Path.{◌≡◌}
use Prim.Native.Nat.{◌+◌}
use Rattle.words.proofs.Answers.{refuse, accept, failed}
use Rattle.words.specs.Words.{words}
use Rattle.index_image.specs.Shape as at
use Rattle.index_image.proofs.Places.{place-fits}
use Rattle.leaf_rows.proofs.Bounding.{bounded-part, not-bounded}
use Rattle.leaf_rows.proofs.entries_ok.Goals as goal

pub entry_ok-requires-clause-e_lt_entries : goal.entry_ok-requires-clause-e_lt_entries
entry_ok-requires-clause-e_lt_entries c =
    let loop = c.loop-i in
    let z : c.permutation_at.result + c.args.lo + loop.i ≡ at.permutation_at c.args.image.now.shape + (c.args.lo + loop.i) = omega (arith, c.permutation_at.ensures) in
    rw (c.get-e.ensures, z) (c.args.image.now.ready.places (c.args.lo + loop.i) (omega arith))

pub returns-then-not-entry_ok : goal.returns-then-not-entry_ok
returns-then-not-entry_ok c =
    refuse
    (not-bounded (words c.args.image.now.bytes.now) c.args.image.now.shape (words c.args.hi.now) c.args.labels.now.start c.args.labels.now.end
    (at.permutation_at c.args.image.now.shape + c.args.lo) c.args.c c.loop-i.i
    (omega (arith, place-fits (words c.args.image.now.bytes.now) c.args.image.now.shape c.args.image.now.ready (c.args.lo + c.args.c) c.requires.c_bound))
    c.loop-i-test.true
    (λ h. failed c.entry_ok.result c.entry_ok.ensures c.if-not-entry_ok.true (rw (c.get-e.ensures, c.permutation_at.ensures) h)))

pub returns : goal.returns
returns c =
    accept
    ((bounded-part (words c.args.image.now.bytes.now) c.args.image.now.shape (words c.args.hi.now) c.args.labels.now.start c.args.labels.now.end
    (at.permutation_at c.args.image.now.shape + c.args.lo) c.args.c
    (omega (arith, place-fits (words c.args.image.now.bytes.now) c.args.image.now.shape c.args.image.now.ready (c.args.lo + c.args.c) c.requires.c_bound))).1
    (λ k h. rw c.permutation_at.ensures at (c.loop-i.invariant.1 k (omega arith))))
