use native.Mathlib.Omega.{arith}
use mathlib.Core.Path.{refl}
use lib.ListN.{length-take, length-drop}
use Rattle.listing.proofs.Monomials.{Next, next, written-none, written-inside, written-room, written-more}
use Rattle.listing.proofs.write_leaf.Goals.{After-get-e}
use Rattle.listing.proofs.write_leaf.Goals as goal

-- the entry at the loop's place
entry : (c : After-get-e) → Next c.args.image.now.bytes.now c.args.image.now.shape c.args.image.now.ready c.args.lo c.loop-i.i c.get-e.result
entry c =
    next c.args.image.now.bytes.now c.args.image.now.shape c.args.image.now.ready c.args.lo c.loop-i.i _ c.get-e.result
    (omega (arith, c.permutation_at.ensures)) (omega (arith, c.loop-i-test.true, c.requires.c_bound)) c.get-e.ensures

pub loop-i-init : goal.loop-i-init
loop-i-init c = (omega arith, written-none c.args.image.now.bytes.now c.args.image.now.shape c.args.image.now.ready c.args.lo c.args.out.now)

pub overflow_mul-at : goal.overflow_mul-at
overflow_mul-at c =
    omega (arith, written-inside c.args.image.now.bytes.now c.args.image.now.shape c.args.image.now.ready c.requires.c_in_bounds c.loop-i.invariant.1 c.loop-i.invariant.0, c.loop-i.invariant.1.same)

pub slice_bounds-write_monomial-count : goal.slice_bounds-write_monomial-count
slice_bounds-write_monomial-count c =
    written-inside c.args.image.now.bytes.now c.args.image.now.shape c.args.image.now.ready c.requires.c_in_bounds c.loop-i.invariant.1 c.loop-i.invariant.0

pub slice_bounds-write_monomial-start : goal.slice_bounds-write_monomial-start
slice_bounds-write_monomial-start c =
    written-inside c.args.image.now.bytes.now c.args.image.now.shape c.args.image.now.ready c.requires.c_in_bounds c.loop-i.invariant.1 c.loop-i.invariant.0

pub write_monomial-n-requires : goal.write_monomial-n-requires
write_monomial-n-requires c =
    let e = entry (goal.at.write_monomial-n-requires c).After-get-e in record {
      e_lt_entries = e.small;
      e_in_bounds = simp (length-take, length-drop) (omega (
        arith,
        written-room c.args.image.now.bytes.now c.args.image.now.shape c.args.image.now.ready c.requires.c_in_bounds c.loop-i.invariant.1 c.loop-i-test.true e,
      ));
    }

pub overflow_add-n : goal.overflow_add-n
overflow_add-n c =
    omega (
      arith,
      c.write_monomial-n.ensures.value,
      c.loop-i.invariant.1.same,
      written-room c.args.image.now.bytes.now c.args.image.now.shape c.args.image.now.ready c.requires.c_in_bounds c.loop-i.invariant.1 c.loop-i-test.true (entry (goal.at.overflow_add-n c).After-get-e),
    )

pub loop-i-preserved : goal.loop-i-preserved
loop-i-preserved c = (
  omega (arith, c.loop-i-test.true),
  written-more c.args.image.now.bytes.now c.args.image.now.shape c.args.image.now.ready c.requires.c_in_bounds c.loop-i.invariant.1 c.loop-i-test.true (entry (goal.at.loop-i-preserved c).After-get-e)
      _ _ _ refl c.write_monomial-n.ensures.value c.write_monomial-n.ensures.out_after,
)
