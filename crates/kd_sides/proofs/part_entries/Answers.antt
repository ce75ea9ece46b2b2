use native.Mathlib.Omega.{arith}
use mathlib.Core.Path.{refl, sym, ◌≡◌, ◌∙◌}
use Prim.Native.Nat.{◌+◌, ◌*◌, ◌≤◌}
use lib.ListN.{length, take}
use mathlib.Core.List.{◌++◌}
use lib.Seq.{length-take-le}
use Rattle.words.specs.Words.{words}
use Rattle.index_image.proofs.Places.{place-room}
use mathlib.Core.Bool.{true, false}
use Rattle.kd_dimension.specs.Choice.{key_in}
use Rattle.kd_sides.specs.Sides.{lesses, others, on_side}
use Rattle.std.proofs.Common.{rules}
use Rattle.kd_sides.proofs.Parting.{less-says, other-says}
use Rattle.kd_sides.proofs.Writing.{parts-length, parts-small, parted-words}
use Rattle.kd_sides.proofs.part_entries.Goals.{Start, After-gather-n, After-gather-m}
use Rattle.kd_sides.proofs.part_entries.Goals as goal

-- the two sides together have all the entries, which are few
all : (a : Start) → (length (lesses (words a.args.image.now) a.args.s a.args.average.dim a.args.average.value a.args.lo a.args.c)
    + length (others (words a.args.image.now) a.args.s a.args.average.dim a.args.average.value a.args.lo a.args.c) ≡ a.args.c) × (a.args.c ≤ 4096)
all a = parts-length (words a.args.image.now) a.args.s a.requires.ready a.args.average.dim a.args.average.value a.args.lo a.args.c a.requires.d_bound.1

-- so many are gathered first
first : (c : After-gather-n) → c.gather-n.result ≡ length (lesses (words c.args.image.now) c.args.s c.args.average.dim c.args.average.value c.args.lo c.args.c)
first c = (c.gather-n.ensures (on_side (key_in (words c.args.image.now) c.args.s) c.args.average.dim c.args.average.value true) (λ e b l k. search (rules, less-says))).count

-- and so many in all
record Gathered (c : After-gather-m) : Type 0 where
  less : c.gather-n.result ≡ length (lesses (words c.args.image.now) c.args.s c.args.average.dim c.args.average.value c.args.lo c.args.c)
  other : c.gather-m.result ≡ length (others (words c.args.image.now) c.args.s c.args.average.dim c.args.average.value c.args.lo c.args.c)
  sum : c.gather-n.result + c.gather-m.result ≡ c.args.c
  few : c.args.c ≤ 4096
  room : 4 * (c.gather-n.result + c.gather-m.result) ≤ length c.gather-m.new.out
  long : length (take (4 * (c.gather-n.result + c.gather-m.result)) c.gather-m.new.out) ≡ 4 * (c.gather-n.result + c.gather-m.result)
  words-are : words (take (4 * (c.gather-n.result + c.gather-m.result)) c.gather-m.new.out) ≡ lesses (words c.args.image.now) c.args.s c.args.average.dim c.args.average.value c.args.lo c.args.c
      ++ others (words c.args.image.now) c.args.s c.args.average.dim c.args.average.value c.args.lo c.args.c

gathered : (c : After-gather-m) → Gathered c
gathered c =
    let W = words c.args.image.now in
    let a = c.args.average in
    let p = parts-length W c.args.s c.requires.ready a.dim a.value c.args.lo c.args.c c.requires.d_bound.1 in
    let n = c.gather-n.ensures (on_side (key_in W c.args.s) a.dim a.value true) (λ e b l k. search (rules, less-says)) in
    let m = c.gather-m.ensures (on_side (key_in W c.args.s) a.dim a.value false) (λ e b l k. search (rules, other-says)) in
    let sum : c.gather-n.result + c.gather-m.result ≡ c.args.c = omega (arith, p, n.count, m.count) in
    let room : 4 * (c.gather-n.result + c.gather-m.result) ≤ length c.gather-m.new.out = omega (arith, p, sum, c.gather-n.auto.out, c.gather-m.auto.out) in
    record {
      less = n.count;
      other = m.count;
      sum = sum;
      few = p.1;
      room = room;
      long = length-take-le (4 * (c.gather-n.result + c.gather-m.result)) c.gather-m.new.out room;
      words-are = parted-words _ _ _ _ _ _ _ (parts-small W c.args.s c.requires.ready a.dim a.value c.args.lo c.args.c c.requires.d_bound.1)
          n.count m.count n.bytes m.bytes (omega (arith, sum, p));
    }

pub gather-n-requires : goal.gather-n-requires
gather-n-requires c = record {
  lo_bound = c.requires.d_bound.1;
  asked = λ e l. search (rules, c.requires.d_bound.0);
  taken = record {
    p = on_side (key_in (words c.args.image.now) c.args.s) c.args.average.dim c.args.average.value true;
    says = λ e b l k. search (rules, less-says);
    room = omega (arith, all (goal.at.gather-n-requires c).Start);
  };
}

pub gather-m-requires : goal.gather-m-requires
gather-m-requires c = record {
  lo_bound = c.requires.d_bound.1;
  asked = λ e l. search (rules, c.requires.d_bound.0);
  taken = record {
    p = on_side (key_in (words c.args.image.now) c.args.s) c.args.average.dim c.args.average.value false;
    says = λ e b l k. search (rules, other-says);
    room = omega (arith, all (goal.at.gather-m-requires c).Start, c.gather-n.auto.out, first (goal.at.gather-m-requires c).After-gather-n);
  };
}

pub overflow_add-scratch : goal.overflow_add-scratch
overflow_add-scratch c = let g = gathered (goal.at.overflow_add-scratch c).After-gather-m in omega (arith, g.sum, g.few)

pub overflow_mul-scratch : goal.overflow_mul-scratch
overflow_mul-scratch c = let g = gathered (goal.at.overflow_mul-scratch c).After-gather-m in omega (arith, g.sum, g.few)

pub slice_bounds-scratch-end : goal.slice_bounds-scratch-end
slice_bounds-scratch-end c = let g = gathered (goal.at.slice_bounds-scratch-end c).After-gather-m in g.room

pub slice_bounds-paste-end : goal.slice_bounds-paste-end
slice_bounds-paste-end c = let g = gathered (goal.at.slice_bounds-paste-end c).After-gather-m in sym g.long

pub paste-requires : goal.paste-requires
paste-requires c =
    let g = gathered (goal.at.paste-requires c).After-gather-m in
    let room = place-room c.args.image.now c.args.s c.requires.ready (c.args.lo + c.args.c) c.requires.d_bound.1 in
    omega (arith, g.sum, g.long, room, c.permutation_at.ensures)

pub returns : goal.returns
returns c =
    let g = gathered (goal.at.returns c).After-gather-m in
    record { value = g.less; image_after = c.paste.ensures ∙ rw (g.words-are, c.permutation_at.ensures) refl }
