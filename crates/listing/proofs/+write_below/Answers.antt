use Rattle.std.proofs.Common.{◌≡◌, ◌+◌, ◌*◌, ◌≤◌, length, ℕ}
use native.Mathlib.Omega.{arith}
use mathlib.Core.Path.{ap, ◌∙◌}
use lib.ListN.{get_or}
use Rattle.words.specs.Words.{words}
use Rattle.index_image.specs.Shape as at
use Rattle.index_image.proofs.Places.{node-room, row-behind}
use Rattle.index_image.proofs.Trees.{some-node}
use Rattle.listing.specs.Listed.{Here}
use Rattle.listing.proofs.Rows as rows
use Rattle.listing.proofs.+write_below.Goals.{After-node_at-row, After-get-c, After-get-skip, After-get-less, Else-get-eq0}
use Rattle.listing.proofs.+write_below.Goals as goal

-- the row lies within the image
room : {t : ℕ} (c : After-node_at-row t) → 4 * (c.node_at-row.result + at.node_width c.args.image.now.shape.variables) ≤ length c.args.image.now.bytes.now
room c =
    let fits = node-room c.args.image.now.bytes.now c.args.image.now.shape c.args.image.now.ready c.args.k (rows.in_rows c.args.image.now.ready c.requires) in
    omega (arith, c.node_at-row.ensures, fits)

-- what its words say
count : {t : ℕ} (c : After-get-c t) → c.get-c.result ≡ get_or (words c.args.image.now.bytes.now) (at.count_at (at.node_at c.args.image.now.shape c.args.k)) 0
count c = rw c.node_at-row.ensures at c.get-c.ensures

skip : {t : ℕ} (c : After-get-skip t) → c.get-skip.result ≡ get_or (words c.args.image.now.bytes.now) (at.skip_at (at.node_at c.args.image.now.shape c.args.k)) 0
skip c = rw c.node_at-row.ensures at c.get-skip.ensures

less : {t : ℕ} (c : After-get-less t) → c.get-less.result ≡ get_or (words c.args.image.now.bytes.now) (at.count_at (at.node_at c.args.image.now.shape c.args.k + at.node_width c.args.image.now.shape.variables)) 0
less c = rw c.node_at-row.ensures at c.get-less.ensures

-- a branch stands there, for any tree that stands there
branch : {t : ℕ} (c : Else-get-eq0 t) (h : Here (words c.args.image.now.bytes.now) c.args.image.now.shape c.args.k c.args.lo (length c.args.out.now)) → rows.AtBranch c.args.image.now.ready h
branch c h = rows.at-branch c.args.image.now.ready h (λ z. c.if-get-eq0.false (rw c.node_at-row.ensures at c.get.ensures ∙ z))

pub get-requires : goal.get-requires
get-requires t c = omega (arith, room (goal.at.get-requires t c).After-node_at-row)

pub get-c-requires : goal.get-c-requires
get-c-requires t c = omega (arith, room (goal.at.get-c-requires t c).After-node_at-row)

pub get-skip-requires : goal.get-skip-requires
get-skip-requires t c = omega (arith, room (goal.at.get-skip-requires t c).After-node_at-row)

pub write_leaf-requires : goal.write_leaf-requires
write_leaf-requires t c =
    let l = rows.leaf-asked c.args.image.now.ready c.requires c.get-c.result (count (goal.at.write_leaf-requires t c).After-get-c) in
    record { c_bound = l.0; c_in_bounds = l.1 }

pub returns-then-get-eq0 : goal.returns-then-get-eq0
returns-then-get-eq0 t c =
    λ h. rows.leaf-below c.args.image.now.ready h _ _ c.get-c.result (count (goal.at.returns-then-get-eq0 t c).After-get-c) c.write_leaf.ensures.value c.write_leaf.ensures.out_after

pub get-less-requires : goal.get-less-requires
get-less-requires t c =
    let b = branch (goal.at.get-less-requires t c).Else-get-eq0 c.requires in
    omega (
      arith,
      room (goal.at.get-less-requires t c).After-node_at-row,
      c.node_at-row.ensures,
      node-room c.args.image.now.bytes.now c.args.image.now.shape c.args.image.now.ready (c.args.k + 1) (omega (arith, b.less-inside, some-node b.less)),
      row-behind c.args.image.now.shape c.args.k,
    )

pub write_below-n-requires : goal.write_below-n-requires
write_below-n-requires t c =
    let b = branch (goal.at.write_below-n-requires t c).Else-get-eq0 c.requires in (
      omega (arith, c.decreases, b.count-is, b.less-count, b.some-other),
      rows.less-here c.args.image.now.ready c.requires b,
    )

pub overflow_mul-at : goal.overflow_mul-at
overflow_mul-at t c =
    let b = branch (goal.at.overflow_mul-at t c).Else-get-eq0 c.requires in
    omega (
      arith,
      c.well_formed,
      rows.inside c.args.image.now.ready c.requires b c.write_below-n.ensures,
      rows.same-room c.args.image.now.ready c.requires b c.write_below-n.ensures,
    )

pub slice_bounds-write_below-count : goal.slice_bounds-write_below-count
slice_bounds-write_below-count t c = rows.inside c.args.image.now.ready c.requires (branch (goal.at.slice_bounds-write_below-count t c).Else-get-eq0 c.requires) c.write_below-n.ensures

pub slice_bounds-write_below-start : goal.slice_bounds-write_below-start
slice_bounds-write_below-start t c = rows.inside c.args.image.now.ready c.requires (branch (goal.at.slice_bounds-write_below-start t c).Else-get-eq0 c.requires) c.write_below-n.ensures

pub write_below-requires : goal.write_below-requires
write_below-requires t c =
    let b = branch (goal.at.write_below-requires t c).Else-get-eq0 c.requires in
    let ex = skip (goal.at.write_below-requires t c).After-get-skip in (
      omega (
        arith,
        c.decreases,
        b.count-is,
        b.other-count,
        b.some-less,
        ap (λ (j : ℕ). get_or (words c.args.image.now.bytes.now) (at.count_at (at.node_at c.args.image.now.shape (c.args.k + 1 + j))) 0) (ex ∙ b.skip_is),
      ),
      rows.second-here c.args.image.now.ready c.requires b c.write_below-n.ensures ex (less (goal.at.write_below-requires t c).After-get-less),
    )

pub overflow_add-result : goal.overflow_add-result
overflow_add-result t c =
    omega (
      arith,
      rows.few_words c.args.image.now.ready c.requires (branch (goal.at.overflow_add-result t c).Else-get-eq0 c.requires) c.write_below-n.ensures
          (skip (goal.at.overflow_add-result t c).After-get-skip) (less (goal.at.overflow_add-result t c).After-get-less) c.write_below.ensures,
      c.well_formed,
    )

pub returns : goal.returns
returns t c =
    λ h. rows.branch-below c.args.image.now.ready h (branch (goal.at.returns t c).Else-get-eq0 h) c.write_below-n.ensures
    (skip (goal.at.returns t c).After-get-skip) (less (goal.at.returns t c).After-get-less) c.write_below.ensures
