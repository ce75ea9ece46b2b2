use mathlib.Core.Path.{sym, ◌∙◌}
use Prim.Native.Nat.{◌+◌}
use native.Mathlib.Omega.{arith}
use Rattle.index_image.proofs.Places.{row-behind}
use Rattle.kd_descent.proofs.Ways.{row_room, leaf-way, at-branch, tested, less-way, other_way, ratio-key, spot}
use Rattle.kd_descent.proofs.next_step.Goals as goal

pub get-tag-requires : goal.get-tag-requires
get-tag-requires c = let i = c.args.image.now in omega (arith, row_room i.bytes.now i.shape i.range i.room c.requires, c.node_at-at.ensures)

pub get-places-requires : goal.get-places-requires
get-places-requires c = let i = c.args.image.now in omega (arith, row_room i.bytes.now i.shape i.range i.room c.requires, c.node_at-at.ensures)

pub returns-then-tag-eq0 : goal.returns-then-tag-eq0
returns-then-tag-eq0 c =
    let i = c.args.image.now in
    λ g. leaf-way i.bytes.now i.shape i.range i.room g c.get-tag.result c.get-places.result
    (rw c.node_at-at.ensures at c.get-tag.ensures) c.if-tag-eq0.true (rw c.node_at-at.ensures at c.get-places.ensures)

pub get-key-requires : goal.get-key-requires
get-key-requires c = let i = c.args.image.now in omega (arith, row_room i.bytes.now i.shape i.range i.room c.requires, c.node_at-at.ensures)

pub is_below-requires : goal.is_below-requires
is_below-requires c =
    let i = c.args.image.now in
    let tag = rw c.node_at-at.ensures at c.get-tag.ensures in
    let B = at-branch i.bytes.now i.shape i.range i.room c.requires (λ z. c.if-tag-eq0.false (tag ∙ z)) in record {
      le_tag = (omega (arith, tag, B.tag_is), omega (arith, tag, B.tag_is, B.dim-ok));
      key_lt_capacity = ratio-key i.bytes.now i.shape i.range i.room c.requires B c.get-tag.result c.get-key.result tag (rw c.node_at-at.ensures at c.get-key.ensures);
    }

pub returns-then-is_below : goal.returns-then-is_below
returns-then-is_below c =
    let i = c.args.image.now in
    let tag = rw c.node_at-at.ensures at c.get-tag.ensures in
    λ g. let B = at-branch i.bytes.now i.shape i.range i.room g (λ z. c.if-tag-eq0.false (tag ∙ z)) in
    less-way i.bytes.now i.shape i.range i.room g B
    (sym (tested i.bytes.now i.shape i.range i.room g B c.get-tag.result c.get-key.result tag (rw c.node_at-at.ensures at c.get-key.ensures)) ∙ (sym c.is_below.ensures ∙ c.if-is_below.true))

pub get-skip-requires : goal.get-skip-requires
get-skip-requires c = let i = c.args.image.now in omega (arith, row_room i.bytes.now i.shape i.range i.room c.requires, c.node_at-at.ensures)

pub get-passed-requires : goal.get-passed-requires
get-passed-requires c =
    let i = c.args.image.now in
    let B = at-branch i.bytes.now i.shape i.range i.room c.requires (λ z. c.if-tag-eq0.false (rw c.node_at-at.ensures at c.get-tag.ensures ∙ z)) in
    omega (arith, (spot i.shape i.range (c.args.k + 1) (omega (arith, B.two))).fits, row-behind i.shape c.args.k, c.node_at-at.ensures, i.room)

pub returns : goal.returns
returns c =
    let i = c.args.image.now in
    let tag = rw c.node_at-at.ensures at c.get-tag.ensures in
    λ g. let B = at-branch i.bytes.now i.shape i.range i.room g (λ z. c.if-tag-eq0.false (tag ∙ z)) in
    other_way i.bytes.now i.shape i.range i.room g B c.get-skip.result c.get-passed.result
    (sym (tested i.bytes.now i.shape i.range i.room g B c.get-tag.result c.get-key.result tag (rw c.node_at-at.ensures at c.get-key.ensures)) ∙ (sym c.is_below.ensures ∙ c.if-is_below.false))
    (rw c.node_at-at.ensures at c.get-skip.ensures) (rw c.node_at-at.ensures at c.get-passed.ensures)
