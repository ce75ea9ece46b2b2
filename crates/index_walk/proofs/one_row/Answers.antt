use native.Mathlib.Omega.{arith}
use mathlib.Core.Path.{sym, ◌∙◌}
use Prim.Native.Nat.{◌+◌, ◌*◌, ◌≤◌}
use lib.ListN.{length}
use Rattle.words.specs.Words.{words}
use Rattle.index_image.specs.Shape as at
use Rattle.words.proofs.Tables.{never}
use Rattle.index_image.proofs.Places.{node-room}
use Rattle.index_walk.proofs.Walks.{Row, Tagged, not-one, too_many, a-leaf, no-leaf}
use Rattle.index_walk.proofs.one_row.Goals.{After-get-c, After-node_at-at, Else-s-c}
use Rattle.index_walk.proofs.one_row.Goals as goal

room : (c : After-node_at-at) → 4 * (c.node_at-at.result + at.node_width c.args.image.now.shape.variables) ≤ length c.args.image.now.bytes.now
room c =
    omega (arith, c.node_at-at.ensures, node-room c.args.image.now.bytes.now c.args.image.now.shape c.args.image.now.ready 0 (omega (arith, c.requires.nodes_value)))

row : (c : After-get-c) → Row c.args.image.now.ready (words c.args.hi.now) 0 4294967296 0 0 c.args.image.now.shape.entries c.get-c.result
row c = record { places = omega arith; count = rw c.node_at-at.ensures at c.get-c.ensures }

tagged : (c : Else-s-c) → let get = c.get in
    Tagged c.args.image.now.ready (words c.args.hi.now) 0 4294967296 0 0 c.args.image.now.shape.entries c.get-c.result
    get.result
tagged c = record {
  row = (record { places = omega arith; count = rw c.node_at-at.ensures at c.get-c.ensures });
  used = omega (arith, c.requires.nodes_value);
  fits = omega (arith, c.if-s-c.false);
  tag_is = rw c.node_at-at.ensures at c.get.ensures;
}

pub get-requires : goal.get-requires
get-requires c = omega (arith, room (goal.at.get-requires c).After-node_at-at)

pub returns-then-get-ne0 : goal.returns-then-get-ne0
returns-then-get-ne0 c =
    not-one c.args.image.now.ready (omega (arith, c.requires.nodes_value)) (omega (arith, c.requires.nodes_value))
    (rw c.node_at-at.ensures at c.get.ensures)
    c.if-get-ne0.true

pub get-c-requires : goal.get-c-requires
get-c-requires c = omega (arith, room (goal.at.get-c-requires c).After-node_at-at)

pub returns-then-s-c : goal.returns-then-s-c
returns-then-s-c c = too_many c.args.image.now.ready (row (goal.at.returns-then-s-c c).After-get-c) (omega (arith, c.if-s-c.true))

pub leaf_ok-requires : goal.leaf_ok-requires
leaf_ok-requires c = record { uppers = c.requires.uppers; variables_in_bounds = omega (arith, room (goal.at.leaf_ok-requires c).After-node_at-at); c_bound = omega (arith, c.if-s-c.false) }

pub returns-then-leaf_ok : goal.returns-then-leaf_ok
returns-then-leaf_ok c =
    let Node-at = c.node_at-at in
    a-leaf c.args.image.now.ready (tagged (goal.at.returns-then-leaf_ok c).Else-s-c)
    c.if-get-ne0.false (rw Node-at.ensures at (c.leaf_ok.ensures.0 c.if-leaf_ok.true))

pub returns : goal.returns
returns c =
    let Node-at = c.node_at-at in
    no-leaf c.args.image.now.ready (tagged (goal.at.returns c).Else-s-c)
    c.if-get-ne0.false
    (λ o. never (sym c.if-leaf_ok.false ∙ c.leaf_ok.ensures.1 (rw Node-at.ensures o)))
