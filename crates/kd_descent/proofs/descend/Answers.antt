use mathlib.Core.Path.{sym, ◌∙◌}
use native.Mathlib.Omega.{arith}
use Rattle.kd_descent.proofs.Going.{going_start, growth-here, ready, going_end, going_on, Bounds, bounds, ends}
use Rattle.kd_descent.proofs.descend.Goals.{In-On}
use Rattle.kd_descent.proofs.descend.Goals as goal

-- how far a step on goes
on_step : (c : In-On) → Bounds c.requires.mapped c.requires.growth (c.loop-places.invariant c.requires.mapped c.requires.growth) c.in-On.rows c.in-On.places
on_step c =
    let p = c.loop-places.invariant c.requires.mapped c.requires.growth in
    bounds c.requires.mapped c.requires.growth p c.in-On.rows c.in-On.places (sym c.in-On.is ∙ c.next_step-way.ensures (growth-here c.requires.mapped c.requires.growth p))

pub loop-places-init : goal.loop-places-init
loop-places-init c = λ M g. going_start M g (λ j. grind arith)

pub next_step-way-requires : goal.next_step-way-requires
next_step-way-requires c = growth-here c.requires.mapped c.requires.growth (c.loop-places.invariant c.requires.mapped c.requires.growth)

pub node_at-requires-clause-k_bound : goal.node_at-requires-clause-k_bound
node_at-requires-clause-k_bound c =
    let r = ready c.requires.mapped c.requires.growth (c.loop-places.invariant c.requires.mapped c.requires.growth) in
    omega (arith, r.row, c.requires.mapped.range.nodes-to, c.requires.mapped.range.cap-to)

pub grow-requires : goal.grow-requires
grow-requires c =
    let r = ready c.requires.mapped c.requires.growth (c.loop-places.invariant c.requires.mapped c.requires.growth) in
    record { mapped = r.mapped; lent = c.requires.lent; row = rw c.node_at.ensures r.grows; room = rw c.node_at.ensures r.counted }

pub overflow_add-result : goal.overflow_add-result
overflow_add-result c =
    let p = c.loop-places.invariant c.requires.mapped c.requires.growth in
    omega (
      arith,
      ends c.requires.mapped c.requires.growth p c.in-Leaf.places (sym c.in-Leaf.is ∙ c.next_step-way.ensures (growth-here c.requires.mapped c.requires.growth p)),
      c.requires.mapped.range.cap-to,
    )

pub returns-in-Leaf : goal.returns-in-Leaf
returns-in-Leaf c =
    λ g. let p = c.loop-places.invariant c.requires.mapped g in
    going_end c.requires.mapped g p c.requires.lent.canonical c.grow.new.image (rw c.node_at.ensures at c.grow.ensures)
    c.in-Leaf.places (sym c.in-Leaf.is ∙ c.next_step-way.ensures (growth-here c.requires.mapped g p))

pub overflow_add-k : goal.overflow_add-k
overflow_add-k c = omega (arith, (on_step (goal.at.overflow_add-k c).In-On).rows-to, c.requires.mapped.range.nodes-to, c.requires.mapped.range.cap-to)

pub overflow_add-lo : goal.overflow_add-lo
overflow_add-lo c = omega (arith, (on_step (goal.at.overflow_add-lo c).In-On).places-to, c.requires.mapped.range.cap-to)

pub loop-places-smaller : goal.loop-places-smaller
loop-places-smaller c = let z = on_step (goal.at.loop-places-smaller c).In-On in omega (arith, z.some, z.rows-to)

pub loop-places-preserved : goal.loop-places-preserved
loop-places-preserved c =
    λ M g. let p = c.loop-places.invariant M g in
    going_on M g p c.requires.lent.canonical c.grow.new.image (rw c.node_at.ensures at c.grow.ensures) c.in-On.rows c.in-On.places
    (sym c.in-On.is ∙ c.next_step-way.ensures (growth-here M g p))
