use native.Mathlib.Omega.{arith}
use mathlib.Core.Path.{refl, sym, ◌∙◌}
use Rattle.words.proofs.Laws.{words_small}
use Rattle.query_words.proofs.Laying.{kind-is}
use Rattle.kd_node.proofs.Choosing.{branch-numbers, path-stop, path-label, path-limit}
use Rattle.kd_node.proofs.path_at.Goals as goal

pub node_at-at-requires : goal.node_at-at-requires
node_at-at-requires c = (branch-numbers _ _ _ _ _ _ _ _ c.requires).row

pub get-next-requires : goal.get-next-requires
get-next-requires c = omega (arith, (branch-numbers _ _ _ _ _ _ _ _ c.requires).room, c.node_at-at.ensures)

pub may-requires : goal.may-requires
may-requires c = omega (arith, (branch-numbers _ _ _ _ _ _ _ _ c.requires).room, c.node_at-at.ensures)

pub returns-then-not-may : goal.returns-then-not-may
returns-then-not-may c =
    path-stop _ _ _ _ _ _ _ _ (rw c.node_at-at.ensures at c.get-next.ensures) (words_small c.args.image.now (λ j. (c.type_inv.image j).fits)) _ c.if-not-may.true
    (rw c.node_at-at.ensures at c.may.ensures)

pub overflow_add-at : goal.overflow_add-at
overflow_add-at c = omega (arith, (branch-numbers _ _ _ _ _ _ _ _ c.requires).room, c.node_at-at.ensures)

pub get-requires : goal.get-requires
get-requires c = omega (arith, (branch-numbers _ _ _ _ _ _ _ _ c.requires).room, c.node_at-at.ensures)

pub label-l-requires : goal.label-l-requires
label-l-requires c =
    let n = branch-numbers _ _ _ _ _ _ _ _ c.requires in
    let p = sym (rw c.node_at-at.ensures at c.get-next.ensures) ∙ (c.if-next-num.true ∙ (c.num.ensures.0 ∙ kind-is _ _ c.requires.asks.laid)) in
    record { ready = n.ready; labelled = ((n.entry p).0, rw (c.get.ensures, c.node_at-at.ensures) (n.entry p).1) }

pub returns-then-next-num : goal.returns-then-next-num
returns-then-next-num c =
    rw (c.of.ensures.0, c.of.ensures.1, c.pair.ensures, c.pair-then-next-num.ensures) (path-label _ _ _ _ _ _ _ _ (rw c.node_at-at.ensures at c.get-next.ensures)
    (words_small c.args.image.now (λ j. (c.type_inv.image j).fits)) _ c.if-not-may.false (rw c.node_at-at.ensures at c.may.ensures)
    (c.if-next-num.true ∙ (c.num.ensures.0 ∙ kind-is _ _ c.requires.asks.laid)) _ (c.label-l.ensures.0 ∙ rw (c.get.ensures, c.node_at-at.ensures) refl))

pub overflow_add-at-else-next-num : goal.overflow_add-at-else-next-num
overflow_add-at-else-next-num c = omega (arith, (branch-numbers _ _ _ _ _ _ _ _ c.requires).room, c.node_at-at.ensures)

pub get-key-requires : goal.get-key-requires
get-key-requires c = omega (arith, (branch-numbers _ _ _ _ _ _ _ _ c.requires).room, c.node_at-at.ensures)

pub word-requires : goal.word-requires
word-requires c = omega (arith, (branch-numbers _ _ _ _ _ _ _ _ c.requires).small, rw c.node_at-at.ensures at c.get-next.ensures)

pub returns-else-next-num : goal.returns-else-next-num
returns-else-next-num c =
    rw (c.of-else-next-num.ensures.0, c.of-else-next-num.ensures.1) (path-limit _ _ _ _ _ _ _ _ (rw c.node_at-at.ensures at c.get-next.ensures)
    (words_small c.args.image.now (λ j. (c.type_inv.image j).fits)) _ c.if-not-may.false (rw c.node_at-at.ensures at c.may.ensures)
    (λ z. c.if-next-num.false (z ∙ sym (c.num.ensures.0 ∙ kind-is _ _ c.requires.asks.laid))) _
    (rw (c.get-key.ensures, c.node_at-at.ensures, c.word.ensures) refl))
