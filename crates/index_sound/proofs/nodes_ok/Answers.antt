use native.Mathlib.Omega.{arith}
use mathlib.Core.Path.{◌≡◌, sym, ◌∙◌}
use mathlib.Core.List.{List}
use Prim.Native.Nat.{ℕ, ◌-◌, ◌*◌}
use lib.ListN.{get_or}
use borrow.Author.Tests.{eqb-true}
use Rattle.words.proofs.Tables.{never}
use Rattle.words.specs.Tables.{part, zeros}
use Rattle.index_image.specs.Shape as at
use Rattle.index_image.specs.declared.Shape.{Shape}
use Rattle.words.specs.Words.{words}
use Rattle.index_sound.proofs.Steps.{tree_is, nodes-rest, option_same, root_all}
use Rattle.index_sound.proofs.nodes_ok.Goals.{then-get-s, else-get-s}
use Rattle.index_sound.proofs.nodes_ok.Goals as goal

pub get-requires : goal.get-requires
get-requires c = omega (arith, (nodes-rest c.args.image.now.bytes.now c.args.image.now.shape c.args.image.now.ready).first, c.node_at.ensures)

pub is_blank-requires : goal.is_blank-requires
is_blank-requires c =
    omega (arith, (nodes-rest c.args.image.now.bytes.now c.args.image.now.shape c.args.image.now.ready).room, c.node_at-then-get-s.ensures)

-- what the two tests before the walk tell
record Before (W : List ℕ) (s : Shape) (g : ℕ) : Type 0 where
  count : g ≡ s.entries
  rest : part W (at.node_at s s.nodes) ((2 * s.capacity - 1 - s.nodes) * at.node_width s.variables) ≡ zeros ((2 * s.capacity - 1 - s.nodes) * at.node_width s.variables)

pub returns-then-is_blank : goal.returns-then-is_blank
returns-then-is_blank c =
    let W = words c.args.image.now.bytes.now in
    let j = tree_is W c.args.image.now.shape c.args.image.now.ready c.tree_rows.result c.tree_rows.ensures in
    let k = option_same c.tree_rows.result c.args.image.now.shape.nodes in
    let g : c.get.result ≡ get_or W (at.count_at (at.node_at c.args.image.now.shape 0)) 0 = c.get.ensures ∙ rw c.node_at.ensures in
    let b : Before W c.args.image.now.shape c.get.result = elim c.if-get-s.branch [
      | then-get-s w ↦ record {
        count = w.if-get-s.true;
        rest = (rw w.node_at-then-get-s.ensures at w.is_blank.ensures).0 (sym w.value-is ∙ c.if-is_blank.true);
      }
      | else-get-s w ↦ absurd (w.if-get-s.false (eqb-true _ _ (sym w.value-is ∙ c.if-is_blank.true)))
    ] in (
      λ z. j.1 (sym g ∙ b.count, (b.rest, k.0 (sym c.eq.ensures ∙ z))),
      λ n. c.eq.ensures ∙ k.1 (j.0 n).1.1,
    )

pub returns-else-is_blank : goal.returns-else-is_blank
returns-else-is_blank c = (
  λ z. never (sym c.if-is_blank.false ∙ z),
  λ n.
      let e = root_all (words c.args.image.now.bytes.now) c.args.image.now.shape c.args.image.now.ready n in
      elim c.if-get-s.branch [
        | then-get-s w ↦ w.value-is ∙ (rw w.node_at-then-get-s.ensures at w.is_blank.ensures).1 n.rest
        | else-get-s w ↦ absurd (w.if-get-s.false (c.get.ensures ∙ rw c.node_at.ensures e))
      ],
)
