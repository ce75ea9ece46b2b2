use native.Mathlib.Omega.{arith}
use Rattle.std.proofs.Common.{rules}
use Rattle.words.proofs.Laws.{Bytes}
use Rattle.kd_split.proofs.Cutting.{SplitNumbers, split-numbers, less-few, ready₃, ready₄, split_done}
use Rattle.kd_split.proofs.split_leaf.Goals.{Start}
use Rattle.kd_split.proofs.split_leaf.Goals as goal

numbers : (a : Start) → SplitNumbers a.args.image.now a.args.s a.args.k a.args.lo a.args.rows a.args.c a.args.average.dim a.requires
numbers a = split-numbers _ _ _ _ _ _ _ a.requires

pub invariant_of-ready : goal.invariant_of-ready
invariant_of-ready c = record { ready = (numbers (goal.at.invariant_of-ready c).Start).ready }

pub mark-key-requires : goal.mark-key-requires
mark-key-requires c = (numbers (goal.at.mark-key-requires c).Start).few

pub part_entries-n-requires : goal.part_entries-n-requires
part_entries-n-requires c = let N = numbers (goal.at.part_entries-n-requires c).Start in record { ready = N.ready; d_bound = (c.requires.dim, N.few) }

pub overflow_add-at : goal.overflow_add-at
overflow_add-at c = omega (arith, (numbers (goal.at.overflow_add-at c).Start).three, c.node_at-at.ensures)

pub move_up-requires : goal.move_up-requires
move_up-requires c =
    let N = numbers (goal.at.move_up-requires c).Start in
    record {
      at_le_end = omega (arith, N.row, c.node_at-at.ensures, c.node_at.ensures);
      by_in_bounds = omega (arith, N.end, c.node_at.ensures, c.part_entries-n.auto.image);
    }

pub get-mask-requires : goal.get-mask-requires
get-mask-requires c =
    omega (arith, (numbers (goal.at.get-mask-requires c).Start).three, c.node_at-at.ensures, c.part_entries-n.auto.image, c.move_up.auto.s)

pub row_head-requires : goal.row_head-requires
row_head-requires c =
    omega (arith, (numbers (goal.at.row_head-requires c).Start).three, c.node_at-at.ensures, c.part_entries-n.auto.image, c.move_up.auto.s)

pub write_leaf-requires : goal.write_leaf-requires
write_leaf-requires c =
    let N = numbers (goal.at.write_leaf-requires c).Start in
    let at = c.node_at-at.ensures in
    let by : Bytes c.part_entries-n.new.image = λ j. search rules in
    record {
      ready = ready₃ _ _ _ _ _ _ _ c.requires c.args.average.value c.mark-key.result (omega (arith, c.mark-key.type_inv)) c.mark-key.ensures _ by
          c.part_entries-n.ensures.image_after _ _ _ (rw (at, c.node_at.ensures) at c.move_up.ensures) (rw at at c.get-mask.ensures)
          (rw at at c.row_head.ensures);
      c_bound = (
        omega (arith, less-few _ _ _ _ _ _ _ c.requires c.args.average.value _ c.part_entries-n.ensures.value, N.few),
        omega (arith, N.three, at, c.part_entries-n.auto.image, c.move_up.auto.s, c.row_head.auto.image),
      );
    }

pub overflow_add-lo : goal.overflow_add-lo
overflow_add-lo c =
    let N = numbers (goal.at.overflow_add-lo c).Start in
    omega (arith, less-few _ _ _ _ _ _ _ c.requires c.args.average.value _ c.part_entries-n.ensures.value, N.few, N.count)

pub overflow_sub-c : goal.overflow_sub-c
overflow_sub-c c = less-few _ _ _ _ _ _ _ c.requires c.args.average.value _ c.part_entries-n.ensures.value

pub write_leaf-requires-2 : goal.write_leaf-requires-2
write_leaf-requires-2 c =
    let N = numbers (goal.at.write_leaf-requires-2 c).Start in
    let at = c.node_at-at.ensures in
    let by : Bytes c.part_entries-n.new.image = λ j. search rules in
    record {
      ready = ready₄ _ _ _ _ _ _ _ c.requires c.args.average.value c.mark-key.result (omega (arith, c.mark-key.type_inv)) c.mark-key.ensures _ by
          c.part_entries-n.ensures.image_after _ _ _ (rw (at, c.node_at.ensures) at c.move_up.ensures) (rw at at c.get-mask.ensures)
          (rw at at c.row_head.ensures) _ c.part_entries-n.ensures.value _ (rw at at c.write_leaf.ensures);
      c_bound = (
        omega (arith, less-few _ _ _ _ _ _ _ c.requires c.args.average.value _ c.part_entries-n.ensures.value, N.few),
        omega (arith, N.three, at, c.part_entries-n.auto.image, c.move_up.auto.s, c.row_head.auto.image, c.write_leaf.auto.image),
      );
    }

pub returns : goal.returns
returns c =
    let at = c.node_at-at.ensures in
    let by : Bytes c.part_entries-n.new.image = λ j. search rules in
    split_done _ _ _ _ _ _ _ c.requires c.args.average.value c.mark-key.result (omega (arith, c.mark-key.type_inv)) c.mark-key.ensures _ by
    c.part_entries-n.ensures.image_after _ _ _ (rw (at, c.node_at.ensures) at c.move_up.ensures) (rw at at c.get-mask.ensures)
    (rw at at c.row_head.ensures) _ c.part_entries-n.ensures.value _ (rw at at c.write_leaf.ensures) _ (rw at at c.write_leaf-2.ensures)
