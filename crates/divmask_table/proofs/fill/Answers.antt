use Rattle.std.proofs.Common.{◌+◌, ◌*◌, ◌/◌, ◌%◌, length, sym, refl, ap, ◌∙◌, arith}
use Rattle.words.specs.Words.{put_w}
use Rattle.words.proofs.Laws.{length-put_w}
use Rattle.divmask_table.proofs.Tabling.{filled_none, fill_more, tabled}
use Rattle.divmask_table.proofs.fill.Goals as goal

pub overflow_mul-k-end : goal.overflow_mul-k-end
overflow_mul-k-end c = omega (arith, c.args.map.now.lent.few)

pub loop-k-init : goal.loop-k-init
loop-k-init c = (c.requires, filled_none _ _ _)

pub bits_at-x-requires : goal.bits_at-x-requires
bits_at-x-requires c = (omega arith, (omega arith, omega arith))

pub overflow_mul-k : goal.overflow_mul-k
overflow_mul-k c = omega (arith, c.args.map.now.lent.few)

pub put-requires : goal.put-requires
put-requires c = omega (arith, c.loop-k.invariant.0, c.args.map.now.lent.few)

pub loop-k-preserved : goal.loop-k-preserved
loop-k-preserved c =
    let loop = c.loop-k in
    let x = c.bits_at-x in
    let put = c.put in
    let l = ap length put.ensures ∙ length-put_w (put_w loop.table (2 * loop.k) (x.result % 4294967296)) (2 * loop.k + 1)
    (x.result / 4294967296) ∙ length-put_w loop.table (2 * loop.k) (x.result % 4294967296) in (
      l ∙ loop.invariant.0,
      fill_more _ _ loop.table put.new.s loop.k x.result (omega (arith, loop.invariant.0, c.args.map.now.lent.few))
          (omega arith) x.ensures put.ensures loop.invariant.1,
    )

pub shape_of-table : goal.shape_of-table
shape_of-table c = c.loop-k.invariant.0 ∙ sym c.requires

pub returns : goal.returns
returns c = record { table_len = c.loop-k.invariant.0; tabled = tabled _ _ _ (16 * c.args.map.now.variables) _ refl (omega arith) c.loop-k.invariant.1 }
