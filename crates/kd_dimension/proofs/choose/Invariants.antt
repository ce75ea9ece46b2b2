use Rattle.words.specs.Words.{words}
use Rattle.index_image.specs.Walk as walk
use Rattle.index_image.specs.Rows.{entries_from}
use Rattle.kd_dimension.specs.Choice.{key_in, mark_in}
use Rattle.kd_dimension.proofs.Choosing.{Tried}
use Rattle.kd_dimension.proofs.choose.Given as goal

abbrev pub invariant-loop-i : goal.invariant-loop-i
invariant-loop-i l =
    let W = words l.image in
    let s = l.fn.s in
    Tried (key_in W s) (mark_in W s) (walk.dims s) l.dim (entries_from W s l.lo l.c) l.i
