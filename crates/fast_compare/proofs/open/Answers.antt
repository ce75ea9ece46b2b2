use Rattle.fast_compare.proofs.Opening.{open_is}
use Rattle.fast_compare.proofs.open.Goals as goal

pub returns : goal.returns
returns c =
    let clear = c.clear in
    let put3 = c.put-3 in
    let put2 = c.put-2 in
    let put = c.put in
    open_is c.args.map.now put.new.s put2.new.s put3.new.s clear.new.s c.args.variables c.args.capacity
    c.requires.capacity_in_bounds put.ensures put2.ensures put3.ensures clear.ensures
