use Rattle.kd_rows.proofs.Writing.{head-written}
use Rattle.kd_rows.proofs.row_head.Goals as goal

pub returns : goal.returns
returns c =
    let put = c.put in
    let put2 = c.put-2 in
    let put3 = c.put-3 in
    let put4 = c.put-4 in
    head-written _ _ _ _ _ _ _ _ _ _ _ _ c.requires put.ensures put2.ensures put3.ensures put4.ensures c.put-5.ensures
