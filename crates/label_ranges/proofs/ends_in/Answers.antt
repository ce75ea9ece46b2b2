use Rattle.label_ranges.proofs.Ending.{known_is, new_is}
use Rattle.label_ranges.proofs.ends_in.Goals as goal

pub returns-in-Ok : goal.returns-in-Ok
returns-in-Ok c = λ l i. known_is l i.valid _ _ _ (c.label_at-l.ensures.value l i) (c.in-Ok.ensures l i)

pub returns-in-Err : goal.returns-in-Err
returns-in-Err c = λ l i. new_is l i.valid _ _ _ (c.label_at-l-in-Err.ensures.value l i) (c.in-Err.ensures l i)
