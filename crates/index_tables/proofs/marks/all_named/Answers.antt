use Rattle.index_tables.proofs.Marking.{blank-array, named-marked}
use Rattle.index_tables.proofs.marks.all_named.Goals as goal

pub mark-requires-clause-by_index_3 : goal.mark-requires-clause-by_index_3
mark-requires-clause-by_index_3 c = λ j. blank-array 4096 j

pub returns : goal.returns
returns c =
    let mark = c.mark in (
      λ z j h. mark.ensures.only j (c.all_marked.ensures.0 z j h),
      λ q. c.all_marked.ensures.1 (λ j h. named-marked _ _ _ _ _ mark.ensures j (q j h)),
    )
