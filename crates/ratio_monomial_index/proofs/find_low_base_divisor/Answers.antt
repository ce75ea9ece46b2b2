use Rattle.index_replies.proofs.Queries.{head_of, sound-of, ready, replied, small, found_small, found_as}
use Rattle.ratio_monomial_index.proofs.find_low_base_divisor.Goals as goal

pub invariant_of-sound : goal.invariant_of-sound
invariant_of-sound c = record { sound = ∣ sound-of _ _ c.requires.root ∣₁; head = head_of _ _ c.requires.root }

pub find-requires : goal.find-requires
find-requires c = ready _ _ _ _ _ c.requires.root c.low.ensures

pub numbered-requires : goal.numbered-requires
numbered-requires c = small _ _ _ _ _ c.requires.root c.low.ensures _ _ c.find.ensures

pub returns : goal.returns
returns c =
    replied _ _ _ _ _ c.requires.root c.low.ensures _ _ c.find.ensures _ (found_small _ _ _ _ _ c.requires.root c.low.ensures _ _ c.find.ensures _ c.numbered.ensures)
    (found_as _ _ _ _ _ c.requires.root c.low.ensures _ _ c.find.ensures _ c.numbered.ensures)
