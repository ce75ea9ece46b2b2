use Rattle.index_replies.proofs.Queries.{head_of, sound-of, ready, replied, yes-is, bit-small}
use Rattle.ratio_monomial_index.proofs.test_singular_criterion.Goals as goal

pub invariant_of-sound : goal.invariant_of-sound
invariant_of-sound c = record { sound = ∣ sound-of _ _ c.requires.root ∣₁; head = head_of _ _ c.requires.root }

pub find-requires : goal.find-requires
find-requires c = ready _ _ _ _ _ c.requires.root c.singular.ensures

pub returns : goal.returns
returns c =
    replied _ _ _ _ _ c.requires.root c.singular.ensures _ _ c.find.ensures _ (bit-small _ _ c.from.ensures) (λ st I. yes-is _ _ _ c.is_some.ensures c.from.ensures)
