use Rattle.refusals.specs.Numbers.{told, number}
use Rattle.divisor_index.proofs.Replying.{clash, listing-three, listing-six, listing-five, listing-room, listing-served}
use Rattle.divisor_index.proofs.list.Goals as goal

pub returns-then-not-sound : goal.returns-then-not-sound
unfolding told number
returns-then-not-sound c = listing-three _ _ (λ S. clash _ (c.if-not-sound.true) (c.sound.ensures.1 S))

pub shape-s-requires : goal.shape-s-requires
shape-s-requires c = (c.sound.ensures.0 (c.if-not-sound.false))

pub returns-then-s-ne0 : goal.returns-then-s-ne0
unfolding told number
returns-then-s-ne0 c = listing-six _ _ _ c.shape-s.ensures c.if-s-ne0.true

pub returns-then-answers-listing_words : goal.returns-then-answers-listing_words
unfolding told number
returns-then-answers-listing_words c =
    listing-five c.args.image.now c.args.answers.now _ c.shape-s.ensures _ c.listing_words.ensures c.if-s-ne0.false c.if-answers-listing_words.true

pub to_vec-requires : goal.to_vec-requires
to_vec-requires c = record { root = c.shape-s.ensures; each = listing-room c.args.image.now c.args.answers.now _ c.shape-s.ensures _ c.listing_words.ensures c.if-s-ne0.false c.if-answers-listing_words.false }

pub returns : goal.returns
unfolding told
returns c =
    listing-served c.args.image.now c.args.answers.now _ c.shape-s.ensures _ c.listing_words.ensures c.if-s-ne0.false _ c.if-answers-listing_words.false c.to_vec.ensures
