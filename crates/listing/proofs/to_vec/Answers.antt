use Rattle.listing.proofs.Wholes.{whole}
use Rattle.listing.proofs.to_vec.Goals as goal

pub invariant_of-image : goal.invariant_of-image
invariant_of-image c = let p = c.requires.root in record { ready = (whole c.args.image.now p.state c.args.s p.is p.shape).ready_at }

pub write_below-requires : goal.write_below-requires
write_below-requires c = let p = c.requires.root in (whole c.args.image.now p.state c.args.s p.is p.shape).here _ (c.requires.each p.state p.is p.shape)

pub returns : goal.returns
returns c = λ st i e. (whole c.args.image.now st c.args.s i e).written c.args.out.now _ c.write_below.result (c.requires.each st i e) c.write_below.ensures
