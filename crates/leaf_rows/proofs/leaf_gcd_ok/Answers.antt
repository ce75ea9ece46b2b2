use mathlib.Core.Path.{◌∙◌}
use Rattle.words.specs.Words.{words}
use Rattle.index_image.specs.Walk.{power}
use Rattle.index_image.specs.Rows.{entries_from}
use Rattle.index_image.proofs.Gcds.{gcd-canonical, image-powers}
use Rattle.index_image.proofs.Reading.{front-words}
use Rattle.leaf_rows.proofs.leaf_gcd_ok.Goals as goal

pub node_ok-requires-clause-canonical : goal.node_ok-requires-clause-canonical
node_ok-requires-clause-canonical c =
    let W = words c.args.image.now.bytes.now in
    rw (front-words c.gcd_of-e.new.acc c.gcd_of-e.result ∙ c.gcd_of-e.ensures.1)
    (gcd-canonical c.args.image.now.shape.variables (power W c.args.image.now.shape) (image-powers W c.args.image.now.shape c.args.image.now.ready.range.vars-to) (entries_from W c.args.image.now.shape c.args.lo c.args.c))

pub returns : goal.returns
returns c = rw (front-words c.gcd_of-e.new.acc c.gcd_of-e.result ∙ c.gcd_of-e.ensures.1) at c.node_ok.ensures
