use Rattle.index_replies.proofs.Inserts.{with-room, refused, accepted, number_small}
use native.Mathlib.Omega.{arith}
use Rattle.ratio_monomial_index.proofs.insert.Goals as goal

pub returns-then-s : goal.returns-then-s
returns-then-s c = refused c.args.image.now c.args.s _ c.requires.root (λ j. (c.type_inv.image j).fits) c.if-s.true

pub insert_ratio-n-requires-clause-room : goal.insert_ratio-n-requires-clause-room
insert_ratio-n-requires-clause-room c = with-room c.args.image.now c.args.s c.requires.root c.if-s.false

pub overflow_cast-result : goal.overflow_cast-result
overflow_cast-result c = omega (arith, number_small c.args.image.now c.args.s _ c.insert_ratio-n.result _ c.requires.root c.if-s.false c.insert_ratio-n.ensures)

pub returns : goal.returns
returns c = accepted c.args.image.now _ c.args.s _ c.insert_ratio-n.result c.requires.root c.if-s.false c.insert_ratio-n.ensures
