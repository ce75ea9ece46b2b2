use native.Mathlib.Omega.{arith}
use Prim.Native.Nat.{ℕ, ◌-◌, ◌*◌}
use Rattle.std.proofs.Common.{length-take, length-drop}
use Rattle.words.specs.Words.{words}
use Rattle.words.proofs.Laws.{length-words}
use Rattle.words.proofs.Drafts.{part_of}
use Rattle.words.proofs.Tables.{length_part}
use Rattle.index_image.specs.Shape as at
use Rattle.index_image.proofs.Bounds.{inside}
use Rattle.index_image.proofs.image.Image.map.Goals as goal

pub returns : goal.returns
returns c =
    let image = c.args.self.now in
    let m = image.shape.variables in
    let r = c.map.result in
    rw (c.map.ensures.0) record {
      is = part_of image.bytes.now (at.map_at m) m (r.end - 4 * at.map_at m) (omega (arith, c.map.ensures.1));
      long =
          omega (
            arith,
            c.map.ensures.1,
            length-take {A = ℕ},
            length-drop {A = ℕ},
            length-words image.bytes.now,
            length_part (words image.bytes.now) (at.map_at m) m,
            inside image.shape image.range 0 image.range.cap-from,
            image.room,
          );
    }
