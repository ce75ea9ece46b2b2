use Rattle.std.proofs.Common.{div-le_self, arith}
use Rattle.divmask.proofs.Sums.{made}
use Rattle.divmask.proofs.Masks.{bits_are}
use Rattle.divmask.proofs.Places.{in_all, first-closed}
use Rattle.words.specs.Words.{words}
use Rattle.words.proofs.Laws.{length-words}
use Rattle.divmask.proofs.DivMap.bits_in.Goals as goal

pub get-x-requires : goal.get-x-requires
get-x-requires c = omega (arith, c.args.self.now.lent.one_each, length-words c.args.self.now.maxima.now, c.requires.known.0)

pub bits_of-b-requires : goal.bits_of-b-requires
bits_of-b-requires c = rw c.requires.shared.0 (div-le_self 32 c.args.self.now.variables)

pub first_bit-t-requires : goal.first_bit-t-requires
first_bit-t-requires c = (rw c.requires.shared.0 (div-le_self 32 c.args.self.now.variables), omega (arith, c.args.self.now.lent.few, c.requires.known.0))

pub field-requires : goal.field-requires
field-requires c =
    let get = c.get-x in
    let bits_of = c.bits_of-b in
    let p = c.requires in
    let v = c.args.v in
    let e = bits_are c.args.self.now.variables v bits_of.result (rw (c.requires.shared.0, c.requires.shared.1) at c.bits_of-b.ensures) in record {
      bits_bound = (
        omega (arith, in_all c.args.self.now.variables v p.known.0),
        (omega (arith, get.ensures, c.args.self.now.lent.low v p.known.0), omega (arith, get.ensures, c.args.self.now.lent.high v p.known.0)),
      );
      le_power = p.known.1;
    }

pub overflow_shl-mask : goal.overflow_shl-mask
overflow_shl-mask c =
    omega (
      arith,
      (rw (c.requires.shared.0, c.requires.shared.1) at c.first_bit-t.ensures),
      first-closed c.args.self.now.variables c.args.v,
      in_all c.args.self.now.variables c.args.v c.requires.known.0,
    )

pub short_field-requires : goal.short_field-requires
short_field-requires c =
    let bits_of = c.bits_of-b in
    let e = bits_are c.args.self.now.variables c.args.v bits_of.result (rw (c.requires.shared.0, c.requires.shared.1) at c.bits_of-b.ensures) in
    omega (arith, in_all c.args.self.now.variables c.args.v c.requires.known.0)

pub overflow_shl-vector : goal.overflow_shl-vector
overflow_shl-vector c =
    omega (
      arith,
      (rw (c.requires.shared.0, c.requires.shared.1) at c.first_bit-t.ensures),
      first-closed c.args.self.now.variables c.args.v,
      in_all c.args.self.now.variables c.args.v c.requires.known.0,
    )

pub overflow_mul-result : goal.overflow_mul-result
overflow_mul-result c =
    let get = c.get-x in
    let bits_of = c.bits_of-b in
    omega (
      arith,
      (made c.args.self.now.variables (words c.args.self.now.maxima.now) c.args.v c.args.power c.requires.known.0
          get.ensures (rw (c.requires.shared.0, c.requires.shared.1) at c.bits_of-b.ensures) c.field.ensures c.short_field.ensures (rw (c.requires.shared.0, c.requires.shared.1) at c.first_bit-t.ensures)).high,
    )

pub overflow_add-result : goal.overflow_add-result
overflow_add-result c =
    let get = c.get-x in
    let bits_of = c.bits_of-b in
    let first_bit = c.first_bit-t in
    let field = c.field in
    let k = made c.args.self.now.variables (words c.args.self.now.maxima.now) c.args.v c.args.power c.requires.known.0
    get.ensures (rw (c.requires.shared.0, c.requires.shared.1) at c.bits_of-b.ensures) field.ensures c.short_field.ensures (rw (c.requires.shared.0, c.requires.shared.1) at c.first_bit-t.ensures) in
    omega (arith, k.low, k.high)

pub returns : goal.returns
returns c =
    let get = c.get-x in
    let bits_of = c.bits_of-b in
    (made c.args.self.now.variables (words c.args.self.now.maxima.now) c.args.v c.args.power c.requires.known.0 get.ensures
    (rw (c.requires.shared.0, c.requires.shared.1) at c.bits_of-b.ensures) c.field.ensures c.short_field.ensures (rw (c.requires.shared.0, c.requires.shared.1) at c.first_bit-t.ensures)).is
