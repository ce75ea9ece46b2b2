use native.Mathlib.Omega.{arith}
use native.Mathlib.Nat.{mul-le-mul}
use Prim.Native.Nat.{◌≤◌, ◌*◌}
use Rattle.divmask.proofs.first_bit.Goals as goal

pub overflow_mul-result : goal.overflow_mul-result
overflow_mul-result c = let h : c.args.v * c.args.whole ≤ 64 * 32 = mul-le-mul c.requires.1 c.requires.0 in omega arith

pub overflow_add-result : goal.overflow_add-result
overflow_add-result c =
    let h : c.args.v * c.args.whole ≤ 64 * 32 = mul-le-mul c.requires.1 c.requires.0 in
    omega arith
