-- One number for what a search has come to. Assumes nothing.
use mathlib.Core.Path.{◌≡◌, refl}
use mathlib.Core.Bool.{true, false}
use Prim.Native.Nat.{ℕ, ◌+◌, ◌*◌, ◌/◌, ◌%◌, ◌≤◌}
use native.Mathlib.Omega.{arith}
use lib.Dec.{eqb}
use Rattle.kd_leaf.specs.Packed.{rows_of, best_of, on_of}

pub packed-going : (a b : ℕ) → b ≤ 4096 → (rows_of (16384 * (a / 16384) + (2 * b + 1)) ≡ rows_of a) ×
    ((best_of (16384 * (a / 16384) + (2 * b + 1)) ≡ b) × (on_of (16384 * (a / 16384) + (2 * b + 1)) ≡ true))
unfolding rows_of best_of on_of
packed-going a b h =
    let e : (16384 * (a / 16384) + (2 * b + 1)) % 2 ≡ 1 = omega arith in
    (omega arith, (omega arith, rw e refl))

pub packed-stopped : (a b : ℕ) → b ≤ 4096 → (rows_of (16384 * (a / 16384) + 2 * b) ≡ rows_of a) × ((best_of (16384 * (a / 16384) + 2 * b) ≡ b) × (on_of (16384 * (a / 16384) + 2 * b) ≡ false))
unfolding rows_of best_of on_of
packed-stopped a b h =
    let e : (16384 * (a / 16384) + 2 * b) % 2 ≡ 0 = omega arith in
    (omega arith, (omega arith, rw e refl))

pub packed-rows : (a n : ℕ) → (rows_of (16384 * n + a % 16384) ≡ n) × ((best_of (16384 * n + a % 16384) ≡ best_of a) × (on_of (16384 * n + a % 16384) ≡ on_of a))
unfolding rows_of best_of on_of
packed-rows a n =
    let e : (16384 * n + a % 16384) % 2 ≡ a % 2 = omega arith in
    (omega arith, (omega arith, rw e refl))

pub on-is : (a : ℕ) → eqb (a % 2) 1 ≡ on_of a
unfolding on_of
on-is a = refl

pub packed-first : (n : ℕ) → (rows_of (16384 * n + 1) ≡ n) × ((best_of (16384 * n + 1) ≡ 0) × (on_of (16384 * n + 1) ≡ true))
unfolding rows_of best_of on_of
packed-first n =
    let e : (16384 * n + 1) % 2 ≡ 1 = omega arith in
    (omega arith, (omega arith, rw e refl))
