use lib.Pow.{pow_pos}
use native.Mathlib.Omega.{arith}
use native.Mathlib.Nat.{mul-le-mul}
use mathlib.Core.Path.{◌≡◌, ap, ◌∙◌}
use Prim.Native.Nat.{ℕ, ◌≤◌, ◌*◌, ◌+◌, ◌-◌, ◌/◌, min}
use Rattle.divmask.proofs.Parts.{most, ones, field_is, least-div}
use Rattle.divmask.proofs.field.Goals.{After-min-least}
use Rattle.divmask.proofs.field.Goals as goal

-- the bits that are set: the less of all that there are and of those that the power reaches
counted : (c : After-min-least) → let a = c.args in
    c.min-least.result / a.maximum ≡ min a.bits (most a.bits a.maximum a.power)
unfolding most
counted c =
    let a = c.args in
    let lesser : c.min-least.result ≡ min (a.power * (a.bits + 1) - 1) (a.bits * a.maximum) = omega arith in
    ap (λ (n : ℕ). n / a.maximum) lesser ∙ least-div (a.power * (a.bits + 1) - 1) a.bits a.maximum c.requires.bits_bound.1.0

pub overflow_mul-power : goal.overflow_mul-power
overflow_mul-power c = let l : c.args.bits + 1 ≤ 33 = omega arith in let h : c.args.power * (c.args.bits + 1) ≤ 32767 * 33 = mul-le-mul c.requires.le_power.1 l in omega arith

pub overflow_sub-power : goal.overflow_sub-power
overflow_sub-power c = let l : 1 ≤ c.args.bits + 1 = omega arith in let h : 1 * 1 ≤ c.args.power * (c.args.bits + 1) = mul-le-mul c.requires.le_power.0 l in omega arith

pub overflow_mul-bits : goal.overflow_mul-bits
overflow_mul-bits c = let h : c.args.bits * c.args.maximum ≤ 32 * 32767 = mul-le-mul c.requires.bits_bound.0 c.requires.bits_bound.1.1 in omega arith

pub nonzero_div-result : goal.nonzero_div-result
nonzero_div-result c = omega (arith, c.requires.bits_bound.1.0)

pub overflow_cast-result : goal.overflow_cast-result
overflow_cast-result c = omega (arith, counted (goal.at.overflow_cast-result c).After-min-least, c.requires.bits_bound.0)

pub overflow_shl-result : goal.overflow_shl-result
overflow_shl-result c = omega (arith, counted (goal.at.overflow_shl-result c).After-min-least, c.requires.bits_bound.0)

pub overflow_sub-result : goal.overflow_sub-result
overflow_sub-result c =
    omega (arith, ones (c.min-least.result / c.args.maximum) (omega (arith, counted (goal.at.overflow_sub-result c).After-min-least)), pow_pos (c.min-least.result / c.args.maximum))

pub returns : goal.returns
returns c =
    field_is c.args.bits c.args.maximum c.args.power (c.min-least.result / c.args.maximum) c.requires.bits_bound.0
    c.requires.bits_bound.1.0 c.requires.le_power.0 (counted (goal.at.returns c).After-min-least)
