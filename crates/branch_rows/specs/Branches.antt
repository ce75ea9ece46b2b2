-- What the tests of a branch's row decide, and the bounds that it gives its sides. Assumes nothing.
use Rattle.std.specs.Prelude.{◌≡◌, List, ◌↔◌, ℕ, ◌+◌, ◌-◌, ◌^◌, ◌≤◌, ◌<◌, get_or, set, drop}
use Rattle.monomial.specs.Monomial.{front, pow}
use Rattle.monomial.specs.Operations.{result_words}
use Rattle.monomial.specs.declared.ordered_ops.Op.TheVariants.{Gcd}
use Rattle.index_image.specs.Shape as at
use Rattle.index_image.specs.Walk.{power, label, dims, Below}
use Rattle.index_image.specs.Rows.{monomial_in, NodeOk}
use Rattle.index_image.specs.declared.Shape.{Shape}
use Rattle.leaf_rows.specs.Leaves.{Inside}
use Rattle.branch_rows.specs.declared.Limits.{Limits}

-- the row at word `i` has a branch's dimension and key. The tag of the ratio is the kind of a ratio index, and no other tag is.
pub record KeyIn (W : List ℕ) (s : Shape) (i : ℕ) : Type 0 where
  pub two : 2 ≤ get_or W (at.count_at i) 0
  pub from : 1 ≤ get_or W (at.tag_at i) 0
  pub to : get_or W (at.tag_at i) 0 ≤ dims s
  pub ratio : get_or W (at.tag_at i) 0 ≡ s.kind → get_or W (at.key_at i) 0 < s.entries
  pub variable : (get_or W (at.tag_at i) 0 ≡ s.kind → ⊥) → 1 ≤ get_or W (at.key_at i) 0

-- entry e lies below the key of the row at word `i`
abbrev pub BelowKey : List ℕ → Shape → ℕ → ℕ → Type 0
BelowKey W s i e = Below s.kind (power W s) (label W s) (get_or W (at.tag_at i) 0 - 1) (get_or W (at.key_at i) 0) e

-- the bounds of the two sides, each within those of the branch. A variable's key bounds the powers of the less side alone: those of the other
-- side are seen from its gcd.
pub record Cut (W : List ℕ) (s : Shape) (H : List ℕ) (ll lh i : ℕ) (b : Limits) : Type 0 where
  pub known : b.variable < s.variables
  pub some : 1 ≤ b.power
  pub small : b.power < 2 ^ 32
  pub less-from : b.less.start ≡ ll
  pub other-to : b.other.end ≡ lh
  pub less : (e : ℕ) → Inside W s (set H b.variable b.power) b.less.start b.less.end e ↔ (Inside W s H ll lh e × BelowKey W s i e)
  pub other : (e : ℕ) → Inside W s H b.other.start b.other.end e ↔ (Inside W s H ll lh e × (get_or W (at.tag_at i) 0 ≡ s.kind → BelowKey W s i e → ⊥))

-- canonical monomials stand in the gcd slots of the rows at words a and b
pub record Slots (W : List ℕ) (m a b : ℕ) : Type 0 where
  pub one : front 1 m 0 (drop (at.gcd_at a) W) ≡ 0 → ⊥
  pub two : front 1 m 0 (drop (at.gcd_at b) W) ≡ 0 → ⊥

-- no power of the other side, whose row is at word b, is below the key of a variable
abbrev pub OtherOk : List ℕ → Shape → ℕ → ℕ → Type 0
OtherOk W s i b = (get_or W (at.tag_at i) 0 ≡ s.kind → ⊥) → get_or W (at.key_at i) 0 ≤ pow 1 (monomial_in W s.variables (at.gcd_at b)) (get_or W (at.tag_at i) 0 - 1 - s.kind)

-- the row at word `i` is that of a branch over those at words a and b, the first of t rows
pub record BranchOk (W : List ℕ) (s : Shape) (i a b t : ℕ) : Type 0 where
  pub some-less : 0 < get_or W (at.count_at a) 0
  pub some-other : 0 < get_or W (at.count_at b) 0
  pub count : get_or W (at.count_at i) 0 ≡ get_or W (at.count_at a) 0 + get_or W (at.count_at b) 0
  pub skip : get_or W (at.skip_at i) 0 ≡ t
  pub node : NodeOk W s i (result_words Gcd (monomial_in W s.variables (at.gcd_at a)) (monomial_in W s.variables (at.gcd_at b)))
  pub other : OtherOk W s i b
