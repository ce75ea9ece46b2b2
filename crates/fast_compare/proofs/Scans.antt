-- The ratio of a row as it is lent, and values compared. Assumes nothing.
use mathlib.Core.Path.{◌≡◌, refl, ◌∙◌}
use mathlib.Core.List.{List}
use mathlib.Core.Logic.{◌↔◌}
use Prim.Native.Nat.{ℕ, ◌+◌, ◌-◌, ◌*◌, ◌≤◌, ◌<◌}
use native.Mathlib.Decide.{dec_lt}
use native.Mathlib.Omega.{arith}
use lib.ListN.{length, get_or, take, drop}
use Rattle.std.specs.Ordering.{nat_cmp}
use Rattle.words.specs.Kinds.{payload}
use Rattle.words.specs.Words.{words}
use Rattle.words.specs.Tables.{part}
use Rattle.words.proofs.Laws.{length-words, words-rest}
use Rattle.monomial.specs.Monomial.{Starts, first}
use Rattle.monomial_ordering.specs.Order.{order, TotalOf}
use Rattle.std.specs.declared.cmp.Ordering.TheVariants.{Less, Greater}
use Rattle.monomial_ordering.specs.declared.Total.{Total}
use Rattle.monomial_ordering.proofs.Orders.{compare-less, compare-equal, compare-greater}
use Rattle.monomial.proofs.Firsts.{starts-wide, first_part}
use Rattle.fast_compare.specs.Map.{Value, value_of, cmp}
use Rattle.fast_compare.specs.Layout.{ratio_words, HasRatio, TotalAt, value_at}
use Rattle.fast_compare.proofs.Images.{ratio-within}

-- a row lent from its ratio on has its ratio at the front
module _ (bs : List ℕ) (m at : ℕ) (some : ratio_words (words bs) m at ≡ 0 → ⊥) where
  there : Starts 2 m (drop at (words bs))
  there = record { some = some }

  pub ratio-starts : Starts 2 4096 (words (take (length bs - 4 * at) (drop (4 * at) bs)))
  ratio-starts = rw (words-rest bs at (length bs - 4 * at) (omega arith)) (starts-wide there)

  pub ratio-first : first 2 (words (take (length bs - 4 * at) (drop (4 * at) bs))) ≡ part (words bs) at (ratio_words (words bs) m at)
  ratio-first = rw (words-rest bs at (length bs - 4 * at) (omega arith)) (first_part (words bs) at there)

-- that of a row stands within the bytes
pub row_fits : (bs : List ℕ) (at : ℕ) → HasRatio (words bs) (at + 1) → 4 * (at + 2) ≤ length bs
row_fits bs at h = omega (arith, (ratio-within (words bs) h.vars (at + 1) h.few h.some).1, length-words bs)

-- its total, as it is lent and as it stands in the words
pub total-lent : (bs : List ℕ) (at : ℕ) (t : Total) → TotalAt (words bs) at t ↔ TotalOf 2 (first 2 (words (take (length bs - 4 * (at + 1)) (drop (4 * (at + 1)) bs)))) t
total-lent bs at t =
    let e = words-rest bs (at + 1) (length bs - 4 * (at + 1)) (omega arith) in
    (λ h. rw e h, λ h. rw e at h)

-- ---- comparing by index, then by ratio
module _ (a b : Value) where
  pub cmp-less : a.index < b.index → Less ≡ cmp a b
  unfolding cmp
  cmp-less h = rw (compare-less a.index b.index h)

  pub cmp-greater : b.index < a.index → Greater ≡ cmp a b
  unfolding cmp
  cmp-greater h = rw (compare-greater a.index b.index h)

  pub cmp-index : (a.index ≡ b.index → ⊥) → nat_cmp a.index b.index ≡ cmp a b
  cmp-index h =
      elim (dec_lt a.index b.index) [
        | yes l ↦ compare-less a.index b.index l ∙ cmp-less l
        | no l ↦ compare-greater a.index b.index (omega arith) ∙ cmp-greater (omega arith)
      ]

  pub cmp-ratio : a.index ≡ b.index → order 2 a.ratio b.ratio ≡ cmp a b
  unfolding cmp
  cmp-ratio h = rw (compare-equal a.index b.index h)

pub value-index : (W : List ℕ) (m at : ℕ) → (value_at W m at).index ≡ payload (get_or W at 0)
unfolding value_at
value-index W m at = refl

pub value-ratio : (W : List ℕ) (m at : ℕ) → (value_at W m at).ratio ≡ part W (at + 1) (ratio_words W m (at + 1))
unfolding value_at
value-ratio W m at = refl

pub value-parts : (W : List ℕ) (m at : ℕ) → value_at W m at ≡ value_of (payload (get_or W at 0)) (part W (at + 1) (ratio_words W m (at + 1)))
unfolding value_at
value-parts W m at = refl
