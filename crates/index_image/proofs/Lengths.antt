-- The image of a valid state has the lengths that its tables need. Assumes nothing.
use mathlib.Core.Path.{◌≡◌, refl, sym, ap, ◌∙◌}
use mathlib.Core.List.{List, ◌++◌}
use Prim.Native.Nat.{ℕ, ◌+◌, ◌-◌, ◌*◌, ◌≤◌}
use native.Mathlib.Omega.{arith}
use native.Mathlib.Decide.{dec_le}
use native.Mathlib.Nat.{zero-mul}
use lib.ListN.{length, get_or-eq_default, length-append}
use Rattle.monomial.specs.Monomial.{pow, power_of, find}
use Rattle.monomial.proofs.Powers.{absent-above, powers-in-range}
use Rattle.fast_compare.specs.Map as map
use Rattle.fast_compare.specs.Layout as labels
use Rattle.fast_compare.proofs.Images as images
use Rattle.kd_theory.specs.Tree.{Tree, leaf, branch, inorder, nodes, count, Keys, Ordered}
use Rattle.kd_theory.proofs.TreeLaws.{some-length, few-nodes}
use Rattle.index_theory.specs.Entries.{Entry, entry_at, one}
use Rattle.index_theory.specs.State.{Kind, monomials, ratioed, State, Valid, power_in, keys}
use Rattle.index_image.specs.Layout.{code, label_words}
use Rattle.index_image.proofs.Encoding.{Fits}
use Rattle.index_image.proofs.Gcds.{Powers}

-- a tree of no entries is one leaf
empty-nodes : (K : Keys) (t : Tree) → Ordered K t → count t ≡ 0 → nodes t ≡ 1
unfolding nodes
empty-nodes K (leaf es) o e = refl
empty-nodes K (branch d k l r) o e =
    let more : length (inorder l ++ inorder r) ≡ length (inorder l) + length (inorder r) = length-append (inorder l) (inorder r) in
    omega (arith, more, e, some-length (inorder l) o.0.some-less)

-- at a place past the entries stands one
pub past : (es : List Entry) (e : ℕ) → length es ≤ e → (entry_at es e).lm ≡ one
unfolding entry_at
past es e h = ap (λ (x : Entry). x.lm) (get_or-eq_default es (record { number = 0; index = 0; sign = one; lm = one }) {n = e} h)

pub one_power : (v : ℕ) → pow 1 one v ≡ 0
unfolding pow power_of find
one_power v = refl

label-length : (k : Kind) (m c : ℕ) (l : map.State) → map.Valid l → l.variables ≡ m → l.capacity ≡ c → length (label_words k l) ≡ code k * labels.size m c
unfolding label_words
label-length monomials m c l val v d = sym (zero-mul (labels.size m c))
label-length ratioed m c l val v d = rw (← v, ← d) (images.encode-length l val ∙ omega arith)

module _ (st : State) (val : Valid st) where
  -- a variable past the last has power 0 in every entry
  absent : (v e : ℕ) → st.variables ≤ v → power_in st.entries v e ≡ 0
  unfolding power_in
  absent v e h = elim (dec_le (length st.entries) e) [
    | yes l ↦ rw (past st.entries e l) (one_power v)
    | no l ↦ absent-above 1 st.variables (entry_at st.entries e).lm v (omega arith) (val.canonical e (omega arith)).lm-canonical h
  ]

  small : (v e : ℕ) → power_in st.entries v e ≤ 32767
  unfolding power_in
  small v e = elim (dec_le (length st.entries) e) [
    | yes l ↦ rw (past st.entries e l, one_power v) (omega arith)
    | no l ↦ (powers-in-range 1 st.variables (entry_at st.entries e).lm v (omega arith) (omega arith) (val.canonical e (omega arith)).lm-canonical).high
  ]

  pub state-powers : Powers st.variables (power_in st.entries)
  state-powers = record { few = val.map-good.few; small = small; absent = absent }

  enough : nodes st.tree ≤ 2 * st.capacity - 1
  enough = elim (dec_le 1 (count st.tree)) [
    | yes l ↦ omega (arith, few-nodes (keys st) st.tree val.ordered l, val.size, val.few, val.cap-from)
    | no l ↦ omega (arith, empty-nodes (keys st) st.tree val.ordered (omega arith), val.cap-from)
  ]

  pub valid-fits : Fits st
  valid-fits = record {
    vars-to = val.map-good.few;
    few = val.few;
    maxima = val.maxima-good.one_each;
    map = val.map-good.one_each;
    good = val.canonical;
    all = val.size;
    nodes-to = enough;
    powers = absent;
    label-words = label-length st.kind st.variables st.capacity st.labels val.labels-valid val.labels-vars val.labels-cap;
  }
