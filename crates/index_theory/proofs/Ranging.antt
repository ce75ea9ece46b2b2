-- Queries as ranges: what is made of a visited entry, and which sides of a branch are visited. Assumes nothing.
use mathlib.Core.Path.{◌≡◌, refl, sym, ap, ◌∙◌}
use mathlib.Core.Bool.{Bool, true, false, not, cond, ◌&&◌}
use mathlib.Core.Option.{Option, none, some}
use mathlib.Core.List.{List}
use Prim.Native.Nat.{ℕ, zero, ◌<◌}
use native.Mathlib.Decide.{dec_le}
use native.Mathlib.Omega.{arith}
use lib.Dec.{leb, ltb, eqb}
use borrow.Author.Tests.{lt-ltb, le-ltb, le-leb, lt-leb, eq-eqb, ne_eqb}
use Rattle.std.specs.Ordering.{nat_cmp, ordering_then, is_gt}
use Rattle.monomial.specs.Monomial.{pow}
use Rattle.monomial.specs.Operations.{divides, result_words}
use Rattle.monomial_ordering.specs.Order.{order}
use Rattle.monomial.specs.declared.ordered_ops.Op.TheVariants.{Ratio}
use Rattle.monomial_ordering.proofs.Orders as orders
use Rattle.monomial_ordering.proofs.Orders.{Trichotomy, trichotomy}
use Rattle.fast_compare.specs.Map as map
use Rattle.kd_theory.specs.Bag.{Step}
use Rattle.kd_theory.specs.Prune.{prune_monomial, prune_ratio}
use Rattle.kd_theory.specs.Queries.{hit, better, largest, reducer}
use Rattle.kd_theory.specs.Tree.{Path, neither, less, other, both, goes_less, goes_other, start}
use Rattle.index_theory.specs.Entries.{Entry, entry_at, quotient_of, ratio_of, above}
use Rattle.index_theory.specs.State.{monomials, ratioed, State}
use Rattle.index_theory.specs.Searches.{Query, containment, reducing, high, low, singular, kind_for, ratio_at, may, dense, is_divisor, is_reducer, is_regular, is_high, is_low, is_singular, sought, path, process}
use Rattle.index_theory.specs.Ranges.{dividend, by_lm, divisor_of, not_below, not_past, replaces, goes_on, may_go, dim_of, limit_of}
use Rattle.index_theory.proofs.Orders.{same_index_lem}

leb-not : (a b : ℕ) → leb a b ≡ not (ltb b a)
leb-not a b = elim (dec_le a b) [
  | yes l ↦ le-leb a b l ∙ ap not (sym (le-ltb b a l))
  | no l ↦ lt-leb a b (omega arith) ∙ ap not (sym (lt-ltb b a (omega arith)))
]

and-true : (b : Bool) → b && true ≡ b
and-true true = refl
and-true false = refl

-- ---- values by their index
above-less : (v w : map.Value) → v.index < w.index → above v w ≡ false
unfolding above map.cmp
above-less v w h = go (trichotomy v.index w.index)
  where
    go : Trichotomy v.index w.index → is_gt (ordering_then (nat_cmp v.index w.index) (order 2 v.ratio w.ratio)) ≡ false
    go (orders.less l e) = rw e refl
    go (orders.equal l e) = absurd (omega arith)
    go (orders.greater l e) = absurd (omega arith)

pub above_more : (v w : map.Value) → w.index < v.index → above v w ≡ true
unfolding above map.cmp
above_more v w h = go (trichotomy v.index w.index)
  where
    go : Trichotomy v.index w.index → is_gt (ordering_then (nat_cmp v.index w.index) (order 2 v.ratio w.ratio)) ≡ true
    go (orders.less l e) = absurd (omega arith)
    go (orders.equal l e) = absurd (omega arith)
    go (orders.greater l e) = rw e refl

above_same : (v w : map.Value) → v.index ≡ w.index → above v w ≡ is_gt (order 2 v.ratio w.ratio)
unfolding above
above_same v w h = ap is_gt (same_index_lem v w h)

-- ---- the entries that are asked for: a range of ratios, and a division
equal-two : (a b : ℕ) → eqb a b ≡ not (ltb a b) && not (ltb b a)
equal-two a b = go (trichotomy a b)
  where
    go : Trichotomy a b → eqb a b ≡ not (ltb a b) && not (ltb b a)
    go (orders.less h e) = rw (ne_eqb a b (λ z. omega arith), lt-ltb a b h) refl
    go (orders.equal h e) = rw (eq-eqb a b h, le-ltb a b (omega arith), le-ltb b a (omega arith)) refl
    go (orders.greater h e) = rw (ne_eqb a b (λ z. omega arith), le-ltb a b (omega arith), lt-ltb b a h) refl

one_index : (v : map.Value) (i : ℕ) (s l : List ℕ) (D : Bool) → (eqb v.index i && D) && is_gt (order 2 v.ratio (result_words Ratio s l)) ≡ (above v (quotient_of i s l) && not (ltb i v.index)) && D
unfolding quotient_of
one_index v i s l D = go (trichotomy v.index i)
  where
    both_ways : (a b : Bool) → (true && a) && b ≡ (b && true) && a
    both_ways true true = refl
    both_ways true false = refl
    both_ways false true = refl
    both_ways false false = refl

    go : Trichotomy v.index i → (eqb v.index i && D) && is_gt (order 2 v.ratio (result_words Ratio s l)) ≡ (above v (quotient_of i s l) && not (ltb i v.index)) && D
    go (orders.less h e) = rw (ne_eqb v.index i (λ z. omega arith), above-less v (quotient_of i s l) h) refl
    go (orders.equal h e) = rw (eq-eqb v.index i h, above_same v (quotient_of i s l) h, le-ltb i v.index (omega arith)) (both_ways D (is_gt (order 2 v.ratio (result_words Ratio s l))))
    go (orders.greater h e) = rw (ne_eqb v.index i (λ z. omega arith), above_more v (quotient_of i s l) h, lt-ltb i v.index h) refl

pub sought-is : (es : List Entry) (r : Query) (e : ℕ) → sought es r e ≡ (not_below es r e && not_past es r e) && divides (divisor_of r (entry_at es e)) (dividend r)
unfolding sought not_below not_past divisor_of dividend by_lm is_divisor is_reducer is_high is_low is_singular quotient_of
sought-is es (containment q) e = refl
sought-is es (reducing v q) e = refl
sought-is es (high v q) e = ap (λ (b : Bool). b && divides (entry_at es e).lm q) (sym (and-true (above (ratio_of (entry_at es e)) v)))
sought-is es (low i s) e = ap (λ (b : Bool). b && divides (entry_at es e).sign s) (equal-two (entry_at es e).index i)
sought-is es (singular i s l) e = one_index (ratio_of (entry_at es e)) i s l (divides (entry_at es e).sign s)

-- ---- what is made of a visited entry, in one equation
hit-is : (p : ℕ → Bool) (a : Option ℕ) (e : ℕ) → hit p a e ≡ cond (p e) (record { acc = some e; on = false }) (start a)
unfolding hit
hit-is p a e = go (p e)
  where
    go : (b : Bool) → ◌≡◌ {A = Step (Option ℕ)} (record { acc = cond b (some e) a; on = not b }) (cond b (record { acc = some e; on = false }) (start a))
    go true = refl
    go false = refl

reducer-is : (p regular : ℕ → Bool) (a : Option ℕ) (e : ℕ) → reducer p regular a e ≡ cond (p e) (record { acc = some e; on = not (regular e) }) (start a)
unfolding reducer
reducer-is p regular a e = go (p e)
  where
    go : (b : Bool) → ◌≡◌ {A = Step (Option ℕ)} (record { acc = cond b (some e) a; on = not (b && regular e) }) (cond b (record { acc = some e; on = not (regular e) }) (start a))
    go true = refl
    go false = refl

first-is : (p : ℕ → Bool) (val : ℕ → map.Value) (e : ℕ) → largest p above val none e ≡ cond (p e) (record { acc = some e; on = true }) (start none)
unfolding largest better
first-is p val e = go (p e)
  where
    go : (b : Bool) → ◌≡◌ {A = Step (Option ℕ)} (start (cond b (some e) none)) (cond b (record { acc = some e; on = true }) (start none))
    go true = refl
    go false = refl

larger-is : (p : ℕ → Bool) (val : ℕ → map.Value) (b e : ℕ) → largest p above val (some b) e ≡ cond (above (val e) (val b) && p e) (record { acc = some e; on = true }) (start (some b))
unfolding largest better
larger-is p val b e = go (p e) (above (val e) (val b))
  where
    go : (x y : Bool) → ◌≡◌ {A = Step (Option ℕ)} (start (cond x (some (cond y e b)) (some b))) (cond (y && x) (record { acc = some e; on = true }) (start (some b)))
    go true true = refl
    go true false = refl
    go false true = refl
    go false false = refl

pub process-is : (es : List Entry) (r : Query) (a : Option ℕ) (e : ℕ) → process es r a e ≡ cond (replaces es r a e && sought es r e) (record { acc = some e; on = goes_on es r e }) (start a)
unfolding process replaces sought goes_on
process-is es (containment q) a e = hit-is (is_divisor es q) a e
process-is es (reducing v q) a e = reducer-is (is_reducer es v q) (is_regular es v) a e
process-is es (high v q) none e = first-is (is_high es v q) (ratio_at es) e
process-is es (high v q) (some b) e = larger-is (is_high es v q) (ratio_at es) b e
process-is es (low i s) none e = first-is (is_low es i s) (ratio_at es) e
process-is es (low i s) (some b) e = larger-is (is_low es i s) (ratio_at es) b e
process-is es (singular i s l) a e = hit-is (is_singular es i s l) a e

-- ---- the sides of a branch that are visited
pub record Goes (p : Path) (a b : Bool) : Type 0 where
  pub less-is : goes_less p ≡ a
  pub other-is : goes_other p ≡ b

less_both : (m c : Bool) → Goes (cond m (cond c less both) neither) m (m && not c)
unfolding goes_less goes_other
less_both true true = record { less-is = refl; other-is = refl }
less_both true false = record { less-is = refl; other-is = refl }
less_both false c = record { less-is = refl; other-is = refl }

both-other : (m c : Bool) → Goes (cond m (cond c both other) neither) (m && c) (m && true)
unfolding goes_less goes_other
both-other true true = record { less-is = refl; other-is = refl }
both-other true false = record { less-is = refl; other-is = refl }
both-other false c = record { less-is = refl; other-is = refl }

of-less : {p : Path} {m c d : Bool} → m ≡ d → Goes p m c → Goes p d c
of-less e g = record { less-is = g.less-is ∙ e; other-is = g.other-is }

index_goes : (a i : ℕ) → Goes (cond (ltb a i) other (cond (ltb i a) less both)) (not (ltb a i)) (not (ltb i a))
unfolding goes_less goes_other
index_goes a i = go (trichotomy a i)
  where
    go : Trichotomy a i → Goes (cond (ltb a i) other (cond (ltb i a) less both)) (not (ltb a i)) (not (ltb i a))
    go (orders.less h e) = rw (lt-ltb a i h, le-ltb i a (omega arith)) (record { less-is = refl; other-is = refl })
    go (orders.equal h e) = rw (le-ltb a i (omega arith), le-ltb i a (omega arith)) (record { less-is = refl; other-is = refl })
    go (orders.greater h e) = rw (le-ltb a i (omega arith), lt-ltb i a h) (record { less-is = refl; other-is = refl })

one-goes : (v : map.Value) (i : ℕ) (w : map.Value) → w.index ≡ i → Goes (cond (ltb v.index i) other (cond (ltb i v.index) less (cond (above v w) both other))) (above v w) (not (ltb i v.index))
unfolding goes_less goes_other
one-goes v i w ei = go (trichotomy v.index i)
  where
    end : (c : Bool) → Goes (cond c both other) c true
    end true = record { less-is = refl; other-is = refl }
    end false = record { less-is = refl; other-is = refl }

    go : Trichotomy v.index i → Goes (cond (ltb v.index i) other (cond (ltb i v.index) less (cond (above v w) both other))) (above v w) (not (ltb i v.index))
    go (orders.less h e) = rw (lt-ltb v.index i h, le-ltb i v.index (omega arith), above-less v w (omega arith)) (record { less-is = refl; other-is = refl })
    go (orders.equal h e) = rw (le-ltb v.index i (omega arith), le-ltb i v.index (omega arith)) (end (above v w))
    go (orders.greater h e) = rw (le-ltb v.index i (omega arith), lt-ltb i v.index h, above_more v w (omega arith)) (record { less-is = refl; other-is = refl })

no-ratio : {X : Type 0} → monomials ≡ ratioed → X
no-ratio e = absurd (let z : ◌≡◌ {A = ℕ} 0 1 = cc in omega arith)

-- at a ratio, whose key is an entry
pub ratio-goes : (st : State) (r : Query) (key : ℕ) (es : List ℕ) → kind_for r ≡ ratioed
    → Goes (path st r zero key es) (may_go st r es && not_below st.entries r key) (may_go st r es && not_past st.entries r key)
unfolding path prune_ratio may_go by_lm dividend not_below not_past quotient_of
ratio-goes st (containment q) key es k = no-ratio k
ratio-goes st (reducing v q) key es k = of-less (sym (and-true (may st q es))) (less_both (may st q es) (above (ratio_of (entry_at st.entries key)) v))
ratio-goes st (high v q) key es k = both-other (may st q es) (above (ratio_of (entry_at st.entries key)) v)
ratio-goes st (low i s) key es k = index_goes (entry_at st.entries key).index i
ratio-goes st (singular i s l) key es k = one-goes (ratio_of (entry_at st.entries key)) i (quotient_of i s l) refl

-- at a variable
limited : (b : Bool) (x key : ℕ) → key < 4294967296 → not (b && ltb x key) ≡ leb key (cond b x 4294967295)
limited true x key h = sym (leb-not key x)
limited false x key h = sym (le-leb key 4294967295 (omega arith))

of_other : {p : Path} {m c d : Bool} → c ≡ d → Goes p m c → Goes p m d
of_other e g = record { less-is = g.less-is; other-is = g.other-is ∙ e }

power-goes : (st : State) (q : List ℕ) (v key : ℕ) (es : List ℕ) (p : Path) → key < 4294967296 → p ≡ cond (may st q es) (cond (dense q v && ltb (pow 1 q v) key) less both) neither
    → Goes p (may st q es) (may st q es && leb key (cond (true && dense q v) (pow 1 q v) 4294967295))
power-goes st q v key es p h e =
    rw e (of_other (ap (λ (b : Bool). may st q es && b) (limited (dense q v) (pow 1 q v) key h)) (less_both (may st q es) (dense q v && ltb (pow 1 q v) key)))

free-goes : (key : ℕ) → key < 4294967296 → Goes both true (leb key 4294967295)
unfolding goes_less goes_other
free-goes key h = record { less-is = refl; other-is = sym (le-leb key 4294967295 (omega arith)) }

pub variable-goes : (st : State) (r : Query) (v key : ℕ) (es : List ℕ) → key < 4294967296
    → Goes (path st r (dim_of (kind_for r) v) key es) (may_go st r es) (may_go st r es && leb key (limit_of r v))
unfolding path prune_monomial prune_ratio may_go limit_of by_lm dividend
variable-goes st (containment q) v key es h = power-goes st q v key es _ h refl
variable-goes st (reducing w q) v key es h = power-goes st q v key es _ h refl
variable-goes st (high w q) v key es h = power-goes st q v key es _ h refl
variable-goes st (low i s) v key es h = free-goes key h
variable-goes st (singular i s l) v key es h = free-goes key h
