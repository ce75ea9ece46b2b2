-- What a query finds, among the entries of a valid state. Assumes nothing.
use mathlib.Core.Path.{◌≡◌}
use mathlib.Core.Bool.{Bool, true}
use mathlib.Core.Option.{none, some}
use mathlib.Core.List.{List}
use mathlib.Core.Logic.{◌⊎◌, inl, inr}
use Prim.Native.Nat.{ℕ, suc, ◌+◌, ◌<◌}
use native.Mathlib.Omega.{arith}
use Rattle.fast_compare.specs.Map as map
use Rattle.kd_theory.specs.Bag.{fold_until}
use Rattle.kd_theory.specs.Tree.{inorder, count, Path, All, Split, Splits, Kept, Safe, Ignores, start, outcome, search, search_at, search_for}
use Rattle.kd_theory.specs.Bifurcate.{mark_number, ratio_key, ratio_mark}
use Rattle.kd_theory.specs.Fixed.{AverageKey, RatioKey, Differ, Grown, Run, Settled}
use Rattle.kd_theory.proofs.QueryLaws.{hit-ignores, largest-ignores, reducer-ignores, search-keeps, search-folds}
use Rattle.kd_theory.proofs.FixedLaws.{bifurcate-is, bifurcate-equal, number-keyed, ratio-keyed, grown-search, Picks, hit-picks, reducer-picks, largest-picks, settled-search, run-search}
use Rattle.index_theory.specs.Entries.{Entry}
use Rattle.index_theory.specs.State.{Kind, monomials, ratioed, State, Valid, Place, LabelsOf, power_in, ratios_of, dims, keys, keys_of, split_of}
use Rattle.index_theory.specs.Searches.{Query, containment, reducing, high, low, singular, kind_for, split, sought, path, process, find}
use Rattle.index_theory.specs.Claims.{number_in, SplitIs}
use Rattle.index_theory.proofs.Orders.{labels-agree}
use Rattle.index_theory.proofs.Prunes.{splits-kind, contained-safe, reducer-safe, high-safe, low-safe, singular-safe}

-- ---- of a query, whatever it is
-- no side that is left out has an entry that is looked for
safe-kind : (st : State) (r : Query) → Safe (keys_of (kind_for r) st.variables st.entries st.labels) (path st r) (sought st.entries r)
unfolding path sought
safe-kind st (containment q) = contained-safe st st.variables q
safe-kind st (reducing v q) = reducer-safe st (st.variables + 1) v q
safe-kind st (high v q) = high-safe st (st.variables + 1) v q
safe-kind st (low i s) = low-safe st (st.variables + 1) i s
safe-kind st (singular i s l) = singular-safe st (st.variables + 1) i s l

safe-for : (x y : Kind) (m : ℕ) (es : List Entry) (l : map.State) → x ≡ y → (disc : ℕ → ℕ → List ℕ → Path) (p : ℕ → Bool) → Safe (keys_of y m es l) disc p → Safe (keys_of x m es l) disc p
safe-for x y m es l e disc p h = rw e h

ignores : (es : List Entry) (r : Query) → Ignores (process es r) (sought es r)
unfolding process sought
ignores es (containment q) = hit-ignores _
ignores es (reducing v q) = reducer-ignores _ _
ignores es (high v q) = largest-ignores _ _ _
ignores es (low i s) = largest-ignores _ _ _
ignores es (singular i s l) = hit-ignores _

picks : (es : List Entry) (r : Query) → Picks (process es r)
unfolding process
picks es (containment q) = hit-picks _
picks es (reducing v q) = reducer-picks _ _
picks es (high v q) = largest-picks _ _ _
picks es (low i s) = largest-picks _ _ _
picks es (singular i s l) = hit-picks _

module _ (st : State) (val : Valid st) where
  splits : Splits (keys st) (split st)
  splits = splits-kind st.kind st.variables st.entries st.labels val.maxima-good.some val.labels-valid val.labels-of

  -- a split is as the Rust fixes it
  split-is : (k : Kind) → LabelsOf k st.entries st.labels → (n : ℕ) (es : List ℕ) → All (keys_of k st.variables st.entries st.labels).good es
      → (s : Split) → split_of k st.variables st.entries st.labels n es ≡ some s → SplitIs k st n es s
  split-is monomials of n es g s w =
      bifurcate-is (Place st.entries) (power_in st.entries) AverageKey mark_number (number-keyed (Place st.entries) (power_in st.entries)) st.variables n es g s w
  split-is ratioed of n es g s w =
      let R = ratios_of st.entries st.labels in
      bifurcate-is (Place st.entries) (ratio_key R) (RatioKey R) (ratio_mark R) (ratio-keyed R (labels-agree st.entries st.labels val.labels-valid of)) (st.variables + 1) n es g s w

  split-none : (k : Kind) (n : ℕ) (es : List ℕ) → split_of k st.variables st.entries st.labels n es ≡ none
      → (d : ℕ) → d < dims k st.variables → Differ (number_in k st) d es → ⊥
  split-none monomials n es w = bifurcate-equal (power_in st.entries) mark_number st.variables n es w
  split-none ratioed n es w = let R = ratios_of st.entries st.labels in bifurcate-equal (ratio_key R) (ratio_mark R) (st.variables + 1) n es w

  module _ (r : Query) where
    pub find-kept : Kept (keys st) st.tree (find st r).tree
    unfolding find
    find-kept = search-keeps (keys st) (split st) splits (path st r) st.tree val.ordered (process st.entries r) none

    -- what is found is the processor folded over all entries, in the order of the tree after the search
    pub find-folds : st.kind ≡ kind_for r → (find st r).acc ≡ (fold_until (process st.entries r) (start none) (inorder (find st r).tree)).acc
    unfolding find
    find-folds k =
        search-folds (keys st) (split st) splits (path st r) (sought st.entries r)
        (safe-for st.kind (kind_for r) st.variables st.entries st.labels k (path st r) (sought st.entries r) (safe-kind st r))
        st.tree val.ordered (process st.entries r) (ignores st.entries r) none

    pub find-grown : Grown (SplitIs st.kind st) 0 st.tree (find st r).tree
    unfolding find search search_at
    find-grown =
        grown-search (keys st) (split st) splits (SplitIs st.kind st) (split-is st.kind val.labels-of) (path st r) (process st.entries r)
        (suc (count st.tree)) 0 st.tree none val.ordered

    pub find_runs : Run (number_in st.kind st) (dims st.kind st.variables) (SplitIs st.kind st) (path st r) (process st.entries r) true 0 st.tree (start none) (find st r).tree (outcome (find st r))
    unfolding find search search_at
    find_runs =
        run-search (keys st) (number_in st.kind st) (dims st.kind st.variables) (split st) splits (SplitIs st.kind st) (split-is st.kind val.labels-of) (split-none st.kind) (path st r) (process st.entries r)
        (suc (count st.tree)) 0 st.tree none val.ordered (omega arith)

    pub find-settled : (b : ℕ) → (find st r).acc ≡ some b → Settled (number_in st.kind st) (dims st.kind st.variables) b (find st r).tree
    unfolding find search search_at
    find-settled b e =
        go (settled-search (number_in st.kind st) (dims st.kind st.variables) (split st) (split-none st.kind) (path st r) (process st.entries r) (picks st.entries r) b
        (suc (count st.tree)) 0 st.tree none e)
      where
        go : (none ≡ some b) ⊎ Settled (number_in st.kind st) (dims st.kind st.variables) b (search_for (split st) (path st r) (process st.entries r) (suc (count st.tree)) 0 st.tree none).tree
            → Settled (number_in st.kind st) (dims st.kind st.variables) b (search_for (split st) (path st r) (process st.entries r) (suc (count st.tree)) 0 st.tree none).tree
        go (inl w) = absurd (let z : ◌≡◌ {A = ℕ} 0 1 = cc in omega arith)
        go (inr w) = w
