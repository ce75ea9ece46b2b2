-- The k-d tree as it is meant, over entry numbers: for any number of dimensions and any kind of key.
--     K.good e          e is the number of an entry
--     K.valid d k       k is a key of dimension d
--     K.below d k e     entry e lies below the key k of dimension d
--     split n es         how a leaf is split whose dimensions are tried from n on; none if it cannot be
-- Assumes nothing.
use Rattle.std.specs.Prelude.{◌≡◌, Bool, true, false, cond, List, [], ◌∷◌, ◌++◌, ℕ, zero, suc, ◌+◌, ltb, length, take, drop}
use Rattle.std.proofs.Math.Option.{Option, none, some}
use Rattle.kd_theory.specs.Bag.{◌∈◌, Same, Some, Step, fold_until}

pub data Tree : Type 0 where
  leaf : List ℕ → Tree
  branch : ℕ → ℕ → Tree → Tree → Tree

abbrev pub inorder : Tree → List ℕ
inorder (leaf es) = es
inorder (branch d k l r) = inorder l ++ inorder r

abbrev pub count : Tree → ℕ
count t = length (inorder t)

unfoldable pub nodes : Tree → ℕ
nodes (leaf es) = 1
nodes (branch d k l r) = suc (nodes l + nodes r)

-- the sides of a branch of dimension d are tried from this one on
unfoldable pub child_from : ℕ → ℕ
child_from d = suc d

-- which sides a search visits
pub data Path : Type 0 where
  neither less other both : Path

unfoldable pub goes_less : Path → Bool
goes_less neither = false
goes_less less = true
goes_less other = false
goes_less both = true

unfoldable pub goes_other : Path → Bool
goes_other neither = false
goes_other less = false
goes_other other = true
goes_other both = true

pub record Split : Type 0 where
  pub dim : ℕ
  pub key : ℕ
  pub less : List ℕ
  pub other : List ℕ

pub record Out (A : Type 0) : Type 0 where
  pub tree : Tree
  pub acc : A
  pub on : Bool

-- the kind of keys: which numbers are entries, which are keys of a dimension, and which entries lie below a key
pub record Keys : Type 1 where
  pub good : ℕ → Type 0
  pub valid : ℕ → ℕ → Type 0
  pub below : ℕ → ℕ → ℕ → Bool

unfoldable pub insert : Keys → ℕ → Tree → Tree
insert K e (leaf es) = leaf (es ++ e ∷ [])
insert K e (branch d k l r) = elim (K.below d k e) [ true ↦ branch d k (insert K e l) r | false ↦ branch d k l (insert K e r) ]

-- where it puts the entry in the order of the tree: at the end of its leaf
unfoldable pub place_of : Keys → ℕ → Tree → ℕ
place_of K e (leaf es) = length es
place_of K e (branch d k l r) = cond (K.below d k e) (place_of K e l) (count l + place_of K e r)

-- the list with e before place p
unfoldable pub put_at : ℕ → ℕ → List ℕ → List ℕ
put_at p e es = take p es ++ (e ∷ drop p es)

-- both sides of a branch are non-empty, the less side below its key and the other not
pub record Sides (K : Keys) (d k : ℕ) (l r : List ℕ) : Type 0 where
  pub key : K.valid d k
  pub less : (e : ℕ) → e ∈ l → K.below d k e ≡ true
  pub other : (e : ℕ) → e ∈ r → K.below d k e ≡ false
  pub some-less : Some l
  pub some-other : Some r

abbrev pub All : (ℕ → Type 0) → List ℕ → Type 0
All Q es = (e : ℕ) → e ∈ es → Q e

abbrev pub Ordered : Keys → Tree → Type 0
Ordered K (leaf es) = All K.good es
Ordered K (branch d k l r) = Sides K d k (inorder l) (inorder r) × Ordered K l × Ordered K r

-- a leaf of more entries is split, if it can be
unfoldable pub limit : ℕ
limit = 64

unfoldable pub split_leaf : List ℕ → Bool → Option Split → Tree
split_leaf es false s = leaf es
split_leaf es true none = leaf es
split_leaf es true (some s) = branch s.dim s.key (leaf s.less) (leaf s.other)

unfoldable pub split_root : (ℕ → List ℕ → Option Split) → ℕ → Tree → Tree
split_root split n (branch d k l r) = branch d k l r
split_root split n (leaf es) = split_leaf es (ltb limit (length es)) (split n es)

module _ {A : Type 0} where
  abbrev pub start : A → Step A
  start a = record { acc = a; on = true }

  abbrev pub outcome : Out A → Step A
  outcome o = record { acc = o.acc; on = o.on }

  -- a side that is not visited stays as it is
  unfoldable pub side : Bool → (Tree → A → Out A) → Tree → A → Out A
  side true go t a = go t a
  side false go t a = record { tree = t; acc = a; on = true }

  -- the other side r, unless the less side, now l, has stopped
  unfoldable pub then-other : Bool → ℕ → ℕ → (Tree → A → Out A) → Tree → Tree → A → Out A
  then-other true d k go l r a = let o = go r a in record { tree = branch d k l o.tree; acc = o.acc; on = o.on }
  then-other false d k go l r a = record { tree = branch d k l r; acc = a; on = false }

module _ {A : Type 0} (disc : ℕ → ℕ → List ℕ → Path) (proc : A → ℕ → Step A) where
  -- one step of the search, at a tree whose root needs no more splitting; `go` searches a side, given the dimension to try first
  unfoldable pub visit : (ℕ → Tree → A → Out A) → Tree → A → Out A
  visit go (leaf es) a = let s = fold_until proc (start a) es in record { tree = leaf es; acc = s.acc; on = s.on }
  visit go (branch d k l r) a =
      let p = disc d k (inorder l ++ inorder r) in
      let o = side (goes_less p) (go (child_from d)) l a in
      then-other o.on d k (side (goes_other p) (go (child_from d))) o.tree r o.acc

module _ {A : Type 0} (split : ℕ → List ℕ → Option Split) (disc : ℕ → ℕ → List ℕ → Path) (proc : A → ℕ → Step A) where
  -- the fuel bounds the depth
  unfoldable pub search_for : ℕ → ℕ → Tree → A → Out A
  search_for zero n t a = record { tree = t; acc = a; on = true }
  search_for (suc f) n t a = visit disc proc (search_for f) (split_root split n t) a

  -- with fuel enough for every tree that is in order
  unfoldable pub search_at : ℕ → Tree → A → Out A
  search_at n t a = search_for (suc (count t)) n t a

  unfoldable pub search : Tree → A → Out A
  search t a = search_at 0 t a

-- the split s has the entries es, and is a branch
pub record SplitOf (K : Keys) (es : List ℕ) (s : Split) : Type 0 where
  pub same : Same es (s.less ++ s.other)
  pub size : length es ≡ length (s.less ++ s.other)
  pub sides : Sides K s.dim s.key s.less s.other

abbrev pub Splits : Keys → (ℕ → List ℕ → Option Split) → Type 0
Splits K split = (n : ℕ) (es : List ℕ) → All K.good es → (s : Split) → split n es ≡ some s → SplitOf K es s

-- a side that is left out has no entry that satisfies p
pub record Safe (K : Keys) (disc : ℕ → ℕ → List ℕ → Path) (p : ℕ → Bool) : Type 0 where
  pub less : (d k : ℕ) (es : List ℕ) (e : ℕ) → e ∈ es → K.below d k e ≡ true → goes_less (disc d k es) ≡ false → p e ≡ false
  pub other : (d k : ℕ) (es : List ℕ) (e : ℕ) → e ∈ es → K.below d k e ≡ false → goes_other (disc d k es) ≡ false → p e ≡ false

-- an entry that does not satisfy p changes nothing and stops nothing
abbrev pub Ignores : {A : Type 0} → (A → ℕ → Step A) → (ℕ → Bool) → Type 0
Ignores {A} proc p = (a : A) (e : ℕ) → p e ≡ false → proc a e ≡ start a

-- the second tree has the first's entries, and is in order
pub record Kept (K : Keys) (t t' : Tree) : Type 0 where
  pub same : Same (inorder t) (inorder t')
  pub size : count t ≡ count t'
  pub ordered : Ordered K t'

-- what a search answers is the fold over the entries of the tree that it leaves
abbrev pub Folds : {A : Type 0} → (A → ℕ → Step A) → A → Out A → Type 0
Folds proc a o = outcome o ≡ fold_until proc (start a) (inorder o.tree)

-- the keys may become others, as when entries are added: what was an entry or a key stays one, and compares as before
pub record Grows (K K' : Keys) : Type 0 where
  pub good : (e : ℕ) → K.good e → K'.good e
  pub valid : (d k : ℕ) → K.valid d k → K'.valid d k
  pub below : (d k e : ℕ) → K.valid d k → K.good e → K'.below d k e ≡ K.below d k e
