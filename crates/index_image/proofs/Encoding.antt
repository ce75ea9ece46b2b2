-- The lengths of an image's tables, and the image as its tables. Assumes nothing.
use mathlib.Core.Path.{◌≡◌, refl, ap, ◌∙◌}
use mathlib.Core.List.{List, [], ◌∷◌, ◌++◌, append_assoc}
use Prim.Native.Nat.{ℕ, suc, ◌+◌, ◌-◌, ◌*◌, ◌≤◌, ◌<◌}
use native.Mathlib.Omega.{arith}
use native.Mathlib.Nat.{add-mul}
use lib.ListN.{length, get_or, set, length-append}
use Rattle.words.specs.Tables.{part, zeros, table, over}
use Rattle.words.proofs.Tables.{length-zeros, length-table, split_rows}
use Rattle.words.proofs.Joined.{joined, Stand, apart, together, moved, moved_back, before, over-joined}
use Rattle.monomial.specs.Monomial.{monomial_of, pow}
use Rattle.monomial.proofs.Powers.{monomial-length, canonical-length}
use Rattle.divmask.specs.Mask.{mask, vector}
use Rattle.fast_compare.specs.Map as map
use Rattle.kd_theory.specs.Tree.{Tree, leaf, branch, inorder, nodes, count}
use Rattle.kd_theory.proofs.BifurcateLaws.{least-most}
use Rattle.index_theory.specs.Entries.{Entry, entry_at}
use Rattle.index_theory.specs.State.{Kind, monomials, ratioed, State, GoodEntry, power_in}
use Rattle.index_image.specs.Shape as at
use Rattle.index_image.specs.Shape.{slot_width, width_of, node_width, header_width, maxima_at, map_at, entries_at}
use Rattle.index_image.specs.Layout.{code, shape_of, slot, masked, header, sign_words, entry_words, gcd_powers, node_words, tree_words, label_words, encode}

-- ---- lengths
pub slot-length : (m : ℕ) (ws : List ℕ) → length ws ≤ slot_width m → length (slot m ws) ≡ slot_width m
unfolding slot
slot-length m ws h = simp (length-append, length-zeros) (omega arith)

pub header-length : (st : State) → length (header st) ≡ header_width
unfolding header
header-length st = omega (arith, length-zeros at.kept)

pub entry_length : (k : Kind) (m : ℕ) (xs : List ℕ) (l : map.State) (e : Entry) → m ≤ 64 → GoodEntry m e → length (entry_words k m xs l e) ≡ width_of (code k) m
unfolding entry_words sign_words masked
entry_length k m xs l e h g = go k
  where
    lm : length (slot m e.lm) ≡ slot_width m
    lm = slot-length m e.lm (canonical-length 1 m e.lm (omega arith) (omega arith) g.lm-canonical)

    sign : length (slot m e.sign) ≡ slot_width m
    sign = slot-length m e.sign (canonical-length 1 m e.sign (omega arith) (omega arith) g.sign-canonical)

    go : (k : Kind) → length (slot m e.lm ++ (mask m xs (pow 1 e.lm) ∷ vector m (pow 1 e.lm) ∷ sign_words k m xs l e)) ≡ width_of (code k) m
    go monomials = length-append (slot m e.lm) _ ∙ omega (arith, lm)
    go ratioed = length-append (slot m e.lm) _ ∙ simp length-append (omega (arith, lm, sign))

module _ (m : ℕ) (xs : List ℕ) (pw : ℕ → ℕ → ℕ) (few : m ≤ 64) (above : (v e : ℕ) → m ≤ v → pw v e ≡ 0) where
  pub node-length : (tag key skip : ℕ) (places : List ℕ) → length (node_words m xs pw tag key skip places) ≡ node_width m
  unfolding node_words gcd_powers
  node-length tag key skip places =
      let short = monomial-length 1 m (gcd_powers pw places) (omega arith) (λ v h. omega (arith, least-most (pw v) 0 places (λ e. omega (arith, above v e h)))) in
      omega (arith, slot-length m (monomial_of 1 (gcd_powers pw places)) short)

  pub tree-length : (t : Tree) → length (tree_words m xs pw t) ≡ nodes t * node_width m
  unfolding tree_words nodes
  tree-length (leaf places) = omega (arith, node-length 0 0 0 places)
  tree-length (branch d k l r) =
      simp length-append
      (omega (
        arith,
        node-length (suc d) k (nodes l) (inorder l ++ inorder r),
        tree-length l,
        tree-length r,
        add-mul 1 (nodes l + nodes r) (node_width m),
        add-mul (nodes l) (nodes r) (node_width m),
      )
      )

-- ---- the image of a state as its tables
-- what the lengths of the tables rest on
pub record Fits (st : State) : Type 0 where
  pub vars-to : st.variables ≤ 64
  pub few : length st.entries ≤ st.capacity
  pub maxima : length st.maxima ≡ st.variables
  pub map : length st.map_maxima ≡ st.variables
  pub good : (i : ℕ) → i < length st.entries → GoodEntry st.variables (entry_at st.entries i)
  pub all : count st.tree ≡ length st.entries
  pub nodes-to : nodes st.tree ≤ 2 * st.capacity - 1
  pub powers : (v e : ℕ) → st.variables ≤ v → power_in st.entries v e ≡ 0
  pub label-words : length (label_words st.kind st.labels) ≡ at.labels_size (shape_of st)

-- the tables, one behind the other
abbrev pub tables : State → List (List ℕ)
tables st =
    header st ∷ st.maxima ∷ st.map_maxima
    ∷ table (length st.entries) (λ i. entry_words st.kind st.variables st.map_maxima st.labels (entry_at st.entries i))
    ∷ zeros ((st.capacity - length st.entries) * at.entry_width (shape_of st))
    ∷ inorder st.tree ∷ zeros (st.capacity - length st.entries) ∷ label_words st.kind st.labels
    ∷ tree_words st.variables st.map_maxima (power_in st.entries) st.tree
    ∷ zeros ((2 * st.capacity - 1 - nodes st.tree) * node_width st.variables) ∷ []

pub whole : (st : State) → joined (tables st) ≡ encode st
unfolding joined encode
whole st = refl

-- the same, each table with the zeros behind it: an insert or a split then moves no boundary
abbrev pub coarse : State → List (List ℕ)
coarse st =
    header st ∷ st.maxima ∷ st.map_maxima
    ∷ (table (length st.entries) (λ i. entry_words st.kind st.variables st.map_maxima st.labels (entry_at st.entries i))
    ++ zeros ((st.capacity - length st.entries) * at.entry_width (shape_of st)))
    ∷ (inorder st.tree ++ zeros (st.capacity - length st.entries)) ∷ label_words st.kind st.labels
    ∷ (tree_words st.variables st.map_maxima (power_in st.entries) st.tree
    ++ zeros ((2 * st.capacity - 1 - nodes st.tree) * node_width st.variables)) ∷ []

pub coarse-whole : (st : State) → joined (coarse st) ≡ encode st
unfolding joined encode
coarse-whole st = simp append_assoc

-- a write to one table leaves the others
pub table-written : (st : State) (k t : ℕ) (ws : List ℕ) → k < 10 → t + length ws ≤ length (get_or (tables st) k [])
    → over (encode st) (before (tables st) k + t) ws ≡ joined (set (tables st) k (over (get_or (tables st) k []) t ws))
table-written st k t ws h l = rw (← whole st) (over-joined (tables st) k t ws h l)

-- the tables one by one
pub record Pieces (W : List ℕ) (st : State) : Type 0 where
  pub head : part W 0 header_width ≡ header st
  pub maxima : part W maxima_at st.variables ≡ st.maxima
  pub map : part W (map_at st.variables) st.variables ≡ st.map_maxima
  pub entries : part W (entries_at st.variables) (length st.entries * at.entry_width (shape_of st))
      ≡ table (length st.entries) (λ i. entry_words st.kind st.variables st.map_maxima st.labels (entry_at st.entries i))
  pub entries-rest : part W (at.entry_at (shape_of st) (length st.entries)) ((st.capacity - length st.entries) * at.entry_width (shape_of st))
      ≡ zeros ((st.capacity - length st.entries) * at.entry_width (shape_of st))
  pub permutation : part W (at.permutation_at (shape_of st)) (length st.entries) ≡ inorder st.tree
  pub permutation-rest : part W (at.permutation_at (shape_of st) + length st.entries) (st.capacity - length st.entries) ≡ zeros (st.capacity - length st.entries)
  pub labels : part W (at.labels_at (shape_of st)) (at.labels_size (shape_of st)) ≡ label_words st.kind st.labels
  pub nodes-are : part W (at.nodes_at (shape_of st)) (nodes st.tree * node_width st.variables) ≡ tree_words st.variables st.map_maxima (power_in st.entries) st.tree
  pub nodes-rest : part W (at.node_at (shape_of st) (nodes st.tree)) ((2 * st.capacity - 1 - nodes st.tree) * node_width st.variables)
      ≡ zeros ((2 * st.capacity - 1 - nodes st.tree) * node_width st.variables)

module _ (W : List ℕ) (st : State) (f : Fits st) (room : at.size (shape_of st) ≤ length W) where
  abbrev k : Kind
  k = st.kind

  abbrev m : ℕ
  m = st.variables

  abbrev c : ℕ
  c = st.capacity

  abbrev n : ℕ
  n = length st.entries

  abbrev w : ℕ
  w = at.entry_width (shape_of st)

  abbrev x : ℕ
  x = node_width m

  abbrev d : ℕ
  d = nodes st.tree

  abbrev tabled : List ℕ
  tabled = table n (λ i. entry_words k m st.map_maxima st.labels (entry_at st.entries i))

  abbrev treed : List ℕ
  treed = tree_words m st.map_maxima (power_in st.entries) st.tree

  entries-whole : n * w + (c - n) * w ≡ c * w
  entries-whole = split_rows n c w f.few

  nodes-whole : d * x + (2 * c - 1 - d) * x ≡ (2 * c - 1) * x
  nodes-whole = split_rows d (2 * c - 1) x f.nodes-to

  entries-long : length tabled ≡ n * w
  entries-long = length-table n w _ (λ i h. entry_length k m st.map_maxima st.labels (entry_at st.entries i) f.vars-to (f.good i h))

  nodes-long : length treed ≡ d * x
  nodes-long = tree-length m st.map_maxima (power_in st.entries) f.vars-to f.powers st.tree

  free : length (zeros ((c - n) * w)) ≡ (c - n) * w
  free = length-zeros ((c - n) * w)

  free-places : length (zeros (c - n)) ≡ c - n
  free-places = length-zeros (c - n)

  free-nodes : length (zeros ((2 * c - 1 - d) * x)) ≡ (2 * c - 1 - d) * x
  free-nodes = length-zeros ((2 * c - 1 - d) * x)

  pub image-length : length (encode st) ≡ at.size (shape_of st)
  unfolding encode
  image-length =
      simp length-append
      (omega (
        arith,
        header-length st,
        f.maxima,
        f.map,
        entries-long,
        free,
        f.all,
        free-places,
        f.label-words,
        nodes-long,
        free-nodes,
        entries-whole,
        nodes-whole,
        f.few,
      )
      )

  -- where the tables begin
  at1 : 0 + length (header st) ≡ header_width
  at1 = omega (arith, header-length st)

  at2 : 0 + length (header st) + length st.maxima ≡ map_at m
  at2 = omega (arith, at1, f.maxima)

  at3 : 0 + length (header st) + length st.maxima + length st.map_maxima ≡ entries_at m
  at3 = omega (arith, at2, f.map)

  at4 : 0 + length (header st) + length st.maxima + length st.map_maxima + length tabled ≡ entries_at m + n * w
  at4 = omega (arith, at3, entries-long)

  at5 : 0 + length (header st) + length st.maxima + length st.map_maxima + length tabled + length (zeros ((c - n) * w)) ≡ at.permutation_at (shape_of st)
  at5 = omega (arith, at4, free, entries-whole)

  abbrev leaves : ℕ
  leaves = 0 + length (header st) + length st.maxima + length st.map_maxima + length tabled + length (zeros ((c - n) * w))

  at6 : leaves + length (inorder st.tree) ≡ at.permutation_at (shape_of st) + n
  at6 = omega (arith, at5, f.all)

  at7 : leaves + length (inorder st.tree) + length (zeros (c - n)) ≡ at.labels_at (shape_of st)
  at7 = omega (arith, at6, free-places, f.few)

  at8 : leaves + length (inorder st.tree) + length (zeros (c - n)) + length (label_words k st.labels) ≡ at.nodes_at (shape_of st)
  at8 = omega (arith, at7, f.label-words)

  at9 : leaves + length (inorder st.tree) + length (zeros (c - n)) + length (label_words k st.labels) + length treed ≡ at.nodes_at (shape_of st) + d * x
  at9 = omega (arith, at8, nodes-long)

  -- the same, as the places of the ten
  pub record Places : Type 0 where
    pub maxima : before (tables st) 1 ≡ maxima_at
    pub map : before (tables st) 2 ≡ map_at m
    pub entries : before (tables st) 3 ≡ entries_at m
    pub entries-rest : before (tables st) 4 ≡ entries_at m + n * w
    pub permutation : before (tables st) 5 ≡ at.permutation_at (shape_of st)
    pub permutation-rest : before (tables st) 6 ≡ at.permutation_at (shape_of st) + n
    pub labels : before (tables st) 7 ≡ at.labels_at (shape_of st)
    pub nodes-are : before (tables st) 8 ≡ at.nodes_at (shape_of st)
    pub nodes-rest : before (tables st) 9 ≡ at.nodes_at (shape_of st) + d * x

  pub places : Places
  places = record {
    maxima = omega (arith, at1);
    map = omega (arith, at2);
    entries = omega (arith, at3);
    entries-rest = omega (arith, at4);
    permutation = omega (arith, at5);
    permutation-rest = omega (arith, at6);
    labels = omega (arith, at7);
    nodes-are = omega (arith, at8);
    nodes-rest = omega (arith, at9);
  }

  -- the lengths and places of the seven
  pub record Coarse : Type 0 where
    pub entries-long : length (get_or (coarse st) 3 []) ≡ st.capacity * at.entry_width (shape_of st)
    pub permutation-long : length (get_or (coarse st) 4 []) ≡ st.capacity
    pub labels-long : length (get_or (coarse st) 5 []) ≡ at.labels_size (shape_of st)
    pub nodes-long : length (get_or (coarse st) 6 []) ≡ (2 * st.capacity - 1) * node_width st.variables
    pub maxima : before (coarse st) 1 ≡ maxima_at
    pub map : before (coarse st) 2 ≡ map_at st.variables
    pub entries : before (coarse st) 3 ≡ entries_at st.variables
    pub permutation : before (coarse st) 4 ≡ at.permutation_at (shape_of st)
    pub labels : before (coarse st) 5 ≡ at.labels_at (shape_of st)
    pub nodes-are : before (coarse st) 6 ≡ at.nodes_at (shape_of st)

  pub coarse-are : Coarse
  coarse-are =
      let el : length (get_or (coarse st) 3 []) ≡ c * w = length-append tabled (zeros ((c - n) * w)) ∙ omega (arith, entries-long, free, entries-whole) in
      let pl : length (get_or (coarse st) 4 []) ≡ c = length-append (inorder st.tree) (zeros (c - n)) ∙ omega (arith, f.all, free-places, f.few) in
      let nl : length (get_or (coarse st) 6 []) ≡ (2 * c - 1) * x =
      length-append treed (zeros ((2 * c - 1 - d) * x)) ∙ omega (arith, nodes-long, free-nodes, nodes-whole) in
      record {
        entries-long = el;
        permutation-long = pl;
        labels-long = f.label-words;
        nodes-long = nl;
        maxima = omega (arith, at1);
        map = omega (arith, at2);
        entries = omega (arith, at3);
        permutation = omega (arith, at3, el);
        labels = omega (arith, at3, el, pl);
        nodes-are = omega (arith, at3, el, pl, f.label-words);
      }

  fits : 0 + length (joined (tables st)) ≤ length W
  fits = let l = ap length (whole st) ∙ image-length in omega (arith, l)

  pub pieces_of : part W 0 (at.size (shape_of st)) ≡ encode st → Pieces W st
  pieces_of is =
      let s = apart W 0 (tables st) fits (rw (whole st, image-length) is) in
      record {
        head = moved W s.0 refl (header-length st);
        maxima = moved W s.1.0 at1 f.maxima;
        map = moved W s.1.1.0 at2 f.map;
        entries = moved W s.1.1.1.0 at3 entries-long;
        entries-rest = moved W s.1.1.1.1.0 at4 free;
        permutation = moved W s.1.1.1.1.1.0 at5 f.all;
        permutation-rest = moved W s.1.1.1.1.1.1.0 at6 free-places;
        labels = moved W s.1.1.1.1.1.1.1.0 at7 f.label-words;
        nodes-are = moved W s.1.1.1.1.1.1.1.1.0 at8 nodes-long;
        nodes-rest = moved W s.1.1.1.1.1.1.1.1.1 at9 free-nodes;
      }

  pub of-pieces : Pieces W st → part W 0 (at.size (shape_of st)) ≡ encode st
  of-pieces p =
      let s : Stand W 0 (tables st) = (
        moved_back W p.head refl (header-length st),
        (
          moved_back W p.maxima at1 f.maxima,
          (
            moved_back W p.map at2 f.map,
            (
              moved_back W p.entries at3 entries-long,
              (
                moved_back W p.entries-rest at4 free,
                (
                  moved_back W p.permutation at5 f.all,
                  (
                    moved_back W p.permutation-rest at6 free-places,
                    (moved_back W p.labels at7 f.label-words, (moved_back W p.nodes-are at8 nodes-long, moved_back W p.nodes-rest at9 free-nodes)),
                  ),
                ),
              ),
            ),
          ),
        ),
      ) in
      rw (whole st, image-length) at (together W 0 (tables st) (omega arith) fits s)
