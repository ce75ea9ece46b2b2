-- The way down: the rows above are grown, the tree at hand is still to grow. Assumes nothing.
use mathlib.Core.Path.{◌≡◌, refl, sym, ap, ◌∙◌}
use mathlib.Core.Bool.{Bool, true, false, cond}
use mathlib.Core.List.{List, [], ◌++◌, append_assoc, append-nil}
use Prim.Native.Nat.{ℕ, suc, ◌+◌, ◌-◌, ◌*◌, ◌≤◌, ◌<◌}
use native.Mathlib.Omega.{arith}
use native.Mathlib.Nat.{add-mul, zero-mul, suc-mul, mul-le-mul_right}
use lib.ListN.{length, get_or, length-append}
use Rattle.words.specs.Words.{words, paste_w}
use Rattle.words.specs.Tables.{part}
use Rattle.words.proofs.Laws.{Bytes, length-words, length-paste_w, paste_w-before}
use Rattle.words.proofs.Tables.{part-append, row_fits}
use Rattle.monomial.specs.Monomial.{Canonical}
use Rattle.kd_theory.specs.Tree.{Tree, leaf, branch, inorder, nodes, count, Keys, insert, place_of, put_at}
use Rattle.index_image.specs.Layout.{node_words, tree_words}
use Rattle.index_image.specs.Shape as at
use Rattle.index_image.specs.Walk as walk
use Rattle.index_image.specs.Walk.{map_maxima, row_in, KeyOk}
use Rattle.index_image.specs.declared.Shape.{Shape}
use Rattle.index_image.proofs.Bounds.{entry-inside, ratio-width, ratio-labels}
use Rattle.index_image.proofs.Places.{row-behind}
use Rattle.index_image.proofs.Encoding.{node-length, tree-length}
use Rattle.index_image.proofs.Trees.{nodes-branch}
use Rattle.kd_slots.specs.Slots.{Mapped, gcd_words}
use Rattle.kd_descent.specs.Growing.{Row, Keyed, way_of, grown, Growth, keys, grown_rows, place}
use Rattle.kd_descent.specs.declared.Way.TheVariants.{Leaf, On}
use Rattle.words.proofs.Pasting.{part-before, paste-same}
use Rattle.kd_theory.proofs.PlaceLaws.{insert-less, insert-other, insert-inorder, place_inside}
use Rattle.kd_descent.proofs.Ways.{insert-nodes}
use Rattle.kd_descent.proofs.Grown.{row-grown, kept-behind}
use Rattle.kd_descent.proofs.Ways.{tag_of, key_of, skip_of, rest_of, tree-row, spot, in_rows, Here, here}

-- ---- the rows of a tree with one entry more
module _ (m : ℕ) (xs : List ℕ) (pw : ℕ → ℕ → ℕ) (K : Keys) (e : ℕ) where
  -- its first row
  abbrev pub new_row : Tree → List ℕ
  new_row t = node_words m xs pw (tag_of t) (key_of t) (skip_of t) (put_at (place_of K e t) e (inorder t))

  leaf-rows : (es : List ℕ) → tree_words m xs pw (insert K e (leaf es)) ≡ new_row (leaf es) ++ []
  unfolding tree_words insert tag_of key_of skip_of
  leaf-rows es = rw (append-nil (node_words m xs pw 0 0 0 (put_at (place_of K e (leaf es)) e es)), ← insert-inorder K e (leaf es))

  less-rows : (d k : ℕ) (l r : Tree) → K.below d k e ≡ true → tree_words m xs pw (insert K e (branch d k l r)) ≡ new_row (branch d k l r) ++ (tree_words m xs pw (insert K e l) ++ tree_words m xs pw r)
  unfolding tree_words tag_of key_of skip_of
  less-rows d k l r h =
      let b = insert-less K e d k l r h in
      let i : inorder (insert K e l) ++ inorder r ≡ put_at (place_of K e (branch d k l r)) e (inorder l ++ inorder r) = sym (ap inorder b) ∙ insert-inorder K e (branch d k l r) in
      ap (tree_words m xs pw) b ∙ rw (insert-nodes K e l, i)

  other-rows : (d k : ℕ) (l r : Tree) → K.below d k e ≡ false → tree_words m xs pw (insert K e (branch d k l r)) ≡ new_row (branch d k l r) ++ (tree_words m xs pw l ++ tree_words m xs pw (insert K e r))
  unfolding tree_words tag_of key_of skip_of
  other-rows d k l r h =
      let b = insert-other K e d k l r h in
      let i : inorder l ++ inorder (insert K e r) ≡ put_at (place_of K e (branch d k l r)) e (inorder l ++ inorder r) = sym (ap inorder b) ∙ insert-inorder K e (branch d k l r) in
      ap (tree_words m xs pw) b ∙ rw i

-- what two equal steps say
leaf-is : {p q : ℕ} → Leaf p ≡ Leaf q → p ≡ q
leaf-is e = cc

on-is : {y z a b : ℕ} → On y z ≡ On a b → (y ≡ a) × (z ≡ b)
on-is e = (cc, cc)

apart : {p y z : ℕ} → Leaf p ≡ On y z → ⊥
apart e = let q : ◌≡◌ {A = ℕ} 0 1 = cc in omega arith

-- how far one step goes
pub record Goes (K : Keys) (e : ℕ) (t : Tree) (y z : ℕ) : Type 0 where
  pub some : 1 ≤ y
  pub rows-to : y ≤ nodes t
  pub places-to : z ≤ place_of K e t

pub way_on : (K : Keys) (e : ℕ) (t : Tree) (y z : ℕ) → On y z ≡ way_of K e t → Goes K e t y z
unfolding way_of nodes place_of
way_on K e (leaf es) y z h = absurd (apart (sym h))
way_on K e (branch d k l r) y z h = let i = go (K.below d k e) h in record { some = i.0; rows-to = i.1.0; places-to = i.1.1 }
  where
    go : (b : Bool) → On y z ≡ cond b (On 1 0) (On (suc (nodes l)) (count l)) → (1 ≤ y) × ((y ≤ suc (nodes l + nodes r)) × (z ≤ cond b (place_of K e l) (count l + place_of K e r)))
    go true q = let i = on-is q in (omega (arith, i), (omega (arith, i), omega (arith, i)))
    go false q = let i = on-is q in (omega (arith, i), (omega (arith, i), omega (arith, i)))

pub way-leaf : (K : Keys) (e : ℕ) (t : Tree) (p : ℕ) → Leaf p ≡ way_of K e t → p ≡ place_of K e t
unfolding way_of place_of
way-leaf K e (leaf es) p h = leaf-is h
way-leaf K e (branch d k l r) p h = absurd (go (K.below d k e) h)
  where
    go : (b : Bool) → Leaf p ≡ cond b (On 1 0) (On (suc (nodes l)) (count l)) → ⊥
    go true q = apart q
    go false q = apart q

module _ {bs : List ℕ} {s : Shape} (M : Mapped bs s) {lm : List ℕ} {lab : ℕ} (g : Growth (words bs) s lm lab 0) where
  abbrev R : at.InRange s
  R = M.range

  abbrev W : List ℕ
  W = words bs

  abbrev m : ℕ
  m = s.variables

  abbrev w : ℕ
  w = s.variables + 6

  abbrev xs : List ℕ
  xs = map_maxima (words bs) s

  abbrev K : Keys
  K = keys g

  abbrev e : ℕ
  e = g.entry

  abbrev root : ℕ
  root = at.node_at s 0

  abbrev rows : Tree → List ℕ
  rows t = tree_words s.variables (map_maxima (words bs) s) g.power t

  -- the image im has the rows above row k grown, the tree stands at row k, and lo entries are passed over
  pub record Going (im : List ℕ) (k lo : ℕ) : Type 0 where
    pub tree : Tree
    pub above : List ℕ
    pub under : List ℕ
    pub now : im ≡ paste_w bs (at.node_at s 0) (above ++ (tree_words s.variables (map_maxima (words bs) s) g.power tree ++ under))
    pub here : part (words im) (at.node_at s k) (nodes tree * (at.node_width s.variables)) ≡ tree_words s.variables (map_maxima (words bs) s) g.power tree
    pub at_row : length above ≡ k * (at.node_width s.variables)
    pub all : length above + (nodes tree * (at.node_width s.variables) + length under) ≡ nodes g.tree * (at.node_width s.variables)
    pub inside : k + nodes tree ≤ nodes g.tree
    pub keyed : Keyed s tree
    pub few : count tree ≤ count g.tree
    pub goal : tree_words s.variables (map_maxima (words bs) s) g.power (insert (keys g) g.entry g.tree) ≡ above ++
        (tree_words s.variables (map_maxima (words bs) s) g.power (insert (keys g) g.entry tree) ++ under)
    pub place_is : place_of (keys g) g.entry g.tree ≡ lo + place_of (keys g) g.entry tree

  long : (t : Tree) → length (rows t) ≡ nodes t * w
  long t = tree-length m xs g.power R.vars-to g.power-absent t

  wide : (tag key skip : ℕ) (es : List ℕ) → length (node_words m xs g.power tag key skip es) ≡ w
  wide tag key skip es = node-length m xs g.power R.vars-to g.power-absent tag key skip es

  -- all rows lie within the image
  rows_fit : root + nodes g.tree * w ≤ at.size s
  rows_fit =
      let f : nodes g.tree * w ≤ (2 * s.capacity - 1) * w = mul-le-mul_right {m = nodes g.tree} {n = 2 * s.capacity - 1} w (omega (arith, g.inside, R.nodes-to)) in
      omega (arith, f, zero-mul w)

  -- ---- the beginning
  pub going_start : Bytes bs → Going bs 0 0
  going_start b =
      let t = g.tree in
      let n = nodes t * w in
      let fits : 4 * (root + n) ≤ length bs = omega (arith, rows_fit, M.room) in
      let same : paste_w bs root (rows t) ≡ bs = ap (paste_w bs root) (sym g.rows) ∙ paste-same bs root n b fits in
      record {
        tree = t;
        above = [];
        under = [];
        now = sym (ap (paste_w bs root) (append-nil (rows t)) ∙ same);
        here = g.rows;
        at_row = omega (arith, zero-mul w);
        all = omega arith;
        inside = omega arith;
        keyed = g.keyed;
        few = omega arith;
        goal = sym (append-nil (rows (insert K e t)));
        place_is = omega arith;
      }

  module _ {im : List ℕ} {k lo : ℕ} (G : Going im k lo) where
    abbrev body : List ℕ
    body = G.above ++ (rows G.tree ++ G.under)

    body-long : length body ≡ nodes g.tree * w
    body-long = length-append G.above _ ∙ omega (arith, length-append (rows G.tree) G.under, long G.tree, G.all)

    body-fits : 4 * (root + length body) ≤ length bs
    body-fits = omega (arith, body-long, rows_fit, M.room)

    pub kept-length : length im ≡ length bs
    kept-length = ap length G.now ∙ length-paste_w bs root body (omega (arith, body-fits))

    -- what stands in front of the rows is as it was
    front_kept : (i n : ℕ) → i + n ≤ root → part (words im) i n ≡ part W i n
    front_kept i n h = ap (λ (b : List ℕ). part (words b) i n) G.now ∙ part-before bs root body i n (omega (arith, body-fits)) h

    word_kept : (i : ℕ) → i < root → get_or (words im) i 0 ≡ get_or W i 0
    word_kept i h = ap (λ (b : List ℕ). get_or (words b) i 0) G.now ∙ paste_w-before bs root body i (omega (arith, body-fits)) h

    pub map-kept : map_maxima (words im) s ≡ map_maxima (words bs) s
    map-kept = front_kept (at.map_at m) m (omega arith)

    -- the row of an entry's ratio, and its label
    pub row_kept : s.kind ≡ 1 → (x : ℕ) → x < s.entries → row_in (words im) s x ≡ row_in W s x
    row_kept one x h = word_kept (at.row_at s x) (omega (arith, entry-inside s R x (omega (arith, R.few)), ratio-width s R one))

    pub label_kept : s.kind ≡ 1 → (x : ℕ) → x < s.entries → walk.label (words im) s x ≡ walk.label W s x
    unfolding walk.label
    label_kept one x h =
        let r = g.rows_in one x h in
        let in-front : at.label_at s (row_in W s x) < root = omega (arith, row_fits (row_in W s x) s.capacity (m + 3) r, ratio-labels s R one) in
        rw (row_kept one x h) (word_kept (at.label_at s (row_in W s x)) in-front)

    -- the tree at hand, in the image as it is now
    abbrev pub growth-here : Growth (words im) s lm lab k
    growth-here = record {
      entry = g.entry;
      power = g.power;
      label = g.label;
      tree = G.tree;
      rows = rw map-kept G.here;
      inside = omega (arith, G.inside, g.inside);
      keyed = G.keyed;
      few = omega (arith, G.few, g.few);
      power-is = g.power-is;
      power_small = g.power_small;
      power-absent = g.power-absent;
      label_is = g.label_is;
      labels-are = λ one x h. g.labels-are one x h ∙ sym (label_kept one x h);
      rows_in = λ one x h. rw (row_kept one x h) (g.rows_in one x h);
    }

    abbrev pub room-now : 4 * at.size s ≤ length im
    room-now = omega (arith, kept-length, M.room)

    row_here : Here im s R room-now growth-here G.tree
    row_here = here im s R room-now growth-here

    -- ---- what the row at hand needs to grow
    pub record Ready : Type 0 where
      pub row : k < s.nodes
      pub mapped : Mapped im s
      pub grows : Row (words im) s (at.node_at s k)
      pub counted : get_or (words im) (at.node_at s k + 2) 0 < s.capacity

    pub ready : Ready
    ready =
        let r = in_rows im s R room-now growth-here in
        record {
          row = r;
          mapped = record { range = R; room = room-now; map = rw map-kept M.map };
          grows = record {
            inside = (spot s R k r).fits;
            gcd = row_here.row.slot.some;
            masked = row_here.row.holds ∙ ap (gcd_words m (map_maxima (words im) s)) (sym row_here.row.slot.is);
          };
          counted = omega (arith, row_here.row.count-is, G.few, g.few);
        }

    -- ---- the row grown
    module _ (can : Canonical 1 m lm) (im' : List ℕ) (done : im' ≡ grown im (words im) s (at.node_at s k) lm) where
      abbrev rest : Tree → List ℕ
      rest t = rest_of m xs g.power t

      abbrev old : Tree → List ℕ
      old t = node_words m xs g.power (tag_of t) (key_of t) (skip_of t) (inorder t)

      abbrev new : Tree → List ℕ
      new t = node_words m xs g.power (tag_of t) (key_of t) (skip_of t) (put_at (place_of K e t) e (inorder t))

      now-row : im ≡ paste_w bs root (G.above ++ (old G.tree ++ (rest G.tree ++ G.under)))
      now-row =
          G.now ∙ ap (λ (x : List ℕ). paste_w bs root (G.above ++ x))
          (ap (λ (x : List ℕ). x ++ G.under) (tree-row m xs g.power G.tree) ∙ append_assoc (old G.tree) (rest G.tree) G.under)

      same_body : length (G.above ++ (old G.tree ++ (rest G.tree ++ G.under))) ≡ length body
      same_body =
          ap (λ (x : List ℕ). length (G.above ++ x))
          (sym (ap (λ (x : List ℕ). x ++ G.under) (tree-row m xs g.power G.tree) ∙ append_assoc (old G.tree) (rest G.tree) G.under))

      at_here : at.node_at s k ≡ root + length G.above
      at_here = omega (arith, G.at_row, zero-mul w)

      row-words-now : part (words im) (at.node_at s k) (at.node_width m) ≡ old G.tree
      row-words-now = row_here.row_words ∙ ap (λ (x : List ℕ). node_words m x g.power (tag_of G.tree) (key_of G.tree) (skip_of G.tree) (inorder G.tree)) map-kept

      rest-now : part (words im) (at.node_at s k + at.node_width m) (length (rest G.tree)) ≡ rest G.tree
      rest-now = rw map-kept at row_here.rest

      grown-to : im' ≡ paste_w bs root (G.above ++ (new G.tree ++ (rest G.tree ++ G.under)))
      grown-to =
          done ∙ row-grown m xs g.power R.vars-to g.power_small g.power-absent lm can e g.power-is
          bs s root (at.node_at s k) G.above (rest G.tree ++ G.under) (tag_of G.tree) (key_of G.tree) (skip_of G.tree) (place_of K e G.tree) (inorder G.tree) im
          refl map-kept now-row at_here (omega (arith, same_body, body-fits)) row-words-now

      behind : part (words im') (at.node_at s k + at.node_width m) (length (rest G.tree)) ≡ rest G.tree
      behind =
          ap (λ (b : List ℕ). part (words b) (at.node_at s k + at.node_width m) (length (rest G.tree))) done
          ∙ kept-behind m xs g.power R.vars-to g.power_small g.power-absent lm can e g.power-is
          bs s root (at.node_at s k) G.above (rest G.tree ++ G.under) (tag_of G.tree) (key_of G.tree) (skip_of G.tree) (place_of K e G.tree) (inorder G.tree) im
          refl map-kept now-row at_here (omega (arith, same_body, body-fits)) row-words-now (at.node_at s k + at.node_width m) (length (rest G.tree)) (omega arith)
          ∙ rest-now

      long-now : length im' ≡ length bs
      long-now =
          let l : length (G.above ++ (new G.tree ++ (rest G.tree ++ G.under))) ≡ length body =
          length-append G.above _ ∙ omega (
            arith,
            length-append (new G.tree) (rest G.tree ++ G.under),
            wide (tag_of G.tree) (key_of G.tree) (skip_of G.tree) (put_at (place_of K e G.tree) e (inorder G.tree)),
            wide (tag_of G.tree) (key_of G.tree) (skip_of G.tree) (inorder G.tree),
            length-append (old G.tree) (rest G.tree ++ G.under),
            length-append G.above (old G.tree ++ (rest G.tree ++ G.under)),
            same_body,
          ) in
          ap length grown-to ∙ length-paste_w bs root _ (omega (arith, body-fits))

      -- ---- at a leaf all is done
      pub going_end : (p : ℕ) → Leaf p ≡ way_of (keys g) g.entry G.tree → (lo + p ≡ place g) × (im' ≡ paste_w bs (at.node_at s 0) (grown_rows g))
      unfolding way_of rest_of
      going_end p ex = go G.tree ex grown-to G.goal (let pl = way-leaf K e G.tree p ex in omega (arith, G.place_is))
        where
          never-leaf : (b : Bool) (l : Tree) → Leaf p ≡ cond b (On 1 0) (On (suc (nodes l)) (count l)) → ⊥
          never-leaf true l z = apart z
          never-leaf false l z = apart z

          go : (t : Tree) → Leaf p ≡ way_of K e t → im' ≡ paste_w bs root (G.above ++ (new t ++ (rest t ++ G.under)))
              → rows (insert K e g.tree) ≡ G.above ++ (rows (insert K e t) ++ G.under)
              → lo + p ≡ place_of K e g.tree
              → (lo + p ≡ place g) × (im' ≡ paste_w bs (at.node_at s 0) (grown_rows g))
          go (leaf es) xw to goal-is pl =
              (pl, to ∙ ap (paste_w bs root) (ap (λ (y : List ℕ). G.above ++ (y ++ G.under)) (sym (leaf-rows m xs g.power K e es ∙ append-nil (new (leaf es)))) ∙ sym goal-is))
          go (branch d key l r) xw to goal-is pl = absurd (never-leaf (K.below d key e) l xw)

      -- ---- at a branch the way goes on
      below_rows : (l r : Tree) → suc (nodes l + nodes r) * w ≡ w + (nodes l * w + nodes r * w)
      below_rows l r = omega (arith, suc-mul (nodes l + nodes r) w, add-mul (nodes l) (nodes r) w)

      pub going_on : (y z : ℕ) → On y z ≡ way_of (keys g) g.entry G.tree → Going im' (k + y) (lo + z)
      unfolding way_of place_of Keyed rest_of
      going_on y z ex = go G.tree ex grown-to behind G.goal G.place_is G.keyed G.inside G.few G.all
        where
          goal-of : Tree → Type 0
          goal-of t = rows (insert K e g.tree) ≡ G.above ++ (rows (insert K e t) ++ G.under)

          less : (d key : ℕ) (l r : Tree) → K.below d key e ≡ true → (y z : ℕ) → y ≡ 1 → z ≡ 0
              → im' ≡ paste_w bs root (G.above ++ (new (branch d key l r) ++ ((rows l ++ rows r) ++ G.under)))
              → part (words im') (at.node_at s k + at.node_width m) (length (rows l ++ rows r)) ≡ rows l ++ rows r
              → goal-of (branch d key l r) → place_of K e g.tree ≡ lo + place_of K e l → Keyed s l
              → k + nodes (branch d key l r) ≤ nodes g.tree → count (branch d key l r) ≤ count g.tree
              → length G.above + (nodes (branch d key l r) * w + length G.under) ≡ nodes g.tree * w
              → Going im' (k + y) (lo + z)
          less d key l r b y z ey ez to bh goal-is pl kd ins few all-is =
              let q = new (branch d key l r) in
              let lq : length q ≡ w = wide (tag_of (branch d key l r)) (key_of (branch d key l r)) (skip_of (branch d key l r)) (put_at (place_of K e (branch d key l r)) e (inorder l ++ inorder r)) in
              let nb = nodes-branch d key l r in
              let fit : at.node_at s k + w + length (rows l) ≤ length (words im') =
              omega (arith, length-words im', long-now, long l, long r, rows_fit, G.at_row, zero-mul w, all-is, rw nb at all-is, below_rows l r) in
              let sp = (part-append (words im') (at.node_at s k + w) (length (rows l)) (length (rows r)) (rows l) (rows r) fit refl).0
              (ap (part (words im') (at.node_at s k + w)) (sym (length-append (rows l) (rows r))) ∙ bh) in
              rw (ey, ez) (record {
                tree = l;
                above = G.above ++ q;
                under = rows r ++ G.under;
                now = to ∙ ap (paste_w bs root) (simp append_assoc);
                here = ap (λ (j : ℕ). part (words im') j (nodes l * w)) (sym (row-behind s k)) ∙ ap (part (words im') (at.node_at s k + w)) (sym (long l)) ∙ sp.0;
                at_row = length-append G.above q ∙ omega (arith, lq, G.at_row, add-mul k 1 w);
                all = omega (arith, length-append G.above q, length-append (rows r) G.under, long r, lq, rw nb at all-is, below_rows l r);
                inside = omega (arith, nb);
                keyed = kd;
                few = omega (arith, length-append (inorder l) (inorder r));
                goal = goal-is ∙ ap (λ (v : List ℕ). G.above ++ (v ++ G.under)) (less-rows m xs g.power K e d key l r b) ∙ simp append_assoc;
                place_is = omega (arith, pl);
              })

          other : (d key : ℕ) (l r : Tree) → K.below d key e ≡ false → (y z : ℕ) → y ≡ suc (nodes l) → z ≡ count l
              → im' ≡ paste_w bs root (G.above ++ (new (branch d key l r) ++ ((rows l ++ rows r) ++ G.under)))
              → part (words im') (at.node_at s k + at.node_width m) (length (rows l ++ rows r)) ≡ rows l ++ rows r
              → goal-of (branch d key l r) → place_of K e g.tree ≡ lo + (count l + place_of K e r) → Keyed s r
              → k + nodes (branch d key l r) ≤ nodes g.tree → count (branch d key l r) ≤ count g.tree
              → length G.above + (nodes (branch d key l r) * w + length G.under) ≡ nodes g.tree * w
              → Going im' (k + y) (lo + z)
          other d key l r b y z ey ez to bh goal-is pl kd ins few all-is =
              let q = new (branch d key l r) in
              let lq : length q ≡ w = wide (tag_of (branch d key l r)) (key_of (branch d key l r)) (skip_of (branch d key l r)) (put_at (place_of K e (branch d key l r)) e (inorder l ++ inorder r)) in
              let nb = nodes-branch d key l r in
              let fit : at.node_at s k + w + length (rows l) ≤ length (words im') =
              omega (arith, length-words im', long-now, long l, long r, rows_fit, G.at_row, zero-mul w, rw nb at all-is, below_rows l r) in
              let sp = (part-append (words im') (at.node_at s k + w) (length (rows l)) (length (rows r)) (rows l) (rows r) fit refl).0
              (ap (part (words im') (at.node_at s k + w)) (sym (length-append (rows l) (rows r))) ∙ bh) in
              let there : at.node_at s k + w + length (rows l) ≡ at.node_at s (k + suc (nodes l)) = omega (arith, long l, add-mul k (suc (nodes l)) w, suc-mul (nodes l) w) in
              rw (ey, ez) (record {
                tree = r;
                above = G.above ++ (q ++ rows l);
                under = G.under;
                now = to ∙ ap (paste_w bs root) (simp append_assoc);
                here = ap (λ (j : ℕ). part (words im') j (nodes r * w)) (sym there) ∙ ap (part (words im') (at.node_at s k + w + length (rows l))) (sym (long r)) ∙ sp.1;
                at_row = length-append G.above (q ++ rows l) ∙ omega (arith, length-append q (rows l), lq, long l, G.at_row, add-mul k (suc (nodes l)) w, suc-mul (nodes l) w);
                all = omega (arith, length-append G.above (q ++ rows l), length-append q (rows l), long l, lq, rw nb at all-is, below_rows l r);
                inside = omega (arith, nb);
                keyed = kd;
                few = omega (arith, length-append (inorder l) (inorder r));
                goal = goal-is ∙ ap (λ (v : List ℕ). G.above ++ (v ++ G.under)) (other-rows m xs g.power K e d key l r b) ∙ simp append_assoc;
                place_is = omega (arith, pl);
              })

          go : (t : Tree) → On y z ≡ way_of K e t → im' ≡ paste_w bs root (G.above ++ (new t ++ (rest t ++ G.under)))
              → part (words im') (at.node_at s k + at.node_width m) (length (rest t)) ≡ rest t
              → goal-of t → place_of K e g.tree ≡ lo + place_of K e t → Keyed s t
              → k + nodes t ≤ nodes g.tree → count t ≤ count g.tree → length G.above + (nodes t * w + length G.under) ≡ nodes g.tree * w
              → Going im' (k + y) (lo + z)
          go (leaf es) xw to bh goal-is pl kd ins few all-is = absurd (apart (sym xw))
          go (branch d key l r) xw to bh goal-is pl kd ins few all-is = side (K.below d key e) refl xw pl
            where
              side : (b : Bool) → K.below d key e ≡ b → On y z ≡ cond b (On 1 0) (On (suc (nodes l)) (count l))
                  → place_of K e g.tree ≡ lo + cond b (place_of K e l) (count l + place_of K e r) → Going im' (k + y) (lo + z)
              side true b xw pl = less d key l r b y z (on-is xw).0 (on-is xw).1 to bh goal-is pl kd.1.0 ins few all-is
              side false b xw pl = other d key l r b y z (on-is xw).0 (on-is xw).1 to bh goal-is pl kd.1.1 ins few all-is

    -- ---- how far the numbers go
    pub ends : (p : ℕ) → Leaf p ≡ way_of (keys g) g.entry G.tree → lo + p ≤ s.capacity
    ends p ex = omega (arith, way-leaf K e G.tree p ex, G.place_is, place_inside K e g.tree, g.few)

    pub record Bounds (y z : ℕ) : Type 0 where
      pub some : 1 ≤ y
      pub rows-to : k + y ≤ s.nodes
      pub places-to : lo + z ≤ s.capacity

    pub bounds : (y z : ℕ) → On y z ≡ way_of (keys g) g.entry G.tree → Bounds y z
    bounds y z ex =
        let o = way_on K e G.tree y z ex in record {
          some = o.some;
          rows-to = omega (arith, o.rows-to, G.inside, g.inside);
          places-to = omega (arith, o.places-to, G.place_is, place_inside K e g.tree, g.few);
        }
