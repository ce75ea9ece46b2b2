-- What the answers of the door's checks come to, one law for each. Assumes nothing.
use mathlib.Core.Path.{◌≡◌, sym, ap, ◌∙◌}
use mathlib.Core.Bool.{Bool, true, false}
use mathlib.Core.List.{List}
use mathlib.Core.Logic.{◌↔◌}
use Prim.Native.Nat.{ℕ, ◌+◌, ◌-◌, ◌*◌, ◌^◌, ◌≤◌, ◌<◌}
use native.Mathlib.Omega.{arith}
use native.Mathlib.Decide.{ℕ_discrete}
use lib.Dec.{eqb}
use lib.ListN.{length, get_or}
use lib.Seq.{get_or-set_same, get_or-set_other}
use Rattle.words.specs.Words.{words, put_w}
use Rattle.words.specs.Tables.{part, zeros}
use Rattle.words.proofs.Laws.{Bytes, length-words, words-put_w, words_small}
use Rattle.words.proofs.Tables.{never, split_rows}
use Rattle.divmask.specs.Tracker.{Maxima, maxima_lent}
use Rattle.divmask.proofs.Growth.{lent-maxima}
use Rattle.kd_theory.specs.Tree.{Tree, inorder, count, nodes}
use Rattle.index_image.specs.Shape as at
use Rattle.index_image.specs.Walk.{power, label, map_maxima, Ready}
use Rattle.leaf_rows.specs.Leaves.{Bounded}
use Rattle.index_walk.specs.Walked.{Walked}
use Rattle.index_image.specs.Door.{rows_in, Tables, EntriesOk}
use Rattle.index_image.specs.Marks.{name_at}
use Rattle.index_image.specs.declared.Shape.{Shape}
use Rattle.std.specs.Prelude.{Option, Some, None}
use Rattle.std.specs.Option.{option_eq}
use borrow.Author.Tests.{eqb-true, eq-eqb}
use Rattle.index_image.proofs.Bounds.{width_small, size_small, nodes-small, ratio-width, entry-inside}
use Rattle.index_image.proofs.Gcds.{power_small, image-powers}
use Rattle.index_image.proofs.Places.{node-fits}
use Rattle.index_image.proofs.Trees.{tree-head}
use Rattle.index_sound.specs.Checks.{MaximaOk, LabelsOk, PermutationOk, NodesOk, Root, Rooted}
use Rattle.index_image.proofs.Labels.{map_of, rows-count, row-at}

pub is-ratio : (s : Shape) → at.InRange s → (s.kind ≡ 0 → ⊥) → s.kind ≡ 1
is-ratio s R h = omega (arith, R.kind-to)

-- ---- maxima
pub maxima-is : (m : ℕ) (lent ws : List ℕ) (r : Bool) → words lent ≡ ws → length lent ≡ 4 * m → r ≡ maxima_lent m lent → (r ≡ true) ↔ Maxima m ws
maxima-is m lent ws r w l e = let g = rw w at (lent-maxima m lent) in (λ (z : r ≡ true). (g.0 (sym e ∙ z)).1, λ x. e ∙ g.1 (l, x))

-- ---- names of places
-- n words, w words apart from word `at` on, can be marked: their numbers are small, they are there, and they name places
abbrev pub CanMark : List ℕ → ℕ → ℕ → ℕ → ℕ → Type 0
CanMark bs at w n places =
    ((n ≤ 4096) × ((w ≤ 136) × ((at ≤ 2097152) × (places ≤ 4096))))
    × (((i : ℕ) → i < n → 4 * (at + i * w) + 4 ≤ length bs) × ((i : ℕ) → i < n → name_at (words bs) at w i < 4096))

-- ---- what is known once some tables have passed
module _ (bs : List ℕ) (s : Shape) (R : at.InRange s) (room : 4 * at.size s ≤ length bs) where
  -- what is asked before the entries are looked at
  pub tables_of : MaximaOk (words bs) s → LabelsOk bs s → Tables (words bs) s
  tables_of x l = record {
    map = x.map;
    few = λ k. let p = map_of bs s R room k (l k) in omega (arith, rows-count bs s R room k (l k).state p, p.valid.few, p.cap);
    rows = λ k j h.
        let p = map_of bs s R room k (l k) in
        (row-at bs s R room k (l k).state p j (omega (arith, rows-count bs s R room k (l k).state p))).ok;
  }

  -- what is asked before the walk
  pub ready_of : Tables (words bs) s → EntriesOk (words bs) s → PermutationOk (words bs) s → Ready (words bs) s
  ready_of t e p = record {
    range = R;
    room = omega (arith, length-words bs);
    map = t.map;
    lms = λ i h. (e.each i h).lm.some;
    places = p.places;
    rows = λ k i h. omega (arith, ((e.each i h).ratio k).row, t.few k);
  }

  -- the rows that entries name
  pub rows-can : s.kind ≡ 1 → Tables (words bs) s → EntriesOk (words bs) s
      → (e w rows : ℕ) → e ≡ at.entry_at s 0 → w ≡ at.entry_width s → rows ≡ rows_in (words bs) s → CanMark bs (at.row_from s.variables e) w s.entries rows
  rows-can k t es e w rows ee ew er = (
    (omega (arith, R.few, R.cap-to), (omega (arith, width_small s R), (omega (arith, R.vars-to), omega (arith, t.few k, R.cap-to)))),
    (
      λ i h. rw (ee, ew) (omega (arith, entry-inside s R i (omega (arith, R.few)), ratio-width s R k)),
      λ i h.
          let ei : at.row_at s 0 + i * at.entry_width s ≡ at.row_at s i = omega arith in
          rw (ee, ew, ei) (omega (arith, ((es.each i h).ratio k).row, t.few k, R.cap-to)),
    ),
  )

-- ---- the bounds at the root are above everything
-- one bound more
pub bound-more : (h h' : List ℕ) (i : ℕ) → 4 * i + 4 ≤ length h → h' ≡ put_w h i 32768
    → ((v : ℕ) → v < i → get_or (words h) v 0 ≡ 32768) → (v : ℕ) → v < i + 1 → get_or (words h') v 0 ≡ 32768
bound-more h h' i l e below v b =
    let w = ap words e ∙ words-put_w h i 32768 (omega arith) l in
    rw w (elim (ℕ_discrete v i) [
      | yes z ↦ rw (z, get_or-set_same (words h) i 32768 0 (omega (arith, length-words h)))
      | no z ↦ get_or-set_other (words h) i v 32768 0 z ∙ below v (omega arith)
    ])

module _ (bs : List ℕ) (s : Shape) (by : Bytes bs) (H : List ℕ) (high : (v : ℕ) → v < s.variables → get_or H v 0 ≡ 32768) where
  -- a label is a word
  label_small : (e : ℕ) → label (words bs) s e < 2 ^ 32
  unfolding label
  label_small e = words_small bs by _

  all-bounded : (es : List ℕ) → Bounded (words bs) s H 0 4294967296 es
  all-bounded es = record {
    powers = λ e m v h. omega (arith, power_small (words bs) s v e, high v h);
    labels = λ k e m. (omega arith, omega (arith, label_small e));
  }

  pub rooted : (r : Option ℕ) → Walked (words bs) s H 0 4294967296 0 0 s.entries r → Rooted (words bs) s r
  rooted r w = record {
    only = λ t o. w.only t (record { is = o.is; inside = omega (arith, o.inside); few = o.few; bounded = all-bounded (inorder t) });
    made = λ n p. let f = w.made n p in (f.0, record { is = f.1.is; inside = omega (arith, f.1.inside); few = f.1.few });
  }

-- the answer of `==` on two options
pub option_same : (r : Option ℕ) (n : ℕ) → (option_eq eqb r (Some n) ≡ true) ↔ (r ≡ Some n)
option_same None n = (λ (z : false ≡ true). never z, λ (e : None ≡ Some n). let no : ⊥ = cc in absurd no)
option_same (Some m) n = (λ (z : eqb m n ≡ true). ap Some (eqb-true m n z), λ (e : Some m ≡ Some n). let q : m ≡ n = cc in eq-eqb m n q)

-- ---- the tree of the nodes
module _ (W : List ℕ) (s : Shape) (R : Ready W s) where
  -- the count of the first row is that of the tree there
  root-count : (t : Tree) → Root W s t → get_or W (at.count_at (at.node_at s 0)) 0 ≡ count t
  root-count t o =
      (tree-head W s R.range R.room (map_maxima W s) (power W s) (image-powers W s R.range.vars-to) 0 0 t o.is.stands
      (omega (arith, o.inside, R.range.nodes-to)) (omega (arith, o.few, R.range.few))).count

  root-of : (n : NodesOk W s) → Root W s n.tree
  root-of n = record { is = n.is; inside = omega (arith, n.rows); few = omega (arith, n.all) }

  pub root_all : NodesOk W s → get_or W (at.count_at (at.node_at s 0)) 0 ≡ s.entries
  root_all n = root-count n.tree (root-of n) ∙ n.all

  -- the count is, and what is behind the rows is 0: the number of rows decides
  pub tree_is : (r : Option ℕ) → Rooted W s r
      → NodesOk W s
      ↔ ((get_or W (at.count_at (at.node_at s 0)) 0 ≡ s.entries)
      × ((part W (at.node_at s s.nodes) ((2 * s.capacity - 1 - s.nodes) * at.node_width s.variables) ≡ zeros ((2 * s.capacity - 1 - s.nodes) * at.node_width s.variables))
      × (r ≡ Some s.nodes)))
  tree_is r o = (
    λ (n : NodesOk W s). (root-count n.tree (root-of n) ∙ n.all, (n.rest, o.only n.tree (root-of n) ∙ ap Some n.rows)),
    λ q.
        let f = o.made s.nodes q.1.1 in
        let z : r ≡ Some (nodes f.0) = o.only f.0 f.1 in
        let e : r ≡ Some s.nodes = q.1.1 in
        record {
          tree = f.0;
          is = f.1.is;
          rows = cc;
          all = sym (root-count f.0 f.1) ∙ q.0;
          rest = q.1.0;
        },
  )

-- the first row of the nodes and the unused ones lie within the image
pub record NodesRest (s : Shape) (len : ℕ) : Type 0 where
  pub fits : (2 * s.capacity - 1 - s.nodes) * at.node_width s.variables ≤ 573370
  pub room : 4 * (at.node_at s s.nodes + (2 * s.capacity - 1 - s.nodes) * at.node_width s.variables) ≤ len
  pub small : at.size s ≤ 1413206
  pub first : 4 * at.count_at (at.node_at s 0) + 4 ≤ len

pub nodes-rest : (bs : List ℕ) (s : Shape) → Ready (words bs) s → NodesRest s (length bs)
nodes-rest bs s R =
    let e = split_rows s.nodes (2 * s.capacity - 1) (at.node_width s.variables) R.range.nodes-to in
    record {
      fits = nodes-small s R.range (2 * s.capacity - 1 - s.nodes) (omega (arith, R.range.cap-to));
      room = omega (arith, R.room, length-words bs);
      small = size_small s R.range;
      first = omega (arith, node-fits (words bs) s R 0 (omega (arith, R.range.nodes-from)), length-words bs);
    }
