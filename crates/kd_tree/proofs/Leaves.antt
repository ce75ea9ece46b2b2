-- The entries of a leaf, by the words of its row. Assumes nothing.
use mathlib.Core.Path.{◌≡◌, ap, ◌∙◌}
use mathlib.Core.Bool.{Bool}
use mathlib.Core.List.{List}
use Prim.Native.Nat.{ℕ, ◌+◌, ◌*◌, ◌≤◌}
use native.Mathlib.Omega.{arith}
use lib.ListN.{length, get_or}
use Rattle.words.specs.Words.{words}
use Rattle.words.specs.Tables.{part}
use Rattle.words.proofs.Laws.{length-words}
use Rattle.kd_theory.specs.Tree.{leaf}
use Rattle.index_theory.specs.State.{State}
use Rattle.index_image.specs.Shape as at
use Rattle.index_image.specs.Rows.{entries_from}
use Rattle.index_image.specs.declared.Shape.{Shape}
use Rattle.index_image.proofs.Trees.{nodes-leaf}
use Rattle.kd_image.specs.HasTree.{HasTree}
use Rattle.kd_image.proofs.Standing.{based, node-next, row_inside, leaf-row}
use Rattle.kd_leaf.specs.Visited.{ReadyEntries, Visited}
use Rattle.kd_tree.specs.Searched.{ReadyLeaf, Scanned}

leaf-count : (st : State) (W : List ℕ) (s : Shape) (k lo rows : ℕ) (es : List ℕ) → HasTree st W s k lo rows (leaf es) → get_or W (at.node_at s k + 2) 0 ≡ length es
leaf-count st W s k lo rows es h = (leaf-row st W s (based h.holds) k lo rows es (omega (arith, h.fits, nodes-leaf es)) h.rows-to h.stands).count-is

pub record LeafNumbers (bs : List ℕ) (s : Shape) (k : ℕ) : Type 0 where
  pub row : k ≤ 8191
  pub room : 4 * (at.node_at s k + 6) ≤ length bs

pub leaf-numbers : (bs ms : List ℕ) (s : Shape) (Q : List ℕ) (k lo rows best : ℕ) → ReadyLeaf bs ms s Q k lo rows best → LeafNumbers bs s k
leaf-numbers bs ms s Q k lo rows best w =
    let h = w.has in
    let n = nodes-leaf w.es in
    record {
      row = omega (arith, h.fits, h.rows-to, h.holds.range.cap-to);
      room = omega (arith, node-next s k, row_inside w.state (words bs) s (based h.holds) (k + 1) rows (omega (arith, h.fits)) h.rows-to, length-words bs);
    }

pub leaf-ready : (bs ms : List ℕ) (s : Shape) (Q : List ℕ) (k lo rows best c : ℕ) → c ≡ get_or (words bs) (at.node_at s k + 2) 0 → ReadyLeaf bs ms s Q k lo rows best → ReadyEntries bs ms s Q lo c best
leaf-ready bs ms s Q k lo rows best c e w = record {
  state = w.state;
  request = w.request;
  asks = w.asks;
  holds = w.has.holds;
  inside = omega (arith, leaf-count w.state (words bs) s k lo rows w.es w.has, w.has.inside);
  small = w.small;
}

pub leaf-done : (bs ms : List ℕ) (s : Shape) (Q : List ℕ) (k lo rows best best' c : ℕ) (on : Bool) → c ≡ get_or (words bs) (at.node_at s k + 2) 0
    → Visited bs ms s Q lo c best best' on → Scanned bs ms s Q k lo rows best best' on
unfolding Visited Scanned
leaf-done bs ms s Q k lo rows best best' c on e v st r es a h = rw (places) at (v st r a h.holds)
  where
    places : entries_from (words bs) s lo c ≡ es
    places = ap (part (words bs) (at.permutation_at s + lo)) (e ∙ leaf-count st (words bs) s k lo rows es h) ∙ h.stands.perm
