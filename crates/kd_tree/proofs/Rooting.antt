-- The whole image before and after a search. Assumes nothing.
use mathlib.Core.Path.{◌≡◌, refl, sym, ap, ◌∙◌}
use mathlib.Core.Bool.{Bool}
use mathlib.Core.List.{List, ◌++◌}
use mathlib.Core.Option.{some}
use Prim.Native.Nat.{ℕ, zero, suc, ◌+◌, ◌-◌, ◌*◌, ◌≤◌, ◌<◌}
use native.Mathlib.Nat.{mul-le-mul_right}
use native.Mathlib.Omega.{arith}
use lib.ListN.{length, get_or, set, drop, length-set}
use lib.Seq.{get_or-set_same, get_or-set_other, take_all}
use Rattle.std.specs.Prelude.{Option, Some, None, SomeIff, IfSome}
use Rattle.words.specs.Words.{words, bytes, put_w, paste_w}
use Rattle.words.specs.Tables.{part, zeros}
use Rattle.words.proofs.Joined.{moved}
use Rattle.words.proofs.Laws.{Bytes, length-words, length-put_w, words-put_w, paste_w-front}
use Rattle.words.proofs.Tables.{part-get, table-iff, split_rows, paste-own, length-zeros, zeros-get}
use Rattle.kd_theory.specs.Tree.{Tree, count, nodes, Kept, search}
use Rattle.index_theory.specs.Entries.{entry_at}
use Rattle.index_theory.specs.State.{State, Valid, keys}
use Rattle.index_theory.specs.Calls.{with_tree}
use Rattle.index_theory.specs.Searches.{Query, find}
use Rattle.index_theory.proofs.Keeps.{tree-valid}
use Rattle.index_image.specs.Layout.{shape_of, header, entry_words, encode, Is}
use Rattle.index_image.specs.Shape as at
use Rattle.index_image.specs.declared.Shape.{Shape}
use Rattle.index_image.proofs.Encoding.{Pieces, Fits, entry_length, of-pieces, image-length}
use Rattle.index_image.proofs.Heads.{words-of-head}
use Rattle.index_image.proofs.Images as image
use Rattle.index_image.proofs.Lengths.{valid-fits}
use Rattle.kd_image.specs.HasTree.{HasTree, Became}
use Rattle.kd_image.proofs.Standing.{part_same, part-kept}
use Rattle.kd_image.proofs.Becoming.{put_rest, tree-became}
use Rattle.query_words.specs.Asked.{shape_in, option_of, Asks}
use Rattle.kd_tree.specs.Searched.{search_from, Ready, Found, Searched}
use Rattle.query_words.specs.Rooted.{theory_option, Rooted, RootReady, Answered}
use Rattle.kd_tree.proofs.Visiting.{search-kept}

all_of : (l : List ℕ) (n : ℕ) → length l ≡ n → part l 0 n ≡ l
unfolding part
all_of l n e = take_all n l (omega arith)

module _ (bs : List ℕ) (st : State) (I : Is st bs) where
  abbrev W : List ℕ
  W = words bs

  abbrev s : Shape
  s = shape_of st

  abbrev m : ℕ
  m = st.variables

  abbrev c : ℕ
  c = st.capacity

  abbrev n : ℕ
  n = length st.entries

  abbrev ew : ℕ
  ew = at.entry_width (shape_of st)

  abbrev nw : ℕ
  nw = at.node_width st.variables

  abbrev P : Pieces (words bs) st
  P = image.pieces bs st I

  entry-words : (i : ℕ) → i < length st.entries → part (words bs) (at.entry_at (shape_of st) i) (at.entry_width (shape_of st)) ≡ entry_words st.kind st.variables
      st.map_maxima st.labels (entry_at st.entries i)
  entry-words i h =
      let inside : at.entries_at m + n * ew ≤ length W = omega (arith, image.long bs st I, split_rows n c ew I.valid.few) in
      (table-iff W (at.entries_at m) n ew (λ i. entry_words st.kind m st.map_maxima st.labels (entry_at st.entries i)) inside
      (λ i h. entry_length st.kind m st.map_maxima st.labels (entry_at st.entries i) I.valid.map-good.few (I.valid.canonical i h))).0 P.entries i h

  pub root-tree : HasTree st (words bs) (shape_of st) 0 0 (nodes st.tree) st.tree
  root-tree = record {
    holds = record {
      valid = I.valid;
      kind = refl;
      vars = refl;
      cap = refl;
      size = refl;
      range = image.range bs st I;
      room = image.long bs st I;
      map = P.map;
      entries = entry-words;
      labels = P.labels;
      places = image.place-small bs st I;
    };
    stands = record { rows = (image.stands bs st I).rows; perm = (image.stands bs st I).perm };
    ordered = I.valid.ordered;
    fits = omega arith;
    rows-to = omega (arith, (image.range bs st I).nodes-to, (image.range bs st I).cap-from);
    inside = omega (arith, I.valid.size);
    room = omega (arith, I.valid.size, I.valid.few);
  }

  -- what is left is the image of the state with the new tree
  module _ (bs₁ bs₂ : List ℕ) (rows : ℕ) (u : Tree) (q : Kept (keys st) st.tree u) (x : Became st bs bs₁ (shape_of st) 0 0 (nodes st.tree) rows st.tree u)
      (w₂ : bs₂ ≡ put_w bs₁ at.nodes_count_at rows) (by : Bytes bs₂) where
    abbrev X : List ℕ
    X = words bs₂

    valid : Valid (with_tree st u)
    valid = tree-valid st I.valid u q

    fits : Fits (with_tree st u)
    fits = valid-fits (with_tree st u) valid

    rows_is : rows ≡ nodes u
    rows_is = omega (arith, x.grown)

    size_in : at.size (shape_of st) ≤ length (words bs)
    size_in = image.long bs st I

    long₁ : length (words bs₁) ≡ length (words bs)
    long₁ = length-words bs₁ ∙ rw x.long (sym (length-words bs))

    set_is : words bs₂ ≡ set (words bs₁) at.nodes_count_at rows
    set_is = ap words w₂ ∙ words-put_w bs₁ at.nodes_count_at rows (omega (arith, rows_is, fits.nodes-to, I.valid.cap-to)) (omega (arith, size_in, long₁, length-words bs₁))

    long : length (words bs₂) ≡ length (words bs)
    long = rw set_is (length-set (words bs₁) at.nodes_count_at rows) ∙ long₁

    put : (j : ℕ) → (j ≡ at.nodes_count_at → ⊥) → get_or (words bs₂) j 0 ≡ get_or (words bs₁) j 0
    put j h = rw set_is (get_or-set_other (words bs₁) at.nodes_count_at j rows 0 h)

    low : (j : ℕ) → j < at.permutation_at (shape_of st) → (j ≡ at.nodes_count_at → ⊥) → get_or (words bs₂) j 0 ≡ get_or (words bs) j 0
    low j l h = put j h ∙ x.before j (omega arith)

    mid : (j : ℕ) → at.permutation_at (shape_of st) + length st.entries ≤ j → j < at.nodes_at (shape_of st) → get_or (words bs₂) j 0 ≡ get_or (words bs) j 0
    mid j a b = put j (λ e. omega arith) ∙ x.between j (omega (arith, I.valid.size)) (omega arith)

    -- a table before the permutation
    kept : (a l : ℕ) → at.header_width ≤ a → a + l ≤ at.permutation_at (shape_of st) → part (words bs₂) a l ≡ part (words bs) a l
    kept a l h b = part-kept W X a l (omega (arith, size_in)) long (λ j u v. low j (omega arith) (λ e. omega arith))

    kept-mid : (a l : ℕ) → at.permutation_at (shape_of st) + length st.entries ≤ a → a + l ≤ at.nodes_at (shape_of st) → part (words bs₂) a l ≡ part (words bs) a l
    kept-mid a l h b = part-kept W X a l (omega (arith, size_in)) long (λ j u v. mid j (omega arith) (omega arith))

    head₂ : part (words bs₂) 0 at.header_width ≡ header (with_tree st u)
    unfolding header
    head₂ =
        let H = image.head_ok bs st I in
        let five : get_or (words bs₂) at.nodes_count_at 0 ≡ nodes u = rw set_is (get_or-set_same (words bs₁) at.nodes_count_at rows 0 (omega (arith, size_in, long₁))) ∙ rows_is in
        let six : part (words bs₂) at.kept_at at.kept ≡ part (words bs) at.kept_at at.kept = part-kept W X at.kept_at at.kept (omega (arith, size_in)) long
        (λ j u v. low j (omega arith) (λ e. omega arith)) in
        words-of-head X (omega (arith, size_in, long))
        ∙ rw (
          low at.layout_at (omega arith) (λ e. omega arith) ∙ H.layout,
          low at.kind_at (omega arith) (λ e. omega arith) ∙ H.kind,
          low at.variables_at (omega arith) (λ e. omega arith) ∙ H.variables,
          low at.capacity_at (omega arith) (λ e. omega arith) ∙ H.capacity,
          low at.length_at (omega arith) (λ e. omega arith) ∙ H.entries,
          five,
          six ∙ H.kept,
        ) refl

    -- the words behind the rows
    rest₂ : part (words bs₂) (at.node_at (shape_of st) (nodes u)) ((2 * st.capacity - 1 - nodes u) * at.node_width st.variables) ≡ zeros
        ((2 * st.capacity - 1 - nodes u) * at.node_width st.variables)
    rest₂ =
        let z = (2 * c - 1 - nodes u) * nw in
        let a = at.node_at s (nodes u) in
        let old = (2 * c - 1 - nodes st.tree) * nw in
        let b = at.node_at s (nodes st.tree) in
        let whole = split_rows (nodes u) (2 * c - 1) nw fits.nodes-to in
        let whole₀ = split_rows (nodes st.tree) (2 * c - 1) nw (valid-fits st I.valid).nodes-to in
        let le : nodes st.tree * nw ≤ nodes u * nw = mul-le-mul_right {m = nodes st.tree} {n = nodes u} nw x.more in
        let was : (j : ℕ) → b ≤ j → j < b + old → get_or W j 0 ≡ 0 = λ j h l. zero-at b old j (j - b) (omega arith) (omega arith) P.nodes-rest in
        zeros_by a z (λ i l. put (a + i) (λ e. omega arith) ∙ x.behind (a + i) (omega (arith, ap (λ (r : ℕ). r * at.node_width st.variables) rows_is))
        ∙ was (a + i) (omega arith) (omega arith)) (omega (arith, size_in, long))
      where
        zero-at : (b old j i : ℕ) → j ≡ b + i → i < old → part (words bs) b old ≡ zeros old → get_or (words bs) j 0 ≡ 0
        zero-at b old j i e h p = rw e (sym (part-get (words bs) b old i h) ∙ ap (λ (l : List ℕ). get_or l i 0) p ∙ zeros-get old i)

        zeros_by : (a z : ℕ) → ((i : ℕ) → i < z → get_or (words bs₂) (a + i) 0 ≡ 0) → a + z ≤ length (words bs₂) → part (words bs₂) a z ≡ zeros z
        zeros_by a z f h = part_same (zeros z) (words bs₂) 0 a z (omega (arith, length-zeros z)) h (λ i l. f i l ∙ sym (zeros-get z (0 + i))) ∙ all_of (zeros z) z (length-zeros z)

    long₂ : length (words bs₂) ≡ length (words bs₁)
    long₂ = rw set_is (length-set (words bs₁) at.nodes_count_at rows)

    pieces : Pieces (words bs₂) (with_tree st u)
    pieces = record {
      head = head₂;
      maxima = kept at.maxima_at m (omega arith) (omega arith) ∙ P.maxima;
      map = kept (at.map_at m) m (omega arith) (omega arith) ∙ P.map;
      entries = kept (at.entries_at m) (n * ew) (omega arith) (omega (arith, split_rows n c ew I.valid.few)) ∙ P.entries;
      entries-rest = kept (at.entry_at s n) ((c - n) * ew) (omega arith) (omega (arith, split_rows n c ew I.valid.few)) ∙ P.entries-rest;
      permutation = moved X (part-kept (words bs₁) X (at.permutation_at s + 0) (count u) (omega (arith, size_in, long₁, x.same, I.valid.size, I.valid.few)) long₂
          (λ j a b. put j (λ e. omega arith)) ∙ x.stands.perm) (omega arith) (x.same ∙ I.valid.size);
      permutation-rest = kept-mid (at.permutation_at s + n) (c - n) (omega arith) (omega (arith, I.valid.few)) ∙ P.permutation-rest;
      labels = kept-mid (at.labels_at s) (at.labels_size s) (omega (arith, I.valid.few)) (omega arith) ∙ P.labels;
      nodes-are = moved X (part-kept (words bs₁) X (at.node_at s 0) (nodes u * nw) (omega (arith, size_in, long₁, split_rows (nodes u) (2 * c - 1) nw fits.nodes-to))
          long₂ (λ j a b. put j (λ e. omega arith)) ∙ x.stands.rows) (omega arith) refl;
      nodes-rest = rest₂;
    }

    room₂ : 4 * at.size (shape_of st) ≤ length bs₂
    room₂ = omega (arith, I.room, ap (length {A = ℕ}) w₂, length-put_w bs₁ at.nodes_count_at rows, x.long)

    written : part (words bs₂) 0 (at.size (shape_of st)) ≡ encode (with_tree st u)
    written = of-pieces X (with_tree st u) fits (omega (arith, size_in, long)) pieces

    pub root_is : Is (with_tree st u) bs₂
    root_is = record { valid = valid; room = room₂; is = written }

    pub root-after : bs₂ ≡ paste_w bs 0 (encode (with_tree st u))
    root-after =
        let E = encode (with_tree st u) in
        let l : length (encode (with_tree st u)) ≡ at.size (shape_of st) = image-length X (with_tree st u) fits (omega (arith, size_in, long)) in
        let own : bs₂ ≡ paste_w bs₂ 0 (encode (with_tree st u)) = sym (paste-own bs₂ (at.size s) by room₂) ∙ ap (paste_w bs₂ 0) written in
        let same : drop (4 * at.size (shape_of st)) bs₂ ≡ drop (4 * at.size (shape_of st)) bs = rw w₂
        (put_rest bs₁ at.nodes_count_at rows (at.size s) (omega arith) (omega (arith, I.room, x.long))) ∙ x.rest in
        let tail : drop (4 * length (encode (with_tree st u))) bs₂ ≡ drop (4 * length (encode (with_tree st u))) bs = rw l same in
        own ∙ paste_w-front bs₂ E ∙ ap (λ (r : List ℕ). bytes E ++ r) tail ∙ sym (paste_w-front bs E)

-- ---- the search of a whole image
-- one less than the number of what was found, or nothing
place-of : (n m : ℕ) (place : Option ℕ) → SomeIff place (1 ≤ n) (n - 1) → n ≤ m → (theory_option place ≡ option_of n) × IfSome place (λ e. e < m)
unfolding option_of
place-of zero m None h l = (refl, tt)
place-of zero m (Some e) h l = absurd (omega (arith, h.0))
place-of (suc n) m None h l = absurd (h (omega arith))
place-of (suc n) m (Some e) h l = let q : e ≡ n = omega (arith, h.1) in (ap some q, omega arith)

pub root-ready : (bs ms Q : List ℕ) → RootReady bs ms Q → Ready bs ms (shape_in Q) Q 0 0 (shape_in Q).nodes 0
root-ready bs ms Q w = record {
  state = w.state;
  request = w.request;
  tree = w.state.tree;
  asks = w.root.asks;
  has = turned w.root.shape (root-tree bs w.state w.root.is);
  small = omega arith;
}
  where
    turned : {s : Shape} → s ≡ shape_of w.state → HasTree w.state (words bs) (shape_of w.state) 0 0 (nodes w.state.tree) w.state.tree
        → HasTree w.state (words bs) s 0 0 s.nodes w.state.tree
    turned e h = rw e h

pub root-rows : (bs ms Q : List ℕ) → RootReady bs ms Q → (shape_in Q).nodes ≤ 8191
root-rows bs ms Q w = omega (arith, w.root.asks.laid.range.nodes-to, w.root.asks.laid.range.cap-to)

first-search : (st : State) (r : Query) → find st r ≡ search_from st r 0 st.tree (option_of 0)
unfolding find search option_of
first-search st r = refl

module _ (bs bs₁ ms Q : List ℕ) (best : ℕ) (on : Bool) (rows : ℕ) (S : Searched bs bs₁ ms (shape_in Q) Q 0 0 0 (shape_in Q).nodes 0 best on rows) where
  found-root : (st : State) (r : Query) → Rooted st r bs ms Q → Found st bs bs₁ (shape_of st) 0 0 (nodes st.tree) st.tree (find st r) best on rows
  unfolding Searched
  found-root st r R = rw (first-search st r) (turned R.shape R.asks S)
    where
      turned : {s : Shape} → s ≡ shape_of st → Asks st r ms s Q → Searched bs bs₁ ms s Q 0 0 0 s.nodes 0 best on rows
          → Found st bs bs₁ (shape_of st) 0 0 (nodes st.tree) st.tree (search_from st r 0 st.tree (option_of 0)) best on rows
      turned e a S = (rw e at S) st r st.tree (rw e at a) (root-tree bs st R.is)

  pub record RootNumbers : Type 0 where
    pub rows-to : rows ≤ 8191
    pub room : 24 ≤ length bs₁

  pub root-numbers : RootReady bs ms Q → RootNumbers
  root-numbers w =
      let st = w.state in
      let R = w.root in
      let f = found-root st w.request R in
      let k = rw (← first-search st w.request) at (search-kept st R.is.valid w.request 0 st.tree (option_of 0) R.is.valid.ordered) in
      let h = tree-became st (shape_of st) bs bs₁ 0 0 (nodes st.tree) rows st.tree (find st w.request).tree (root-tree bs st R.is) f.became k in
      record {
        rows-to = omega (arith, h.rows-to, h.holds.range.cap-to);
        room = omega (arith, h.holds.room, length-words bs₁);
      }

  pub root-answered : (bs₂ : List ℕ) → bs₂ ≡ put_w bs₁ at.nodes_count_at rows → Bytes bs₂ → (best' : ℕ) → best' ≡ best
      → (place : Option ℕ) → SomeIff place (1 ≤ best') (best' - 1) → Answered bs bs₂ ms Q place
  unfolding Answered
  root-answered bs₂ w₂ by best' eb place ep st r R =
      let f = found-root st r R in
      let k = rw (← first-search st r) at (search-kept st R.is.valid r 0 st.tree (option_of 0) R.is.valid.ordered) in
      let z = place-of best' (length st.entries) place ep (omega (arith, eb, f.small)) in
      record {
        found = z.0 ∙ rw eb f.best-is;
        small = z.1;
        bytes = root-after bs st R.is bs₁ bs₂ rows (find st r).tree k f.became w₂ by;
        after = root_is bs st R.is bs₁ bs₂ rows (find st r).tree k f.became w₂ by;
      }
