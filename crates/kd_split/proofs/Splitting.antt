-- A leaf is split: what its writes come to. Assumes nothing.
use mathlib.Core.Path.{◌≡◌, refl, sym, ap, ◌∙◌}
use mathlib.Core.Bool.{true, false}
use mathlib.Core.List.{List, [], ◌∷◌, ◌++◌}
use Prim.Native.Nat.{ℕ, suc, ◌+◌, ◌-◌, ◌*◌, ◌≤◌, ◌<◌}
use native.Mathlib.Nat.{one-mul}
use native.Mathlib.Decide.{dec_le}
use native.Mathlib.Omega.{arith}
use lib.ListN.{length, get_or, take, drop, length-append, get_or-append}
use lib.Seq.{length-take-le, get_or-take, get_or-drop, get_or-append-add}
use Rattle.words.specs.Words.{words, paste_w}
use Rattle.words.specs.Tables.{part}
use Rattle.words.proofs.Laws.{Words, length-words, length-paste_w, words-paste_w}
use Rattle.words.proofs.Tables.{part-get, part-mid, part-append, length_part, row_fits}
use Rattle.kd_theory.specs.Bag.{◌∈◌, keep}
use Rattle.kd_theory.specs.Tree.{leaf, branch, nodes}
use Rattle.kd_theory.proofs.BagLaws.{keep-holds, in_both}
use Rattle.index_theory.specs.State.{State, power_in}
use Rattle.index_image.specs.Layout.{node_words, tree_words}
use Rattle.index_image.specs.Shape as at
use Rattle.index_image.specs.Walk.{power, map_maxima}
use Rattle.index_image.specs.Rows.{entries_from}
use Rattle.index_image.specs.declared.Shape.{Shape}
use Rattle.index_image.proofs.Trees.{nodes-branch, nodes-leaf}
use Rattle.index_image.proofs.Keys.{tree-words-ext}
use Rattle.index_image.proofs.Once.{get_in}
use Rattle.kd_image.specs.HasTree.{Holds, HasTree, Became}
use Rattle.kd_sides.specs.Sides.{on_side}
use Rattle.kd_rows.specs.Leaves.{leaf_words}
use Rattle.kd_sides.proofs.Writing.{sides-length, sides-same}
use Rattle.kd_image.proofs.Standing.{Based, based, part-kept, node-add, node-next, node-le, Row, row_same, row_inside, length-row, leaf-row, uncut, ordered-small}
use Rattle.kd_image.proofs.Becoming.{paste-rest}
use Rattle.kd_image.proofs.Reading.{power-of}

-- ---- a run of words is written
pub record Wrote (bs bs' : List ℕ) (i : ℕ) (ws : List ℕ) : Type 0 where
  pub long : length bs' ≡ length bs
  pub before : (j : ℕ) → j < i → get_or (words bs') j 0 ≡ get_or (words bs) j 0
  pub inside : (j : ℕ) → j < length ws → get_or (words bs') (i + j) 0 ≡ get_or ws j 0
  pub here : part (words bs') i (length ws) ≡ ws
  pub behind : (j : ℕ) → i + length ws ≤ j → get_or (words bs') j 0 ≡ get_or (words bs) j 0
  pub rest : (n : ℕ) → i + length ws ≤ n → 4 * n ≤ length bs → drop (4 * n) bs' ≡ drop (4 * n) bs

pub wrote : (bs bs' : List ℕ) (i : ℕ) (ws : List ℕ) → Words ws → 4 * (i + length ws) ≤ length bs → bs' ≡ paste_w bs i ws → Wrote bs bs' i ws
wrote bs bs' i ws small room e =
    let W = words bs in
    let a = take i W in
    let c = drop (i + length ws) W in
    let la : length a ≡ i = length-take-le i W (omega (arith, length-words bs)) in
    let is : words bs' ≡ a ++ (ws ++ c) = ap words e ∙ words-paste_w bs i ws small (omega arith) in
    record {
      long = rw e (length-paste_w bs i ws (omega arith));
      before = λ j h. rw is (get_or-append a (ws ++ c) 0 j (omega arith) ∙ get_or-take i W j 0 h);
      inside = λ j h. rw is (at_length a (ws ++ c) j i la ∙ get_or-append ws c 0 j h);
      here = rw is (part-mid a ws c i (length ws) la refl);
      behind = λ j h. rw is (behind-all a ws c i j (j - (i + length ws)) la (omega arith) ∙ get_or-drop (i + length ws) W (j - (i + length ws)) 0 ∙ index W (omega arith));
      rest = λ n h l. rw e (paste-rest bs i ws n h l);
    }
  where
    at_length : (a b : List ℕ) (j i : ℕ) → length a ≡ i → get_or (a ++ b) (i + j) 0 ≡ get_or b j 0
    at_length a b j i l = rw (← l) (get_or-append-add a b j 0)

    behind-all : (a b c : List ℕ) (i j m : ℕ) → length a ≡ i → j ≡ i + length b + m → get_or (a ++ (b ++ c)) j 0 ≡ get_or c m 0
    behind-all a b c i j m l e =
        let z : j ≡ length a + (length b + m) = omega arith in
        rw z (get_or-append-add a (b ++ c) (length b + m) 0 ∙ get_or-append-add b c m 0)

    index : (W : List ℕ) {x y : ℕ} → x ≡ y → get_or W x 0 ≡ get_or W y 0
    index W e = ap (λ (j : ℕ). get_or W j 0) e

-- ---- what else the image holds
pub holds_kept : (st : State) (W U : List ℕ) (s : Shape) → Holds st W s → length U ≡ length W → ((j : ℕ) → j < at.permutation_at s → get_or U j 0 ≡ get_or W j 0)
    → ((j : ℕ) → at.labels_at s ≤ j → j < at.node_at s 0 → get_or U j 0 ≡ get_or W j 0) → ((i : ℕ) → i < s.entries → get_or U (at.permutation_at s + i) 0 < s.entries) → Holds st U s
holds_kept st W U s h long before between places = record {
  valid = h.valid;
  kind = h.kind;
  vars = h.vars;
  cap = h.cap;
  size = h.size;
  range = h.range;
  room = omega (arith, long, h.room);
  map = part-kept W U (at.map_at s.variables) s.variables (omega (arith, h.room)) long (λ i a b. before i (omega arith)) ∙ h.map;
  entries = λ i l.
      part-kept W U (at.entry_at s i) (at.entry_width s) (omega (arith, h.room, row_fits i s.capacity (at.entry_width s) (omega (arith, h.range.few)))) long
      (λ j a b. before j (omega (arith, row_fits i s.capacity (at.entry_width s) (omega (arith, h.range.few))))) ∙ h.entries i l;
  labels = part-kept W U (at.labels_at s) (at.labels_size s) (omega (arith, h.room)) long (λ i a b. between i a (omega arith)) ∙ h.labels;
  places = places;
}

-- only rows have changed
pub holds_rows : (st : State) (W U : List ℕ) (s : Shape) → Holds st W s → length U ≡ length W → ((j : ℕ) → j < at.node_at s 0 → get_or U j 0 ≡ get_or W j 0) → Holds st U s
holds_rows st W U s h long same =
    holds_kept st W U s h long (λ j l. same j (omega arith)) (λ j a b. same j b) (λ i l. rw (same (at.permutation_at s + i) (omega (arith, h.range.few))) (h.places i l))

-- the words of a leaf's row, by the state
pub leaf-words : (st : State) (W : List ℕ) (s : Shape) (lo c : ℕ) (es : List ℕ) → Holds st W s → entries_from W s lo c ≡ es → ((e : ℕ) → e ∈ es → e < s.entries)
    → leaf_words W s lo c ≡ node_words s.variables st.map_maxima (power_in st.entries) 0 0 0 es
unfolding tree_words
leaf-words st W s lo c es H e small =
    ap (λ (l : List ℕ). node_words s.variables (map_maxima W s) (power W s) 0 0 0 l) e
    ∙ ap (λ (l : List ℕ). node_words s.variables l (power W s) 0 0 0 es) H.map
    ∙ tree-words-ext s.variables st.map_maxima (power W s) (power_in st.entries) (leaf es) (λ v e i. power-of st W s H v e (small e i))

module _ (st : State) (s : Shape) (bs : List ℕ) (k lo rows c d x key : ℕ) (es : List ℕ) (h : HasTree st (words bs) s k lo rows (leaf es)) (ec : c ≡ length es) (many : 64 < c) (pw₀ : ℕ → ℕ → ℕ) where
  abbrev A : ℕ
  A = at.node_at s k

  abbrev w : ℕ
  w = s.variables + 6

  abbrev xs : List ℕ
  xs = st.map_maxima

  abbrev pw : ℕ → ℕ → ℕ
  pw = power_in st.entries

  abbrev Ls : List ℕ
  Ls = keep (on_side pw₀ d x true) es

  abbrev Os : List ℕ
  Os = keep (on_side pw₀ d x false) es

  abbrev B : Based st (words bs) s
  B = based h.holds

  one-row : k + 1 ≤ rows
  one-row = omega (arith, h.fits, nodes-leaf es)

  -- the leaf's row
  pub row₀ : Row (words bs) s.variables st.map_maxima (power_in st.entries) (at.node_at s k) 0 0 0 es
  row₀ = leaf-row st (words bs) s B k lo rows es one-row h.rows-to h.stands

  -- there is room for two more rows
  pub record Rooms : Type 0 where
    pub more : rows + 2 + 1 ≤ 2 * s.capacity
    pub end : at.node_at s (rows + 2) ≡ at.node_at s rows + 2 * (s.variables + 6)
    pub in_size : at.node_at s (rows + 2) ≤ at.size s
    pub three : at.node_at s k + 3 * (s.variables + 6) ≤ at.node_at s (rows + 2)
    pub row : at.node_at s k + (s.variables + 6) ≤ at.node_at s rows
    pub room : 4 * at.size s ≤ length bs
    pub low : at.permutation_at s + lo + c ≤ at.node_at s k
    pub places : at.permutation_at s + lo + c ≤ at.labels_at s

  pub rooms : Rooms
  rooms = record {
    more = omega (arith, h.room, nodes-leaf es);
    end = node-add s rows 2;
    in_size = node-le s (rows + 2) (2 * s.capacity - 1) (omega (arith, h.room, nodes-leaf es));
    three = omega (arith, node-add s k 3, node-le s (k + 3) (rows + 2) (omega (arith, one-row)));
    row = omega (arith, node-next s k, node-le s (k + 1) rows one-row);
    room = omega (arith, h.holds.room, length-words bs);
    low = omega (arith, h.inside, h.holds.range.few);
    places = omega (arith, h.inside, h.holds.range.few);
  }

  all-is : length (Ls ++ Os) ≡ c
  all-is = length-append Ls Os ∙ omega (arith, sides-length pw₀ d x es)

  pub small-in : (e : ℕ) → e ∈ es → e < s.entries
  small-in e i = omega (arith, ordered-small st (leaf es) h.ordered e i, h.holds.size)

  pub small-less : (e : ℕ) → e ∈ keep (on_side pw₀ d x true) es → e < s.entries
  small-less e i = small-in e (keep-holds (on_side pw₀ d x true) e es i).1

  pub small-other : (e : ℕ) → e ∈ keep (on_side pw₀ d x false) es → e < s.entries
  small-other e i = small-in e (keep-holds (on_side pw₀ d x false) e es i).1

  -- ---- the entries are parted
  module _ (bs₁ : List ℕ) (w₁ : Wrote bs bs₁ (at.permutation_at s + lo) (keep (on_side pw₀ d x true) es ++ keep (on_side pw₀ d x false) es)) where
    long₁ : length (words bs₁) ≡ length (words bs)
    long₁ = length-words bs₁ ∙ rw w₁.long (sym (length-words bs))

    parted-place : (i : ℕ) → i < s.entries → get_or (words bs₁) (at.permutation_at s + i) 0 < s.entries
    parted-place i l = elim (dec_le lo i) [
      | no n ↦ rw (w₁.before (at.permutation_at s + i) (omega arith)) (h.holds.places i l)
      | yes n ↦ elim (dec_le (lo + c) i) [
        | yes m ↦ rw (w₁.behind (at.permutation_at s + i) (omega (arith, all-is))) (h.holds.places i l)
        | no m ↦ mine (i - lo) (omega arith) (omega arith)
      ]
    ]
      where
        mine : (j : ℕ) → j < c → i ≡ lo + j → get_or (words bs₁) (at.permutation_at s + i) 0 < s.entries
        mine j b e =
            let z : at.permutation_at s + i ≡ at.permutation_at s + lo + j = omega arith in
            let v = get_in (Ls ++ Os) j (omega (arith, all-is)) in
            rw (z, w₁.inside j (omega (arith, all-is))) (in_both (λ e. e < s.entries) Ls Os small-less small-other (get_or (Ls ++ Os) j 0) v)

    pub holds₁ : Holds st (words bs₁) s
    holds₁ = holds_kept st (words bs) (words bs₁) s h.holds long₁ (λ j l. w₁.before j (omega arith)) (λ j a b. w₁.behind j (omega (arith, all-is, rooms.places))) parted-place

    -- ---- the rows
    module _ (bs₂ bs₃ : List ℕ) (mask : ℕ)
        (w₂ : Wrote bs₁ bs₂ (at.node_at s k + (s.variables + 6) + 2 * (s.variables + 6))
        (part (words bs₁) (at.node_at s k + (s.variables + 6)) (at.node_at s rows - (at.node_at s k + (s.variables + 6)))))
        (em : mask ≡ get_or (words bs₂) (at.node_at s k + 4) 0)
        (w₃ : Wrote bs₂ bs₃ (at.node_at s k) ((d + 1) ∷ key ∷ c ∷ 1 ∷ mask ∷ [])) where
      moved-is : length (part (words bs₁) (A + w) (at.node_at s rows - (A + w))) ≡ at.node_at s rows - (A + w)
      moved-is = length_part (words bs₁) (A + w) (at.node_at s rows - (A + w)) (omega (arith, long₁, rooms.row, row_inside st (words bs) s B rows rows (omega arith) h.rows-to))

      long₃ : length (words bs₃) ≡ length (words bs₁)
      long₃ = length-words bs₃ ∙ rw (w₃.long, w₂.long) (sym (length-words bs₁))

      under₃ : (j : ℕ) → j < at.node_at s k → get_or (words bs₃) j 0 ≡ get_or (words bs₁) j 0
      under₃ j l = w₃.before j l ∙ w₂.before j (omega arith)

      pub holds₃ : Holds st (words bs₃) s
      holds₃ = holds_rows st (words bs₁) (words bs₃) s holds₁ long₃ (λ j l. under₃ j (omega (arith, node-le s 0 k (omega arith))))

      perm₃ : part (words bs₃) (at.permutation_at s + lo) (length (Ls ++ Os)) ≡ Ls ++ Os
      perm₃ = part-kept (words bs₁) (words bs₃) (at.permutation_at s + lo) (length (Ls ++ Os))
          (omega (arith, all-is, rooms.low, holds₁.room, rooms.three, rooms.in_size)) long₃ (λ i a b. under₃ i (omega (arith, all-is, rooms.low))) ∙ w₁.here

      pub less-entries : entries_from (words bs₃) s lo (length (keep (on_side pw₀ d x true) es)) ≡ keep (on_side pw₀ d x true) es
      less-entries = cutting.0
        where
          cutting : (part (words bs₃) (at.permutation_at s + lo) (length Ls) ≡ Ls) × (part (words bs₃) (at.permutation_at s + lo + length Ls) (length Os) ≡ Os)
          cutting = (part-append (words bs₃) (at.permutation_at s + lo) (length Ls) (length Os) Ls Os
              (omega (arith, length-append Ls Os, all-is, rooms.low, holds₃.room, rooms.three, rooms.in_size)) refl).0
              (ap (part (words bs₃) (at.permutation_at s + lo)) (sym (length-append Ls Os)) ∙ perm₃)

      other-entries₃ : part (words bs₃) (at.permutation_at s + (lo + length Ls)) (length Os) ≡ Os
      other-entries₃ =
          let z : at.permutation_at s + lo + length Ls ≡ at.permutation_at s + (lo + length Ls) = omega arith in
          let q = (part-append (words bs₃) (at.permutation_at s + lo) (length Ls) (length Os) Ls Os
          (omega (arith, length-append Ls Os, all-is, rooms.low, holds₃.room, rooms.three, rooms.in_size)) refl).0
          (ap (part (words bs₃) (at.permutation_at s + lo)) (sym (length-append Ls Os)) ∙ perm₃) in
          rw z at q.1

      module _ (bs₄ : List ℕ) (w₄ : Wrote bs₃ bs₄ (at.node_at s k + (s.variables + 6)) (node_words s.variables st.map_maxima (power_in st.entries) 0 0 0 (keep (on_side pw₀ d x true) es))) where
        l₄ : length (node_words s.variables xs pw 0 0 0 Ls) ≡ w
        l₄ = length-row st (words bs) s B 0 0 0 Ls

        long₄ : length (words bs₄) ≡ length (words bs₃)
        long₄ = length-words bs₄ ∙ rw w₄.long (sym (length-words bs₃))

        pub holds₄ : Holds st (words bs₄) s
        holds₄ = holds_rows st (words bs₃) (words bs₄) s holds₃ long₄ (λ j l. w₄.before j (omega (arith, node-le s 0 k (omega arith))))

        pub other_entries : entries_from (words bs₄) s (lo + length (keep (on_side pw₀ d x true) es)) (c - length (keep (on_side pw₀ d x true) es)) ≡ keep (on_side pw₀ d x false) es
        other_entries =
            let z : c - length Ls ≡ length Os = omega (arith, sides-length pw₀ d x es) in
            rw z (part-kept (words bs₃) (words bs₄) (at.permutation_at s + (lo + length Ls)) (length Os)
            (omega (arith, sides-length pw₀ d x es, rooms.low, holds₃.room, rooms.three, rooms.in_size)) long₄
            (λ i a b. w₄.before i (omega (arith, sides-length pw₀ d x es, rooms.low))) ∙ other-entries₃)

        module _ (bs₅ : List ℕ) (w₅ : Wrote bs₄ bs₅ (at.node_at s k + 2 * (s.variables + 6))
            (node_words s.variables st.map_maxima (power_in st.entries) 0 0 0 (keep (on_side pw₀ d x false) es))) where
          l₅ : length (node_words s.variables xs pw 0 0 0 Os) ≡ w
          l₅ = length-row st (words bs) s B 0 0 0 Os

          long₅ : length (words bs₅) ≡ length (words bs₄)
          long₅ = length-words bs₅ ∙ rw w₅.long (sym (length-words bs₄))

          long : length (words bs₅) ≡ length (words bs)
          long = long₅ ∙ long₄ ∙ long₃ ∙ long₁

          -- what stands where, after all
          under : (j : ℕ) → j < at.node_at s k → get_or (words bs₅) j 0 ≡ get_or (words bs₁) j 0
          under j l = w₅.before j (omega arith) ∙ w₄.before j (omega arith) ∙ under₃ j l

          head : (j : ℕ) → j < 5 → get_or (words bs₅) (at.node_at s k + j) 0 ≡ get_or ((d + 1) ∷ key ∷ c ∷ 1 ∷ mask ∷ []) j 0
          head j l = w₅.before (at.node_at s k + j) (omega arith) ∙ w₄.before (at.node_at s k + j) (omega arith) ∙ w₃.inside j (omega arith)

          slot_kept : (j : ℕ) → at.node_at s k + 5 ≤ j → j < at.node_at s k + (s.variables + 6) → get_or (words bs₅) j 0 ≡ get_or (words bs) j 0
          slot_kept j a b =
              w₅.before j (omega arith) ∙ w₄.before j b ∙ w₃.behind j (omega arith) ∙ w₂.before j (omega arith) ∙ w₁.behind j (omega (arith, all-is, rooms.low))

          mask_is : mask ≡ get_or (words bs) (at.node_at s k + 4) 0
          mask_is = em ∙ w₂.before (at.node_at s k + 4) (omega arith) ∙ w₁.behind (at.node_at s k + 4) (omega (arith, all-is, rooms.low))

          B₅ : Based st (words bs₅) s
          B₅ = record { valid = B.valid; vars = B.vars; range = B.range; room = omega (arith, long, B.room) }

          here₅ : Row (words bs₅) s.variables st.map_maxima (power_in st.entries) (at.node_at s k) (suc d) key 1 (Ls ++ Os)
          here₅ =
              let z : at.node_at s k + 0 ≡ at.node_at s k = omega arith in
              let t : get_or (words bs₅) (at.node_at s k) 0 ≡ d + 1 = rw z at (head 0 (omega arith)) in
              row_same s.variables st.map_maxima (power_in st.entries) (words bs₅) (at.node_at s k) (suc d) key 1 es (Ls ++ Os) (sides-same pw₀ d x es)
              (sym (all-is ∙ ec)) (omega arith) (record {
                tag_is = omega (arith, t);
                key-is = head 1 (omega arith);
                count-is = head 2 (omega arith) ∙ ec;
                skip_is = head 3 (omega arith);
                mask_is = head 4 (omega arith) ∙ mask_is ∙ row₀.mask_is;
                slot_is = part-kept (words bs) (words bs₅) (at.node_at s k + 5) (s.variables + 1)
                    (omega (arith, rooms.row, row_inside st (words bs) s B rows rows (omega arith) h.rows-to)) long (λ j a b. slot_kept j a (omega arith)) ∙ row₀.slot_is;
              })

          perm₅ : (lo' : ℕ) (es' : List ℕ) → lo ≤ lo' → lo' + length es' ≤ lo + c → part (words bs₃) (at.permutation_at s + lo') (length es') ≡ es'
              → part (words bs₅) (at.permutation_at s + lo') (length es') ≡ es'
          perm₅ lo' es' a b e =
              part-kept (words bs₃) (words bs₅) (at.permutation_at s + lo') (length es') (omega (arith, rooms.low, holds₃.room, rooms.three, rooms.in_size)) (long₅ ∙ long₄)
              (λ j u v. w₅.before j (omega (arith, rooms.low)) ∙ w₄.before j (omega (arith, rooms.low))) ∙ e

          next : at.node_at s (k + 1) ≡ at.node_at s k + (s.variables + 6)
          next = node-next s k

          next₂ : at.node_at s (k + 1 + 1) ≡ at.node_at s k + 2 * (s.variables + 6)
          next₂ = omega (arith, node-next s (k + 1), node-next s k)

          one-part : part (words bs₅) (at.node_at s k + (s.variables + 6)) (s.variables + 6) ≡ node_words s.variables xs pw 0 0 0 Ls
          one-part =
              part-kept (words bs₄) (words bs₅) (A + w) w (omega (arith, holds₄.room, rooms.three, rooms.in_size)) long₅ (λ j a b. w₅.before j (omega arith))
              ∙ ap (part (words bs₄) (A + w)) (sym l₄) ∙ w₄.here

          two-part : part (words bs₅) (at.node_at s k + 2 * (s.variables + 6)) (s.variables + 6) ≡ node_words s.variables xs pw 0 0 0 Os
          two-part = ap (part (words bs₅) (A + 2 * w)) (sym l₅) ∙ w₅.here

          pub split-became : Became st bs bs₅ s k lo rows (rows + 2) (leaf es) (branch d key (leaf (keep (on_side pw₀ d x true) es)) (leaf (keep (on_side pw₀ d x false) es)))
          unfolding tree_words
          split-became =
              let n1 = nodes-leaf es in
              let nl = nodes-leaf Ls in
              let no = nodes-leaf Os in
              let nb = nodes-branch d key (leaf Ls) (leaf Os) in
              let la = length-append Ls Os in
              record {
                long = w₅.long ∙ w₄.long ∙ w₃.long ∙ w₂.long ∙ w₁.long;
                rest = w₅.rest (at.size s) (omega (arith, l₅, rooms.three, rooms.in_size)) (omega (arith, rooms.room, w₄.long, w₃.long, w₂.long, w₁.long))
                    ∙ w₄.rest (at.size s) (omega (arith, l₄, rooms.three, rooms.in_size)) (omega (arith, rooms.room, w₃.long, w₂.long, w₁.long))
                    ∙ w₃.rest (at.size s) (omega (arith, rooms.three, rooms.in_size)) (omega (arith, rooms.room, w₂.long, w₁.long))
                    ∙ w₂.rest (at.size s) (omega (arith, moved-is, rooms.row, rooms.end, rooms.in_size)) (omega (arith, rooms.room, w₁.long))
                    ∙ w₁.rest (at.size s) (omega (arith, all-is, rooms.low, rooms.three, rooms.in_size)) rooms.room;
                grown = omega (arith, n1, nl, no, nb);
                more = omega (arith, n1, nl, no, nb);
                same = all-is ∙ ec;
                stands = uncut st (words bs₅) s B₅ k lo d key (leaf Ls) (leaf Os) (rows + 2) (omega (arith, nl, no, one-row)) rooms.more (omega (arith, la, all-is, ec, h.inside)) (record {
                  here = rw nl here₅;
                  one = record {
                    rows = rw (nl, one-mul (s.variables + 6), next) one-part;
                    perm = perm₅ lo Ls (omega arith) (omega (arith, la, all-is)) less-entries;
                  };
                  two = record {
                    rows = rw (nl, no, one-mul (s.variables + 6), next₂) two-part;
                    perm = perm₅ (lo + length Ls) Os (omega arith) (omega (arith, la, all-is)) other-entries₃;
                  };
                });
                before = λ j l. under j (omega (arith, rooms.low)) ∙ w₁.before j l;
                between = λ j a b. under j b ∙ w₁.behind j (omega (arith, all-is, ec));
                later = λ i l. after-all i l (omega (arith, n1, node-next s k, ap (at.node_at s) n1-sum)) (omega (arith, ap (at.node_at s) n3-sum, node-add s k 3));
                behind = λ j l.
                    w₅.behind j (omega (arith, l₅, rooms.three)) ∙ w₄.behind j (omega (arith, l₄, rooms.three)) ∙ w₃.behind j (omega (arith, rooms.three))
                    ∙ w₂.behind j (omega (arith, moved-is, rooms.row, rooms.end)) ∙ w₁.behind j (omega (arith, all-is, rooms.low, rooms.three));
              }
            where
              n1-sum : k + nodes (leaf es) ≡ k + 1
              n1-sum = omega (arith, nodes-leaf es)

              n3-sum : k + nodes (branch d key (leaf Ls) (leaf Os)) ≡ k + 3
              n3-sum = omega (arith, nodes-branch d key (leaf Ls) (leaf Os), nodes-leaf Ls, nodes-leaf Os)

              after-all : (i : ℕ) → at.node_at s (k + nodes (leaf es)) + i < at.node_at s rows → at.node_at s (k + nodes (leaf es)) ≡ at.node_at s k + (s.variables + 6)
                  → at.node_at s (k + nodes (branch d key (leaf Ls) (leaf Os))) ≡ at.node_at s k + (s.variables + 6) + 2 * (s.variables + 6)
                  → get_or (words bs₅) (at.node_at s (k + nodes (branch d key (leaf Ls) (leaf Os))) + i) 0 ≡ get_or (words bs) (at.node_at s (k + nodes (leaf es)) + i) 0
              after-all i l e f =
                  let j = at.node_at s k + (s.variables + 6) + 2 * (s.variables + 6) + i in
                  let b : i < at.node_at s rows - (at.node_at s k + (s.variables + 6)) = omega arith in
                  rw (e, f)
                  (w₅.behind j (omega (arith, l₅)) ∙ w₄.behind j (omega (arith, l₄)) ∙ w₃.behind j (omega arith) ∙ w₂.inside i (omega (arith, moved-is))
                  ∙ part-get (words bs₁) (at.node_at s k + (s.variables + 6)) (at.node_at s rows - (at.node_at s k + (s.variables + 6))) i b
                  ∙ w₁.behind (at.node_at s k + (s.variables + 6) + i) (omega (arith, all-is, rooms.low)))
