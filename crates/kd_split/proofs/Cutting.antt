-- The writes of `split_leaf`, and what they come to for whatever leaf stood there. Assumes nothing.
use mathlib.Core.Path.{◌≡◌, refl, sym, ◌∙◌}
use mathlib.Core.Bool.{true, false}
use mathlib.Core.List.{List, [], ◌∷◌, ◌++◌}
use Prim.Native.Nat.{ℕ, ◌+◌, ◌-◌, ◌*◌, ◌^◌, ◌≤◌, ◌<◌}
use native.Mathlib.Omega.{arith}
use lib.ListN.{length, get_or, length-append}
use Rattle.words.specs.Words.{words, paste_w}
use Rattle.words.specs.Tables.{part}
use Rattle.words.proofs.Laws.{Bytes, Words, length-words, words_small}
use Rattle.words.proofs.Tables.{length_part, part-get, Small, small-each, small-cons, small-nil}
use Rattle.kd_theory.specs.Bag.{keep}
use Rattle.kd_theory.specs.Tree.{leaf, branch}
use Rattle.index_theory.specs.State.{State, power_in}
use Rattle.index_image.specs.Layout.{node_words}
use Rattle.index_image.specs.Shape as at
use Rattle.index_image.specs.Walk as walk
use Rattle.index_image.specs.Walk.{power, map_maxima}
use Rattle.index_image.specs.Rows.{entries_from}
use Rattle.index_image.specs.declared.Shape.{Shape}
use Rattle.kd_image.specs.HasTree.{Holds, HasTree, Became}
use Rattle.kd_dimension.specs.Choice.{key_in, mark_in}
use Rattle.kd_sides.specs.Sides.{on_side, lesses, others}
use Rattle.kd_rows.specs.Leaves.{leaf_words}
use Rattle.kd_split.specs.Split.{Splittable, SplitAt}
use Rattle.kd_image.proofs.Standing.{based, leaf-row, length-row}
use Rattle.index_image.proofs.Bounds.{size_small}
use Rattle.index_image.proofs.Trees.{nodes-leaf}
use Rattle.kd_image.proofs.Reading.{holds-ready}
use Rattle.kd_split.proofs.Splitting.{Wrote, wrote, leaf-words, Rooms, rooms, small-less, small-other, holds₃, holds₄, less-entries, other_entries, split-became}
use Rattle.kd_sides.proofs.Writing.{sides-length, parts-length, parts-small}
use Rattle.kd_rows.proofs.Writing.{leaf-small}

part_small : (bs : List ℕ) (a n : ℕ) → Bytes bs → a + n ≤ length (words bs) → Words (part (words bs) a n)
part_small bs a n by h = (small-each (part (words bs) a n) (λ i l. rw (part-get (words bs) a n i (omega (arith, length_part (words bs) a n h))) (words_small bs by (a + i)))).each

module _ (bs : List ℕ) (s : Shape) (k lo rows c d : ℕ) (u : Splittable bs s k lo rows c d) where
  abbrev W : List ℕ
  W = words bs

  abbrev A : ℕ
  A = at.node_at s k

  abbrev w : ℕ
  w = s.variables + 6

  abbrev pw₀ : ℕ → ℕ → ℕ
  pw₀ = key_in (words bs) s

  -- a leaf that stands there
  record Stood (st : State) (es : List ℕ) : Type 0 where
    has : HasTree st (words bs) s k lo rows (leaf es)
    count : c ≡ length es
    are : entries_from (words bs) s lo c ≡ es

  row-of-leaf : (st : State) (es : List ℕ) → HasTree st (words bs) s k lo rows (leaf es) → get_or (words bs) (at.node_at s k + 2) 0 ≡ length es
  row-of-leaf st es h = (leaf-row st (words bs) s (based h.holds) k lo rows es (omega (arith, h.fits, nodes-leaf es)) h.rows-to h.stands).count-is

  stood : (st : State) (es : List ℕ) → HasTree st (words bs) s k lo rows (leaf es) → Stood st es
  stood st es h =
      let e : c ≡ length es = u.count ∙ sym (row-of-leaf u.state u.es u.has) ∙ row-of-leaf st es h in
      record { has = h; count = e; are = rw e h.stands.perm }

  -- the numbers of the calls
  pub record SplitNumbers : Type 0 where
    pub ready : walk.Ready (words bs) s
    pub few : lo + c ≤ s.entries
    pub count : c ≤ 4096
    pub dim : d ≤ 64
    pub vars : s.variables ≤ 64
    pub row : at.node_at s k + (s.variables + 6) ≤ at.node_at s rows
    pub end : 4 * (at.node_at s rows + 2 * (s.variables + 6)) ≤ length bs
    pub three : 4 * (at.node_at s k + 3 * (s.variables + 6)) ≤ length bs
    pub small : at.node_at s k + 3 * (s.variables + 6) ≤ 1413206

  pub split-numbers : SplitNumbers
  split-numbers =
      let r = rooms u.state s bs k lo rows c d 0 0 u.es u.has u.count u.many pw₀ in
      let H = u.has.holds in
      record {
        ready = holds-ready u.state W s H;
        few = omega (arith, u.has.inside, u.count);
        count = omega (arith, u.has.inside, u.count, H.range.few, H.range.cap-to);
        dim = omega (arith, u.dim, H.range.vars-to, H.range.kind-to);
        vars = H.range.vars-to;
        row = r.row;
        end = omega (arith, r.end, r.in_size, r.room);
        three = omega (arith, r.three, r.in_size, r.room);
        small = omega (arith, r.three, r.in_size, size_small s H.range);
      }

  pub less-few : (x n : ℕ) → n ≡ length (lesses (words bs) s d x lo c) → n ≤ c
  less-few x n en = let N = split-numbers in omega (arith, en, parts-length W s N.ready d x lo c N.few)

  module _ (x key : ℕ) (small-key : key < 2 ^ 32) (ek : key ≡ mark_in (words bs) s d x (others (words bs) s d x lo c)) where
    my-rooms : (st : State) (es : List ℕ) (z : Stood st es) → Rooms st s bs k lo rows c d x key es z.has z.count u.many (key_in (words bs) s)
    my-rooms st es z = rooms st s bs k lo rows c d x key es z.has z.count u.many pw₀

    module _ (bs₁ : List ℕ) (by₁ : Bytes bs₁) (e₁ : bs₁ ≡ paste_w bs (at.permutation_at s + lo) (lesses (words bs) s d x lo c ++ others (words bs) s d x lo c)) where
      one : (st : State) (es : List ℕ) → Stood st es → Wrote bs bs₁ (at.permutation_at s + lo) (keep (on_side (key_in (words bs) s) d x true) es ++ keep (on_side (key_in (words bs) s) d x false) es)
      one st es z =
          let r = my-rooms st es z in
          let N = split-numbers in
          let small = rw z.are at (parts-small W s N.ready d x lo c N.few) in
          let la = length-append (keep (on_side pw₀ d x true) es) (keep (on_side pw₀ d x false) es) in
          wrote bs bs₁ (at.permutation_at s + lo) (keep (on_side pw₀ d x true) es ++ keep (on_side pw₀ d x false) es) small
          (omega (arith, la, sides-length pw₀ d x es, z.count, r.low, r.three, r.in_size, r.room)) (rw z.are at e₁)

      module _ (bs₂ bs₃ : List ℕ) (q : ℕ)
          (e₂ : bs₂ ≡ paste_w bs₁ (at.node_at s k + (s.variables + 6) + 2 * (s.variables + 6))
          (part (words bs₁) (at.node_at s k + (s.variables + 6)) (at.node_at s rows - (at.node_at s k + (s.variables + 6)))))
          (eq : q ≡ get_or (words bs₂) (at.node_at s k + 4) 0)
          (e₃ : bs₃ ≡ paste_w bs₂ (at.node_at s k) ((d + 1) ∷ key ∷ c ∷ 1 ∷ q ∷ [])) where
        two : (st : State) (es : List ℕ) → Stood st es → Wrote bs₁ bs₂ (at.node_at s k + (s.variables + 6) + 2 * (s.variables + 6))
            (part (words bs₁) (at.node_at s k + (s.variables + 6)) (at.node_at s rows - (at.node_at s k + (s.variables + 6))))
        two st es z =
            let N = split-numbers in
            let l₁ = (one st es z).long in
            let in₁ : A + w + (at.node_at s rows - (A + w)) ≤ length (words bs₁) = omega (arith, N.row, N.end, l₁, length-words bs₁) in
            wrote bs₁ bs₂ (A + w + 2 * w) (part (words bs₁) (A + w) (at.node_at s rows - (A + w))) (part_small bs₁ (A + w) (at.node_at s rows - (A + w)) by₁ in₁)
            (omega (arith, length_part (words bs₁) (A + w) (at.node_at s rows - (A + w)) in₁, N.row, N.end, l₁)) e₂

        three : (st : State) (es : List ℕ) → Stood st es → Wrote bs₂ bs₃ (at.node_at s k) ((d + 1) ∷ key ∷ c ∷ 1 ∷ q ∷ [])
        three st es z =
            let N = split-numbers in
            let w₂ = two st es z in
            let small-q : q < 2 ^ 32 = omega (arith, eq, w₂.before (A + 4) (omega arith), words_small bs₁ by₁ (A + 4)) in
            let all : Small ((d + 1) ∷ key ∷ c ∷ 1 ∷ q ∷ []) = small-cons (omega (arith, N.dim))
            (small-cons small-key (small-cons (omega (arith, N.count)) (small-cons (omega arith) (small-cons small-q small-nil)))) in
            wrote bs₂ bs₃ A ((d + 1) ∷ key ∷ c ∷ 1 ∷ q ∷ []) all.each (omega (arith, N.three, w₂.long, (one st es z).long)) e₃

        held₃ : (st : State) (es : List ℕ) → Stood st es → Holds st (words bs₃) s
        held₃ st es z = holds₃ st s bs k lo rows c d x key es z.has z.count u.many pw₀ bs₁ (one st es z) bs₂ bs₃ q (two st es z) eq (three st es z)

        -- what the first `write_leaf` asks
        pub ready₃ : walk.Ready (words bs₃) s
        ready₃ = holds-ready u.state (words bs₃) s (held₃ u.state u.es (stood u.state u.es u.has))

        pub long₃ : length bs₃ ≡ length bs
        long₃ = let z = stood u.state u.es u.has in (three u.state u.es z).long ∙ (two u.state u.es z).long ∙ (one u.state u.es z).long

        module _ (n : ℕ) (en : n ≡ length (lesses (words bs) s d x lo c)) (bs₄ : List ℕ) (e₄ : bs₄ ≡ paste_w bs₃ (at.node_at s k + (s.variables + 6)) (leaf_words (words bs₃) s lo n)) where
          n-is : (st : State) (es : List ℕ) → Stood st es → n ≡ length (keep (on_side (key_in (words bs) s) d x true) es)
          n-is st es z = en ∙ rw z.are refl

          four : (st : State) (es : List ℕ) → Stood st es → Wrote bs₃ bs₄ (at.node_at s k + (s.variables + 6))
              (node_words s.variables st.map_maxima (power_in st.entries) 0 0 0 (keep (on_side (key_in (words bs) s) d x true) es))
          four st es z =
              let N = split-numbers in
              let Ls = keep (on_side pw₀ d x true) es in
              let H = held₃ st es z in
              let ent : entries_from (words bs₃) s lo n ≡ Ls = rw (n-is st es z)
              (less-entries st s bs k lo rows c d x key es z.has z.count u.many pw₀ bs₁ (one st es z) bs₂ bs₃ q (two st es z) eq (three st es z)) in
              let same = leaf-words st (words bs₃) s lo n Ls H ent (small-less st s bs k lo rows c d x key es z.has z.count u.many pw₀) in
              let small = rw same at (leaf-small (words bs₃) s lo n N.vars (rw ent (omega (arith, sides-length pw₀ d x es, z.count, N.count)))) in
              let l = length-row st W s (based z.has.holds) 0 0 0 Ls in
              wrote bs₃ bs₄ (A + w) (node_words s.variables st.map_maxima (power_in st.entries) 0 0 0 Ls) small (omega (arith, l, N.three, long₃)) (rw same at e₄)

          held₄ : (st : State) (es : List ℕ) → Stood st es → Holds st (words bs₄) s
          held₄ st es z = holds₄ st s bs k lo rows c d x key es z.has z.count u.many pw₀ bs₁ (one st es z) bs₂ bs₃ q (two st es z) eq (three st es z) bs₄ (four st es z)

          pub ready₄ : walk.Ready (words bs₄) s
          ready₄ = holds-ready u.state (words bs₄) s (held₄ u.state u.es (stood u.state u.es u.has))

          pub long₄ : length bs₄ ≡ length bs
          long₄ = (four u.state u.es (stood u.state u.es u.has)).long ∙ long₃

          pub split_done : (bs₅ : List ℕ) → bs₅ ≡ paste_w bs₄ (at.node_at s k + 2 * (s.variables + 6)) (leaf_words (words bs₄) s (lo + n) (c - n)) → SplitAt bs bs₅ s k lo rows d x
          unfolding SplitAt
          split_done bs₅ e₅ st es h =
              let z = stood st es h in
              let N = split-numbers in
              let Os = keep (on_side pw₀ d x false) es in
              let H = held₄ st es z in
              let ent : entries_from (words bs₄) s (lo + n) (c - n) ≡ Os = rw (n-is st es z)
              (other_entries st s bs k lo rows c d x key es z.has z.count u.many pw₀ bs₁ (one st es z) bs₂ bs₃ q (two st es z) eq (three st es z) bs₄ (four st es z)) in
              let same = leaf-words st (words bs₄) s (lo + n) (c - n) Os H ent (small-other st s bs k lo rows c d x key es z.has z.count u.many pw₀) in
              let small = rw same at (leaf-small (words bs₄) s (lo + n) (c - n) N.vars (rw ent (omega (arith, sides-length pw₀ d x es, z.count, N.count)))) in
              let l = length-row st W s (based z.has.holds) 0 0 0 Os in
              let five : Wrote bs₄ bs₅ (A + 2 * w) (node_words s.variables st.map_maxima (power_in st.entries) 0 0 0 Os) =
              wrote bs₄ bs₅ (A + 2 * w) (node_words s.variables st.map_maxima (power_in st.entries) 0 0 0 Os) small (omega (arith, l, N.three, long₄)) (rw same at e₅) in
              turned (ek ∙ rw z.are refl) (split-became st s bs k lo rows c d x key es z.has z.count u.many pw₀ bs₁ (one st es z) bs₂ bs₃ q (two st es z) eq
              (three st es z) bs₄ (four st es z) bs₅ five)
            where
              turned : {a b : ℕ} {st : State} {es Ls Os : List ℕ} → a ≡ b → Became st bs bs₅ s k lo rows (rows + 2) (leaf es) (branch d a (leaf Ls) (leaf Os))
                  → Became st bs bs₅ s k lo rows (rows + 2) (leaf es) (branch d b (leaf Ls) (leaf Os))
              turned e y = rw e at y
