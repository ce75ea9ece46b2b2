-- A tree that became another, step by step and side by side. Assumes nothing.
use mathlib.Core.Path.{◌≡◌, refl, sym, ap, ◌∙◌}
use mathlib.Core.List.{List, [], ◌∷◌, ◌++◌}
use Prim.Native.Nat.{ℕ, suc, ◌+◌, ◌-◌, ◌*◌, ◌^◌, ◌≤◌, ◌<◌}
use native.Mathlib.Nat.{add-mul}
use native.Mathlib.Decide.{dec_le}
use native.Mathlib.Omega.{arith}
use lib.ListN.{length, get_or, set, take, drop, length-append, length-set}
use lib.Seq.{get_or-set_same, get_or-set_other, length-take-le, drop-append-add, drop-drop}
use Rattle.words.specs.Words.{words, bytes, put_w, paste_w}
use Rattle.words.proofs.Laws.{length-words, length-bytes, length-put_w, words-put_w, put_w-paste}
use Rattle.words.proofs.Tables.{part-get, row_fits}
use Rattle.kd_theory.specs.Bag.{Same}
use Rattle.kd_theory.specs.Tree.{Tree, leaf, branch, inorder, count, nodes, Keys, Ordered, Kept}
use Rattle.kd_theory.proofs.BagLaws.{occurs-append}
use Rattle.kd_theory.proofs.TreeLaws.{some-length, few-nodes}
use Rattle.index_theory.specs.State.{State, keys, power_in}
use Rattle.index_image.specs.Shape as at
use Rattle.index_image.specs.declared.Shape.{Shape}
use Rattle.index_image.proofs.Trees.{some-node, nodes-branch, nodes-leaf}
use Rattle.index_image.proofs.Once.{get_in}
use Rattle.kd_image.specs.HasTree.{Holds, HasTree, Became}
use Rattle.kd_image.proofs.Standing.{Based, based, part_same, part-kept, node-add, node-next, node-le, Row, row_same, ordered-small, row_inside, Cut, cut, uncut}

-- words written in the image leave the bytes past it
pub paste-rest : (bs : List ℕ) (i : ℕ) (ws : List ℕ) (n : ℕ) → i + length ws ≤ n → 4 * n ≤ length bs → drop (4 * n) (paste_w bs i ws) ≡ drop (4 * n) bs
unfolding paste_w
paste-rest bs i ws n h l =
    let a = take (4 * i) bs in
    let j = 4 * n - 4 * i - 4 * length ws in
    let la : length a ≡ 4 * i = length-take-le (4 * i) bs (omega arith) in
    let e : 4 * n ≡ length a + (length (bytes ws) + j) = omega (arith, length-bytes ws) in
    let e2 : 4 * i + 4 * length ws + j ≡ 4 * n = omega arith in
    ap (λ (m : ℕ). drop m (a ++ (bytes ws ++ drop (4 * i + 4 * length ws) bs))) e
    ∙ drop-append-add a (bytes ws ++ drop (4 * i + 4 * length ws) bs) (length (bytes ws) + j)
    ∙ drop-append-add (bytes ws) (drop (4 * i + 4 * length ws) bs) j
    ∙ drop-drop j (4 * i + 4 * length ws) bs ∙ ap (λ (m : ℕ). drop m bs) e2

pub put_rest : (bs : List ℕ) (i x n : ℕ) → i + 1 ≤ n → 4 * n ≤ length bs → drop (4 * n) (put_w bs i x) ≡ drop (4 * n) bs
put_rest bs i x n h l = rw (put_w-paste bs i x (omega arith)) (paste-rest bs i (x ∷ []) n h l)

-- a tree of no entries is one leaf
empty-nodes : (K : Keys) (t : Tree) → Ordered K t → count t ≡ 0 → nodes t ≡ 1
empty-nodes K (leaf es) o e = nodes-leaf es
empty-nodes K (branch d k l r) o e = omega (arith, length-append (inorder l) (inorder r), some-length (inorder l) o.0.some-less)

-- the two ends of a number of rows that grew
module _ (s : Shape) (n n' a b : ℕ) (e : n' + a ≡ n + b) where
  pub node-grown : n' * (s.variables + 6) + a * (s.variables + 6) ≡ n * (s.variables + 6) + b * (s.variables + 6)
  node-grown = let z = ap (λ (x : ℕ). x * (s.variables + 6)) e in omega (arith, z, add-mul n' a (s.variables + 6), add-mul n b (s.variables + 6))

module _ (st : State) (s : Shape) where
  pub became-refl : (bs : List ℕ) (k lo rows : ℕ) (t : Tree) → HasTree st (words bs) s k lo rows t → Became st bs bs s k lo rows rows t t
  became-refl bs k lo rows t h = record {
    long = refl;
    rest = refl;
    grown = refl;
    more = omega arith;
    same = refl;
    stands = h.stands;
    before = λ i l. refl;
    between = λ i l r. refl;
    later = λ i l. refl;
    behind = λ i l. refl;
  }

  pub became-trans : (a b c : List ℕ) (k lo n₁ n₂ n₃ : ℕ) (t u v : Tree) → Became st a b s k lo n₁ n₂ t u → Became st b c s k lo n₂ n₃ u v → Became st a c s k lo n₁ n₃ t v
  became-trans a b c k lo n₁ n₂ n₃ t u v x y = record {
    long = y.long ∙ x.long;
    rest = y.rest ∙ x.rest;
    grown = omega (arith, x.grown, y.grown);
    more = omega (arith, x.more, y.more);
    same = y.same ∙ x.same;
    stands = y.stands;
    before = λ i l. y.before i l ∙ x.before i l;
    between = λ i l r. y.between i (omega (arith, x.same)) r ∙ x.between i l r;
    later = λ i l. y.later i (omega (arith, node-grown s n₁ n₂ (nodes t) (nodes u) x.grown, add-mul k (nodes t) (s.variables + 6), add-mul k (nodes u) (s.variables + 6))) ∙ x.later i l;
    behind = λ i l. y.behind i l ∙ x.behind i (omega (arith, node-le s n₂ n₃ (omega (arith, y.grown, y.more))));
  }

  -- ---- what else the image holds is kept
  module _ (bs bs' : List ℕ) (k lo rows rows' : ℕ) (t u : Tree) (h : HasTree st (words bs) s k lo rows t) (x : Became st bs bs' s k lo rows rows' t u) where
    abbrev W : List ℕ
    W = words bs

    abbrev U : List ℕ
    U = words bs'

    long : length U ≡ length W
    long = length-words bs' ∙ rw x.long (sym (length-words bs))

    inside : at.permutation_at s + lo + count t ≤ at.labels_at s
    inside = omega (arith, h.inside, h.holds.range.few)

    before-labels : at.labels_at s + at.labels_size s ≤ at.node_at s k
    before-labels = omega arith

    places : Ordered (keys st) u → (i : ℕ) → i < s.entries → get_or U (at.permutation_at s + i) 0 < s.entries
    places o i l =
        elim (dec_le lo i) [
          | no n ↦ rw (x.before (at.permutation_at s + i) (omega arith)) (h.holds.places i l)
          | yes n ↦ elim (dec_le (lo + count t) i) [
            | yes m ↦ rw (x.between (at.permutation_at s + i) (omega arith) (omega (arith, before-labels, h.holds.range.few))) (h.holds.places i l)
            | no m ↦ mine (i - lo) (omega arith) (omega arith)
          ]
        ]
      where
        mine : (j : ℕ) → j < count t → i ≡ lo + j → get_or U (at.permutation_at s + i) 0 < s.entries
        mine j b e =
            let c : j < count u = omega (arith, x.same) in
            let z : get_or (inorder u) j 0 ≡ get_or U (at.permutation_at s + lo + j) 0 = ap (λ (p : List ℕ). get_or p j 0) (sym x.stands.perm) ∙ part-get U (at.permutation_at s + lo) (count u) j c in
            let ei : at.permutation_at s + i ≡ at.permutation_at s + lo + j = omega arith in
            rw (ei, ← z) (omega (arith, ordered-small st u o (get_or (inorder u) j 0) (get_in (inorder u) j c), h.holds.size))

    holds : Ordered (keys st) u → Holds st U s
    holds o = record {
      valid = h.holds.valid;
      kind = h.holds.kind;
      vars = h.holds.vars;
      cap = h.holds.cap;
      size = h.holds.size;
      range = h.holds.range;
      room = omega (arith, long, h.holds.room);
      map = part-kept W U (at.map_at s.variables) s.variables (omega (arith, h.holds.room)) long (λ i a b. x.before i (omega arith)) ∙ h.holds.map;
      entries = λ i l.
          part-kept W U (at.entry_at s i) (at.entry_width s) (omega (arith, h.holds.room, row_fits i s.capacity (at.entry_width s) (omega (arith, h.holds.range.few)))) long
          (λ j a b. x.before j (omega (arith, row_fits i s.capacity (at.entry_width s) (omega (arith, h.holds.range.few))))) ∙ h.holds.entries i l;
      labels = part-kept W U (at.labels_at s) (at.labels_size s) (omega (arith, h.holds.room)) long (λ i a b. x.between i (omega (arith, inside)) (omega (arith, before-labels))) ∙ h.holds.labels;
      places = places o;
    }

    -- the tree that stands there now may be searched on
    pub tree-became : Kept (keys st) t u → HasTree st (words bs') s k lo rows' u
    tree-became q = record {
      holds = holds q.ordered;
      stands = x.stands;
      ordered = q.ordered;
      fits = omega (arith, x.grown, h.fits);
      rows-to = elim (dec_le 1 (count t)) [
        | yes p ↦ omega (arith, few-nodes (keys st) u q.ordered (omega (arith, x.same)), x.grown, x.same, h.room)
        | no p ↦ omega (arith, x.grown, some-node t, empty-nodes (keys st) u q.ordered (omega (arith, x.same)), h.rows-to)
      ];
      inside = omega (arith, x.same, h.inside);
      room = omega (arith, x.grown, x.same, h.room);
    }

  -- ---- the sides of a branch
  module _ (W : List ℕ) (k lo rows d key : ℕ) (a b : Tree) (h : HasTree st W s k lo rows (branch d key a b)) where
    pub parts : Cut st W s (based h.holds) k lo d key a b
    parts =
        cut st W s (based h.holds) k lo d key a b rows (omega (arith, h.fits, nodes-branch d key a b)) h.rows-to (omega (arith, h.inside, length-append (inorder a) (inorder b))) h.stands

    pub some_one : 0 < count a
    some_one = some-length (inorder a) h.ordered.0.some-less

    pub some-two : 0 < count b
    some-two = some-length (inorder b) h.ordered.0.some-other

    pub tree-less : HasTree st W s (k + 1) lo rows a
    tree-less = record {
      holds = h.holds;
      stands = parts.one;
      ordered = h.ordered.1;
      fits = omega (arith, h.fits, nodes-branch d key a b);
      rows-to = h.rows-to;
      inside = omega (arith, h.inside, length-append (inorder a) (inorder b));
      room = omega (arith, h.room, nodes-branch d key a b, length-append (inorder a) (inorder b), few-nodes (keys st) b h.ordered.2 some-two);
    }

    pub tree-other : HasTree st W s (k + 1 + nodes a) (lo + count a) rows b
    tree-other = record {
      holds = h.holds;
      stands = parts.two;
      ordered = h.ordered.2;
      fits = omega (arith, h.fits, nodes-branch d key a b);
      rows-to = h.rows-to;
      inside = omega (arith, h.inside, length-append (inorder a) (inorder b));
      room = omega (arith, h.room, nodes-branch d key a b, length-append (inorder a) (inorder b), few-nodes (keys st) a h.ordered.1 some_one);
    }

  -- where the rows of a branch end
  end_of : (k d key : ℕ) (a b : Tree) → at.node_at s (k + nodes (branch d key a b)) ≡ at.node_at s (k + 1 + nodes a) + nodes b * (s.variables + 6)
  end_of k d key a b =
      let e : k + nodes (branch d key a b) ≡ k + 1 + nodes a + nodes b = omega (arith, nodes-branch d key a b) in
      ap (at.node_at s) e ∙ node-add s (k + 1 + nodes a) (nodes b)

  module _ (bs bs₁ : List ℕ) (k lo rows rows₁ d key : ℕ) (a b : Tree) (h : HasTree st (words bs) s k lo rows (branch d key a b)) where
    abbrev w : ℕ
    w = s.variables + 6

    abbrev B : Based st (words bs) s
    B = based h.holds

    row-in : at.node_at s k + w ≤ length (words bs)
    row-in = omega (arith, node-next s k, row_inside st (words bs) s B (k + 1) rows (omega (arith, h.fits, nodes-branch d key a b)) h.rows-to)

    both : count (branch d key a b) ≡ count a + count b
    both = length-append (inorder a) (inorder b)

    low : at.permutation_at s + lo + (count a + count b) ≤ at.node_at s k
    low = omega (arith, h.inside, both, h.holds.range.few)

    -- ---- the other side became another
    pub other-became : (b₁ : Tree) → Became st bs bs₁ s (k + 1 + nodes a) (lo + count a) rows rows₁ b b₁ → Kept (keys st) b b₁
        → Became st bs bs₁ s k lo rows rows₁ (branch d key a b) (branch d key a b₁)
    other-became b₁ x q =
        let p = parts (words bs) k lo rows d key a b h in
        let W = words bs in
        let U = words bs₁ in
        let long : length U ≡ length W = length-words bs₁ ∙ rw x.long (sym (length-words bs)) in
        let both₁ : count (branch d key a b₁) ≡ count a + count b₁ = length-append (inorder a) (inorder b₁) in
        let e1 = end_of k d key a b in
        let e2 = end_of k d key a b₁ in
        let n1 = nodes-branch d key a b in
        let n2 = nodes-branch d key a b₁ in
        let next = node-next s k in
        let ends = node-add s (k + 1) (nodes a) in
        let kept : (i : ℕ) → at.node_at s k ≤ i → i < at.node_at s (k + 1 + nodes a) → get_or U i 0 ≡ get_or W i 0 = λ i l r. x.between i (omega (arith, low)) r in
        let few : k + 1 + nodes a ≤ rows = omega (arith, h.fits) in
        let fit = row_inside st W s B (k + 1 + nodes a) rows few h.rows-to in
        let r₀ = p.here in
        let here₀ : Row U s.variables st.map_maxima (power_in st.entries) (at.node_at s k) (suc d) key (nodes a) (inorder a ++ inorder b) = record {
          tag_is = kept (at.node_at s k) (omega arith) (omega (arith, next, ends)) ∙ r₀.tag_is;
          key-is = kept (at.node_at s k + 1) (omega arith) (omega (arith, next, ends)) ∙ r₀.key-is;
          count-is = kept (at.node_at s k + 2) (omega arith) (omega (arith, next, ends)) ∙ r₀.count-is;
          skip_is = kept (at.node_at s k + 3) (omega arith) (omega (arith, next, ends)) ∙ r₀.skip_is;
          mask_is = kept (at.node_at s k + 4) (omega arith) (omega (arith, next, ends)) ∙ r₀.mask_is;
          slot_is = part-kept W U (at.node_at s k + 5) (s.variables + 1) (omega (arith, row-in)) long (λ i l r. kept i (omega arith) (omega (arith, next, ends))) ∙ r₀.slot_is;
        } in
        let mixed : Same (inorder a ++ inorder b) (inorder a ++ inorder b₁) = λ n. simp (occurs-append, q.same n) in
        let B₁ : Based st U s = record { valid = B.valid; vars = B.vars; range = B.range; room = omega (arith, long, B.room) } in
        record {
          long = x.long;
          rest = x.rest;
          grown = omega (arith, x.grown);
          more = omega (arith, x.more);
          same = omega (arith, both, both₁, x.same);
          stands = uncut st U s B₁ k lo d key a b₁ rows₁ (omega (arith, x.grown, h.fits))
              (tree-became bs bs₁ (k + 1 + nodes a) (lo + count a) rows rows₁ b b₁ (tree-other (words bs) k lo rows d key a b h) x q).rows-to
              (omega (arith, h.inside, both, x.same)) (record {
                here = row_same s.variables st.map_maxima (power_in st.entries) U (at.node_at s k) (suc d) key (nodes a) (inorder a ++ inorder b)
                    (inorder a ++ inorder b₁) mixed (omega (arith, both, both₁, x.same)) (omega (arith, both, some_one (words bs) k lo rows d key a b h)) here₀;
                one = record {
                  rows = part-kept W U (at.node_at s (k + 1)) (nodes a * w) (omega (arith, ends, fit)) long (λ i l r. kept i (omega (arith, next)) (omega (arith, ends))) ∙ p.one.rows;
                  perm = part-kept W U (at.permutation_at s + lo) (count a) (omega (arith, low, row-in)) long (λ i l r. x.before i (omega arith)) ∙ p.one.perm;
                };
                two = x.stands;
              });
          before = λ i l. x.before i (omega arith);
          between = λ i l r. x.between i (omega (arith, both)) (omega (arith, next, ends));
          later = λ i l. moved (e-sum b) (e-sum b₁) i (x.later i (omega (arith, ap (at.node_at s) (e-sum b))));
          behind = λ i l. x.behind i l;
        }
      where
        e-sum : (c : Tree) → k + nodes (branch d key a c) ≡ k + 1 + nodes a + nodes c
        e-sum c = omega (arith, nodes-branch d key a c)

        moved : {m n m₁ n₁ : ℕ} → n ≡ m → n₁ ≡ m₁ → (i : ℕ) → get_or (words bs₁) (at.node_at s m₁ + i) 0 ≡ get_or (words bs) (at.node_at s m + i) 0
            → get_or (words bs₁) (at.node_at s n₁ + i) 0 ≡ get_or (words bs) (at.node_at s n + i) 0
        moved e f i z = rw (e, f) z

    -- ---- the less side became another, and the skip was written
    pub less-became : (bs₂ : List ℕ) (a₁ : Tree) → Became st bs bs₁ s (k + 1) lo rows rows₁ a a₁ → Kept (keys st) a a₁ → bs₂ ≡ put_w bs₁ (at.node_at s k + 3) (nodes a₁)
        → Became st bs bs₂ s k lo rows rows₁ (branch d key a b) (branch d key a₁ b)
    less-became bs₂ a₁ x q w₂ =
        let p = parts (words bs) k lo rows d key a b h in
        let W = words bs in
        let U = words bs₁ in
        let X = words bs₂ in
        let hl = tree-became bs bs₁ (k + 1) lo rows rows₁ a a₁ (tree-less (words bs) k lo rows d key a b h) x q in
        let long₁ : length U ≡ length W = length-words bs₁ ∙ rw x.long (sym (length-words bs)) in
        let skip-in : 4 * (at.node_at s k + 3) + 4 ≤ length bs₁ = omega (arith, row-in, length-words bs, x.long) in
        let small : nodes a₁ < 2 ^ 32 = omega (arith, hl.fits, hl.rows-to, h.holds.range.cap-to) in
        let set_is : X ≡ set U (at.node_at s k + 3) (nodes a₁) = ap words w₂ ∙ words-put_w bs₁ (at.node_at s k + 3) (nodes a₁) small skip-in in
        let long₂ : length X ≡ length U = rw set_is (length-set U (at.node_at s k + 3) (nodes a₁)) in
        let put : (i : ℕ) → (i ≡ at.node_at s k + 3 → ⊥) → get_or X i 0 ≡ get_or U i 0 = λ i n. rw set_is (get_or-set_other U (at.node_at s k + 3) i (nodes a₁) 0 n) in
        let both₁ : count (branch d key a₁ b) ≡ count a₁ + count b = length-append (inorder a₁) (inorder b) in
        let n1 = nodes-branch d key a b in
        let n2 = nodes-branch d key a₁ b in
        let next = node-next s k in
        let ends = node-add s (k + 1) (nodes a) in
        let ends₁ = node-add s (k + 1) (nodes a₁) in
        let e1 = end_of k d key a b in
        let e2 = end_of k d key a₁ b in
        let grown = node-grown s rows rows₁ (nodes a) (nodes a₁) x.grown in
        let last = row_inside st W s B (k + nodes (branch d key a b)) rows h.fits h.rows-to in
        let last₁ = row_inside st U s (based hl.holds) (k + 1 + nodes a₁ + nodes b) rows₁ (omega (arith, h.fits, x.grown)) hl.rows-to in
        let ends₂ = node-add s (k + 1 + nodes a₁) (nodes b) in
        let end-in = node-le s (k + nodes (branch d key a b)) rows h.fits in
        let kept : (i : ℕ) → at.permutation_at s + lo + count a ≤ i → i < at.node_at s (k + 1) → (i ≡ at.node_at s k + 3 → ⊥) → get_or X i 0 ≡ get_or W i 0 = λ i l r n. put i n ∙ x.between i l r in
        let r₀ = p.here in
        let here₀ : Row X s.variables st.map_maxima (power_in st.entries) (at.node_at s k) (suc d) key (nodes a₁) (inorder a ++ inorder b) = record {
          tag_is = kept (at.node_at s k) (omega (arith, low)) (omega (arith, next)) (λ e. omega arith) ∙ r₀.tag_is;
          key-is = kept (at.node_at s k + 1) (omega (arith, low)) (omega (arith, next)) (λ e. omega arith) ∙ r₀.key-is;
          count-is = kept (at.node_at s k + 2) (omega (arith, low)) (omega (arith, next)) (λ e. omega arith) ∙ r₀.count-is;
          skip_is = rw set_is (get_or-set_same U (at.node_at s k + 3) (nodes a₁) 0 (omega (arith, row-in, long₁)));
          mask_is = kept (at.node_at s k + 4) (omega (arith, low)) (omega (arith, next)) (λ e. omega arith) ∙ r₀.mask_is;
          slot_is = part-kept W X (at.node_at s k + 5) (s.variables + 1) (omega (arith, row-in)) (long₂ ∙ long₁)
              (λ i l r. kept i (omega (arith, low)) (omega (arith, next)) (λ e. omega arith)) ∙ r₀.slot_is;
        } in
        let mixed : Same (inorder a ++ inorder b) (inorder a₁ ++ inorder b) = λ n. simp (occurs-append, q.same n) in
        let B₁ : Based st X s = record { valid = B.valid; vars = B.vars; range = B.range; room = omega (arith, long₁, long₂, B.room) } in
        record {
          long = rw w₂ (length-put_w bs₁ (at.node_at s k + 3) (nodes a₁)) ∙ x.long;
          rest = rw w₂ (put_rest bs₁ (at.node_at s k + 3) (nodes a₁) (at.size s)
              (omega (arith, next, node-le s (k + 1) (2 * s.capacity - 1) (omega (arith, h.fits, h.rows-to)))) (omega (arith, B.room, length-words bs, x.long))) ∙ x.rest;
          grown = omega (arith, x.grown);
          more = omega (arith, x.more);
          same = omega (arith, both, both₁, x.same);
          stands = uncut st X s B₁ k lo d key a₁ b rows₁ (omega (arith, x.grown, h.fits)) hl.rows-to (omega (arith, h.inside, both, x.same)) (record {
            here = row_same s.variables st.map_maxima (power_in st.entries) X (at.node_at s k) (suc d) key (nodes a₁) (inorder a ++ inorder b)
                (inorder a₁ ++ inorder b) mixed (omega (arith, both, both₁, x.same)) (omega (arith, both, some_one (words bs) k lo rows d key a b h)) here₀;
            one = record {
              rows = part-kept U X (at.node_at s (k + 1)) (nodes a₁ * w) (omega (arith, ends₁, ends₂, last₁)) long₂ (λ i l r. put i (λ e. omega (arith, next))) ∙ x.stands.rows;
              perm = part-kept U X (at.permutation_at s + lo) (count a₁) (omega (arith, low, row-in, long₁, x.same)) long₂ (λ i l r. put i (λ e. omega (arith, low, x.same))) ∙ x.stands.perm;
            };
            two = record {
              rows = part_same W X (at.node_at s (k + 1 + nodes a)) (at.node_at s (k + 1 + nodes a₁)) (nodes b * w) (omega (arith, e1, last)) (omega (arith, ends₂, last₁, long₂))
                  (λ i l. put (at.node_at s (k + 1 + nodes a₁) + i) (λ e. omega (arith, next, ends₁)) ∙ x.later i (omega (arith, e1, end-in))) ∙ p.two.rows;
              perm = part_same W X (at.permutation_at s + (lo + count a)) (at.permutation_at s + (lo + count a₁)) (count b) (omega (arith, low, row-in))
                  (omega (arith, low, row-in, long₁, long₂, x.same))
                  (λ i l. same_place i x.same (kept (at.permutation_at s + (lo + count a) + i) (omega arith) (omega (arith, low, next)) (λ e. omega (arith, low)))) ∙ p.two.perm;
            };
          });
          before = λ i l. put i (λ e. omega (arith, low)) ∙ x.before i l;
          between = λ i l r. put i (λ e. omega arith) ∙ x.between i (omega (arith, both)) (omega (arith, next));
          later = λ i l. shifted (nodes b * w + i) i (omega (arith, e2)) (omega (arith, e1))
              (put (at.node_at s (k + 1 + nodes a₁) + (nodes b * w + i)) (λ e. omega (arith, next, ends₁)) ∙ x.later (nodes b * w + i) (omega (arith, e1)));
          behind = λ i l. put i (λ e. omega (arith, next, node-le s (k + 1) rows₁ (omega (arith, hl.fits)))) ∙ x.behind i l;
        }
      where
        same_place : (i : ℕ) → count a₁ ≡ count a → get_or (words bs₂) (at.permutation_at s + (lo + count a) + i) 0 ≡ get_or (words bs) (at.permutation_at s + (lo + count a) + i) 0
            → get_or (words bs₂) (at.permutation_at s + (lo + count a₁) + i) 0 ≡ get_or (words bs) (at.permutation_at s + (lo + count a) + i) 0
        same_place i e z = rw e z

        shifted : (j i : ℕ) → at.node_at s (k + nodes (branch d key a₁ b)) + i ≡ at.node_at s (k + 1 + nodes a₁) + j → at.node_at s (k + nodes (branch d key a b)) + i ≡ at.node_at s (k + 1 + nodes a) + j
            → get_or (words bs₂) (at.node_at s (k + 1 + nodes a₁) + j) 0 ≡ get_or (words bs) (at.node_at s (k + 1 + nodes a) + j) 0
            → get_or (words bs₂) (at.node_at s (k + nodes (branch d key a₁ b)) + i) 0 ≡ get_or (words bs) (at.node_at s (k + nodes (branch d key a b)) + i) 0
        shifted j i e f z = rw (e, f) z
