-- The words of a query read off again, and the request that they stand for. Assumes nothing.
use mathlib.Core.Path.{◌≡◌, refl, sym, ap, subst, ◌∙◌}
use mathlib.Core.Bool.{Bool, cond}
use mathlib.Core.Logic.{∥∥₁_elim}
use Rattle.std.proofs.Props.{props}
use mathlib.Core.List.{List, [], ◌∷◌, ◌++◌}
use Prim.Native.Nat.{ℕ, ◌+◌, ◌*◌, ◌/◌, ◌%◌, ◌^◌, ◌≤◌, ◌<◌}
use native.Mathlib.Omega.{arith}
use lib.Dec.{ltb}
use lib.ListN.{length, get_or}
use Rattle.words.specs.Words.{words, paste_w}
use Rattle.words.specs.Tables.{part}
use Rattle.words.proofs.Laws.{Words, length-paste_w, paste_w-before}
use Rattle.words.proofs.Tables.{part-get, paste_w-append, Small, small-cons, small-nil}
use Rattle.words.proofs.Pasting.{part-pasted}
use Rattle.monomial.specs.Monomial.{Canonical, pow}
use Rattle.divmask.specs.Mask.{mask, vector}
use Rattle.divmask.specs.Tracker.{Maxima}
use Rattle.divmask.proofs.Masks.{mask-small}
use Rattle.divmask.proofs.Vectors.{vector-small}
use Rattle.index_theory.specs.Ranges.{dividend, by_lm, limit_of}
use Rattle.index_theory.specs.Searches.{Query, containment, reducing, high, low, singular, kind_for}
use Rattle.index_theory.specs.State.{ratioed, State}
use Rattle.index_image.specs.Head.{HeadOk}
use Rattle.index_image.specs.Layout.{Is, Sound}
use Rattle.index_image.specs.Shape as at
use Rattle.index_image.specs.Walk.{map_maxima}
use Rattle.index_image.specs.declared.Shape.{Shape}
use Rattle.index_image.proofs.Images as of
use Rattle.query_words.specs.Asked.{search_number, search_of, slot_at, Range, Laid, Asks}
use Rattle.kd_query.specs.Posed.{lm_divides, Poses}
use Rattle.query_writing.specs.Written.{limit_for, Limited, mask_words, range_words, slot_words, place_words, shape_words}
use Rattle.query_words.specs.declared.Search.{Search}
use Rattle.query_words.specs.declared.Search.TheVariants.{Contained, Reducer, High, Low, Singular}
use Rattle.query_writing.proofs.Posing.{node-small, slot_small, laid}
use Rattle.label_ranges.proofs.Lending.{shape_is}

-- ---- the words, in their order
-- what the words Q say, where those of the limits are as in Q₁
pub record WordsAre (Q₁ Q : List ℕ) (s : Shape) (lm : Bool) (n x v from to floor : ℕ) : Type 0 where
  pub laid-is : Laid Q s
  pub kept : (j : ℕ) → j < 66 → get_or Q j 0 ≡ get_or Q₁ j 0
  pub search : get_or Q 66 0 ≡ n
  pub mask_is : get_or Q 68 0 ≡ x
  pub vector-is : get_or Q 69 0 ≡ v
  pub node-mask : get_or Q 70 0 ≡ cond lm x 4294967295
  pub from_is : get_or Q 72 0 + 4294967296 * get_or Q 73 0 ≡ from
  pub to_is : get_or Q 74 0 + 4294967296 * get_or Q 75 0 ≡ to
  pub floor-is : get_or Q 76 0 + 4294967296 * get_or Q 77 0 ≡ floor
  pub slot : get_or Q 78 0 ≡ slot_at s lm 0
  pub mask_at : get_or Q 79 0 ≡ at.mask_at s.variables (slot_at s lm 0)

pair : (a x y : ℕ) → x ≡ a % 4294967296 → y ≡ a / 4294967296 → x + 4294967296 * y ≡ a
pair a x y p q = omega arith

module _ (s : Shape) (R : at.InRange s) (lm : Bool) (n x v from to floor : ℕ) (hn : n < 4294967296) (hx : x < 4294967296) (hv : v < 4294967296)
    (hf : from < 2 ^ 64) (ht : to < 2 ^ 64) (hl : floor < 2 ^ 64) where
  asked : List ℕ
  asked = (mask_words n lm x v ++ range_words from to floor) ++ slot_words s lm

  masks-long : length (mask_words n lm x v) ≡ 6
  unfolding mask_words
  masks-long = refl

  both_long : length (mask_words n lm x v ++ range_words from to floor) ≡ 12
  unfolding mask_words range_words
  both_long = refl

  asked-long : length asked ≡ 14
  unfolding asked mask_words range_words slot_words
  asked-long = refl

  asked-small : Words asked
  unfolding asked mask_words range_words slot_words
  asked-small =
      let S = slot_small s R lm in
      let z : Small (n ∷ 0 ∷ x ∷ v ∷ cond lm x 4294967295 ∷ 0 ∷ from % 4294967296 ∷ from / 4294967296 ∷ to % 4294967296 ∷ to / 4294967296 ∷ floor % 4294967296
      ∷ floor / 4294967296 ∷ slot_at s lm 0 ∷ at.mask_at s.variables (slot_at s lm 0) ∷ []) =
      small-cons (omega arith) (small-cons (omega arith) (small-cons (omega arith)
      (small-cons (omega arith) (small-cons (omega (arith, node-small lm x _ hx refl)) (small-cons (omega arith)
      (small-cons (omega arith) (small-cons (omega arith) (small-cons (omega arith) (small-cons (omega arith) (small-cons (omega arith) (small-cons (omega arith)
      (small-cons (omega arith) (small-cons (omega (arith, R.vars-to)) small-nil))))))))))))) in
      z.each

  module _ (b₁ b₂ b₃ b₄ b₅ : List ℕ) (room : 368 ≤ length b₁)
      (e₂ : b₂ ≡ paste_w b₁ 66 (mask_words n lm x v)) (e₃ : b₃ ≡ paste_w b₂ 72 (range_words from to floor))
      (e₄ : b₄ ≡ paste_w b₃ 78 (slot_words s lm)) (e₅ : b₅ ≡ paste_w b₄ 80 (place_words s ++ shape_words s)) where
    together : b₄ ≡ paste_w b₁ 66 asked
    unfolding asked
    together =
        let M = mask_words n lm x v in
        let N = range_words from to floor in
        let p : b₃ ≡ paste_w b₁ 66 (M ++ N) = e₃ ∙ rw e₂ (paste_w-append b₁ 66 M 72 N (omega (arith, masks-long)) (omega arith)) in
        e₄ ∙ rw p (paste_w-append b₁ 66 (M ++ N) 78 (slot_words s lm) (omega (arith, both_long)) (omega arith))

    long : length b₄ ≡ length b₁
    long = ap length together ∙ length-paste_w b₁ 66 asked (omega (arith, asked-long))

    -- a word before the shape's
    early : (j : ℕ) → j < 80 → get_or (words b₅) j 0 ≡ get_or (words (paste_w b₁ 66 asked)) j 0
    early j h =
        ap (λ (b : List ℕ). get_or (words b) j 0) e₅ ∙ paste_w-before b₄ 80 (place_words s ++ shape_words s) j (omega (arith, long)) h
        ∙ ap (λ (b : List ℕ). get_or (words b) j 0) together

    word : (i j : ℕ) → j ≡ 66 + i → i < 14 → get_or (words b₅) j 0 ≡ get_or asked i 0
    word i j e h =
        let W = words (paste_w b₁ 66 asked) in
        let p : part W 66 14 ≡ asked = ap (part W 66) (sym asked-long) ∙ part-pasted b₁ 66 asked asked-small (omega (arith, asked-long)) in
        early j (omega arith) ∙ rw e (sym (part-get W 66 14 i h) ∙ ap (λ (l : List ℕ). get_or l i 0) p)

    pub asked-are : WordsAre (words b₁) (words b₅) s lm n x v from to floor
    unfolding asked mask_words range_words slot_words
    asked-are = record {
      laid-is = rw e₅ (laid b₄ s R (omega (arith, long)));
      kept = λ j h. early j (omega arith) ∙ paste_w-before b₁ 66 asked j (omega arith) h;
      search = word 0 66 (omega arith) (omega arith);
      mask_is = word 2 68 (omega arith) (omega arith);
      vector-is = word 3 69 (omega arith) (omega arith);
      node-mask = word 4 70 (omega arith) (omega arith);
      from_is = pair from _ _ (word 6 72 (omega arith) (omega arith)) (word 7 73 (omega arith) (omega arith));
      to_is = pair to _ _ (word 8 74 (omega arith) (omega arith)) (word 9 75 (omega arith) (omega arith));
      floor-is = pair floor _ _ (word 10 76 (omega arith) (omega arith)) (word 11 77 (omega arith) (omega arith));
      slot = word 12 78 (omega arith) (omega arith);
      mask_at = word 13 79 (omega arith) (omega arith);
    }

-- ---- the search's number says which monomial is to divide
lm-number : (x : Search) → lm_divides x ≡ ltb (search_number x) 3
unfolding lm_divides search_number
lm-number Contained = refl
lm-number Reducer = refl
lm-number High = refl
lm-number Low = refl
lm-number Singular = refl

by-search : (r : Query) → by_lm r ≡ ltb (search_of r) 3
unfolding by_lm
by-search (containment q) = refl
by-search (reducing v q) = refl
by-search (high v q) = refl
by-search (low i s) = refl
by-search (singular i s l) = refl

pub number_small : (x : Search) → search_number x < 5
unfolding search_number
number_small Contained = omega arith
number_small Reducer = omega arith
number_small High = omega arith
number_small Low = omega arith
number_small Singular = omega arith

limit-of : (r : Query) (v : ℕ) → limit_of r v ≡ limit_for (by_lm r) (dividend r) v
unfolding limit_of limit_for
limit-of r v = refl

-- ---- what an image tells
module _ (bs : List ℕ) (s : Shape) (h : HeadOk (words bs) (length bs) s) (st : State) (I : Is st bs) where
  pub vars-is : st.variables ≡ s.variables
  vars-is = ap (λ (y : Shape). y.variables) (shape_is bs s h st I)

  pub map_is : map_maxima (words bs) s ≡ st.map_maxima
  map_is = ap (map_maxima (words bs)) (sym (shape_is bs s h st I)) ∙ (of.pieces bs st I).map

  map-fits : Maxima s.variables (map_maxima (words bs) s)
  map-fits = rw (map_is, ← vars-is) I.valid.map-good

-- however the image is known to be sound
pub map-good : (bs : List ℕ) (s : Shape) → HeadOk (words bs) (length bs) s → ∥ Sound bs ∥₁ → Maxima s.variables (map_maxima (words bs) s)
map-good bs s h S = ∥∥₁_elim S (hlevel props) (λ z. map-fits bs s h z.state z.is)

-- ---- the request
module _ (bs ms Q₁ Q : List ℕ) (s : Shape) (h : HeadOk (words bs) (length bs) s) (can : Canonical 1 s.variables (words ms)) (x : Search) (masks from to floor : ℕ)
    (L : Limited Q₁ s (limit_for (lm_divides x) (words ms)))
    (em : masks ≡ mask s.variables (map_maxima (words bs) s) (pow 1 (words ms)) + 4294967296 * vector s.variables (pow 1 (words ms)))
    (A : WordsAre Q₁ Q s (lm_divides x) (search_number x) (masks % 4294967296) (masks / 4294967296) from to floor) where
  low_half : masks % 4294967296 ≡ mask s.variables (map_maxima (words bs) s) (pow 1 (words ms))
  low_half = omega (arith, em, mask-small s.variables (map_maxima (words bs) s) (pow 1 (words ms)))

  high_half : masks / 4294967296 ≡ vector s.variables (pow 1 (words ms))
  high_half = omega (arith, em, mask-small s.variables (map_maxima (words bs) s) (pow 1 (words ms)))

  module _ (st : State) (r : Query) (I : Is st bs) (home : st.kind ≡ kind_for r) (is : search_of r ≡ search_number x) (em' : words ms ≡ dividend r)
      (range : st.kind ≡ ratioed → Range st r from to floor) where
    lm-is : lm_divides x ≡ by_lm r
    lm-is = lm-number x ∙ ap (λ (k : ℕ). ltb k 3) (sym is) ∙ sym (by-search r)

    asks : Asks st r ms s Q
    asks =
        let vars = vars-is bs s h st I in
        record {
          laid = A.laid-is;
          home = home;
          search = A.search ∙ sym is;
          monomial = em';
          canonical = rw (← em', vars) can;
          masked = A.mask_is ∙ low_half ∙ rw (map_is bs s h st I, ← vars, em') refl;
          vectored = A.vector-is ∙ high_half ∙ rw (← vars, em') refl;
          node-masked = A.node-mask ∙ rw (← lm-is, A.mask_is) refl;
          slot = A.slot ∙ rw lm-is refl;
          mask_at = A.mask_at ∙ rw lm-is refl;
          limits = λ v l. A.kept (1 + s.kind + v) (omega (arith, h.range.kind-to, h.range.vars-to)) ∙ L.each v l ∙ rw (lm-is, em') (sym (limit-of r v));
          range = λ k. rw (A.from_is, A.to_is, A.floor-is) (range k);
        }

  pub posed : Poses bs ms (search_number x) from to floor Q
  unfolding Poses
  posed st r I home is em' range =
      let e = A.laid-is.shape in
      record {
        is = I;
        shape = sym e ∙ sym (shape_is bs s h st I);
        asks = subst (λ (y : Shape). Asks st r ms y Q) e (asks st r I home is em' range);
      }

-- the same, from the writes
pub all-written : (bs ms b₁ b₂ b₃ b₄ b₅ : List ℕ) (s : Shape) → HeadOk (words bs) (length bs) s → Canonical 1 s.variables (words ms)
    → (x : Search) (n : ℕ) (lm : Bool) (masks from to floor : ℕ)
    → (from < 2 ^ 64) × ((to < 2 ^ 64) × (floor < 2 ^ 64)) → 368 ≤ length b₁ → n ≡ search_number x → lm ≡ lm_divides x → Limited (words b₁) s (limit_for lm (words ms))
    → masks ≡ mask s.variables (map_maxima (words bs) s) (pow 1 (words ms)) + 4294967296 * vector s.variables (pow 1 (words ms))
    → b₂ ≡ paste_w b₁ 66 (mask_words n lm (masks % 4294967296) (masks / 4294967296)) → b₃ ≡ paste_w b₂ 72 (range_words from to floor)
    → b₄ ≡ paste_w b₃ 78 (slot_words s lm) → b₅ ≡ paste_w b₄ 80 (place_words s ++ shape_words s) → Poses bs ms (search_number x) from to floor (words b₅)
all-written bs ms b₁ b₂ b₃ b₄ b₅ s h can x n lm masks from to floor (hf, (ht, hl)) room en el L em e₂ e₃ e₄ e₅ =
    let lim : Limited (words b₁) s (limit_for (lm_divides x) (words ms)) = rw el at L in
    let d₂ : b₂ ≡ paste_w b₁ 66 (mask_words (search_number x) (lm_divides x) (masks % 4294967296) (masks / 4294967296)) = rw (en, el) at e₂ in
    let d₄ : b₄ ≡ paste_w b₃ 78 (slot_words s (lm_divides x)) = rw el at e₄ in
    let hv : masks / 4294967296 < 4294967296 = omega (
      arith,
      em,
      mask-small s.variables (map_maxima (words bs) s) (pow 1 (words ms)),
      vector-small s.variables
          (pow 1 (words ms)),
    ) in
    posed bs ms (words b₁) (words b₅) s h can x masks from to floor lim em
    (asked-are s h.range (lm_divides x) (search_number x) (masks % 4294967296) (masks / 4294967296) from to floor (omega (arith, number_small x)) (omega arith) hv hf ht hl b₁
    b₂ b₃ b₄ b₅ room d₂ e₃ d₄ e₅)
