-- The five queries of calls, from their parts. Assumes nothing.
use mathlib.Core.Path.{◌≡◌, refl, sym, ap, ◌∙◌}
use mathlib.Core.List.{List}
use Prim.Native.Nat.{ℕ, ◌+◌, ◌*◌, ◌≤◌}
use native.Mathlib.Omega.{arith}
use lib.ListN.{length, take}
use lib.Seq.{length-take-le}
use Rattle.words.specs.Words.{words, paste_w}
use Rattle.words.proofs.Laws.{length-paste_w}
use Rattle.monomial.specs.Monomial.{Canonical, Starts, first}
use Rattle.monomial.proofs.Firsts.{starts-wide, starts-whole, first-whole}
use Rattle.monomial.proofs.Laws.{canonical-more, canonical-result, length-result, result-small}
use Rattle.monomial.specs.Operations.{result_words}
use Rattle.monomial.specs.declared.ordered_ops.Op.{Op}
use Rattle.fast_compare.specs.Map as map
use Rattle.index_theory.specs.Entries.{quotient_of}
use Rattle.index_theory.specs.Ranges.{dividend}
use Rattle.index_theory.specs.Searches.{containment, reducing, high, low, singular}
use Rattle.index_theory.specs.State.{monomials, State}
use Rattle.index_image.specs.Head.{HeadOk}
use Rattle.index_image.specs.Layout.{Is}
use Rattle.index_image.specs.declared.Shape.{Shape}
use Rattle.index_image.proofs.EntryWords.{no-ratio}
use Rattle.index_image.proofs.Reading.{front-pasted}
use Rattle.index_image.proofs.Shapes.{code-monomial}
use Rattle.index_image.proofs.Slots.{MadeAside}
use Rattle.label_ranges.specs.Ended.{Ends, From}
use Rattle.kd_query.specs.Posed.{Poses, PosedFor}
use Rattle.query_words.specs.Asked.{search_number}
use Rattle.query_words.specs.declared.Search.TheVariants.{Contained, Reducer, High, Low, Singular}
use Rattle.kd_query.proofs.Ranging.{high-range, reducing-range, low-range, singular-range}
use Rattle.label_ranges.proofs.Lending.{shape_is, kind-of}

-- ---- a ratio made in a scratch
module _ (m : ℕ) (few : m ≤ 64) (a b : List ℕ) (ca : Canonical 1 m a) (cb : Canonical 1 m b) where
  pub ratio-fits : (Starts 1 4096 a) × ((Starts 1 4096 b) × (length (result_words Op.Ratio (first 1 a) (first 1 b)) ≤ m + 1))
  ratio-fits =
      (starts-wide (starts-whole ca), (starts-wide (starts-whole cb), rw (first-whole ca, first-whole cb) (omega (arith, length-result m a b ca cb Op.Ratio (omega arith)))))

  pub ratio-canonical : (ws : List ℕ) → ws ≡ result_words Op.Ratio a b → Canonical 2 4096 ws
  ratio-canonical ws e =
      rw e (canonical-more (omega arith) (omega arith) (canonical-result m a b ca cb Op.Ratio (omega arith) (λ z. absurd (let q : ◌≡◌ {A = ℕ} 0 1 = cc in omega arith))))

  pub ratio-made : (space made : List ℕ) (n : ℕ) → 4 * (m + 1) ≤ length space → n ≡ length (result_words Op.Ratio (first 1 a) (first 1 b))
      → made ≡ paste_w space 0 (result_words Op.Ratio (first 1 a) (first 1 b)) → MadeAside made (result_words Op.Ratio a b) n
  ratio-made space made n room en' em' =
      let en : n ≡ length (result_words Op.Ratio a b) = rw (first-whole ca, first-whole cb) at en' in
      let em : made ≡ paste_w space 0 (result_words Op.Ratio a b) = rw (first-whole ca, first-whole cb) at em' in
      let short = length-result m a b ca cb Op.Ratio (omega arith) in
      let len : length made ≡ length space = ap length em ∙ length-paste_w space 0 (result_words Op.Ratio a b) (omega arith) in
      record {
        room = omega arith;
        size = length-take-le (4 * n) made (omega arith);
        are = ap (λ (l : List ℕ). words (take (4 * n) l)) em ∙ front-pasted space (result_words Op.Ratio a b) n (result-small m a b ca cb Op.Ratio) en;
      }

pub quotient-ends : (bs : List ℕ) (i : ℕ) (a b rs : List ℕ) (up down : ℕ) → rs ≡ result_words Op.Ratio a b → ((st : State) → Is st bs → Ends st.labels (map.value_of i rs) up down)
    → (st : State) → Is st bs → Ends st.labels (quotient_of i a b) up down
unfolding quotient_of
quotient-ends bs i a b rs up down e E st I = rw e at (E st I)

module _ (bs : List ℕ) (s : Shape) (h : HeadOk (words bs) (length bs) s) where
  plain_of : (st : State) → Is st bs → s.kind ≡ 0 → st.kind ≡ monomials
  plain_of st I k = code-monomial st.kind (ap (λ (y : Shape). y.kind) (shape_is bs s h st I) ∙ k)

  -- ---- the queries
  module _ (ms Q : List ℕ) where
    pub contained-posed : s.kind ≡ 0 → Poses bs ms (search_number Contained) 0 0 0 Q → PosedFor bs ms (containment (words ms)) Q
    unfolding PosedFor Poses search_number dividend
    contained-posed k P st I = let p = plain_of st I k in P st (containment (words ms)) I p refl refl (λ r. no-ratio (sym p ∙ r))

    module _ (k : s.kind ≡ 1) where
      pub reducer-posed : (v : map.Value) (up down : ℕ) → ((st : State) → Is st bs → Ends st.labels v up down) → Poses bs ms (search_number Reducer) 0 up down Q
          → PosedFor bs ms (reducing v (words ms)) Q
      unfolding PosedFor Poses search_number dividend
      reducer-posed v up down E P st I =
          let r = kind-of bs s h st I k in
          P st (reducing v (words ms)) I r refl refl (λ _. reducing-range st I.valid r v up down (E st I) (words ms))

      pub high-posed : (v : map.Value) (up down floor : ℕ) → ((st : State) → Is st bs → Ends st.labels v up down)
          → Poses bs ms (search_number High) up 4294967296 floor Q → PosedFor bs ms (high v (words ms)) Q
      unfolding PosedFor Poses search_number dividend
      high-posed v up down floor E P st I =
          let r = kind-of bs s h st I k in
          P st (high v (words ms)) I r refl refl (λ _. high-range st I.valid r v up down (E st I) (words ms) floor)

      pub low-posed : (i from to floor : ℕ) → ((st : State) → Is st bs → From st.labels i from) → ((st : State) → Is st bs → From st.labels (i + 1) to)
          → Poses bs ms (search_number Low) from to floor Q → PosedFor bs ms (low i (words ms)) Q
      unfolding PosedFor Poses search_number dividend
      low-posed i from to floor F T P st I =
          let r = kind-of bs s h st I k in
          P st (low i (words ms)) I r refl refl (λ _. low-range st I.valid r (words ms) i from to floor (F st I) (T st I))

      pub singular-posed : (i : ℕ) (l : List ℕ) (up down to floor : ℕ) → ((st : State) → Is st bs → Ends st.labels (quotient_of i (words ms) l) up down)
          → ((st : State) → Is st bs → From st.labels (i + 1) to) → Poses bs ms (search_number Singular) up to floor Q → PosedFor bs ms (singular i (words ms) l) Q
      unfolding PosedFor Poses search_number dividend
      singular-posed i l up down to floor E T P st I =
          let r = kind-of bs s h st I k in
          P st (singular i (words ms) l) I r refl refl (λ _. singular-range st I.valid r i (words ms) l up down to floor (E st I) (T st I))
