-- Queries as the theory serves them. Assumes nothing.
use mathlib.Core.Path.{◌≡◌, refl, sym, ap, ◌∙◌, subst}
use mathlib.Core.Bool.{Bool, true, false, cond}
use mathlib.Core.List.{List}
use mathlib.Core.Option.{none, some}
use mir.Val.{bool_byte}
use Prim.Native.Nat.{ℕ, ◌+◌, ◌≤◌, ◌<◌}
use native.Mathlib.Omega.{arith}
use lib.Dec.{ltb}
use lib.ListN.{length, get_or}
use borrow.Author.Tests.{lt-ltb, le-ltb}
use Rattle.std.specs.Prelude.{Option, Some, None, Ok, IfSome, MatchOption, is_some}
use Rattle.std.proofs.lemmas.Option.{IfSome_then}
use Rattle.words.specs.Kinds.{answer_word}
use Rattle.words.specs.Words.{words}
use Rattle.fast_compare.specs.Map.{Value}
use Rattle.index_theory.specs.Entries.{Entry}
use Rattle.index_theory.specs.State.{State, Valid, ratioed}
use Rattle.index_theory.specs.Searches.{Query, reducing, is_regular, find}
use Rattle.index_theory.specs.Calls.{query, yes, found, found_reducer, told, serve, with_tree}
use Rattle.index_image.specs.Layout.{code, Is, Sound}
use Rattle.index_image.specs.Head.{HeadOk}
use Rattle.index_image.specs.Walk.{Ready, label}
use Rattle.index_image.specs.declared.Shape.{Shape}
use Rattle.index_image.proofs.Images as image
use Rattle.query_words.specs.Asked.{shape_in, floor_in, lowered, label_at, Laid}
use Rattle.kd_query.specs.Posed.{PosedFor}
use Rattle.query_words.specs.Rooted.{theory_option, Rooted, RootReady, Answer, Answered}
use Rattle.listing.specs.Listed.{Root}
use Rattle.listing.proofs.Wholes as whole
use Rattle.index_replies.specs.Replied.{Replied}

-- ---- what is known of an image and its shape
module _ (bs : List ℕ) (s : Shape) (R : Root bs s) where
  pub sound-of : Sound bs
  sound-of = record { state = R.state; is = R.is }

  pub head_of : HeadOk (words bs) (length bs) s
  head_of = subst (λ (x : Shape). HeadOk (words bs) (length bs) x) (sym R.shape) (image.head_ok bs R.state R.is)

  pub few-variables : s.variables ≤ 64
  few-variables = head_of.range.vars-to

  pub two-kinds : (s.kind ≡ 0 → ⊥) → s.kind ≡ 1
  two-kinds z = omega (arith, z, head_of.range.kind-to)

module _ (bs : List ℕ) (S : Sound bs) where
  pub head-room : 96 ≤ length bs
  head-room = omega (arith, (image.head_ok bs S.state S.is).room)

  pub root-of : (k m c n r : ℕ) → k ≡ get_or (words bs) 1 0 → m ≡ get_or (words bs) 2 0 → c ≡ get_or (words bs) 3 0 → n ≡ get_or (words bs) 4 0 → r ≡ get_or (words bs) 5 0
      → Root bs (record { kind = k; variables = m; capacity = c; entries = n; nodes = r })
  root-of k m c n r ek em ec en er =
      let h = image.head_ok bs S.state S.is in
      record { state = S.state; is = S.is; shape = rw (ek ∙ h.kind, em ∙ h.variables, ec ∙ h.capacity, en ∙ h.entries, er ∙ h.nodes) }

-- ---- answer words
pub yes-is : (place : Option ℕ) (t : Bool) (n : ℕ) → t ≡ is_some place → n ≡ bool_byte t → answer_word n ≡ yes (theory_option place)
unfolding yes
yes-is None t n et en = rw (en, et)
yes-is (Some e) t n et en = rw (en, et)

pub bit-small : (t : Bool) (n : ℕ) → n ≡ bool_byte t → n < 268435456
bit-small true n e = omega (arith, e)
bit-small false n e = omega (arith, e)

pub found-is : (st : State) → Valid st → (place : Option ℕ) → IfSome place (λ e. e < length st.entries) → (n : ℕ) → MatchOption place (n ≡ 0) (λ e. n ≡ e + 1)
    → answer_word n ≡ found st.entries (theory_option place)
unfolding found
found-is st v None h n q = ap answer_word q
found-is st v (Some e) h n q = ap answer_word q ∙ ap (λ k. answer_word (k + 1)) (sym (v.numbered e h))

module _ (s : Shape) (r : Query) (bs ms Q : List ℕ) (R : Root bs s) (p : PosedFor bs ms r Q) where
  rooted : (st : State) → Is st bs → Rooted st r bs ms Q
  unfolding PosedFor
  rooted st I = p st I

  pub ready : RootReady bs ms Q
  ready = record { state = R.state; request = r; root = rooted R.state R.is }

  module _ (bs' : List ℕ) (place : Option ℕ) (a : Answered bs bs' ms Q place) where
    pub answer : (st : State) → Is st bs → Answer st r bs bs' place
    unfolding Answered
    answer st I = a st r (rooted st I)

    pub small : IfSome place (λ e. e < 4096)
    small = IfSome_then place (answer R.state R.is).small (λ e h. omega (arith, R.is.valid.few, R.is.valid.cap-to))

    pub replied : (n : ℕ) → n < 268435456 → ((st : State) → Is st bs → answer_word n ≡ told st.entries r (theory_option place)) → Replied (λ st. serve st (query r)) bs bs' (Ok n)
    unfolding serve
    replied n h t = record {
      answer = λ st I. t st I ∙ ap (told st.entries r) (answer st I).found;
      small = h;
      bytes = λ st I. (answer st I).bytes;
    }

    -- the number of a base divisor + 1, or 0
    pub found_small : (n : ℕ) → MatchOption place (n ≡ 0) (λ e. n ≡ e + 1) → n < 268435456
    found_small n q = go place small q
      where
        go : (place : Option ℕ) → IfSome place (λ e. e < 4096) → MatchOption place (n ≡ 0) (λ e. n ≡ e + 1) → n < 268435456
        go None h q = omega (arith, q)
        go (Some e) h q = omega (arith, q)

    pub found_as : (n : ℕ) → MatchOption place (n ≡ 0) (λ e. n ≡ e + 1) → (st : State) → Is st bs → answer_word n ≡ found st.entries (theory_option place)
    found_as n q st I = found-is st I.valid place (answer st I).small n q

-- ---- a reducer
pub reducer-none : (es : List Entry) (v : Value) → answer_word 0 ≡ found_reducer es v none
unfolding found_reducer
reducer-none es v = refl

reducer-is : (st : State) → Valid st → (v : Value) (e : ℕ) → e < length st.entries → (g : Bool) → is_regular st.entries v e ≡ g
    → answer_word (e + 1 + cond g 0 134217728) ≡ found_reducer st.entries v (some e)
unfolding found_reducer
reducer-is st val v e h g q = rw (q, val.numbered e h)

-- its label is read behind the search, which changes no label
module _ (s : Shape) (v : Value) (q bs ms Q : List ℕ) (R : Root bs s) (p : PosedFor bs ms (reducing v q) Q) (bs' : List ℕ) (e : ℕ) (a : Answered bs bs' ms Q (Some e)) where
  inside-of : (st : State) → Is st bs → e < length st.entries
  inside-of st I = (answer s (reducing v q) bs ms Q R p bs' (Some e) a st I).small

  module _ (st : State) (I : Is st bs) where
    posed : Rooted st (reducing v q) bs ms Q
    posed = rooted s (reducing v q) bs ms Q R p st I

    home : st.kind ≡ ratioed
    home = posed.asks.home

    after : Is (with_tree st (find st (reducing v q)).tree) bs'
    after = (answer s (reducing v q) bs ms Q R p bs' (Some e) a st I).after

    label-ready-of : Ready (words bs') (shape_in Q)
    label-ready-of =
        let z = whole.ready bs' (with_tree st (find st (reducing v q)).tree) after in
        rw posed.shape (record { range = image.range bs st I; room = z.room; map = z.map; lms = z.lms; places = z.places; rows = z.rows })

    regular-is : is_regular st.entries v e ≡ ltb (label (words bs') (shape_in Q) e) (floor_in Q)
    unfolding label lowered
    regular-is =
        let he = inside-of st I in
        let l : label (words bs') (shape_in Q) e ≡ label_at st e = rw posed.shape (image.label_is bs' (with_tree st (find st (reducing v q)).tree) after home e he) in
        (posed.asks.range home).floor-is refl e he ∙ ap (λ l. ltb l (floor_in Q)) (sym l)

    told-as : (g : Bool) (l : ℕ) → l ≡ label (words bs') (shape_in Q) e → ltb l (floor_in Q) ≡ g → answer_word (e + 1 + cond g 0 134217728) ≡ found_reducer st.entries v (some e)
    told-as g l el eg = reducer-is st I.valid v e (inside-of st I) g (regular-is ∙ ap (λ l. ltb l (floor_in Q)) (sym el) ∙ eg)

  -- what is asked of the label's reader
  pub label-ready : Ready (words bs') (shape_in Q)
  label-ready = label-ready-of R.state R.is

  pub query-laid : Laid Q (shape_in Q)
  query-laid = (posed R.state R.is).asks.laid

  pub query-kind : (shape_in Q).kind ≡ 1
  query-kind = rw (posed R.state R.is).shape (ap code (home R.state R.is))

  pub inside : e < (shape_in Q).entries
  inside = rw (posed R.state R.is).shape (inside-of R.state R.is)

  module _ (l : ℕ) (el : l ≡ label (words bs') (shape_in Q) e) where
    pub told-regular : l < floor_in Q → (st : State) → Is st bs → answer_word (e + 1) ≡ told st.entries (reducing v q) (some e)
    told-regular hl st I = ap answer_word (omega arith) ∙ told-as st I true l el (lt-ltb l (floor_in Q) hl)

    pub told-singular : floor_in Q ≤ l → (st : State) → Is st bs → answer_word (e + 1 + 134217728) ≡ told st.entries (reducing v q) (some e)
    told-singular hl st I = told-as st I false l el (le-ltb l (floor_in Q) hl)
