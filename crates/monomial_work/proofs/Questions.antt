-- The questions of a door, one law for each way out of it. Assumes nothing.
use mathlib.Core.Path.{◌≡◌, refl, sym, ap, ◌∙◌}
use mathlib.Core.Bool.{Bool, true, false, cond, not, ◌&&◌}
use mathlib.Core.List.{List, ◌++◌}
use Prim.Native.Nat.{ℕ, ◌+◌, ◌*◌, ◌≤◌, ◌<◌}
use native.Mathlib.Omega.{arith}
use native.Mathlib.Decide.{dec_le}
use lib.Dec.{eqb, leb}
use lib.ListN.{length, take, drop}
use lib.Seq.{take_at, length-take-le}
use borrow.Author.Tests.{le-leb, lt-leb, leb-true}
use Rattle.words.specs.Words.{words, bytes, paste_w}
use Rattle.words.proofs.Laws.{paste_w-front, length-paste_w, length-bytes, words-bytes}
use Rattle.monomial.specs.Monomial.{Canonical, lent, pow}
use Rattle.monomial.specs.Operations.{result_words, all_below}
use Rattle.monomial.specs.declared.ordered_ops.Op.{Op}
use Rattle.monomial.proofs.Divisions.{all_true, all-each}
use Rattle.monomial.proofs.Laws.{canonical-more, lent-canonical, product-canonical, result-small}
use Rattle.monomial.proofs.Powers.{pow-ids}
use Rattle.monomial.specs.Sizes.{variables_fit}
use Rattle.monomial.proofs.Sizing.{variables-fit}
use Rattle.std.specs.Prelude.{Result, Ok, Err}
use Rattle.refusals.specs.Numbers.{number, told}
use Rattle.refusals.specs.declared.Refusal.{Refusal}
use Rattle.refusals.specs.declared.Refusal.TheVariants.{Sizes, ShortImage, Unsound, NoList, ShortBuffer, NotServed, BadWords, Full, TooLarge, NoLabel}
use Rattle.monomial_work.specs.Served.{lent_kind, one_answer, answer, small, powers_fit, verdict, Served}
use Rattle.monomial_work.specs.Steps.{refusal, work_of, too_large, Told}
use Rattle.monomial_work.specs.declared.Work.{Work}

same_truth : (x y : Bool) → (x ≡ true → y ≡ true) → (y ≡ true → x ≡ true) → x ≡ y
same_truth true y f g = sym (f refl)
same_truth false true f g = g refl
same_truth false false f g = refl

-- the words made are a product in range exactly where they are canonical
product-asked : (m : ℕ) (a b : List ℕ) → m ≤ 64 → Canonical 1 m a → Canonical 1 m b → lent 1 m (bytes (result_words Op.Product a b)) ≡ powers_fit a b
unfolding powers_fit
product-asked m a b h ca cb = same_truth _ _ to from
  where
    same : words (bytes (result_words Op.Product a b)) ≡ result_words Op.Product a b
    same = words-bytes (result_words Op.Product a b) (result-small m a b ca cb Op.Product)

    to : lent 1 m (bytes (result_words Op.Product a b)) ≡ true → all_below 4096 (λ v. leb (pow 1 a v + pow 1 b v) 32767) ≡ true
    to e =
        let c : Canonical 1 m (result_words Op.Product a b) = rw same at ((lent-canonical 1 m (bytes (result_words Op.Product a b))).0 e).1 in
        all_true 4096 _ (λ v l. le-leb _ 32767 ((product-canonical m a b ca cb (omega arith)).0 c v))

    from : all_below 4096 (λ v. leb (pow 1 a v + pow 1 b v) 32767) ≡ true → lent 1 m (bytes (result_words Op.Product a b)) ≡ true
    from e =
        (lent-canonical 1 m (bytes (result_words Op.Product a b))).1 (
          omega (arith, length-bytes (result_words Op.Product a b)),
          rw same ((product-canonical m a b ca cb (omega arith)).1 (λ v.
              elim (dec_le 4096 v) [
                | yes q ↦ omega (arith, pow-ids 1 a v q, pow-ids 1 b v q)
                | no q ↦ leb-true _ 32767 (all-each 4096 (λ v. leb (pow 1 a v + pow 1 b v) 32767) e v (omega arith))
              ])),
        )

nine-asked : (o : Op) (m : ℕ) (a b : List ℕ) → m ≤ 64 → Canonical 1 m a → Canonical 1 m b → too_large o m (bytes (answer (work_of o) a b)) ≡ not (small (work_of o) a b)
unfolding answer small
nine-asked Op.Gcd m a b h ca cb = refl
nine-asked Op.Product m a b h ca cb = ap not (product-asked m a b h ca cb)
nine-asked Op.Quotient m a b h ca cb = refl
nine-asked Op.Ratio m a b h ca cb = refl

pub kinds : (o : Op) → lent_kind (work_of o) ≡ 1
kinds Op.Gcd = refl
kinds Op.Product = refl
kinds Op.Quotient = refl
kinds Op.Ratio = refl

-- ---- questions 1 and 7
no-zero : (r : Refusal) → eqb (number r) 0 ≡ false
unfolding number
no-zero Sizes = refl
no-zero ShortImage = refl
no-zero Unsound = refl
no-zero NoList = refl
no-zero ShortBuffer = refl
no-zero NotServed = refl
no-zero BadWords = refl
no-zero Full = refl
no-zero TooLarge = refl
no-zero NoLabel = refl

-- what they tell where no reply is no
pub record Fine (k m : ℕ) (a b : List ℕ) : Type 0 where
  pub fit : variables_fit m ≡ true
  pub few : m ≤ 64
  pub la : lent k m a ≡ true
  pub lb : lent k m b ≡ true

pub fine : (k m : ℕ) (a b : List ℕ) → Ok (tt {0}) ≡ refusal k m a b → Fine k m a b
unfolding refusal
fine k m a b e = go (variables_fit m) (lent k m a) (lent k m b) refl refl refl e
  where
    go : (x y z : Bool) → variables_fit m ≡ x → lent k m a ≡ y → lent k m b ≡ z → Ok (tt {0}) ≡ cond x (cond (y && z) (Ok (tt {0})) (Err BadWords)) (Err Sizes) → Fine k m a b
    go true true true p q r t = record { fit = p; few = ((variables-fit m).0 p).1; la = q; lb = r }
    go true true false p q r t = cc
    go true false z p q r t = cc
    go false y z p q r t = cc

-- as a work asks them
pub passed : (w : Work) (m : ℕ) (a b : List ℕ) {k : ℕ} {r : Result Unit Refusal} {u : Unit} → k ≡ lent_kind w → r ≡ refusal k m a b → r ≡ Ok u → Fine (lent_kind w) m a b
passed w m a b {k} {r} {u} e q h = fine (lent_kind w) m a b (sym h ∙ q ∙ ap (λ (i : ℕ). refusal i m a b) e)

-- what was lent is canonical in 64 variables too
pub canonical-64 : (k m : ℕ) (s : List ℕ) → 0 < k → m ≤ 64 → lent k m s ≡ true → Canonical k 64 (words s)
canonical-64 k m s pos h e = canonical-more pos h ((lent-canonical k m s).0 e).1

module _ (w : Work) (m : ℕ) (a b out : List ℕ) where
  refused : (r : ℕ) → verdict w m a b out ≡ r → eqb r 0 ≡ false → Served w m a b out r out
  refused r e z = record { number_is = sym e; bytes-are = rw (e, z) }

  -- a no to question 1 or 7
  pub asked-no : {x : Refusal} → Err x ≡ refusal (lent_kind w) m a b → Served w m a b out (number x) out
  unfolding verdict refusal number
  asked-no {x} e = refused (number x) (go (variables_fit m) (lent (lent_kind w) m a && lent (lent_kind w) m b) _ e) (no-zero x)
    where
      go : (y z : Bool) (v : ℕ) → Err x ≡ cond y (cond z (Ok (tt {0})) (Err BadWords)) (Err Sizes) → cond y (cond z v 7) 1 ≡ number x
      go true true v q = cc
      go true false v q = let h : x ≡ BadWords = cc in rw h
      go false z v q = let h : x ≡ Sizes = cc in rw h

  module _ (f : Fine (lent_kind w) m a b) where
    pub told-word : {p : ℕ} {r : Result Unit Refusal} {after : List ℕ} → small w (words a) (words b) ≡ true → answer w (words a) (words b) ≡ one_answer p → Told p out r after → Served w m a b out (told r) after
    unfolding verdict told number
    told-word {p} {r} {after} s e t = go (leb 4 (length out)) refl
      where
        is : (x : Bool) → leb 4 (length out) ≡ x → verdict w m a b out ≡ cond x 0 5
        is x q = rw (f.fit, f.la, f.lb, s, e, q)

        go : (x : Bool) → leb 4 (length out) ≡ x → Served w m a b out (told r) after
        go true q = record { number_is = ap told t.number_is ∙ rw q (sym (is true q)); bytes-are = t.bytes-are ∙ rw (q, is true q, e) }
        go false q = record { number_is = ap told t.number_is ∙ rw q (sym (is false q)); bytes-are = t.bytes-are ∙ rw (q, is false q) }

module _ (o : Op) (m : ℕ) (a b out : List ℕ) (f : Fine 1 m a b) (space made : List ℕ) (n : ℕ)
    (en : n ≡ length (answer (work_of o) (words a) (words b))) (em : made ≡ paste_w space 0 (answer (work_of o) (words a) (words b))) where
  front : take (4 * n) made ≡ bytes (answer (work_of o) (words a) (words b))
  front =
      rw (em, paste_w-front space (answer (work_of o) (words a) (words b)))
      (take_at (bytes (answer (work_of o) (words a) (words b))) _ (4 * n) (length-bytes (answer (work_of o) (words a) (words b)) ∙ ap (λ (i : ℕ). 4 * i) (sym en)))

  question : too_large o m (take (4 * n) made) ≡ not (small (work_of o) (words a) (words b))
  question = rw front (nine-asked o m (words a) (words b) f.few ((lent-canonical 1 m a).0 f.la).1 ((lent-canonical 1 m b).0 f.lb).1)

  small_is : (t : Bool) → too_large o m (take (4 * n) made) ≡ not t → small (work_of o) (words a) (words b) ≡ t
  small_is t h = go (small (work_of o) (words a) (words b)) t (sym question ∙ h)
    where
      go : (x y : Bool) → not x ≡ not y → x ≡ y
      go true true e = refl
      go true false e = sym e
      go false true e = sym e
      go false false e = refl

  verdict-is : (t : Bool) → too_large o m (take (4 * n) made) ≡ not t → verdict (work_of o) m a b out ≡ cond t (cond (leb (4 * n) (length out)) 0 5) 9
  unfolding verdict
  verdict-is t h = rw (kinds o, f.fit, f.la, f.lb, small_is t h, ← en)

  pub power-too-large : too_large o m (take (4 * n) made) ≡ true → Served (work_of o) m a b out 9 out
  power-too-large h = refused (work_of o) m a b out 9 (verdict-is false h) refl

  pub no_room : too_large o m (take (4 * n) made) ≡ false → length out < 4 * n → Served (work_of o) m a b out 5 out
  no_room h l = refused (work_of o) m a b out 5 (verdict-is true h ∙ rw (lt-leb (4 * n) (length out) l)) refl

  pub answered : too_large o m (take (4 * n) made) ≡ false → 4 * n ≤ length out → (after : List ℕ)
      → after ≡ take (4 * n) made ++ drop (4 * n) out → Served (work_of o) m a b out 0 after
  answered h l after e = record {
    number_is = sym zero_is;
    bytes-are = rw zero_is (e ∙ rw (front, en) (sym (paste_w-front out A)));
  }
    where
      A : List ℕ
      A = answer (work_of o) (words a) (words b)

      zero_is : verdict (work_of o) m a b out ≡ 0
      zero_is = verdict-is true h ∙ rw (le-leb (4 * n) (length out) l)

-- the answer that was made aside has its room
pub record Made (made : List ℕ) (n : ℕ) : Type 0 where
  pub few : n ≤ 65
  pub room : 4 * n ≤ length made
  pub size : length (take (4 * n) made) ≡ 4 * n

pub made-fits : (space made ans : List ℕ) (n : ℕ) → made ≡ paste_w space 0 ans → length space ≡ 260 → n ≡ length ans → length ans ≤ 65 → Made made n
made-fits space made ans n e h en l =
    let k : length made ≡ 260 = ap length e ∙ length-paste_w space 0 ans (omega arith) ∙ h in
    record { few = omega arith; room = omega arith; size = length-take-le (4 * n) made (omega arith) }

-- what the operations ask of two lists that passed
pub ready-words : {k m : ℕ} {a b : List ℕ} → 0 < k → Fine k m a b → Canonical k 64 (words a) × Canonical k 64 (words b)
ready-words {k} {m} {a} {b} pos f = (canonical-64 k m a pos f.few f.la, canonical-64 k m b pos f.few f.lb)
