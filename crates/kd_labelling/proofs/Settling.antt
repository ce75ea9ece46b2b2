-- A value gets its label and its row. Assumes nothing.
use mathlib.Core.Path.{◌≡◌, refl, sym, ap, ◌∙◌}
use mathlib.Core.List.{List}
use Prim.Native.Nat.{ℕ, ◌<◌}
use native.Mathlib.Omega.{arith}
use lib.ListN.{length, get_or}
use Rattle.std.proofs.Common.{Result, Ok, Err}
use Rattle.words.specs.Words.{words, paste_w}
use Rattle.words.proofs.Tables.{paste-again}
use Rattle.fast_compare.specs.Labels.{sorted}
use Rattle.fast_compare.specs.Map.{Value, Good, State, Valid, cmp, value, place, answer, stored, after, rebuild}
use Rattle.fast_compare.specs.Layout.{size, encode, Is, Gave}
use Rattle.fast_compare.specs.declared.Comparer.{Comparer}
use Rattle.fast_compare.specs.declared.Comparer.TheVariants.{Known, New}
use Rattle.fast_compare.specs.declared.Unlabelled.{Unlabelled}
use Rattle.fast_compare.specs.declared.Unlabelled.TheVariants.{Full, NoLabel}
use Rattle.fast_compare.proofs.Images.{encode-length}
use Rattle.fast_compare.proofs.Maps.{value-new, after-as, stored-new, stored_same, rebuild-length, rebuild-valid, after-valid}
use Rattle.fast_compare.proofs.Kept.{gave-sound, rebuild-is, after_is}
use Rattle.fast_compare.proofs.Reading.{vars-of}
use Rattle.fast_compare.proofs.Giving.{at_place, before-place, known-row}
use Rattle.index_theory.specs.Calls.{relabel}
use Rattle.index_theory.specs.State.{row_or, row_of}
use Rattle.index_image.proofs.Rows.{row-of}
use Rattle.kd_labelling.specs.Labelling.{settled}

-- a call keeps the numbers of a map
pub after-shape : (l : State) (v : Value) → ((after l v).variables ≡ l.variables) × ((after l v).capacity ≡ l.capacity)
unfolding after stored
after-shape l v = go (answer l v)
  where
    go : (c : Result Comparer Unlabelled) → ((stored c l v).variables ≡ l.variables) × ((stored c l v).capacity ≡ l.capacity)
    go (Ok (Known x)) = (refl, refl)
    go (Ok (New x)) = (refl, refl)
    go (Err r) = (refl, refl)

-- ---- a label at once
relabel-first : (c : Result Comparer Unlabelled) (l : State) (v : Value) → (c ≡ Err NoLabel → ⊥) → relabel c l v ≡ after l v
unfolding relabel
relabel-first (Ok c) l v h = refl
relabel-first (Err Full) l v h = refl
relabel-first (Err NoLabel) l v h = absurd (h refl)

relabel-second : (c : Result Comparer Unlabelled) (l : State) (v : Value) → c ≡ Err NoLabel → relabel c l v ≡ after (rebuild l) v
unfolding relabel
relabel-second c l v e = rw e

pub first_done : (bs a : List ℕ) (l : State) (v : Value) (r : Result Comparer Unlabelled) → Gave l v r bs a → (r ≡ Err NoLabel → ⊥) → a ≡ paste_w bs 0 (encode (settled l v))
first_done bs a l v r g h = g.bytes ∙ rw (relabel-first (answer l v) l v (λ e. h (g.answers ∙ e)))

-- ---- no label: the map is as it was
module _ (bs a : List ℕ) (l : State) (v : Value) (r : Result Comparer Unlabelled) (I : Is l bs) (good : Good (get_or (words bs) 1 0) v) (g : Gave l v r bs a) (none_free : r ≡ Err NoLabel) where
  good-here : Good l.variables v
  good-here = rw (vars-of bs l I) at good

  same : after l v ≡ l
  same =
      let e : answer l v ≡ Err NoLabel = sym g.answers ∙ none_free in
      after-as l v (Err NoLabel) e ∙ stored_same l v (Err NoLabel) (λ x z. let y : ◌≡◌ {A = ℕ} 0 1 = cc in omega arith)

  still : Is l a
  still = rw same at (gave-sound bs a l v r I good-here g)

  module _ (b : List ℕ) (eb : b ≡ paste_w a 0 (encode (rebuild l))) where
    dealt : Is (rebuild l) b
    dealt = rebuild-is a b l still eb

    good-again : Good (get_or (words b) 1 0) v
    unfolding rebuild
    good-again = rw (vars-of b (rebuild l) dealt) good-here

    second-done : (d : List ℕ) (q : Result Comparer Unlabelled) → Gave (rebuild l) v q b d → d ≡ paste_w bs 0 (encode (settled l v))
    unfolding rebuild
    second-done d q h =
        let lv = I.valid in
        let rv = rebuild-valid l lv in
        let av = (after_is b d (rebuild l) v dealt good-here h.bytes).valid in
        let l0 = encode-length l lv in
        let l1 = encode-length (rebuild l) rv in
        let l2 : length (encode (after (rebuild l) v)) ≡ size l.variables l.capacity = after-long in
        let ea : a ≡ paste_w bs 0 (encode l) = g.bytes ∙ rw same in
        let to : b ≡ paste_w bs 0 (encode (rebuild l)) = paste-again bs a b (encode l) (encode (rebuild l)) (l0 ∙ sym l1) (omega (arith, I.room)) ea eb in
        rw (relabel-second (answer l v) l v (sym g.answers ∙ none_free))
        (paste-again bs b d (encode (rebuild l)) (encode (after (rebuild l) v)) (l1 ∙ sym l2) (omega (arith, I.room)) to h.bytes)
      where
        after-long : length (encode (after (rebuild l) v)) ≡ size l.variables l.capacity
        after-long =
            let s = after-shape (rebuild l) v in
            encode-length (after (rebuild l) v) (after-valid (rebuild l) v (rebuild-valid l I.valid) good-here) ∙ rw (s.0, s.1)

-- the same as one fact: the map is as it was, and once it is dealt afresh the value can be asked again
pub record Retried (bs a : List ℕ) (l : State) (v : Value) : Type 0 where
  pub is : Is l a
  pub again : (b : List ℕ) → b ≡ paste_w a 0 (encode (rebuild l)) → Is (rebuild l) b × Good (get_or (words b) 1 0) v
  pub done : (b d : List ℕ) (q : Result Comparer Unlabelled) → b ≡ paste_w a 0 (encode (rebuild l)) → Gave (rebuild l) v q b d → d ≡ paste_w bs 0 (encode (settled l v))

pub retried : (bs a : List ℕ) (l : State) (v : Value) (r : Result Comparer Unlabelled) → Is l bs → Good (get_or (words bs) 1 0) v → Gave l v r bs a → r ≡ Err NoLabel → Retried bs a l v
retried bs a l v r i good g e = record {
  is = still bs a l v r i good g e;
  again = λ b eb. (dealt bs a l v r i good g e b eb, good-again bs a l v r i good g e b eb);
  done = λ b d q eb h. second-done bs a l v r i good g e b eb d q h;
}

-- ---- rows
pub row-at-place : (l : State) (v : Value) (p r : ℕ) → Valid l → Ok p ≡ place l.rows v → r ≡ get_or (sorted cmp (value l.rows) (length l.rows)) p 0 → r ≡ row_of l v
unfolding row_of row_or
row-at-place l v p r val e er =
    let k = at_place l v p e in
    er ∙ (known-row l v val p k).1 ∙ rw k.is

pub no_row : (l : State) (v : Value) (p : ℕ) → Err p ≡ place l.rows v → 0 ≡ row_of l v
unfolding row_of row_or
no_row l v p e = rw (before-place l v p e).is

-- a new value's row is the last
module _ (l : State) (v : Value) where
  new-last : Valid (after l v) → length l.rows < length (after l v).rows → length l.rows ≡ row_of (after l v) v
  new-last val h = go (answer l v) refl
    where
      kept : (c : Result Comparer Unlabelled) → answer l v ≡ c → ((x : ℕ) → c ≡ Ok (New x) → ⊥) → length l.rows ≡ row_of (after l v) v
      kept c e other = absurd (omega (arith, h, ap (λ (s : State). length s.rows) (after-as l v c e ∙ stored_same l v c other)))

      go : (c : Result Comparer Unlabelled) → answer l v ≡ c → length l.rows ≡ row_of (after l v) v
      go (Ok (New x)) e =
          sym (row-of (after l v) val v (length l.rows) h (rw (after-as l v (Ok (New x)) e ∙ stored-new l v x) (value-new l.rows (record { value = v; label = x }))))
      go (Ok (Known x)) e = kept (Ok (Known x)) e (λ y w. let u : ◌≡◌ {A = ℕ} 0 1 = cc in omega arith)
      go (Err Full) e = kept (Err Full) e (λ y w. let u : ◌≡◌ {A = ℕ} 0 1 = cc in omega arith)
      go (Err NoLabel) e = kept (Err NoLabel) e (λ y w. let u : ◌≡◌ {A = ℕ} 0 1 = cc in omega arith)

pub settled-last : (l : State) (v : Value) → Valid l → Valid (settled l v) → length l.rows < length (settled l v).rows → length l.rows ≡ row_of (settled l v) v
unfolding relabel
settled-last l v ok = go (answer l v)
  where
    go : (c : Result Comparer Unlabelled) → Valid (relabel c l v) → length l.rows < length (relabel c l v).rows → length l.rows ≡ row_of (relabel c l v) v
    go (Ok (Known x)) val h = new-last l v val h
    go (Ok (New x)) val h = new-last l v val h
    go (Err Full) val h = new-last l v val h
    go (Err NoLabel) val h = sym (rebuild-length l ok) ∙ new-last (rebuild l) v val (omega (arith, h, rebuild-length l ok))
