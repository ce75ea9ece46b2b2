-- Upper bounds of powers with one word changed, and changed back. Assumes nothing.
use mathlib.Core.Path.{◌≡◌, ap, ◌∙◌}
use mathlib.Core.List.{List}
use Prim.Native.Nat.{ℕ, ◌^◌, ◌≤◌, ◌<◌}
use native.Mathlib.Omega.{arith}
use native.Mathlib.Decide.{ℕ_discrete}
use lib.ListN.{length, get_or, set}
use lib.Seq.{get_or-set_same, get_or-set_other, set-get_or, set-set}
use Rattle.words.specs.Words.{words, put_w}
use Rattle.words.proofs.Laws.{Bytes, length-words, length-put_w, words-put_w, words_small, words-inj}
use Rattle.leaf_rows.specs.Leaves.{Uppers}

module _ (m : ℕ) (h : List ℕ) (u : Uppers m h) (v x : ℕ) (hv : v < m) (hx : x < 2 ^ 32) where
  pub words-put : (h' : List ℕ) → h' ≡ put_w h v x → words h' ≡ set (words h) v x
  words-put h' e = ap words e ∙ words-put_w h v x hx (omega (arith, u.one_each))

  pub uppers-put : 1 ≤ x → (h' : List ℕ) → h' ≡ put_w h v x → Uppers m h'
  uppers-put low h' e = record {
    one_each = ap length e ∙ length-put_w h v x ∙ u.one_each;
    some = λ i l.
        rw (words-put h' e) (elim (ℕ_discrete i v) [
          | yes z ↦ rw (z, get_or-set_same (words h) v x 0 (omega (arith, length-words h, u.one_each))) low
          | no z ↦ rw (get_or-set_other (words h) v i x 0 z) (u.some i l)
        ]);
  }

  -- the old word back in its place
  pub put_back : Bytes h → (h' g : List ℕ) (old : ℕ) → Bytes g → h' ≡ put_w h v x → old ≡ get_or (words h) v 0 → g ≡ put_w h' v old → g ≡ h
  put_back bh h' g old bg e eo eg =
      let small : old < 2 ^ 32 = rw eo (words_small h bh v) in
      let l' : length h' ≡ length h = ap length e ∙ length-put_w h v x in
      let lg : length g ≡ length h = ap length eg ∙ length-put_w h' v old ∙ l' in
      words-inj g h bg bh (omega (arith, u.one_each)) (omega (arith, u.one_each))
      (ap words eg ∙ words-put_w h' v old small (omega (arith, u.one_each)) ∙ ap (λ (l : List ℕ). set l v old) (words-put h' e)
      ∙ set-set (words h) v x old ∙ ap (set (words h) v) eo ∙ set-get_or (words h) v 0)
