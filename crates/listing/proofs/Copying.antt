-- Words copied one by one, up to the end word of a monomial. Assumes nothing.
use mathlib.Core.Path.{◌≡◌, refl, sym, ap, ◌∙◌}
use mathlib.Core.List.{List, [], ◌∷◌, ◌++◌}
use Prim.Native.Nat.{ℕ, suc, ◌+◌, ◌*◌, ◌≤◌, ◌<◌}
use native.Mathlib.Omega.{arith}
use native.Mathlib.Decide.{ℕ_discrete}
use lib.ListN.{length, get_or, drop}
use lib.Seq.{drop-cons}
use Rattle.words.specs.Kinds.{kind}
use Rattle.words.specs.Words.{put_w, paste_w}
use Rattle.words.specs.Tables.{part}
use Rattle.words.proofs.Laws.{length-paste_w, paste_w-nil, paste_w-snoc}
use Rattle.words.proofs.Tables.{length_part, part-nil, part-snoc}
use Rattle.monomial.specs.Monomial.{to_end}
use Rattle.monomial.proofs.Ends.{end_none, end-here, end-past, end-within}

-- an end word is found behind the words that went by
end-behind : (n : ℕ) (ws : List ℕ) → (to_end n ws ≡ 0 → ⊥) → n < to_end n ws
end-behind n [] h = absurd (h (end_none n))
end-behind n (w ∷ ws) h =
    elim (ℕ_discrete (kind w) 0) [
      | yes z ↦ rw (end-here n w ws z) (omega arith)
      | no z ↦ let e = end-past n w ws z in omega (arith, e, end-behind (n + 1) ws (λ q. h (e ∙ q)))
    ]

-- how many words the monomial at word a has
abbrev pub length_at : List ℕ → ℕ → ℕ
length_at W a = to_end 0 (drop a W)

-- i words of it are copied to the front, and it has more
pub record Copied (W : List ℕ) (a : ℕ) (out₀ out : List ℕ) (i : ℕ) : Type 0 where
  pub more : i < length_at W a
  pub rest : to_end i (drop (a + i) W) ≡ length_at W a
  pub bytes : out ≡ paste_w out₀ 0 (part W a i)
  pub same : length out ≡ length out₀

pub copied_none : (W : List ℕ) (a : ℕ) (out : List ℕ) → 0 < length_at W a → Copied W a out out 0
copied_none W a out h =
    let z : a + 0 ≡ a = omega arith in
    record { more = h; rest = ap (λ (j : ℕ). to_end 0 (drop j W)) z; bytes = sym (rw (part-nil W a) (paste_w-nil out 0)); same = refl }

-- the next word lies within the list
pub word-inside : {W : List ℕ} {a : ℕ} {out₀ out : List ℕ} {i : ℕ} → Copied W a out₀ out i → a + i < length W
word-inside {W} {a} c = omega (arith, c.more, end-within a (length_at W a) W refl (λ z. omega (arith, c.more)))

-- one word more
module _ {W : List ℕ} {a : ℕ} {out₀ out : List ℕ} {i : ℕ} (c : Copied W a out₀ out i) (room : 4 * length_at W a ≤ length out₀)
    {w : ℕ} (ew : w ≡ get_or W (a + i) 0) {out' : List ℕ} (eo : out' ≡ put_w out i w) where
  here : drop (a + i) W ≡ w ∷ drop (a + (i + 1)) W
  here =
      let s : suc (a + i) ≡ a + (i + 1) = omega arith in
      drop-cons W (a + i) 0 (word-inside c) ∙ rw (s, ← ew)

  pub one_more : out' ≡ paste_w out₀ 0 (part W a (i + 1))
  one_more =
      let l : i ≡ 0 + length (part W a i) = omega (arith, length_part W a i (omega (arith, word-inside c))) in
      let e : part W a (i + 1) ≡ part W a i ++ (w ∷ []) = part-snoc W a i (word-inside c) ∙ rw (← ew) in
      eo ∙ ap (λ (o : List ℕ). put_w o i w) c.bytes ∙ paste_w-snoc out₀ 0 (part W a i) i w l (omega (arith, c.more)) ∙ ap (paste_w out₀ 0) (sym e)

  pub one_same : length out' ≡ length out₀
  one_same = ap length one_more ∙ length-paste_w out₀ 0 (part W a (i + 1)) (omega (arith, c.more, length_part W a (i + 1) (omega (arith, word-inside c))))

  -- the end word is the last
  pub ended_here : kind w ≡ 0 → i + 1 ≡ length_at W a
  ended_here z = sym (end-here i w (drop (a + (i + 1)) W) z) ∙ ap (to_end i) (sym here) ∙ c.rest

  pub copied_more : (kind w ≡ 0 → ⊥) → Copied W a out₀ out' (i + 1)
  copied_more z =
      let r : to_end (i + 1) (drop (a + (i + 1)) W) ≡ length_at W a = sym (end-past i w (drop (a + (i + 1)) W) z) ∙ ap (to_end i) (sym here) ∙ c.rest in
      let m = end-behind (i + 1) (drop (a + (i + 1)) W) (λ q. omega (arith, r, q, c.more)) in
      record { more = omega (arith, m, r); rest = r; bytes = one_more; same = one_same }
