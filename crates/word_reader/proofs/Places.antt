-- Where the calls of a list stand: what is behind a call is the next call, or the end. Assumes nothing.
use mathlib.Core.Path.{◌≡◌, refl, sym, ap, ◌∙◌}
use mathlib.Core.Bool.{Bool, true, false, cond}
use mathlib.Core.List.{List, [], ◌∷◌}
use Prim.Native.Nat.{ℕ, zero, suc, ◌+◌, ◌≤◌, ◌<◌}
use native.Mathlib.Omega.{arith}
use lib.Dec.{eqb}
use lib.ListN.{length, get_or, drop, length-drop}
use lib.Seq.{drop-drop, get_or-drop}
use borrow.Author.Tests.{eqb-true, lt-ltb, le-ltb}
use Rattle.words.specs.Kinds.{kind}
use Rattle.index_theory.specs.Calls.{Call, body_of, calls}
use Rattle.index_theory.proofs.Lists.{calls_at}
use Rattle.call_list.proofs.Parting.{body-most}
use Rattle.word_reader.specs.Places.{call_at, call_end}

-- ---- the place behind a call
pub end-of-call : (W : List ℕ) (i : ℕ) → i < length W → call_end W i ≡ i + 1 + length (body_of (drop (i + 1) W))
unfolding call_end
end-of-call W i h = rw (lt-ltb i (length W) h)

pub end-of-list : (W : List ℕ) (i : ℕ) → length W ≤ i → call_end W i ≡ i
unfolding call_end
end-of-list W i h = rw (le-ltb i (length W) h)

pub end-inside : (W : List ℕ) (i : ℕ) → i < length W → (i < call_end W i) × (call_end W i ≤ length W)
end-inside W i h =
    let e = end-of-call W i h in
    let l = body-most (drop (i + 1) W) in
    (omega arith, omega (arith, length-drop (i + 1) W))

-- ---- a body stands before the next call, or the end
calls-past : (ws : List ℕ) → calls ws ≡ calls (drop (length (body_of ws)) ws)
unfolding calls body_of
calls-past [] = refl
calls-past (w ∷ ws) = go (eqb (kind w) 6) refl (calls-past ws)
  where
    go : (t : Bool) → eqb (kind w) 6 ≡ t → calls ws ≡ calls (drop (length (body_of ws)) ws)
        → calls (w ∷ ws) ≡ calls (drop (length (cond t [] (w ∷ body_of ws))) (w ∷ ws))
    go true e r = refl
    go false e r = rw e r

next-call : (ws : List ℕ) → length (body_of ws) < length ws → kind (get_or ws (length (body_of ws)) 0) ≡ 6
unfolding body_of
next-call [] h = absurd (omega arith)
next-call (w ∷ ws) h = go (eqb (kind w) 6) refl h (next-call ws)
  where
    go : (t : Bool) → eqb (kind w) 6 ≡ t → length (cond t [] (w ∷ body_of ws)) < suc (length ws)
        → (length (body_of ws) < length ws → kind (get_or ws (length (body_of ws)) 0) ≡ 6)
        → kind (get_or (w ∷ ws) (length (cond t [] (w ∷ body_of ws))) 0) ≡ 6
    go true e l r = eqb-true _ _ e
    go false e l r = r (omega arith)

-- ---- the call at word i of a list, and the calls behind it
module _ (W : List ℕ) (i : ℕ) (h : i < length W) (k : kind (get_or W i 0) ≡ 6) where
  back : drop (call_end W i) W ≡ drop (length (body_of (drop (i + 1) W))) (drop (i + 1) W)
  back = rw (end-of-call W i h) (sym (drop-drop (length (body_of (drop (i + 1) W))) (i + 1) W))

  pub calls-here : calls (drop i W) ≡ call_at W i ∷ calls (drop (call_end W i) W)
  calls-here =
      let s : suc i ≡ i + 1 = omega arith in
      let z : calls (drop i W) ≡ call_at W i ∷ calls (drop (i + 1) W) = rw s at (calls_at W i h k) in
      z ∙ ap (λ (cs : List Call). call_at W i ∷ cs) (calls-past (drop (i + 1) W) ∙ ap calls (sym back))

  -- the next call stands there, unless the list ends
  pub starts-next : call_end W i < length W → kind (get_or W (call_end W i) 0) ≡ 6
  starts-next l =
      let b = length (body_of (drop (i + 1) W)) in
      let e : call_end W i ≡ i + 1 + b = end-of-call W i h in
      let z : kind (get_or (drop (i + 1) W) b 0) ≡ 6 = next-call (drop (i + 1) W) (omega (arith, length-drop (i + 1) W)) in
      ap (λ x. kind (get_or W x 0)) e ∙ ap kind (sym (get_or-drop (i + 1) W b 0)) ∙ z

-- no word stands past the end
pub past-number : (W : List ℕ) (i : ℕ) → length W ≤ i → 0 ≡ (call_at W i).number
past-number [] i h = refl
past-number (w ∷ W) zero h = absurd (omega arith)
past-number (w ∷ W) (suc i) h = past-number W i (omega arith)
