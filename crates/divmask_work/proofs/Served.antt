-- What the doors' proofs share. Assumes nothing.
use mathlib.Core.Path.{◌≡◌, refl, sym, ap, ◌∙◌}
use Rattle.std.specs.Result.{IsErrAnd}
use Rattle.std.proofs.lemmas.Result.{err_from_is_err_and}
use Rattle.std.specs.Prelude.{Bool, true, false, cond, Result, Ok, Err}
use mir.Val.{bool_byte}
use Rattle.refusals.specs.declared.Refusal.{Refusal}
use mathlib.Core.List.{List, [], ◌∷◌}
use Prim.Native.Nat.{ℕ, ◌≤◌}
use native.Mathlib.Omega.{arith}
use lib.ListN.{length}
use Rattle.words.specs.Words.{put_w, paste_w}
use Rattle.words.proofs.Laws.{paste_w-nil, paste_w-snoc}

-- one word at the front
pub put_one : (out : List ℕ) (w : ℕ) → 4 ≤ length out → put_w out 0 w ≡ paste_w out 0 (w ∷ [])
put_one out w h = ap (λ (l : List ℕ). put_w l 0 w) (sym (paste_w-nil out 0)) ∙ paste_w-snoc out 0 [] 0 w (omega arith) (omega arith)

-- what a question that was asked says
pub asked-no : (reply : Bool) (r e : Refusal) → cond reply (Ok (tt {0})) (Err r) ≡ Err e → (reply ≡ false) × (e ≡ r)
asked-no true r e h = absurd (let y : ◌≡◌ {A = ℕ} 0 1 = cc in omega arith)
asked-no false r e h = (refl, cc)

pub asked-yes : (reply : Bool) (r : Refusal) (u : Unit {0}) → cond reply (Ok (tt {0})) (Err r) ≡ Ok u → reply ≡ true
asked-yes true r u h = refl
asked-yes false r u h = absurd (let y : ◌≡◌ {A = ℕ} 0 1 = cc in omega arith)

-- the exit of a `?` returns that refusal
pub refused-by : (s : Result (Unit {0}) Refusal) (e r : Refusal) → e ≡ r → IsErrAnd s (λ x. x ≡ e) → s ≡ Err r
refused-by s e r h k = let p = err_from_is_err_and s k in p.1 ∙ ap Err (p.2 ∙ h)

-- a reply as a number
pub byte-is : (b : Bool) → bool_byte b ≡ cond b 1 0
byte-is true = refl
byte-is false = refl
