use mathlib.Core.Path.{◌≡◌, refl, sym, ◌∙◌}
use mathlib.Core.List.{List, [], ◌∷◌}
use native.Mathlib.Omega.{arith}
use Prim.Native.Nat.{ℕ}
use Rattle.words.specs.Words.{bytes}
use Rattle.words.proofs.Laws.{put_w-paste}
use Rattle.words.proofs.Copies.{copied}
use Rattle.words.proofs.put.Goals as goal

-- four bytes, each by its value
four : {a b c d a' b' c' d' : ℕ} → a ≡ a' → b ≡ b' → c ≡ c' → d ≡ d' → ◌≡◌ {A = List ℕ} (a ∷ b ∷ c ∷ d ∷ []) (a' ∷ b' ∷ c' ∷ d' ∷ [])
four p q r s = rw (p, q, r, s) refl

pub returns : goal.returns
unfolding bytes
returns c =
    copied c.args.s.now c.args.i _ c.copy_from_slice.new.self (c.args.w ∷ []) (omega arith)
    (c.copy_from_slice.ensures.after ∙ c.to_le_bytes.ensures ∙ four (omega arith) (omega arith) (omega arith) (omega arith))
    ∙ sym (put_w-paste c.args.s.now c.args.i c.args.w c.requires)
