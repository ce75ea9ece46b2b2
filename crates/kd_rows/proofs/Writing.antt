-- What the writers of rows leave. Assumes nothing.
use mathlib.Core.Path.{◌≡◌, refl, sym, ap, ◌∙◌}
use mathlib.Core.List.{List, [], ◌∷◌, ◌++◌}
use Prim.Native.Nat.{ℕ, ◌+◌, ◌-◌, ◌*◌, ◌^◌, ◌≤◌, ◌<◌}
use native.Mathlib.Omega.{arith}
use lib.ListN.{length}
use Rattle.words.specs.Words.{words, put_w, paste_w}
use Rattle.words.specs.Tables.{part, zeros}
use Rattle.words.proofs.Laws.{Words, length-words, length-paste_w, put_w-paste, paste_w-snoc}
use Rattle.words.proofs.Tables.{length_part, paste_w-append, Small, small-cons, small-append, small-zeros}
use Rattle.monomial.specs.Monomial.{Canonical, first, pow, monomial_of}
use Rattle.monomial.proofs.Firsts.{first-whole}
use Rattle.monomial.proofs.Powers.{canonical-length}
use Rattle.divmask.specs.Mask as masks
use Rattle.divmask.proofs.Masks.{mask-ext, mask-small}
use Rattle.kd_theory.specs.Bifurcate.{least}
use Rattle.index_image.specs.Layout.{slot, gcd_powers, gcd_of, node_words}
use Rattle.index_image.specs.Shape as at
use Rattle.index_image.specs.Walk as walk
use Rattle.index_image.specs.Walk.{power, map_maxima}
use Rattle.index_image.specs.Rows.{entries_from}
use Rattle.index_image.specs.declared.Shape.{Shape}
use Rattle.index_image.proofs.Gcds.{image-powers, gcd-canonical, gcd-pow, gcd-words}
use Rattle.index_image.proofs.Places.{place-fits}

-- ---- the words in front of a gcd
pub head-written : (b₀ b₁ b₂ b₃ b₄ b₅ : List ℕ) (i t k c s m : ℕ) → 4 * (i + 5) ≤ length b₀ → b₁ ≡ put_w b₀ i t → b₂ ≡ put_w b₁ (i + 1) k → b₃ ≡ put_w b₂ (i + 2) c
    → b₄ ≡ put_w b₃ (i + 3) s → b₅ ≡ put_w b₄ (i + 4) m
    → b₅ ≡ paste_w b₀ i (t ∷ k ∷ c ∷ s ∷ m ∷ [])
head-written b₀ b₁ b₂ b₃ b₄ b₅ i t k c s m room e₁ e₂ e₃ e₄ e₅ =
    let p₁ : b₁ ≡ paste_w b₀ i (t ∷ []) = e₁ ∙ put_w-paste b₀ i t (omega arith) in
    let p₂ : b₂ ≡ paste_w b₀ i (t ∷ k ∷ []) = e₂ ∙ rw p₁ (paste_w-snoc b₀ i (t ∷ []) (i + 1) k (omega arith) (omega arith)) in
    let p₃ : b₃ ≡ paste_w b₀ i (t ∷ k ∷ c ∷ []) = e₃ ∙ rw p₂ (paste_w-snoc b₀ i (t ∷ k ∷ []) (i + 2) c (omega arith) (omega arith)) in
    let p₄ : b₄ ≡ paste_w b₀ i (t ∷ k ∷ c ∷ s ∷ []) = e₄ ∙ rw p₃ (paste_w-snoc b₀ i (t ∷ k ∷ c ∷ []) (i + 3) s (omega arith) (omega arith)) in
    e₅ ∙ rw p₄ (paste_w-snoc b₀ i (t ∷ k ∷ c ∷ s ∷ []) (i + 4) m (omega arith) (omega arith))

-- ---- the row of a leaf
powers-are : (pw : ℕ → ℕ → ℕ) (es : List ℕ) (v : ℕ) → gcd_powers pw es v ≡ least (pw v) es
unfolding gcd_powers
powers-are pw es v = refl

row_is : (m : ℕ) (xs : List ℕ) (pw : ℕ → ℕ → ℕ) (es : List ℕ) (c q r : ℕ) (g : List ℕ) → c ≡ length es → q ≡ masks.mask m xs (gcd_powers pw es)
    → g ≡ monomial_of 1 (gcd_powers pw es) → r ≡ length (monomial_of 1 (gcd_powers pw es))
    → (0 ∷ 0 ∷ c ∷ 0 ∷ q ∷ []) ++ (g ++ zeros (m + 1 - r)) ≡ node_words m xs pw 0 0 0 es
unfolding node_words slot
row_is m xs pw es c q r g ec eq eg er = rw (ec, eq, eg, er) refl

module _ (W : List ℕ) (s : Shape) (R : walk.Ready W s) (lo c : ℕ) (h : lo + c ≤ s.entries) where
  abbrev few : s.variables ≤ 64
  few = R.range.vars-to

  abbrev es : List ℕ
  es = entries_from W s lo c

  pub record GcdNumbers (r : ℕ) : Type 0 where
    pub is : r ≡ length (gcd_of (power W s) (entries_from W s lo c))
    pub short : r ≤ s.variables + 1
    pub vars : s.variables ≤ 64
    pub count : c ≤ 4096

  pub gcd-numbers : (acc : List ℕ) (r : ℕ) → r ≤ 65 → length acc ≡ 260 → part (words acc) 0 r ≡ gcd_of (power W s) (entries_from W s lo c) → GcdNumbers r
  gcd-numbers acc r a b e =
      let l : r ≡ length (gcd_of (power W s) es) = sym (length_part (words acc) 0 r (omega (arith, length-words acc))) ∙ ap (length {A = ℕ}) e in
      record {
        is = l;
        short = omega (arith, l, canonical-length 1 s.variables (gcd_of (power W s) es) (omega arith) (omega arith) (gcd-canonical s.variables (power W s) (image-powers W s few) es));
        vars = few;
        count = omega (arith, R.range.few, R.range.cap-to);
      }

  pub leaf-written : (bs b₁ b₂ b₃ g : List ℕ) (i r m : ℕ) → 4 * (i + (s.variables + 6)) ≤ length bs → r ≡ length g → r ≤ s.variables + 1 → g ≡ gcd_of (power W s) (entries_from W s lo c)
      → m ≡ masks.mask s.variables (map_maxima W s) (pow 1 (first 1 g)) → b₁ ≡ paste_w bs i (0 ∷ 0 ∷ c ∷ 0 ∷ m ∷ []) → b₂ ≡ paste_w b₁ (i + 5) g
      → b₃ ≡ paste_w b₂ (i + 5 + r) (zeros (s.variables + 1 - r))
      → b₃ ≡ paste_w bs i (node_words s.variables (map_maxima W s) (power W s) 0 0 0 (entries_from W s lo c))
  leaf-written bs b₁ b₂ b₃ g i r m room er short eg em e₁ e₂ e₃ =
      let hd : List ℕ = 0 ∷ 0 ∷ c ∷ 0 ∷ m ∷ [] in
      let canonical-g : Canonical 1 s.variables g = rw eg (gcd-canonical s.variables (power W s) (image-powers W s R.range.vars-to) es) in
      let z = zeros (s.variables + 1 - r) in
      let ec : c ≡ length es = sym (length_part W (at.permutation_at s + lo) c (omega (arith, place-fits W s R (lo + c) h))) in
      let long₁ : length b₁ ≡ length bs = rw e₁ (length-paste_w bs i hd (omega arith)) in
      let p₃ : b₃ ≡ paste_w b₁ (i + 5) (g ++ z) = e₃ ∙ rw e₂ (paste_w-append b₁ (i + 5) g (i + 5 + r) z (omega (arith, er)) (omega arith)) in
      let p₂ : b₃ ≡ paste_w bs i (hd ++ (g ++ z)) = p₃ ∙ rw e₁ (paste_w-append bs i hd (i + 5) (g ++ z) (omega arith) (omega arith)) in
      let mm : m ≡ masks.mask s.variables (map_maxima W s) (gcd_powers (power W s) es) = em
      ∙ ap (λ (l : List ℕ). masks.mask s.variables (map_maxima W s) (pow 1 l)) (first-whole canonical-g ∙ eg) ∙ mask-powers es in
      p₂ ∙ ap (paste_w bs i) (row_is s.variables (map_maxima W s) (power W s) es c m r g ec mm eg (er ∙ ap (length {A = ℕ}) eg))
    where
      mask-powers : (es : List ℕ) → masks.mask s.variables (map_maxima W s) (pow 1 (gcd_of (power W s) es)) ≡ masks.mask s.variables (map_maxima W s) (gcd_powers (power W s) es)
      mask-powers es = mask-ext s.variables (map_maxima W s) (pow 1 (gcd_of (power W s) es)) (gcd_powers (power W s) es)
          (λ v l. gcd-pow s.variables (power W s) (image-powers W s R.range.vars-to) es v ∙ sym (powers-are (power W s) es v))

-- the words of a leaf's row are words
pub leaf-small : (W : List ℕ) (s : Shape) (lo c : ℕ) → s.variables ≤ 64 → length (entries_from W s lo c) < 2 ^ 32
    → Words (node_words s.variables (map_maxima W s) (power W s) 0 0 0 (entries_from W s lo c))
unfolding node_words slot
leaf-small W s lo c few l =
    let es = entries_from W s lo c in
    let g : Small (gcd_of (power W s) es) = record { each = gcd-words s.variables (power W s) (image-powers W s few) es } in
    let all : Small (0 ∷ 0 ∷ length es ∷ 0 ∷ masks.mask s.variables (map_maxima W s) (gcd_powers (power W s) es) ∷
    (gcd_of (power W s) es ++ zeros (s.variables + 1 - length (gcd_of (power W s) es)))) =
    small-cons (omega arith) (small-cons (omega arith) (small-cons l
    (small-cons (omega arith) (small-cons (mask-small s.variables (map_maxima W s) (gcd_powers (power W s) es))
    (small-append g (small-zeros (s.variables + 1 - length (gcd_of (power W s) es)))))))) in
    all.each
