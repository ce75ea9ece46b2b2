-- How a leaf's entries are looked at and a dimension is chosen, over the words of an image. Assumes nothing.
use mathlib.Core.Path.{◌≡◌, refl, sym, ◌∙◌}
use mathlib.Core.Bool.{Bool, true, false}
use mathlib.Core.Option.{none, some}
use mathlib.Core.List.{List, [], ◌∷◌, ◌++◌}
use Prim.Native.Nat.{ℕ, zero, suc, ◌+◌, ◌-◌, ◌/◌, ◌%◌, ◌≤◌, ◌<◌, min, max}
use native.Mathlib.Omega.{arith}
use lib.Dec.{ltb}
use lib.ListN.{length, get_or}
use borrow.Author.Tests.{lt-ltb, le-ltb}
use Rattle.words.specs.Words.{words}
use Rattle.words.proofs.Laws.{Bytes, words_small}
use Rattle.words.proofs.Tables.{part-one, part-snoc, length_part}
use Rattle.monomial.specs.Monomial.{pow}
use Rattle.kd_theory.specs.Bifurcate.{least_of, greatest_of, least, greatest, average, cut, try_from}
use Rattle.kd_theory.proofs.BifurcateLaws.{least-append, least-most}
use Rattle.fast_compare.specs.Layout as labels
use Rattle.index_image.specs.Shape as at
use Rattle.index_image.specs.Walk as walk
use Rattle.index_image.specs.Walk.{power, label}
use Rattle.index_image.specs.Rows.{entries_from, monomial_in}
use Rattle.index_image.specs.declared.Shape.{Shape}
use Rattle.index_image.proofs.Places.{place-fits}
use Rattle.index_image.proofs.Gcds.{power_small}
use Rattle.index_image.proofs.Reading.{lm-read}
use Rattle.std.specs.Prelude.{Some, None}
use Rattle.kd_dimension.specs.Choice.{key_by, key_in, Chose}

pub power-read : (W : List ℕ) (s : Shape) (v e a r : ℕ) (ws : List ℕ) → a ≡ at.entry_at s e → ws ≡ monomial_in W s.variables a → r ≡ pow 1 ws v → r ≡ power W s v e
unfolding power
power-read W s v e a r ws ea ew er = er ∙ rw (lm-read W s e a ws ea ew) refl

-- ---- the entries from a place on
pub record Place (W : List ℕ) (s : Shape) (lo i : ℕ) (e : ℕ) : Type 0 where
  pub small : e < s.entries
  pub snoc : entries_from W s lo (i + 1) ≡ entries_from W s lo i ++ (e ∷ [])
  pub long : length (entries_from W s lo i) ≡ i

pub place : (W : List ℕ) (s : Shape) → walk.Ready W s → (lo c i p e : ℕ) → lo + c ≤ s.entries → i < c → p ≡ at.permutation_at s → e ≡ get_or W (p + lo + i) 0 → Place W s lo i e
place W s R lo c i p e hc hi ep ee =
    let z : p + lo + i ≡ at.permutation_at s + (lo + i) = omega arith in
    let z2 : p + lo + i ≡ at.permutation_at s + lo + i = omega arith in
    let f = place-fits W s R (lo + c) hc in
    record {
      small = rw (ee, z) (R.places (lo + i) (omega arith));
      snoc = part-snoc W (at.permutation_at s + lo) i (omega arith) ∙ rw (ee, z2) refl;
      long = length_part W (at.permutation_at s + lo) i (omega arith);
    }

-- ---- least and greatest
greatest_of-snoc : (f : ℕ → ℕ) (x : ℕ) (xs : List ℕ) (y : ℕ) → greatest_of f x (xs ++ y ∷ []) ≡ max (greatest_of f x xs) (f y)
unfolding greatest_of
greatest_of-snoc f x [] y = refl
greatest_of-snoc f x (z ∷ xs) y = let ih = greatest_of-snoc f z xs y in omega (arith, ih)

greatest-snoc : (f : ℕ → ℕ) (xs : List ℕ) (y : ℕ) → 0 < length xs → greatest f (xs ++ y ∷ []) ≡ max (greatest f xs) (f y)
unfolding greatest
greatest-snoc f [] y h = absurd (omega arith)
greatest-snoc f (x ∷ xs) y h = greatest_of-snoc f x xs y

least-one : (f : ℕ → ℕ) (y : ℕ) → least f (y ∷ []) ≡ f y
unfolding least least_of
least-one f y = refl

greatest-one : (f : ℕ → ℕ) (y : ℕ) → greatest f (y ∷ []) ≡ f y
unfolding greatest greatest_of
greatest-one f y = refl

least-snoc : (f : ℕ → ℕ) (xs : List ℕ) (y : ℕ) → 0 < length xs → least f (xs ++ y ∷ []) ≡ min (least f xs) (f y)
least-snoc f xs y h = least-append f xs (y ∷ []) h (omega arith) ∙ rw (least-one f y) refl

greatest_of-most : (f : ℕ → ℕ) (b x : ℕ) (xs : List ℕ) → ((e : ℕ) → f e ≤ b) → greatest_of f x xs ≤ b
unfolding greatest_of
greatest_of-most f b x [] h = h x
greatest_of-most f b x (y ∷ ys) h = let ih = greatest_of-most f b y ys h in omega (arith, ih, h x)

pub greatest-most : (f : ℕ → ℕ) (b : ℕ) (es : List ℕ) → ((e : ℕ) → f e ≤ b) → greatest f es ≤ b
unfolding greatest
greatest-most f b [] h = omega arith
greatest-most f b (x ∷ xs) h = greatest_of-most f b x xs h

pub record Extremes (W : List ℕ) (s : Shape) (v lo i a b : ℕ) : Type 0 where
  pub from : 1 ≤ i
  pub least-is : a ≡ least (key_in W s v) (entries_from W s lo i)
  pub greatest-is : b ≡ greatest (key_in W s v) (entries_from W s lo i)

module _ (W : List ℕ) (s : Shape) (R : walk.Ready W s) (v lo c p : ℕ) (hc : lo + c ≤ s.entries) (ep : p ≡ at.permutation_at s) where
  pub extremes-one : (e x : ℕ) → 1 ≤ c → e ≡ get_or W (p + lo) 0 → x ≡ key_in W s v e → Extremes W s v lo 1 x x
  extremes-one e x h ee ex =
      let f = place-fits W s R (lo + c) hc in
      let o : entries_from W s lo 1 ≡ e ∷ [] = part-one W (at.permutation_at s + lo) (omega arith) ∙ rw (ee, ep) refl in
      record { from = omega arith; least-is = ex ∙ rw o (sym (least-one (key_in W s v) e)); greatest-is = ex ∙ rw o (sym (greatest-one (key_in W s v) e)) }

  pub extremes-more : (i e x a b a' b' : ℕ) → i < c → e ≡ get_or W (p + lo + i) 0 → x ≡ key_in W s v e → Extremes W s v lo i a b → a' ≡ min a x → b' ≡ max b x → Extremes W s v lo (i + 1) a' b'
  extremes-more i e x a b a' b' h ee ex E ea eb =
      let q = place W s R lo c i p e hc h ep ee in
      let pos : 0 < length (entries_from W s lo i) = omega (arith, q.long, E.from) in
      record {
        from = omega arith;
        least-is = ea ∙ rw (q.snoc, least-snoc (key_in W s v) (entries_from W s lo i) e pos, ← ex, ← E.least-is) refl;
        greatest-is = eb ∙ rw (q.snoc, greatest-snoc (key_in W s v) (entries_from W s lo i) e pos, ← ex, ← E.greatest-is) refl;
      }

pub extremes-small : (W : List ℕ) (s : Shape) (v : ℕ) (es : List ℕ) (a b : ℕ) → ((d e : ℕ) → key_in W s d e ≤ 4294967295) → a ≡ least (key_in W s v) es
    → b ≡ greatest (key_in W s v) es → (a ≤ 4294967295) × (b ≤ 4294967295)
extremes-small W s v es a b h ea eb =
    (omega (arith, least-most (key_in W s v) 4294967295 es (h v)), omega (arith, greatest-most (key_in W s v) 4294967295 es (h v)))

-- ---- the key of an entry, by the kind and the dimension
pub by-plain : (k : ℕ) (pw : ℕ → ℕ → ℕ) (lb : ℕ → ℕ) (d e : ℕ) → k ≡ 0 → key_by k pw lb d e ≡ pw d e
unfolding key_by
by-plain k pw lb d e z = rw (z, key_by) refl

pub by-label : (k : ℕ) (pw : ℕ → ℕ → ℕ) (lb : ℕ → ℕ) (d e : ℕ) → k ≡ 1 → d ≡ 0 → key_by k pw lb d e ≡ lb e
unfolding key_by
by-label k pw lb d e z y = rw (z, y, key_by) refl

pub by-power : (k : ℕ) (pw : ℕ → ℕ → ℕ) (lb : ℕ → ℕ) (d e : ℕ) → k ≡ 1 → (d ≡ 0 → ⊥) → key_by k pw lb d e ≡ pw (d - 1) e
unfolding key_by
by-power k pw lb zero e z y = absurd (y refl)
by-power k pw lb (suc d) e z y = let w : suc d - 1 ≡ d = omega arith in rw (z, w, key_by) refl

module _ (W : List ℕ) (s : Shape) (d e r : ℕ) where
  pub key-plain : s.kind ≡ 0 → r ≡ power W s d e → r ≡ key_in W s d e
  unfolding key_in
  key-plain k h = h ∙ sym (by-plain s.kind (power W s) (label W s) d e k)

  pub key-label : s.kind ≡ 1 → d ≡ 0 → r ≡ label W s e → r ≡ key_in W s d e
  unfolding key_in
  key-label k z h = h ∙ sym (by-label s.kind (power W s) (label W s) d e k z)

  pub key-power : s.kind ≡ 1 → (d ≡ 0 → ⊥) → r ≡ power W s (d - 1) e → r ≡ key_in W s d e
  unfolding key_in
  key-power k z h = h ∙ sym (by-power s.kind (power W s) (label W s) d e k z)

-- every key is a word
by-small : (k : ℕ) (pw : ℕ → ℕ → ℕ) (lb : ℕ → ℕ) (d e : ℕ) → pw d e ≤ 4294967295 → ((v : ℕ) → pw v e ≤ 4294967295) → lb e ≤ 4294967295 → key_by k pw lb d e ≤ 4294967295
unfolding key_by
by-small zero pw lb d e a b c = a
by-small (suc k) pw lb zero e a b c = c
by-small (suc k) pw lb (suc v) e a b c = b v

pub key-small : (bs : List ℕ) (s : Shape) → Bytes bs → (d e : ℕ) → key_in (words bs) s d e ≤ 4294967295
unfolding key_in label
key-small bs s by d e =
    by-small s.kind (power (words bs) s) (label (words bs) s) d e (omega (arith, power_small (words bs) s d e)) (λ v. omega (arith, power_small (words bs) s v e))
    (omega (arith, words_small bs by (at.labels_at s + (labels.row_at s.variables (walk.row_in (words bs) s e) + (s.variables + 2)))))

-- ---- the dimension
module _ (pw : ℕ → ℕ → ℕ) (mark : ℕ → ℕ → List ℕ → ℕ) (D n : ℕ) (es : List ℕ) where
  try-step : (j m : ℕ) (b : Bool) → ltb (least (pw (m % D)) es) (greatest (pw (m % D)) es) ≡ b
      → try_from pw mark D (suc j) m es ≡ elim b [ true ↦ some (cut pw mark (m % D) (average (least (pw (m % D)) es) (greatest (pw (m % D)) es)) es) | false ↦ try_from pw mark D j (suc m) es ]
  unfolding try_from
  try-step j m b h = rw (h, try_from) refl

  try-yes : (j m a b : ℕ) → a ≡ least (pw (m % D)) es → b ≡ greatest (pw (m % D)) es → a < b → try_from pw mark D (suc j) m es ≡ some (cut pw mark (m % D) ((a + b + 1) / 2) es)
  try-yes j m a b ea eb h = try-step j m true (rw (← ea, ← eb) (lt-ltb a b h)) ∙ rw (ea, eb) refl

  try-no : (j m a b : ℕ) → a ≡ least (pw (m % D)) es → b ≡ greatest (pw (m % D)) es → b ≤ a → try_from pw mark D (suc j) m es ≡ try_from pw mark D j (suc m) es
  try-no j m a b ea eb h = try-step j m false (rw (← ea, ← eb) (le-ltb a b h))

  try-none : (m : ℕ) → try_from pw mark D 0 m es ≡ none
  unfolding try_from
  try-none m = refl

  -- i dimensions have been tried in vain
  pub Tried : ℕ → Type 0
  Tried i = try_from pw mark D D n es ≡ try_from pw mark D (D - i) (n + i) es

  pub tried-none : Tried 0
  unfolding Tried
  tried-none = let a : D - 0 ≡ D = omega arith in let b : n + 0 ≡ n = omega arith in rw (a, b) refl

  pub tried-more : (i a b : ℕ) → i < D → a ≡ least (pw ((n + i) % D)) es → b ≡ greatest (pw ((n + i) % D)) es → b ≤ a → Tried i → Tried (i + 1)
  unfolding Tried
  tried-more i a b h ea eb l t =
      let z : D - i ≡ suc (D - (i + 1)) = omega arith in
      let y : suc (n + i) ≡ n + (i + 1) = omega arith in
      let u : try_from pw mark D (D - i) (n + i) es ≡ try_from pw mark D (D - (i + 1)) (suc (n + i)) es = rw z (try-no (D - (i + 1)) (n + i) a b ea eb l) in
      t ∙ (rw y at u)

  pub tried-hit : (i a b : ℕ) → i < D → (n + i) % D < D → a ≡ least (pw ((n + i) % D)) es → b ≡ greatest (pw ((n + i) % D)) es → a < b → Tried i
      → Chose pw mark D D n es (Some (record { dim = (n + i) % D; value = (a + b + 1) / 2 }))
  unfolding Tried Chose
  tried-hit i a b h m ea eb l t =
      let z : D - i ≡ suc (D - (i + 1)) = omega arith in
      (t ∙ rw z (try-yes (D - (i + 1)) (n + i) a b ea eb l), m)

  pub tried-all : (i : ℕ) → D ≤ i → Tried i → Chose pw mark D D n es None
  unfolding Tried Chose
  tried-all i h t = let z : D - i ≡ 0 = omega arith in t ∙ rw z (try-none (n + i))
