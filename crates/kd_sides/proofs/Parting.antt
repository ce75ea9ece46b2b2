-- How a leaf's entries are parted and the least label of a side is found, over the words of an image. Assumes nothing.
use mathlib.Core.Path.{◌≡◌, refl, sym, ap, ◌∙◌}
use mathlib.Core.Bool.{Bool, true, false, not, cond}
use mathlib.Core.List.{List, [], ◌∷◌, ◌++◌, append-nil}
use Rattle.std.specs.Prelude.{Option, Some, None, IfSome, unwrap_or}
use Prim.Native.Nat.{ℕ, zero, suc, ◌+◌, ◌-◌, ◌*◌, ◌≤◌, ◌<◌}
use native.Mathlib.Omega.{arith}
use lib.Dec.{ltb}
use lib.ListN.{length, get_or, length-append}
use borrow.Author.Tests.{lt-ltb, le-ltb}
use Rattle.words.specs.Words.{put_w, paste_w}
use Rattle.words.specs.Tables.{part}
use Rattle.words.proofs.Laws.{paste_w-nil, put_w-paste}
use Rattle.words.proofs.Tables.{part-nil, part-add, paste_w-append}
use Rattle.kd_theory.specs.Bag.{keep}
use Rattle.kd_theory.specs.Bifurcate.{first_least}
use Rattle.index_image.specs.Shape as at
use Rattle.index_image.specs.Walk as walk
use Rattle.index_image.specs.Walk.{power, label}
use Rattle.index_image.specs.Rows.{entries_from}
use Rattle.index_image.specs.declared.Shape.{Shape}
use Rattle.kd_dimension.specs.Choice.{key_by, key_in, least_place, mark_by, mark_in}
use Rattle.kd_sides.specs.Sides.{lower_of, on_side}
use Rattle.kd_dimension.proofs.Choosing.{by-label, place}

-- ---- the answers of the two tests
module _ (pw : ℕ → ℕ → ℕ) (d x e : ℕ) where
  pub less-says : ltb (pw d e) x ≡ on_side pw d x true e
  unfolding on_side
  less-says = refl

  pub other-says : not (ltb (pw d e) x) ≡ on_side pw d x false e
  unfolding on_side
  other-says = refl

-- ---- those on a side
pub keep-joined : (p : ℕ → Bool) (xs ys : List ℕ) → keep p (xs ++ ys) ≡ keep p xs ++ keep p ys
unfolding keep
keep-joined p [] ys = refl
keep-joined p (x ∷ xs) ys = go (p x) (keep-joined p xs ys)
  where
    go : (b : Bool) → keep p (xs ++ ys) ≡ keep p xs ++ keep p ys → elim b [ true ↦ x ∷ keep p (xs ++ ys) | false ↦ keep p (xs ++ ys) ] ≡ elim b
        [ true ↦ x ∷ keep p xs | false ↦ keep p xs ] ++ keep p ys
    go true ih = rw ih refl
    go false ih = ih

keep_one : (p : ℕ → Bool) (e : ℕ) (b : Bool) → p e ≡ b → keep p (e ∷ []) ≡ cond b (e ∷ []) []
unfolding keep
keep_one p e true h = rw (h, keep) refl
keep_one p e false h = rw (h, keep) refl

pub record Gathering (W : List ℕ) (s : Shape) (p : ℕ → Bool) (lo i : ℕ) (out₀ out : List ℕ) (o n : ℕ) : Type 0 where
  pub count : n ≡ length (keep p (entries_from W s lo i))
  pub long : length out ≡ length out₀
  pub bytes : out ≡ paste_w out₀ o (keep p (entries_from W s lo i))

module _ (W : List ℕ) (s : Shape) (p : ℕ → Bool) (lo : ℕ) (out₀ : List ℕ) (o : ℕ) where
  pub gather_none : Gathering W s p lo 0 out₀ out₀ o 0
  unfolding keep
  gather_none =
      let e : entries_from W s lo 0 ≡ [] = part-nil W (at.permutation_at s + lo) in
      record { count = rw e refl; long = refl; bytes = rw e (sym (paste_w-nil out₀ o)) }

  -- those of the first entries are no more than those of all
  prefix : (i c : ℕ) → i ≤ c → length (keep p (entries_from W s lo i)) ≤ length (keep p (entries_from W s lo c))
  prefix i c h =
      let e : i + (c - i) ≡ c = omega arith in
      let z : entries_from W s lo c ≡ entries_from W s lo i ++ part W (at.permutation_at s + lo + i) (c - i) = ap (part W (at.permutation_at s + lo)) (sym e)
      ∙ part-add W (at.permutation_at s + lo) i (c - i) in
      let k = ap (length {A = ℕ}) (ap (keep p) z ∙ keep-joined p (entries_from W s lo i) (part W (at.permutation_at s + lo + i) (c - i))) in
      omega (arith, k, length-append (keep p (entries_from W s lo i)) (keep p (part W (at.permutation_at s + lo + i) (c - i))))

  module _ (c i e n : ℕ) (out : List ℕ) (R : walk.Ready W s) (hc : lo + c ≤ s.entries) (hi : i < c) (q : ℕ) (eq : q ≡ at.permutation_at s) (ee : e ≡ get_or W (q + lo + i) 0)
      (g : Gathering W s p lo i out₀ out o n) where
    -- one entry more
    next : (b : Bool) → p e ≡ b → keep p (entries_from W s lo (i + 1)) ≡ keep p (entries_from W s lo i) ++ cond b (e ∷ []) []
    next b t = ap (keep p) (place W s R lo c i q e hc hi eq ee).snoc ∙ keep-joined p (entries_from W s lo i) (e ∷ []) ∙ rw (keep_one p e b t) refl

    -- entry e is taken: there is room for it, and it is written
    pub gather-room : p e ≡ true → 4 * (o + length (keep p (entries_from W s lo c))) ≤ length out₀ → 4 * (o + n) + 4 ≤ length out
    gather-room t h =
        let k = ap (length {A = ℕ}) (next true t) in
        omega (arith, k, length-append (keep p (entries_from W s lo i)) (e ∷ []), prefix (i + 1) c (omega arith), g.count, g.long)

    pub gather-taken : (out' : List ℕ) → p e ≡ true → 4 * (o + n) + 4 ≤ length out → length out' ≡ length out → out' ≡ put_w out (o + n) e → Gathering W s p lo (i + 1) out₀ out' o (n + 1)
    gather-taken out' t room l w =
        let k = next true t in
        record {
          count = omega (arith, ap (length {A = ℕ}) k, length-append (keep p (entries_from W s lo i)) (e ∷ []), g.count);
          long = l ∙ g.long;
          bytes = w ∙ put_w-paste out (o + n) e room ∙ rw (g.bytes, k) (paste_w-append out₀ o (keep p (entries_from W s lo i)) (o + n) (e ∷ []) (omega (arith, g.count)) (omega (arith, g.count, g.long, room)));
        }

    pub gather-left : p e ≡ false → Gathering W s p lo (i + 1) out₀ out o n
    gather-left t = let k = next false t ∙ append-nil (keep p (entries_from W s lo i)) in record { count = rw k g.count; long = g.long; bytes = rw k g.bytes }

-- ---- the first of least label
least-snoc-place : (lb : ℕ → ℕ) (xs : List ℕ) (y : ℕ) → least_place lb (xs ++ (y ∷ [])) ≡ Some (lower_of lb y (least_place lb xs))
unfolding least_place lower_of first_least
least-snoc-place lb [] y = refl
least-snoc-place lb (x ∷ xs) y = ap Some (go x xs)
  where
    go : (x : ℕ) (xs : List ℕ) → first_least lb x (xs ++ (y ∷ [])) ≡ cond (ltb (lb y) (lb (first_least lb x xs))) y (first_least lb x xs)
    go x [] = refl
    go x (z ∷ xs) = go (cond (ltb (lb z) (lb x)) z x) xs

pub record Lowest (W : List ℕ) (s : Shape) (x lo i : ℕ) (best : Option ℕ) : Type 0 where
  pub is : best ≡ least_place (label W s) (keep (on_side (key_in W s) 0 x false) (entries_from W s lo i))
  pub small : IfSome best (λ e. e < s.entries)

module _ (W : List ℕ) (s : Shape) (k : s.kind ≡ 1) (x lo : ℕ) where
  abbrev p : ℕ → Bool
  p = on_side (key_in W s) 0 x false

  pub lowest-none : Lowest W s x lo 0 None
  unfolding keep least_place
  lowest-none = let e : entries_from W s lo 0 ≡ [] = part-nil W (at.permutation_at s + lo) in record { is = rw e refl; small = tt }

  on-label : (e : ℕ) → on_side (key_in W s) 0 x false e ≡ not (ltb (label W s e) x)
  unfolding on_side key_in key_by
  on-label e = ap (λ (y : ℕ). not (ltb y x)) (by-label s.kind (power W s) (label W s) 0 e k refl)

  pub lowest-more : (c i e q : ℕ) (best best' : Option ℕ) → walk.Ready W s → lo + c ≤ s.entries → i < c → q ≡ at.permutation_at s → e ≡ get_or W (q + lo + i) 0
      → best' ≡ cond (ltb (label W s e) x) best (Some (lower_of (label W s) e best)) → IfSome best' (λ b. b < s.entries) → Lowest W s x lo i best → Lowest W s x lo (i + 1) best'
  lowest-more c i e q best best' R hc hi eq ee eb l L =
      let z = place W s R lo c i q e hc hi eq ee in
      let kk : keep p (entries_from W s lo (i + 1)) ≡ keep p (entries_from W s lo i) ++ keep p (e ∷ []) = ap (keep p) z.snoc ∙ keep-joined p (entries_from W s lo i) (e ∷ []) in
      record { is = eb ∙ go (ltb (label W s e) x) refl ∙ ap (least_place (label W s)) (sym kk); small = l }
    where
      go : (b : Bool) → ltb (label W s e) x ≡ b → cond b best (Some (lower_of (label W s) e best)) ≡ least_place (label W s) (keep p (entries_from W s lo i) ++ keep p (e ∷ []))
      go true h =
          let o : keep p (e ∷ []) ≡ [] = keep_one p e false (on-label e ∙ rw h refl) in
          L.is ∙ ap (least_place (label W s)) (sym (rw o (append-nil (keep p (entries_from W s lo i)))))
      go false h =
          let o : keep p (e ∷ []) ≡ e ∷ [] = keep_one p e true (on-label e ∙ rw h refl) in
          rw (L.is, o) (sym (least-snoc-place (label W s) (keep p (entries_from W s lo i)) e))

-- the returns of `lower`
module _ (lb : ℕ → ℕ) (x e l : ℕ) (el : l ≡ lb e) where
  pub lower-below : (best : Option ℕ) → l < x → best ≡ cond (ltb (lb e) x) best (Some (lower_of lb e best))
  lower-below best h = let z : ltb (lb e) x ≡ true = lt-ltb (lb e) x (omega arith) in rw z refl

  pub lower-first : x ≤ l → Some e ≡ cond (ltb (lb e) x) None (Some (lower_of lb e None))
  unfolding lower_of
  lower-first h = let z : ltb (lb e) x ≡ false = le-ltb (lb e) x (omega arith) in rw z refl

  pub lower-new : (b m : ℕ) → x ≤ l → m ≡ lb b → l < m → Some e ≡ cond (ltb (lb e) x) (Some b) (Some (lower_of lb e (Some b)))
  unfolding lower_of
  lower-new b m h em n =
      let z : ltb (lb e) x ≡ false = le-ltb (lb e) x (omega arith) in
      let y : ltb (lb e) (lb b) ≡ true = lt-ltb (lb e) (lb b) (omega arith) in
      rw (z, y) refl

  pub lower-old : (b m : ℕ) → x ≤ l → m ≡ lb b → m ≤ l → Some b ≡ cond (ltb (lb e) x) (Some b) (Some (lower_of lb e (Some b)))
  unfolding lower_of
  lower-old b m h em n =
      let z : ltb (lb e) x ≡ false = le-ltb (lb e) x (omega arith) in
      let y : ltb (lb e) (lb b) ≡ false = le-ltb (lb e) (lb b) (omega arith) in
      rw (z, y) refl

-- the returns of `mark`
pub mark-by-plain : (k : ℕ) (lb : ℕ → ℕ) (d x : ℕ) (es : List ℕ) → k ≡ 0 → mark_by k lb d x es ≡ x
unfolding mark_by
mark-by-plain k lb d x es z = rw (z, mark_by) refl

pub mark-by-power : (k : ℕ) (lb : ℕ → ℕ) (d x : ℕ) (es : List ℕ) → k ≡ 1 → (d ≡ 0 → ⊥) → mark_by k lb d x es ≡ x
unfolding mark_by
mark-by-power k lb zero x es z n = absurd (n refl)
mark-by-power k lb (suc d) x es z n = rw (z, mark_by) refl

pub mark-by-entry : (k : ℕ) (lb : ℕ → ℕ) (d x : ℕ) (es : List ℕ) → k ≡ 1 → d ≡ 0 → mark_by k lb d x es ≡ unwrap_or (least_place lb es) 0
unfolding mark_by
mark-by-entry k lb d x es z n = rw (z, n, mark_by) refl

module _ (W : List ℕ) (s : Shape) (d x : ℕ) (es : List ℕ) where
  pub mark-plain : s.kind ≡ 0 → x ≡ mark_in W s d x es
  unfolding mark_in
  mark-plain k = sym (mark-by-plain s.kind (label W s) d x es k)

  pub mark-power : s.kind ≡ 1 → (d ≡ 0 → ⊥) → x ≡ mark_in W s d x es
  unfolding mark_in
  mark-power k n = sym (mark-by-power s.kind (label W s) d x es k n)

pub mark-entry : (W : List ℕ) (s : Shape) (d x lo c : ℕ) (e : Option ℕ) → s.kind ≡ 1 → d ≡ 0
    → e ≡ least_place (label W s) (keep (on_side (key_in W s) 0 x false) (entries_from W s lo c))
    → unwrap_or e 0 ≡ mark_in W s d x (keep (on_side (key_in W s) d x false) (entries_from W s lo c))
unfolding mark_in
mark-entry W s d x lo c e k z h = rw z (ap (λ (y : Option ℕ). unwrap_or y 0) h ∙ sym (mark-by-entry s.kind (label W s) 0 x (keep (on_side (key_in W s) 0 x false) (entries_from W s lo c)) k refl))
