-- What is left of a row that gets one entry more. Assumes nothing.
use mathlib.Core.Path.{◌≡◌, sym, ap, ◌∙◌}
use mathlib.Core.Bool.{true}
use mathlib.Core.List.{List}
use Prim.Native.Nat.{ℕ, ◌+◌, ◌*◌, ◌≤◌}
use native.Mathlib.Omega.{arith}
use lib.ListN.{length, get_or, drop}
use borrow.Author.Tests.{eq-eqb, ne_eqb}
use Rattle.words.specs.Words.{words, put_w, paste_w}
use Rattle.words.proofs.Laws.{Bytes, put_w-paste}
use Rattle.monomial.specs.Monomial.{Canonical, Starts, first, front}
use Rattle.monomial.specs.Operations.{divides, result_words}
use Rattle.monomial.specs.declared.ordered_ops.Op.TheVariants.{Gcd}
use Rattle.monomial.proofs.Firsts.{starts-wide, starts-whole, first-whole}
use Rattle.monomial.proofs.Laws.{canonical-more, canonical-result, gcd-divided}
use Rattle.index_image.specs.Shape as at
use Rattle.index_image.specs.Rows.{monomial_in}
use Rattle.index_image.specs.Walk.{map_maxima}
use Rattle.index_image.specs.declared.Shape.{Shape}
use Rattle.index_image.proofs.Gcds.{in-canonical}
use Rattle.index_image.proofs.Reading.{gcd-fits}
use Rattle.index_image.proofs.Slots.{MadeAside, made-aside}
use Rattle.words.proofs.Pasting.{paste-same}
use Rattle.kd_slots.specs.Slots.{Mapped, gcd_width, gcd_words}
use Rattle.kd_descent.specs.Growing.{Row, grown_gcd, grown}

pub first-gcd : (W : List ℕ) (m i c : ℕ) (lm : List ℕ) → c ≡ 0 → lm ≡ grown_gcd W m i c lm
unfolding grown_gcd
first-gcd W m i c lm e = rw (eq-eqb c 0 e)

pub other-gcd : (W : List ℕ) (m i c : ℕ) (lm : List ℕ) → (c ≡ 0 → ⊥) → result_words Gcd (monomial_in W m (at.gcd_at i)) lm ≡ grown_gcd W m i c lm
unfolding grown_gcd
other-gcd W m i c lm e = rw (ne_eqb c 0 e)

pub row_written : (im a b : List ℕ) (s : Shape) (i c : ℕ) (lm : List ℕ) → length a ≡ length im → 4 * (at.count_at i + 1) ≤ length im → c ≡ get_or (words im) (at.count_at i) 0
    → a ≡ paste_w im (at.node_mask_at i) (gcd_words s.variables (map_maxima (words im) s) (grown_gcd (words im) s.variables i c lm)) → b ≡ put_w a (at.count_at i) (c + 1)
    → b ≡ grown im (words im) s i lm
unfolding grown
row_written im a b s i c lm la h ec ea eb = eb ∙ put_w-paste a (at.count_at i) (c + 1) (omega arith) ∙ rw (ea, ec)

-- the gcd of the monomial at word g and lm, made aside in 65 words; A are the words read there
module _ (W : List ℕ) (m g : ℕ) (A lm : List ℕ) (few : m ≤ 64) (some : front 1 m 0 (drop g W) ≡ 0 → ⊥) (can : Canonical 1 m lm) (ea : A ≡ monomial_in W m g) where
  there : Canonical 1 64 A
  there = rw ea (canonical-more (omega arith) few (in-canonical W m g some))

  pub starts-there : Starts 1 4096 A
  starts-there = starts-wide (starts-whole there)

  pub gcd-room : length (result_words Gcd (first 1 A) (first 1 lm)) ≤ 65
  gcd-room = rw (first-whole there, first-whole can) (gcd-fits A lm there (canonical-more (omega arith) few can))

  pub gcd-aside : (space made : List ℕ) (n : ℕ) → length space ≡ 260 → n ≡ length (result_words Gcd (first 1 A) (first 1 lm)) → made ≡ paste_w space 0 (result_words Gcd (first 1 A) (first 1 lm))
      → MadeAside made (result_words Gcd (monomial_in W m g) lm) n
  gcd-aside space made n h en em =
      rw (← ea) (made-aside Gcd A lm space made n there (canonical-more (omega arith) few can) h (rw (first-whole there, first-whole can) at en) (rw (first-whole there, first-whole can) at em))

pub gcd-good : (m : ℕ) (a b : List ℕ) → m ≤ 64 → Canonical 1 m a → Canonical 1 m b → Canonical 1 m (result_words Gcd a b)
gcd-good m a b h ca cb = canonical-result m a b ca cb Gcd (omega arith) (λ e. absurd (let z : ◌≡◌ {A = ℕ} 0 1 = cc in omega arith))

-- where the gcd divides lm, the row has the new gcd already
pub gcd-stays : (im : List ℕ) (s : Shape) (i : ℕ) (lm : List ℕ) → Bytes im → Mapped im s → Row (words im) s i → Canonical 1 s.variables lm
    → divides (monomial_in (words im) s.variables (at.gcd_at i)) lm ≡ true
    → im ≡ paste_w im (at.node_mask_at i) (gcd_words s.variables (map_maxima (words im) s) (result_words Gcd (monomial_in (words im) s.variables (at.gcd_at i)) lm))
gcd-stays im s i lm b M r can d =
    let q = monomial_in (words im) s.variables (at.gcd_at i) in
    let few = M.range.vars-to in
    sym (ap (λ (x : List ℕ). paste_w im (at.node_mask_at i) (gcd_words s.variables (map_maxima (words im) s) x))
    (gcd-divided s.variables q lm (in-canonical (words im) s.variables (at.gcd_at i) r.gcd) can (omega arith) d)
    ∙ ap (paste_w im (at.node_mask_at i)) (sym r.masked) ∙ paste-same im (at.node_mask_at i) (gcd_width s.variables) b (omega (arith, M.room, r.inside)))
