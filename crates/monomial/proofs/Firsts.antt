-- The canonical monomial or ratio at the front of a longer list: a slot of an image, or what is left of a call list. Assumes nothing.
use mathlib.Core.Path.{◌≡◌, sym, ◌∙◌}
use mathlib.Core.List.{List, [], ◌∷◌, ◌++◌}
use mathlib.Core.Logic.{◌⊎◌, inl, inr}
use Prim.Native.Nat.{ℕ, ◌*◌, ◌≤◌, ◌<◌}
use native.Mathlib.Omega.{arith}
use lib.ListN.{length, get_or, take, drop, length-take}
use lib.Seq.{take-length, take-append_seam, get_or-take}
use Rattle.words.specs.Kinds.{kind, payload}
use Rattle.words.specs.Words.{words}
use Rattle.words.specs.Tables.{part}
use Rattle.words.proofs.Laws.{length-words}
use Rattle.monomial.specs.Monomial.{front, Canonical, Starts, first}
use Rattle.monomial.proofs.Canon.{IsVar, front-none, front-cases, front-end, front-var, var-is}
use Rattle.monomial.proofs.Laws.{front-canonical, canonical-front}
use Rattle.monomial.proofs.Walks.{Rest, start, within}

-- an id has 12 bits, so the number of variables bounds only whether a list starts, not where it ends
pub front-wide : (k b n : ℕ) (ws : List ℕ) → (front k b n ws ≡ 0 → ⊥) → front k 4096 n ws ≡ front k b n ws
front-wide k b n [] h = front-none k 4096 n ∙ sym (front-none k b n)
front-wide k b n (w ∷ ws) h = go (front-cases k b n w ws h)
  where
    go : ((kind w ≡ 0) × (payload w ≡ n)) ⊎ ((kind w ≡ 0 → ⊥) × IsVar k b w) → front k 4096 n (w ∷ ws) ≡ front k b n (w ∷ ws)
    go (inl (z, e)) = front-end k 4096 n w ws z e ∙ sym (front-end k b n w ws z e)
    go (inr (z, v)) =
        let u : IsVar k 4096 w = record { kinded = v.kinded; below = omega arith; low = v.low; high = v.high; some = v.some } in
        front-var k 4096 n w ws z (var-is k 4096 w u) ∙ sym (front-var k b n w ws z (var-is k b w v))

pub starts-wide : {k m : ℕ} {ws : List ℕ} → Starts k m ws → Starts k 4096 ws
starts-wide {k} {m} {ws} s = record { some = λ e. s.some (sym (front-wide k m 0 ws s.some) ∙ e) }

-- it is what the front finds in any number of variables in which it starts
pub first-is : {k m : ℕ} {ws : List ℕ} → Starts k m ws → first k ws ≡ take (front k m 0 ws) ws
unfolding first
first-is {k} {m} {ws} s = rw (front-wide k m 0 ws s.some)

pub first-canonical : {k m : ℕ} {ws : List ℕ} → 0 < k → Starts k m ws → Canonical k m (first k ws)
first-canonical {k} {m} {ws} pos s = rw (first-is s) (front-canonical k m ws pos s.some)

-- a canonical list starts with itself, whatever follows
pub starts-slot : {k m : ℕ} {ws : List ℕ} (rest : List ℕ) → 0 < k → Canonical k m ws → Starts k m (ws ++ rest)
starts-slot {k} {m} {ws} rest pos c = record { some = λ e. omega (arith, canonical-front k m ws rest pos c, c.some) }

pub first_slot : {k m : ℕ} {ws : List ℕ} (rest : List ℕ) → 0 < k → Canonical k m ws → first k (ws ++ rest) ≡ ws
first_slot {k} {m} {ws} rest pos c =
    first-is (starts-slot rest pos c) ∙ rw (canonical-front k m ws rest pos c) (take-append_seam ws rest)

pub starts-whole : {k m : ℕ} {ws : List ℕ} → Canonical k m ws → Starts k m ws
starts-whole c = record { some = λ e. omega (arith, c.some, c.whole) }

pub first-whole : {k m : ℕ} {ws : List ℕ} → Canonical k m ws → first k ws ≡ ws
first-whole {k} {m} {ws} c = first-is (starts-whole c) ∙ rw c.whole (take-length ws)

-- canonical in some number of variables is canonical in any that ids allow
pub canonical-wide : {k m : ℕ} {ws : List ℕ} → Canonical k m ws → Canonical k 4096 ws
canonical-wide {k} {m} {ws} c = record { some = c.some; whole = front-wide k m 0 ws (starts-whole c).some ∙ c.whole }

-- in an image, it is the part that the front there finds
pub first_part : {k m : ℕ} (W : List ℕ) (at : ℕ) → Starts k m (drop at W) → first k (drop at W) ≡ part W at (front k m 0 (drop at W))
unfolding part
first_part W at s = first-is s

-- ---- what a walk over it reads
pub first_short : (k : ℕ) (ws : List ℕ) → length (first k ws) ≤ length ws
unfolding first
first_short k ws = omega (arith, length-take (front k 4096 0 ws) ws)

-- its words are among the bytes lent
pub first-bytes : (k : ℕ) (s : List ℕ) → 4 * length (first k (words s)) ≤ length s
first-bytes k s = omega (arith, first_short k (words s), length-words s)

pub begins : {k : ℕ} {W : List ℕ} → 0 < k → Starts k 4096 W → Rest k (first k W) 0 4096
begins pos s = start (first-canonical pos s)

pub read : (k : ℕ) (W : List ℕ) (i : ℕ) {x : ℕ} → i < length (first k W) → x ≡ get_or W i 0 → x ≡ get_or (first k W) i 0
unfolding first
read k W i h e =
    let l : i < front k 4096 0 W = omega (arith, h, length-take (front k 4096 0 W) W) in
    e ∙ sym (get_or-take (front k 4096 0 W) W i 0 l)

pub seen : {k i b x : ℕ} (W : List ℕ) → Rest k (first k W) i b → x ≡ get_or W i 0 → x ≡ get_or (first k W) i 0
seen {k} {i} W r e = read k W i (within r) e
