-- The powers of a list of words, and the list that has given powers. Assumes nothing.
use mathlib.Core.Path.{◌≡◌, refl, sym, ap, ◌∙◌}
use mathlib.Core.Bool.{Bool, true, false, cond, ◌&&◌}
use mathlib.Core.List.{List, [], ◌∷◌, ◌++◌}
use mathlib.Core.Logic.{inl, inr}
use Prim.Native.Nat.{ℕ, zero, suc, ◌+◌, ◌^◌, ◌≤◌, ◌<◌}
use native.Mathlib.Omega.{arith}
use native.Mathlib.Decide.{ℕ_discrete, dec_le}
use lib.Dec.{eqb}
use native.Mathlib.Nat.{zero-add}
use lib.ListN.{length, length-append}
use borrow.Author.Tests.{eq-eqb, ne_eqb}
use Rattle.words.specs.Kinds.{kind, ident, power, var_word}
use Rattle.words.proofs.Fields.{kind-var, ident-var, power-var, var-fits}
use Rattle.words.proofs.Laws.{Words}
use Rattle.monomial.specs.Monomial.{bias, Canonical, find, power_of, pow, vars_of, monomial_of}
use Rattle.monomial.specs.declared.Power.TheVariants.{Found}
use Rattle.monomial.proofs.Canon.{IsVar, IsEnd, Canon, canon-of, canonical-of, raise, lower}

-- ---- the powers of a list
pub pow-nil : (k v : ℕ) → pow k [] v ≡ bias k
unfolding pow find power_of
pow-nil k v = refl

pub pow-here : (k w : ℕ) (ws : List ℕ) (v : ℕ) → kind w ≡ k → ident w ≡ v → pow k (w ∷ ws) v ≡ power w
unfolding pow find power_of
pow-here k w ws v h e = simp (eq-eqb _ _ h, eq-eqb _ _ e)

pub pow-past : (k w : ℕ) (ws : List ℕ) (v : ℕ) → (ident w ≡ v → ⊥) → pow k (w ∷ ws) v ≡ pow k ws v
unfolding pow find
pow-past k w ws v e = rw (ne_eqb (ident w) v e) (go (eqb (kind w) k))
  where
    go : (t : Bool) → power_of k (cond (t && false) (Found (power w)) (find k ws v)) ≡ power_of k (find k ws v)
    go true = refl
    go false = refl

pub pow-other : (k w : ℕ) (ws : List ℕ) (v : ℕ) → (kind w ≡ k → ⊥) → pow k (w ∷ ws) v ≡ pow k ws v
unfolding pow find
pow-other k w ws v e = rw (ne_eqb (kind w) k e)

-- an id has 12 bits, so no list has a variable above them
pub pow-ids : (k : ℕ) (ws : List ℕ) (v : ℕ) → 4096 ≤ v → pow k ws v ≡ bias k
pow-ids k [] v h = pow-nil k v
pow-ids k (w ∷ ws) v h = pow-past k w ws v (λ e. omega arith) ∙ pow-ids k ws v h

module _ (k : ℕ) (pos : 0 < k) where
  -- behind the end word nothing counts
  pub pow-end : (n w : ℕ) (ws : List ℕ) (v : ℕ) → IsEnd n w ws → pow k (w ∷ ws) v ≡ bias k
  pow-end n w ws v e = pow-other k w ws v (λ z. omega (arith, e.kinded)) ∙ rw e.last (pow-nil k v)

  -- no variable at the bound or above
  pub pow-above : (b n : ℕ) (ws : List ℕ) (v : ℕ) → Canon k b n ws → b ≤ v → pow k ws v ≡ bias k
  unfolding Canon
  pow-above b n [] v c h = absurd c
  pow-above b n (w ∷ ws) v (inl e) h = pow-end n w ws v e
  pow-above b n (w ∷ ws) v (inr (x, c)) h =
      pow-past k w ws v (λ e. omega (arith, x.below)) ∙ pow-above (ident w) (suc n) ws v c (omega (arith, x.below))

-- a power that words of kind k can hold, 0 among them
pub record InRange (k x : ℕ) : Type 0 where
  pub low : bias k ≤ x + 32767
  pub high : x ≤ 32767 + bias k

pub in-range : (k b n : ℕ) (ws : List ℕ) (v : ℕ) → 0 < k → k ≤ 2 → Canon k b n ws → InRange k (pow k ws v)
unfolding Canon
in-range k b n [] v h l c = absurd c
in-range k b n (w ∷ ws) v h l (inl e) =
    rw (pow-end k h n w ws v e) (record { low = omega arith; high = omega arith })
in-range k b n (w ∷ ws) v h l (inr (x, c)) =
    elim (ℕ_discrete (ident w) v) [
      | yes e ↦ rw (pow-here k w ws v x.kinded e) (record { low = omega (arith, x.low); high = x.high })
      | no e ↦ rw (pow-past k w ws v e) (in-range k (ident w) (suc n) ws v h l c)
    ]

-- ---- the words of given powers
pub vars-none : (k v : ℕ) (p : ℕ → ℕ) → p v ≡ bias k → vars_of k (suc v) p ≡ vars_of k v p
unfolding vars_of
vars-none k v p e = rw (eq-eqb _ _ e)

pub vars-some : (k v : ℕ) (p : ℕ → ℕ) → (p v ≡ bias k → ⊥) → vars_of k (suc v) p ≡ var_word k v (p v) ∷ vars_of k v p
unfolding vars_of
vars-some k v p e = rw (ne_eqb (p v) (bias k) e)

-- where every power from c to b is 0
pub vars-skip : (k c b : ℕ) (p : ℕ → ℕ) → c ≤ b → ((v : ℕ) → c ≤ v → v < b → p v ≡ bias k) → vars_of k b p ≡ vars_of k c p
vars-skip k c zero p h z = let e : c ≡ 0 = omega arith in rw e
vars-skip k c (suc b) p h z =
    elim (dec_le c b) [
      | yes l ↦ vars-none k b p (z b l (omega arith)) ∙ vars-skip k c b p l (λ v i j. z v i (omega arith))
      | no l ↦ let e : c ≡ suc b = omega arith in rw e
    ]

pub vars-ext : (k b : ℕ) (p q : ℕ → ℕ) → ((v : ℕ) → v < b → p v ≡ q v) → vars_of k b p ≡ vars_of k b q
unfolding vars_of
vars-ext k zero p q h = refl
vars-ext k (suc b) p q h = rw (h b (omega arith), vars-ext k b p q (λ v l. h v (omega arith)))

pub vars-nil : (k : ℕ) (p : ℕ → ℕ) → vars_of k 0 p ≡ []
unfolding vars_of
vars-nil k p = refl

pub vars-length : (k b : ℕ) (p : ℕ → ℕ) → length (vars_of k b p) ≤ b
vars-length k zero p = rw (vars-nil k p) (omega arith)
vars-length k (suc b) p =
    elim (ℕ_discrete (p b) (bias k)) [
      | yes e ↦ rw (vars-none k b p e) (omega (arith, vars-length k b p))
      | no e ↦ rw (vars-some k b p e) (omega (arith, vars-length k b p))
    ]

module _ (k e : ℕ) (p : ℕ → ℕ) (pos : 0 < k) (ends : kind e ≡ 0) where
  pub pow-vars-above : (b v : ℕ) → b ≤ 4096 → ((u : ℕ) → u < b → p u < 65536) → b ≤ v → pow k (vars_of k b p ++ (e ∷ [])) v ≡ bias k
  pow-vars-above zero v l f h =
      rw (vars-nil k p) (pow-other k e [] v (λ z. omega arith) ∙ pow-nil k v)
  pow-vars-above (suc b) v l f h =
      elim (ℕ_discrete (p b) (bias k)) [
        | yes z ↦ rw (vars-none k b p z) (pow-vars-above b v (omega arith) (λ u j. f u (omega arith)) (omega arith))
        | no z ↦ rw (vars-some k b p z)
            (pow-past k (var_word k b (p b)) _ v (λ y. omega (arith, ident-var k b (p b) (omega arith) (f b (omega arith))))
            ∙ pow-vars-above b v (omega arith) (λ u j. f u (omega arith)) (omega arith))
      ]

  pub pow-vars : (b v : ℕ) → b ≤ 4096 → ((u : ℕ) → u < b → p u < 65536) → v < b → pow k (vars_of k b p ++ (e ∷ [])) v ≡ p v
  pow-vars zero v l f h = absurd (omega arith)
  pow-vars (suc b) v l f h =
      let g : (u : ℕ) → u < b → p u < 65536 = λ u j. f u (omega arith) in
      let i = ident-var k b (p b) (omega arith) (f b (omega arith)) in
      elim (ℕ_discrete (p b) (bias k)) [
        | yes z ↦ rw (vars-none k b p z) (elim (ℕ_discrete v b) [
          | yes y ↦ pow-vars-above b v (omega arith) g (omega arith) ∙ sym z ∙ ap p (sym y)
          | no y ↦ pow-vars b v (omega arith) g (omega arith)
        ])
        | no z ↦ rw (vars-some k b p z) (elim (ℕ_discrete v b) [
          | yes y ↦ pow-here k (var_word k b (p b)) _ v (kind-var k b (p b) (omega arith) (f b (omega arith))) (i ∙ sym y)
              ∙ power-var k b (p b) (f b (omega arith)) ∙ ap p (sym y)
          | no y ↦ pow-past k (var_word k b (p b)) _ v (λ q. y (sym q ∙ i)) ∙ pow-vars b v (omega arith) g (omega arith)
        ])
      ]

-- the words of powers in range are canonical
pub canon-vars : (k b m t : ℕ) (p : ℕ → ℕ) → 0 < k → k ≤ 2 → b ≤ 4096 → m + b ≤ 4096 → ((v : ℕ) → v < b → InRange k (p v))
    → t ≡ m + length (vars_of k b p) → Canon k b m (vars_of k b p ++ (t ∷ []))
unfolding Canon
canon-vars k zero m t p h l u f r e =
    let q : t ≡ m = e ∙ rw (vars-nil k p) (omega arith) in
    rw (vars-nil k p) (inl (record { kinded = omega arith; count = omega arith; last = refl }))
canon-vars k (suc b) m t p h l u f r e =
    let i = r b (omega arith) in
    let g : (v : ℕ) → v < b → InRange k (p v) = λ v j. r v (omega arith) in
    elim (ℕ_discrete (p b) (bias k)) [
      | yes z ↦ rw (vars-none k b p z)
          (raise k b m (vars_of k b p ++ (t ∷ [])) (suc b) (omega arith) (canon-vars k b m t p h l (omega arith) (omega arith) g (e ∙ rw (vars-none k b p z))))
      | no z ↦
          let big : p b < 65536 = omega (arith, i.high) in
          let id = ident-var k b (p b) (omega arith) big in
          let pw = power-var k b (p b) big in
          let c : t ≡ suc m + length (vars_of k b p) = e ∙ rw (vars-some k b p z) (omega arith) in
          rw (vars-some k b p z) (inr (
            record {
              kinded = kind-var k b (p b) (omega arith) big;
              below = omega (arith, id);
              low = omega (arith, pw, i.low);
              high = omega (arith, pw, i.high);
              some = λ y. z (sym pw ∙ y);
            },
            rw id (canon-vars k b (suc m) t p h l (omega arith) (omega arith) g c),
          ))
    ]

-- a variable's word is made of its kind, its id and its power
pub var-word : (k b w : ℕ) → IsVar k b w → w ≡ var_word k (ident w) (power w)
var-word k b w v = omega (arith, v.kinded)

-- a canonical list is the list of its powers
pub determined : (k b n : ℕ) (ws : List ℕ) → 0 < k → b ≤ 4096 → Canon k b n ws
    → ws ≡ vars_of k b (pow k ws) ++ ((n + length (vars_of k b (pow k ws))) ∷ [])
unfolding Canon
determined k b n [] h l c = absurd c
determined k b n (w ∷ ws) h l (inl e) =
    let z : vars_of k b (pow k (w ∷ ws)) ≡ [] =
    vars-skip k 0 b (pow k (w ∷ ws)) (omega arith) (λ v i j. pow-end k h n w ws v e) ∙ vars-nil k _ in
    let q : w ≡ n + 0 = omega (arith, e.kinded, e.count) in
    rw z (rw e.last (ap (λ (x : ℕ). x ∷ []) q))
determined k b n (w ∷ ws) h l (inr (x, c)) =
    let here = pow-here k w ws (ident w) x.kinded refl in
    let z : vars_of k b (pow k (w ∷ ws)) ≡ w ∷ vars_of k (ident w) (pow k ws) =
    vars-skip k (suc (ident w)) b (pow k (w ∷ ws)) x.below
    (λ v i j. pow-past k w ws v (λ y. omega arith) ∙ pow-above k h (ident w) (suc n) ws v c (omega arith))
    ∙ vars-some k (ident w) (pow k (w ∷ ws)) (λ y. x.some (sym here ∙ y))
    ∙ rw here (rw (← var-word k b w x)
    (ap (λ (t : List ℕ). w ∷ t) (vars-ext k (ident w) (pow k (w ∷ ws)) (pow k ws) (λ v j. pow-past k w ws v (λ y. omega arith))))) in
    let q : n + length (w ∷ vars_of k (ident w) (pow k ws)) ≡ suc n + length (vars_of k (ident w) (pow k ws)) = omega arith in
    rw z (rw q (ap (λ (t : List ℕ). w ∷ t) (determined k (ident w) (suc n) ws h (omega (arith, x.below)) c)))

-- ---- what callers use
pub pow-monomial : (k : ℕ) (p : ℕ → ℕ) → 0 < k → ((v : ℕ) → p v < 65536) → (v : ℕ) → v < 4096 → pow k (monomial_of k p) v ≡ p v
unfolding monomial_of
pow-monomial k p h f v l =
    pow-vars k (length (vars_of k 4096 p)) p h (omega (arith, vars-length k 4096 p)) 4096 v (omega arith) (λ u j. f u) l

pub canonical-monomial : (k m : ℕ) (p : ℕ → ℕ) → 0 < k → k ≤ 2 → m ≤ 4096 → ((v : ℕ) → InRange k (p v)) → ((v : ℕ) → m ≤ v → p v ≡ bias k)
    → Canonical k m (monomial_of k p)
unfolding monomial_of
canonical-monomial k m p h l u r z =
    let e = vars-skip k m 4096 p u (λ v i j. z v i) in
    rw e (canonical-of h (canon-vars k m 0 (length (vars_of k m p)) p h l u (omega arith) (λ v j. r v) (omega arith)))

pub monomial-length : (k m : ℕ) (p : ℕ → ℕ) → m ≤ 4096 → ((v : ℕ) → m ≤ v → p v ≡ bias k) → length (monomial_of k p) ≤ m + 1
unfolding monomial_of
monomial-length k m p u z =
    let e = vars-skip k m 4096 p u (λ v i j. z v i) in
    rw e (simp length-append (omega (arith, vars-length k m p)))

pub monomial-ext : (k : ℕ) (p q : ℕ → ℕ) → ((v : ℕ) → p v ≡ q v) → monomial_of k p ≡ monomial_of k q
unfolding monomial_of
monomial-ext k p q h = rw (vars-ext k 4096 p q (λ v l. h v))

-- a canonical word list is determined by its powers
pub canonical-powers : (k m : ℕ) (ws : List ℕ) → 0 < k → Canonical k m ws → ws ≡ monomial_of k (pow k ws)
unfolding monomial_of
canonical-powers k m ws h c =
    determined k 4096 0 ws h (omega arith) (lower k m 0 ws (canon-of c)) ∙ rw (zero-add (length (vars_of k 4096 (pow k ws))))

pub canonical-unique : (k m : ℕ) (a b : List ℕ) → 0 < k → Canonical k m a → Canonical k m b → ((v : ℕ) → pow k a v ≡ pow k b v) → a ≡ b
canonical-unique k m a b h ca cb e =
    canonical-powers k m a h ca ∙ monomial-ext k (pow k a) (pow k b) e ∙ sym (canonical-powers k m b h cb)

pub absent-above : (k m : ℕ) (ws : List ℕ) (v : ℕ) → 0 < k → Canonical k m ws → m ≤ v → pow k ws v ≡ bias k
absent-above k m ws v h c l = pow-above k h m 0 ws v (canon-of c) l

-- a canonical word list has at most a word a variable, and its end word
pub canonical-length : (k m : ℕ) (ws : List ℕ) → 0 < k → m ≤ 4096 → Canonical k m ws → length ws ≤ m + 1
canonical-length k m ws h few c =
    omega (arith, ap length (canonical-powers k m ws h c), monomial-length k m (pow k ws) few (λ v l. absent-above k m ws v h c l))

pub powers-in-range : (k m : ℕ) (ws : List ℕ) (v : ℕ) → 0 < k → k ≤ 2 → Canonical k m ws → InRange k (pow k ws v)
powers-in-range k m ws v h l c = in-range k m 0 ws v h l (canon-of c)

-- each word fits 32 bits
pub vars-small : (k b : ℕ) (p : ℕ → ℕ) → k ≤ 2 → b ≤ 4096 → ((v : ℕ) → p v < 65536) → (t : ℕ) → t < 2 ^ 32 → Words (vars_of k b p ++ (t ∷ []))
vars-small k zero p l h f t u = rw (vars-nil k p) ends
  where
    ends : Words (t ∷ [])
    ends zero = u
    ends (suc i) = omega arith
vars-small k (suc b) p l h f t u =
    elim (ℕ_discrete (p b) (bias k)) [
      | yes e ↦ rw (vars-none k b p e) (vars-small k b p l (omega arith) f t u)
      | no e ↦ rw (vars-some k b p e) (more (vars-small k b p l (omega arith) f t u))
    ]
  where
    more : Words (vars_of k b p ++ (t ∷ [])) → Words (var_word k b (p b) ∷ (vars_of k b p ++ (t ∷ [])))
    more r zero = var-fits k b (p b) (omega arith) (omega arith) (f b)
    more r (suc i) = r i

pub monomial-small : (k : ℕ) (p : ℕ → ℕ) → k ≤ 2 → ((v : ℕ) → p v < 65536) → Words (monomial_of k p)
unfolding monomial_of
monomial-small k p l f =
    vars-small k 4096 p l (omega arith) f (length (vars_of k 4096 p)) (omega (arith, vars-length k 4096 p))
