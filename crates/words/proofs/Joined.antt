-- Pieces that stand one behind the other in a list of words. Assumes nothing.
use mathlib.Core.Path.{◌≡◌, refl, sym, ap, ◌∙◌}
use mathlib.Core.List.{List, [], ◌∷◌, ◌++◌, append_assoc}
use Prim.Native.Nat.{ℕ, zero, suc, ◌+◌, ◌-◌, ◌*◌, ◌≤◌, ◌<◌}
use native.Mathlib.Nat.{zero-add}
use native.Mathlib.Omega.{arith}
use lib.ListN.{length, get_or, set, take, drop, length-append, length-set}
use lib.Seq.{drop_at, take-append-add, drop-append-add}
use Rattle.words.specs.Tables.{part, zeros, table, over}
use Rattle.words.proofs.Tables.{part-append, over-inside, length-zeros, zeros-add, part-get, table-iff}

unfoldable pub joined : List (List ℕ) → List ℕ
joined [] = []
joined (u ∷ []) = u
joined (u ∷ v ∷ us) = u ++ joined (v ∷ us)

-- each piece stands in its place, the first at word `at`
abbrev pub Stand : List ℕ → ℕ → List (List ℕ) → Type 0
Stand W at [] = Unit {0}
Stand W at (u ∷ []) = part W at (length u) ≡ u
Stand W at (u ∷ v ∷ us) = (part W at (length u) ≡ u) × Stand W (at + length u) (v ∷ us)

pub apart : (W : List ℕ) (at : ℕ) (us : List (List ℕ)) → at + length (joined us) ≤ length W → part W at (length (joined us)) ≡ joined us → Stand W at us
unfolding joined
apart W at [] h e = tt
apart W at (u ∷ []) h e = e
apart W at (u ∷ v ∷ us) h e =
    let l : length (u ++ joined (v ∷ us)) ≡ length u + length (joined (v ∷ us)) = length-append u (joined (v ∷ us)) in
    let p = (part-append W at (length u) (length (joined (v ∷ us))) u (joined (v ∷ us)) (omega (arith, l)) refl).0 (ap (part W at) (sym l) ∙ e) in
    (p.0, apart W (at + length u) (v ∷ us) (omega (arith, l)) p.1)

pub together : (W : List ℕ) (at : ℕ) (us : List (List ℕ)) → 0 < length us → at + length (joined us) ≤ length W → Stand W at us → part W at (length (joined us)) ≡ joined us
unfolding joined
together W at [] s h e = absurd (omega arith)
together W at (u ∷ []) s h e = e
together W at (u ∷ v ∷ us) s h e =
    let l : length (u ++ joined (v ∷ us)) ≡ length u + length (joined (v ∷ us)) = length-append u (joined (v ∷ us)) in
    let p = together W (at + length u) (v ∷ us) (omega arith) (omega (arith, l)) e.1 in
    ap (part W at) l ∙ (part-append W at (length u) (length (joined (v ∷ us))) u (joined (v ∷ us)) (omega (arith, l)) refl).1 (e.0, p)

-- a part by other names of its place and its length, and back
pub moved : (W : List ℕ) {a b x y : ℕ} {u : List ℕ} → part W a x ≡ u → a ≡ b → x ≡ y → part W b y ≡ u
moved W p e l = rw (← e, ← l) p

pub moved_back : (W : List ℕ) {a b x y : ℕ} {u : List ℕ} → part W b y ≡ u → a ≡ b → x ≡ y → part W a x ≡ u
moved_back W p e l = rw (e, l) p

pub moved-zeros : (W : List ℕ) {a b x y : ℕ} → part W a x ≡ zeros x → a ≡ b → x ≡ y → part W b y ≡ zeros y
moved-zeros W p e l = rw (← e, ← l) p

-- ---- a write to one piece leaves the others
-- where piece k begins
abbrev pub before : List (List ℕ) → ℕ → ℕ
before us zero = 0
before [] (suc k) = 0
before (u ∷ us) (suc k) = length u + before us k

joined-cons : (u : List ℕ) (us : List (List ℕ)) → 0 < length us → joined (u ∷ us) ≡ u ++ joined us
unfolding joined
joined-cons u [] h = absurd (omega arith)
joined-cons u (v ∷ us) h = refl

one_piece : (u : List ℕ) (t : ℕ) (ws : List ℕ) → over (joined (u ∷ [])) (0 + t) ws ≡ joined (over u t ws ∷ [])
unfolding joined
one_piece u t ws = rw (zero-add t)

-- words written behind the piece a
over-behind : (a b : List ℕ) (t : ℕ) (ws : List ℕ) → over (a ++ b) (length a + t) ws ≡ a ++ over b t ws
unfolding over
over-behind a b t ws =
    let e : length a + t + length ws ≡ length a + (t + length ws) = omega arith in
    rw (take-append-add a b t, e, drop-append-add a b (t + length ws)) (append_assoc a (take t b) (ws ++ drop (t + length ws) b))

pub over-joined : (us : List (List ℕ)) (k t : ℕ) (ws : List ℕ) → k < length us → t + length ws ≤ length (get_or us k [])
    → over (joined us) (before us k + t) ws ≡ joined (set us k (over (get_or us k []) t ws))
over-joined [] k t ws h l = absurd (omega arith)
over-joined (u ∷ []) zero t ws h l = one_piece u t ws
over-joined (u ∷ []) (suc k) t ws h l = absurd (omega arith)
over-joined (u ∷ v ∷ us) zero t ws h l =
    ap (λ (x : List ℕ). over x (0 + t) ws) (joined-cons u (v ∷ us) (omega arith))
    ∙ over-inside [] u (joined (v ∷ us)) ws (0 + t) t refl l
    ∙ sym (joined-cons (over u t ws) (v ∷ us) (omega arith))
over-joined (u ∷ v ∷ us) (suc k) t ws h l =
    let e : length u + before (v ∷ us) k + t ≡ length u + (before (v ∷ us) k + t) = omega arith in
    let x = over (get_or (v ∷ us) k []) t ws in
    rw (e, joined-cons u (v ∷ us) (omega arith), over-behind u (joined (v ∷ us)) (before (v ∷ us) k + t) ws)
    (ap (λ (y : List ℕ). u ++ y) (over-joined (v ∷ us) k t ws (omega arith) l) ∙ sym (joined-cons u (set (v ∷ us) k x) (rw length-set (omega arith))))

-- ---- rows
-- word j of row i
pub row_word : (W : List ℕ) (at n w : ℕ) (f : ℕ → List ℕ) → at + n * w ≤ length W → ((i : ℕ) → i < n → length (f i) ≡ w)
    → part W at (n * w) ≡ table n f → (i j : ℕ) → i < n → j < w → get_or W (at + i * w + j) 0 ≡ get_or (f i) j 0
row_word W at n w f h l e i j hi hj =
    sym (part-get W (at + i * w) w j hj) ∙ ap (λ (r : List ℕ). get_or r j 0) ((table-iff W at n w f h l).0 e i hi)

over-front : (b ws : List ℕ) → over b 0 ws ≡ ws ++ drop (length ws) b
unfolding over
over-front b ws = rw (zero-add (length ws))

-- The words r become v: what is behind them, b, moves, and the zeros shrink by as much. An inserted row has no words r.
pub rows_replaced : (a r v b : List ℕ) (z : ℕ) → length r ≤ length v → length v ≤ length r + z
    → over (a ++ (r ++ (b ++ zeros z))) (length a) (v ++ b) ≡ a ++ (v ++ (b ++ zeros (z - (length v - length r))))
rows_replaced a r v b z h l =
    let d = length v - length r in
    let e0 : length a ≡ length a + 0 = omega arith in
    let e1 : length (v ++ b) ≡ length r + (length b + d) = length-append v b ∙ omega arith in
    let ez : z ≡ d + (z - d) = omega arith in
    let zs : zeros z ≡ zeros d ++ zeros (z - d) = ap zeros ez ∙ zeros-add d (z - d) in
    let rest : drop (length (v ++ b)) (r ++ (b ++ zeros z)) ≡ zeros (z - d) =
    rw (e1, drop-append-add r (b ++ zeros z) (length b + d), drop-append-add b (zeros z) d, zs) (drop_at (zeros d) (zeros (z - d)) d (length-zeros d)) in
    ap (λ (n : ℕ). over (a ++ (r ++ (b ++ zeros z))) n (v ++ b)) e0 ∙ over-behind a (r ++ (b ++ zeros z)) 0 (v ++ b)
    ∙ ap (λ (x : List ℕ). a ++ x) (over-front (r ++ (b ++ zeros z)) (v ++ b) ∙ rw rest (append_assoc v b (zeros (z - d))))
