-- A row with one entry more: its count, gcd and mask. Assumes nothing.
use mathlib.Core.Path.{◌≡◌, refl, sym, ap, ◌∙◌}
use mathlib.Core.List.{List, [], ◌∷◌, ◌++◌, append_assoc, append-nil}
use Prim.Native.Nat.{ℕ, min, ◌+◌, ◌-◌, ◌*◌, ◌≤◌, ◌<◌}
use native.Mathlib.Omega.{arith}
use native.Mathlib.Decide.{dec_le, ℕ_discrete}
use lib.ListN.{length, get_or, drop, length-append, take-append-drop}
use lib.Seq.{take_at}
use borrow.Author.Tests.{eq-eqb, ne_eqb}
use Rattle.words.specs.Words.{words, paste_w}
use Rattle.words.specs.Tables.{part, zeros, over}
use Rattle.words.proofs.Laws.{length-paste_w, length-words}
use Rattle.words.proofs.Tables.{part-append, part-get, over-mid, over-inside, length_over}
use Rattle.monomial.specs.Monomial.{front, pow, Canonical, monomial_of}
use Rattle.monomial.specs.Operations.{powers, result_words}
use Rattle.monomial.specs.declared.ordered_ops.Op.TheVariants.{Gcd}
use Rattle.monomial.proofs.Powers.{pow-ids, pow-monomial, canonical-monomial, monomial-ext, canonical-powers, canonical-length}
use Rattle.monomial.proofs.Laws.{canonical-front}
use Rattle.divmask.specs.Mask.{mask}
use Rattle.divmask.proofs.Masks.{mask-ext}
use Rattle.kd_theory.specs.Bifurcate.{least}
use Rattle.kd_theory.proofs.BifurcateLaws.{least-most}
use Rattle.index_image.specs.Layout.{slot, gcd_powers, node_words}
use Rattle.index_image.specs.Shape as shape
use Rattle.index_image.specs.Rows.{monomial_in}
use Rattle.index_image.specs.Walk.{map_maxima}
use Rattle.index_image.specs.declared.Shape.{Shape}
use Rattle.index_image.proofs.Encoding.{slot-length, node-length}
use Rattle.kd_descent.specs.Growing.{grown_gcd, grown}
use Rattle.kd_slots.specs.Slots.{gcd_words}
use Rattle.kd_theory.specs.Tree.{put_at}
use Rattle.kd_theory.proofs.PlaceLaws.{least-put, least-one, length-put}
use Rattle.words.proofs.Pasting.{paste-in, part-after}

-- ---- a monomial in a slot is read again
pub record SlotIs (W : List ℕ) (m i : ℕ) (ws : List ℕ) : Type 0 where
  pub some : front 1 m 0 (drop i W) ≡ 0 → ⊥
  pub is : monomial_in W m i ≡ ws

pub slot_is : (W : List ℕ) (m i : ℕ) (ws : List ℕ) → Canonical 1 m ws → part W i (m + 1) ≡ slot m ws → SlotIs W m i ws
unfolding slot monomial_in part
slot_is W m i ws can h =
    let rest = zeros (m + 1 - length ws) ++ drop (m + 1) (drop i W) in
    let split : drop i W ≡ ws ++ rest =
    sym (take-append-drop (m + 1) (drop i W)) ∙ ap (λ (l : List ℕ). l ++ drop (m + 1) (drop i W)) h
    ∙ append_assoc ws (zeros (m + 1 - length ws)) (drop (m + 1) (drop i W)) in
    let f : front 1 m 0 (drop i W) ≡ length ws = rw split (canonical-front 1 m ws rest (omega arith) can) in
    record { some = λ z. omega (arith, can.some); is = rw (f, split) (take_at ws rest (length ws) refl) }

over-two : (x y z z' : ℕ) (l : List ℕ) → over (x ∷ y ∷ z ∷ l) 2 (z' ∷ []) ≡ x ∷ y ∷ z' ∷ l
unfolding over
over-two x y z z' l = refl

module _ (m : ℕ) (xs : List ℕ) (pw : ℕ → ℕ → ℕ) (few : m ≤ 64) (small : (v e : ℕ) → pw v e ≤ 32767) (absent : (v e : ℕ) → m ≤ v → pw v e ≡ 0) where
  abbrev G : List ℕ → List ℕ
  G es = monomial_of 1 (gcd_powers pw es)

  powers-small : (es : List ℕ) (v : ℕ) → gcd_powers pw es v ≤ 32767
  unfolding gcd_powers
  powers-small es v = least-most (pw v) 32767 es (small v)

  powers-absent : (es : List ℕ) (v : ℕ) → m ≤ v → gcd_powers pw es v ≡ 0
  unfolding gcd_powers
  powers-absent es v h = let l : least (pw v) es ≤ 0 = least-most (pw v) 0 es (λ e. omega (arith, absent v e h)) in omega arith

  pub gcd-canonical : (es : List ℕ) → Canonical 1 m (monomial_of 1 (gcd_powers pw es))
  gcd-canonical es =
      canonical-monomial 1 m (gcd_powers pw es) (omega arith) (omega arith) (omega arith)
      (λ v. record { low = omega arith; high = omega (arith, powers-small es v) }) (powers-absent es)

  gcd-pow : (es : List ℕ) (v : ℕ) → pow 1 (G es) v ≡ gcd_powers pw es v
  gcd-pow es v =
      elim (dec_le 4096 v) [
        | yes h ↦ pow-ids 1 (G es) v h ∙ sym (powers-absent es v (omega arith))
        | no h ↦ pow-monomial 1 (gcd_powers pw es) (omega arith) (λ u. omega (arith, powers-small es u)) v (omega arith)
      ]

  mask-of : (es : List ℕ) → mask m xs (gcd_powers pw es) ≡ mask m xs (pow 1 (G es))
  mask-of es = mask-ext m xs (gcd_powers pw es) (pow 1 (G es)) (λ v h. sym (gcd-pow es v))

  -- ---- a row, word by word
  pub record RowIs (W : List ℕ) (at tag key skip : ℕ) (es : List ℕ) : Type 0 where
    pub tag_is : get_or W at 0 ≡ tag
    pub key-is : get_or W (at + 1) 0 ≡ key
    pub count-is : get_or W (at + 2) 0 ≡ length es
    pub skip_is : get_or W (at + 3) 0 ≡ skip
    pub slot : SlotIs W m (at + 5) (monomial_of 1 (gcd_powers pw es))
    pub holds : part W (at + 4) (m + 2) ≡ gcd_words m xs (monomial_of 1 (gcd_powers pw es))

  pub row_is : (W : List ℕ) (at tag key skip : ℕ) (es : List ℕ) → at + (shape.node_width m) ≤ length W → part W at (shape.node_width m) ≡ node_words m xs pw tag key skip es → RowIs W at tag key skip es
  unfolding node_words gcd_words
  row_is W at tag key skip es h e =
      let e4 : m + 6 ≡ 4 + (m + 2) = omega arith in
      let y = (part-append W at 4 (m + 2) (tag ∷ key ∷ length es ∷ skip ∷ []) (mask m xs (gcd_powers pw es) ∷ slot m (G es)) (omega arith) refl).0 (rw e4 at e) in
      let u = tag ∷ key ∷ length es ∷ skip ∷ mask m xs (gcd_powers pw es) ∷ [] in
      let e6 : m + 6 ≡ 5 + (m + 1) = omega arith in
      let z = (part-append W at 5 (m + 1) u (slot m (G es)) (omega arith) refl).0 (rw e6 at e) in
      let get : (j : ℕ) → j < 5 → get_or W (at + j) 0 ≡ get_or u j 0 = λ j k. sym (part-get W at 5 j k) ∙ ap (λ (l : List ℕ). get_or l j 0) z.0 in
      let e0 : at + 0 ≡ at = omega arith in
      record {
        tag_is = rw e0 at (get 0 (omega arith));
        key-is = get 1 (omega arith);
        count-is = get 2 (omega arith);
        skip_is = get 3 (omega arith);
        slot = slot_is W m (at + 5) (G es) (gcd-canonical es) z.1;
        holds = y.1 ∙ rw (mask-of es);
      }

  -- ---- one entry more, with the powers of lm
  module _ (lm : List ℕ) (can : Canonical 1 m lm) (e : ℕ) (ep : (v : ℕ) → pw v e ≡ pow 1 lm v) where
    gcd-first : (p : ℕ) (es : List ℕ) → length es ≡ 0 → lm ≡ G (put_at p e es)
    unfolding gcd_powers
    gcd-first p es h =
        canonical-powers 1 m lm (omega arith) can
        ∙ monomial-ext 1 (pow 1 lm) (λ v. least (pw v) (put_at p e es)) (λ v. sym (ep v) ∙ sym (least-one (pw v) p e es h))

    gcd-more : (p : ℕ) (es : List ℕ) → 0 < length es → result_words Gcd (G es) lm ≡ G (put_at p e es)
    unfolding result_words powers gcd_powers
    gcd-more p es h =
        monomial-ext 1 (λ v. min (pow 1 (G es) v) (pow 1 lm v)) (λ v. least (pw v) (put_at p e es))
        (λ v. omega (arith, gcd-pow es v, ep v, least-put (pw v) p e es h))

    -- the gcd that a grown row gets
    pub gcd-grown : (W : List ℕ) (at tag key skip p : ℕ) (es : List ℕ) → RowIs W at tag key skip es → grown_gcd W m at (length es) lm ≡ monomial_of 1 (gcd_powers pw (put_at p e es))
    unfolding grown_gcd
    gcd-grown W at tag key skip p es r =
        elim (ℕ_discrete (length es) 0) [
          | yes z ↦ rw (eq-eqb (length es) 0 z) (gcd-first p es z)
          | no z ↦ rw (ne_eqb (length es) 0 z, r.slot.is) (gcd-more p es (omega arith))
        ]

    -- the row itself
    gcd-long : (es : List ℕ) → length (gcd_words m xs (G es)) ≡ m + 2
    unfolding gcd_words
    gcd-long es = omega (arith, slot-length m (G es) (canonical-length 1 m (G es) (omega arith) (omega arith) (gcd-canonical es)))

    row-split : (tag key skip : ℕ) (es : List ℕ) → node_words m xs pw tag key skip es ≡ (tag ∷ key ∷ length es ∷ skip ∷ []) ++ (gcd_words m xs (G es) ++ [])
    unfolding node_words gcd_words
    row-split tag key skip es = rw (append-nil (mask m xs (pow 1 (G es)) ∷ slot m (G es)), mask-of es)

    row-over : (tag key skip p : ℕ) (es : List ℕ)
        → over (over (node_words m xs pw tag key skip es) 4 (gcd_words m xs (G (put_at p e es)))) 2 ((length es + 1) ∷ []) ≡ node_words m xs pw tag key skip (put_at p e es)
    row-over tag key skip p es =
        let d = gcd_words m xs (G (put_at p e es)) in
        let n : length (put_at p e es) ≡ length es + 1 = omega (arith, length-put p e es) in
        rw (row-split tag key skip es, over-mid (tag ∷ key ∷ length es ∷ skip ∷ []) (gcd_words m xs (G es)) [] d 4 refl (omega (arith, gcd-long es, gcd-long (put_at p e es))))
        (over-two tag key (length es) (length es + 1) (skip ∷ (d ++ [])) ∙ sym (row-split tag key skip (put_at p e es) ∙ rw n))

    -- ---- the same in bytes: the row stands behind `a` in words that are pasted at word `at`
    module _ (bs : List ℕ) (s : Shape) (at i : ℕ) (a c : List ℕ) (tag key skip p : ℕ) (es im : List ℕ)
        (em : s.variables ≡ m) (ex : map_maxima (words im) s ≡ xs)
        (now : im ≡ paste_w bs at (a ++ (node_words m xs pw tag key skip es ++ c))) (ei : i ≡ at + length a) (room : 4 * (at + length (a ++ (node_words m xs pw tag key skip es ++ c))) ≤ length bs)
        (here : part (words im) i (shape.node_width m) ≡ node_words m xs pw tag key skip es) where
      abbrev row : List ℕ
      row = node_words m xs pw tag key skip es

      abbrev d : List ℕ
      d = gcd_words m xs (G (put_at p e es))

      abbrev mid : List ℕ
      mid = over (node_words m xs pw tag key skip es) 4 (gcd_words m xs (G (put_at p e es)))

      long-row : length row ≡ m + 6
      long-row = node-length m xs pw few absent tag key skip es

      long-mid : length mid ≡ m + 6
      long-mid = length_over row 4 d (omega (arith, long-row, gcd-long (put_at p e es))) ∙ long-row

      all : length (a ++ (row ++ c)) ≡ length a + (m + 6 + length c)
      all = length-append a (row ++ c) ∙ omega (arith, length-append row c, long-row)

      all-mid : length (a ++ (mid ++ c)) ≡ length a + (m + 6 + length c)
      all-mid = length-append a (mid ++ c) ∙ omega (arith, length-append mid c, long-mid)

      fit : i + (shape.node_width m) ≤ length (words im)
      fit = rw now (omega (arith, length-words (paste_w bs at (a ++ (row ++ c))), length-paste_w bs at (a ++ (row ++ c)) (omega arith), all))

      r : RowIs (words im) i tag key skip es
      r = row_is (words im) i tag key skip es fit here

      first : paste_w im (i + 4) d ≡ paste_w bs at (a ++ (mid ++ c))
      first =
          let e4 : i + 4 ≡ at + (length a + 4) = omega arith in
          rw (now, e4) (paste-in bs at (a ++ (row ++ c)) (length a + 4) d (omega (arith, all, gcd-long (put_at p e es))) room
          ∙ ap (paste_w bs at) (over-inside a row c d (length a + 4) 4 refl (omega (arith, long-row, gcd-long (put_at p e es)))))

      second : paste_w (paste_w bs at (a ++ (mid ++ c))) (i + 2) ((length es + 1) ∷ []) ≡ paste_w bs at (a ++ (node_words m xs pw tag key skip (put_at p e es) ++ c))
      second =
          let e2 : i + 2 ≡ at + (length a + 2) = omega arith in
          rw e2 (paste-in bs at (a ++ (mid ++ c)) (length a + 2) ((length es + 1) ∷ []) (omega (arith, all-mid)) (omega (arith, all, all-mid))
          ∙ ap (paste_w bs at) (over-inside a mid c ((length es + 1) ∷ []) (length a + 2) 2 refl (omega (arith, long-mid)) ∙ ap (λ (x : List ℕ). a ++ (x ++ c)) (row-over tag key skip p es)))

      pub row-grown : grown im (words im) s i lm ≡ paste_w bs at (a ++ (node_words m xs pw tag key skip (put_at p e es) ++ c))
      unfolding grown
      row-grown = rw (ex, em, r.count-is, gcd-grown (words im) i tag key skip p es r, first) second

      -- what stands behind the row is as it was
      pub kept-behind : (j n : ℕ) → i + (shape.node_width m) ≤ j → part (words (grown im (words im) s i lm)) j n ≡ part (words im) j n
      unfolding grown
      kept-behind j n h =
          let one = gcd_words m xs (G (put_at p e es)) in
          let q = paste_w im (i + 4) one in
          let li : length im ≡ length bs = ap length now ∙ length-paste_w bs at (a ++ (row ++ c)) (omega arith) in
          let f : 4 * (i + shape.node_width m) ≤ length im = omega (arith, all) in
          let lq : length q ≡ length im = length-paste_w im (i + 4) one (omega (arith, gcd-long (put_at p e es))) in
          rw (ex, em, r.count-is, gcd-grown (words im) i tag key skip p es r)
          (part-after q (i + 2) ((length es + 1) ∷ []) j n (omega arith) (omega arith)
          ∙ part-after im (i + 4) one j n (omega (arith, gcd-long (put_at p e es))) (omega (arith, gcd-long (put_at p e es))))
