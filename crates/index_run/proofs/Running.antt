-- Calls of a list, one after the other. Assumes nothing.
use mathlib.Core.Path.{◌≡◌, refl, sym, ap, ◌∙◌}
use mathlib.Core.Bool.{Bool, true, false, cond}
use mathlib.Core.Option.{none, some}
use mathlib.Core.List.{List, [], ◌∷◌, ◌++◌, append_assoc, append-nil}
use Prim.Native.Nat.{ℕ, ◌+◌, ◌-◌, ◌*◌, ◌≤◌, ◌<◌}
use native.Mathlib.Omega.{arith}
use lib.Dec.{eqb}
use lib.ListN.{length, take, drop, length-append, length-take, length-drop}
use borrow.Rule.Slice.PartMut.{put_mid}
use Rattle.std.specs.Prelude.{Result}
use Rattle.refusals.specs.declared.Refusal.{Refusal}
use Rattle.refusals.specs.Numbers.{number}
use Rattle.words.specs.Kinds.{kind}
use Rattle.words.specs.Words.{words, put_w, paste_w}
use Rattle.words.specs.Tables.{zeros}
use Rattle.words.proofs.Laws.{Bytes, length-put_w, paste_w-nil, paste_w-part, paste_w-snoc, put_w-paste}
use Rattle.words.proofs.Tables.{length-zeros, paste-again}
use Rattle.index_theory.specs.State.{State, Valid}
use Rattle.index_theory.specs.Calls.{Call, calls, listed, step, after, answers}
use Rattle.index_theory.proofs.Lists.{answers-many, answers-two, after_two, lists-exact}
use Rattle.index_theory.proofs.Keeps.{after-valid}
use Rattle.index_theory.proofs.Theorems.{step-stores}
use Rattle.index_image.specs.Layout.{shape_of, encode, Is, Sound}
use Rattle.index_image.specs.Shape as at
use Rattle.index_image.proofs.Encoding.{image-length}
use Rattle.index_image.proofs.Lengths.{valid-fits}
use Rattle.index_image.proofs.Pasted.{pasted}
use Rattle.index_replies.specs.Replied.{word_of, Replied}
use Rattle.index_replies.proofs.Inserts.{itself}
use Rattle.call_list.specs.Bodies.{IsList}
use Rattle.index_run.specs.Ran.{Ran}

-- ---- what a state keeps over calls
pub record SameSize (st u : State) : Type 0 where
  pub kind : u.kind ≡ st.kind
  pub variables : u.variables ≡ st.variables
  pub capacity : u.capacity ≡ st.capacity

same_after : (cs : List Call) (st : State) → SameSize st (after st cs)
unfolding after
same_after [] st = record { kind = refl; variables = refl; capacity = refl }
same_after (c ∷ cs) st =
    let a = step-stores st c in
    let b = same_after cs (step st c).state in
    record { kind = b.kind ∙ a.kind; variables = b.variables ∙ a.variables; capacity = b.capacity ∙ a.capacity }

size_same : (st u : State) → SameSize st u → at.size (shape_of u) ≡ at.size (shape_of st)
size_same st u z = rw (z.kind, z.variables, z.capacity)

-- the image after some calls
pub after_is : (st : State) (cs : List Call) (bs bs' : List ℕ) → Is st bs → bs' ≡ paste_w bs 0 (encode (after st cs)) → Is (after st cs) bs'
after_is st cs bs bs' I e =
    rw e (pasted (after st cs) (after-valid cs st I.valid) bs (omega (arith, I.room, size_same st (after st cs) (same_after cs st))))

encode-long : (st : State) → Valid st → length (encode st) ≡ at.size (shape_of st)
encode-long st v = image-length (zeros (at.size (shape_of st))) st (valid-fits st v) (omega (arith, length-zeros (at.size (shape_of st))))

-- a list of calls has these
pub list-calls : (L : List ℕ) (l : IsList L) → l.calls ≡ calls (words L)
unfolding listed calls
list-calls L l = go (words L) l.are
  where
    go : (ws : List ℕ) → listed ws ≡ some l.calls → l.calls ≡ calls ws
    go [] e = cc
    go (w ∷ ws) e = first (eqb (kind w) 6) e
      where
        first : (t : Bool) → cond t (some (calls (w ∷ ws))) none ≡ some l.calls → l.calls ≡ calls (w ∷ ws)
        first true e = cc
        first false e = absurd (let z : ◌≡◌ {A = ℕ} 0 1 = cc in omega arith)

-- ---- a word written behind the first n: `&mut out[4 * n..]` was lent and came back
pub put_behind : (out ys : List ℕ) (n k w : ℕ) → 4 * n + 4 ≤ length out → k ≡ length out - 4 * n → ys ≡ put_w (take k (drop (4 * n) out)) 0 w
    → put_mid (4 * n) k out ys ≡ put_w out n w
put_behind out ys n k w h ek ey =
    let lent = take k (drop (4 * n) out) in
    let room : 4 * 0 + 4 ≤ length lent = omega (arith, length-take k (drop (4 * n) out), length-drop (4 * n) out) in
    let e : n + 0 ≡ n = omega arith in
    ap (put_mid (4 * n) k out) (ey ∙ put_w-paste lent 0 w room) ∙ paste_w-part out n k 0 (w ∷ []) (omega arith) (omega arith) ∙ rw e (sym (put_w-paste out n w h))

-- ---- some of the calls cs have been served: n, and those that are left are still to come
pub record Running (cs : List Call) (bs₀ out₀ bs out : List ℕ) (left : List Call) (n : ℕ) : Type 0 where
  pub done : List Call
  pub split : cs ≡ done ++ left
  pub many : n ≡ length done
  pub ran : Ran done bs₀ bs out₀ out
  pub same-image : length bs ≡ length bs₀
  pub same_out : length out ≡ length out₀

module _ (cs : List Call) (bs₀ out₀ : List ℕ) (S : Sound bs₀) where
  after_none : (st : State) → after st [] ≡ st
  unfolding after
  after_none st = refl

  answers-none : (st : State) → answers st [] ≡ []
  unfolding answers
  answers-none st = refl

  -- none so far
  pub running_none : Bytes bs₀ → Running cs bs₀ out₀ bs₀ out₀ cs 0
  running_none b = record {
    done = [];
    split = refl;
    many = refl;
    ran = record {
      image = λ st I. sym (ap (λ u. paste_w bs₀ 0 (encode u)) (after_none st) ∙ itself bs₀ st b I);
      answered = λ st I. sym (ap (paste_w out₀ 0) (answers-none st) ∙ paste_w-nil out₀ 0);
    };
    same-image = refl;
    same_out = refl;
  }

  module _ (bs out : List ℕ) (left : List Call) (n : ℕ) (R : Running cs bs₀ out₀ bs out left n) where
    -- the image is sound again
    pub running-sound : Sound bs
    running-sound = record { state = after S.state R.done; is = after_is S.state R.done bs₀ bs S.is (R.ran.image S.state S.is) }

    module _ (c : Call) (rest : List Call) (e : left ≡ c ∷ rest) (room : 4 * length cs ≤ length out₀) where
      pub room-for-one : 4 * n + 4 ≤ length out
      room-for-one = omega (arith, R.many, R.same_out, ap length R.split, ap length e, length-append R.done left)

      module _ (bs' out' : List ℕ) (r : Result ℕ Refusal) (d : Replied (λ st. step st c) bs bs' r) (ew : out' ≡ put_w out n (word_of r)) where
        module _ (st : State) (I : Is st bs₀) where
          now-is : Is (after st R.done) bs
          now-is = after_is st R.done bs₀ bs I (R.ran.image st I)

          image-next : bs' ≡ paste_w bs₀ 0 (encode (after st (R.done ++ (c ∷ []))))
          image-next =
              let u = after st R.done in
              let v = (step u c).state in
              let one : after u (c ∷ []) ≡ v = (lists-exact u).one-after c in
              let sz : SameSize u (after u (c ∷ [])) = same_after (c ∷ []) u in
              let l : length (encode u) ≡ length (encode (after u (c ∷ []))) =
              encode-long u now-is.valid ∙ sym (size_same u (after u (c ∷ [])) sz) ∙ sym (encode-long (after u (c ∷ [])) (after-valid (c ∷ []) u now-is.valid)) in
              let eb : bs' ≡ paste_w bs 0 (encode (after u (c ∷ []))) = d.bytes u now-is ∙ ap (λ x. paste_w bs 0 (encode x)) (sym one) in
              rw (after_two st R.done (c ∷ [])) (paste-again bs₀ bs bs' (encode u) (encode (after u (c ∷ []))) l
              (omega (arith, I.room, encode-long u now-is.valid, size_same st u (same_after R.done st))) (R.ran.image st I) eb)

          out-next : out' ≡ paste_w out₀ 0 (answers st (R.done ++ (c ∷ [])))
          out-next =
              let u = after st R.done in
              let a = answers st R.done in
              let l : n ≡ length a = R.many ∙ sym (answers-many st R.done) in
              let b : answers u (c ∷ []) ≡ word_of r ∷ [] = (lists-exact u).one c ∙ ap (λ w. w ∷ []) (sym (d.answer u now-is)) in
              rw (answers-two st R.done (c ∷ []), b) (ew ∙ ap (λ x. put_w x n (word_of r)) (R.ran.answered st I) ∙ paste_w-snoc out₀ 0 a n (word_of r) (omega (arith, l)) (omega (arith, room-for-one, R.same_out)))

        pub running-next : length bs' ≡ length bs → Running cs bs₀ out₀ bs' out' rest (n + 1)
        running-next lb = record {
          done = R.done ++ (c ∷ []);
          split = R.split ∙ rw e (sym (append_assoc R.done (c ∷ []) rest));
          many = omega (arith, R.many, length-append R.done (c ∷ []));
          ran = record { image = image-next; answered = out-next };
          same-image = lb ∙ R.same-image;
          same_out = ap length ew ∙ length-put_w out n (word_of r) ∙ R.same_out;
        }

    -- all are served
    pub running-all : left ≡ [] → Ran cs bs₀ bs out₀ out
    running-all h =
        let z : cs ≡ R.done = R.split ∙ rw (h, append-nil R.done) in
        rw z R.ran
