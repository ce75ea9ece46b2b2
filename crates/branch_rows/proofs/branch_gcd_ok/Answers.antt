use native.Mathlib.Omega.{arith}
use mathlib.Core.Path.{◌≡◌, sym, ap, ◌∙◌}
use mathlib.Core.List.{List}
use Prim.Native.Nat.{ℕ, ◌*◌, ◌≤◌}
use lib.ListN.{length, take, drop}
use lib.Seq.{length-take-le}
use Rattle.words.specs.Words.{words}
use Rattle.monomial.specs.Monomial.{Canonical, front}
use Rattle.monomial.specs.Operations.{result_words}
use Rattle.monomial.specs.declared.ordered_ops.Op.TheVariants.{Gcd}
use Rattle.monomial.proofs.Laws.{canonical-more}
use Rattle.monomial.proofs.Firsts.{starts-wide, starts-whole, first-whole}
use Rattle.index_image.specs.Shape as shape
use Rattle.index_image.specs.Rows.{monomial_in}
use Rattle.index_image.proofs.Gcds.{in-canonical}
use Rattle.index_image.proofs.Reading.{front-pasted, gcd-fits, gcd-small}
use Rattle.branch_rows.proofs.Testing.{slots-gcd}
use Rattle.branch_rows.proofs.branch_gcd_ok.Goals.{After-gcd-e, Start}
use Rattle.branch_rows.proofs.branch_gcd_ok.Goals as goal

-- the monomial in the gcd's slot of the row at word i
abbrev held : List ℕ → ℕ → ℕ → List ℕ
held W m i = monomial_in W m (shape.gcd_at i)

-- it is canonical for as many variables as an index may have
held-good : (W : List ℕ) (m i : ℕ) → m ≤ 64 → (front 1 m 0 (drop (shape.gcd_at i) W) ≡ 0 → ⊥) → Canonical 1 64 (held W m i)
held-good W m i vars some = canonical-more (omega arith) vars (in-canonical W m (shape.gcd_at i) some)

-- what is known of the two slots
record Two (W : List ℕ) (m a b : ℕ) : Type 0 where
  one : Canonical 1 64 (held W m a)
  two : Canonical 1 64 (held W m b)
  fits : length (result_words Gcd (held W m a) (held W m b)) ≤ 65

both : (a : Start) → Two (words a.args.image.now.bytes.now) a.args.image.now.shape.variables a.args.a a.args.b
both a =
    let W = words a.args.image.now.bytes.now in
    let m = a.args.image.now.shape.variables in
    let one = held-good W m a.args.a a.args.image.now.ready.range.vars-to a.requires.slots.one in
    let two = held-good W m a.args.b a.args.image.now.ready.range.vars-to a.requires.slots.two in
    record { one = one; two = two; fits = gcd-fits (held W m a.args.a) (held W m a.args.b) one two }

-- what the call made of them
made-length : (c : After-gcd-e) → Two (words c.args.image.now.bytes.now) c.args.image.now.shape.variables c.args.a c.args.b
    → c.gcd-e.result ≡ length (result_words Gcd (held (words c.args.image.now.bytes.now) c.args.image.now.shape.variables c.args.a) (held (words c.args.image.now.bytes.now) c.args.image.now.shape.variables c.args.b))
made-length c t = rw (c.monomial_in.ensures.is, c.monomial_in-2.ensures.is, first-whole t.one, first-whole t.two) at c.gcd-e.ensures.value

made : (c : After-gcd-e) → Two (words c.args.image.now.bytes.now) c.args.image.now.shape.variables c.args.a c.args.b
    → words (take (4 * c.gcd-e.result) c.gcd-e.new.out)
    ≡ result_words Gcd (held (words c.args.image.now.bytes.now) c.args.image.now.shape.variables c.args.a) (held (words c.args.image.now.bytes.now) c.args.image.now.shape.variables c.args.b)
made c t =
    let A = held (words c.args.image.now.bytes.now) c.args.image.now.shape.variables c.args.a in
    let B = held (words c.args.image.now.bytes.now) c.args.image.now.shape.variables c.args.b in
    let written = rw (c.monomial_in.ensures.is, c.monomial_in-2.ensures.is, first-whole t.one, first-whole t.two) at c.gcd-e.ensures.out_after in
    ap (λ (l : List ℕ). words (take (4 * c.gcd-e.result) l)) written
    ∙ front-pasted _ (result_words Gcd A B) c.gcd-e.result (gcd-small A B t.one t.two) (made-length c t)

pub gcd-e-requires : goal.gcd-e-requires
gcd-e-requires c =
    let t = both (goal.at.gcd-e-requires c).Start in record {
      starts = rw c.monomial_in.ensures.is (starts-wide (starts-whole t.one));
      starts_2 = rw c.monomial_in-2.ensures.is (starts-wide (starts-whole t.two));
      b_in_bounds = rw (c.monomial_in.ensures.is, c.monomial_in-2.ensures.is) (rw (first-whole t.one, first-whole t.two) (omega (arith, t.fits)));
    }

pub overflow_mul-e : goal.overflow_mul-e
overflow_mul-e c =
    let t = both (goal.at.overflow_mul-e c).Start in
    omega (arith, t.fits, made-length (goal.at.overflow_mul-e c).After-gcd-e t)

pub slice_bounds-made-end : goal.slice_bounds-made-end
slice_bounds-made-end c =
    let t = both (goal.at.slice_bounds-made-end c).Start in
    omega (arith, t.fits, made-length (goal.at.slice_bounds-made-end c).After-gcd-e t, c.gcd-e.auto.out)

pub slice_bounds-node_ok-end : goal.slice_bounds-node_ok-end
slice_bounds-node_ok-end c =
    let t = both (goal.at.slice_bounds-node_ok-end c).Start in
    let made = made-length (goal.at.slice_bounds-node_ok-end c).After-gcd-e t in
    sym (length-take-le (4 * c.gcd-e.result) c.gcd-e.new.out (omega (arith, t.fits, made, c.gcd-e.auto.out)))

pub node_ok-requires : goal.node_ok-requires
node_ok-requires c =
    let t = both (goal.at.node_ok-requires c).Start in
    let good = slots-gcd (words c.args.image.now.bytes.now) c.args.image.now.shape.variables c.args.a c.args.b c.args.image.now.ready.range.vars-to c.requires.slots in record {
      variables_in_bounds = c.requires.variables_in_bounds;
      canonical = rw (made (goal.at.node_ok-requires c).After-gcd-e t) good;
    }

pub returns : goal.returns
returns c = rw (made (goal.at.returns c).After-gcd-e (both (goal.at.returns c).Start)) at c.node_ok.ensures
