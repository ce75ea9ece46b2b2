use mathlib.Core.List.{List}
use native.Mathlib.Omega.{arith}
use Rattle.monomial.specs.Monomial.{first}
use mathlib.Core.Path.{◌≡◌, sym, ap, ◌∙◌}
use Prim.Native.Nat.{ℕ, ◌*◌, ◌≤◌}
use lib.ListN.{length, take}
use lib.Seq.{length-take-le}
use Rattle.words.specs.Words.{words, paste_w}
use Rattle.words.specs.Tables.{part}
use Rattle.monomial.specs.Operations.{result_words}
use Rattle.monomial.specs.declared.ordered_ops.Op.TheVariants.{Gcd}
use Rattle.monomial.proofs.Firsts.{starts-wide, starts-whole, first-whole}
use Rattle.index_image.proofs.Reading.{front-words, front-pasted, gcd-fits, gcd-small}
use Rattle.index_image.proofs.stored.make_gcd.Goals.{After-gcd-r, Start}
use Rattle.index_image.proofs.stored.make_gcd.Goals as goal

fits : (a : Start) → length (result_words Gcd ((part (words a.args.acc.now) 0 a.args.n)) ((first 1 (words a.args.other.now)))) ≤ 65
fits a = gcd-fits ((part (words a.args.acc.now) 0 a.args.n)) ((first 1 (words a.args.other.now))) a.requires.canonical a.requires.canonical_2

-- what the call made of them
made-length : (c : After-gcd-r) → c.gcd-r.result ≡ length (result_words Gcd ((part (words c.args.acc.now) 0 c.args.n)) ((first 1 (words c.args.other.now))))
made-length c =
    rw (front-words c.args.acc.now c.args.n, first-whole c.requires.canonical) at c.gcd-r.ensures.value

made : (c : After-gcd-r) → words (take (4 * c.gcd-r.result) c.gcd-r.new.out) ≡ result_words Gcd ((part (words c.args.acc.now) 0 c.args.n)) ((first 1 (words c.args.other.now)))
made c =
    let written = rw (front-words c.args.acc.now c.args.n, first-whole c.requires.canonical) at c.gcd-r.ensures.out_after in
    ap (λ (l : List ℕ). words (take (4 * c.gcd-r.result) l)) written
    ∙ front-pasted _ (result_words Gcd ((part (words c.args.acc.now) 0 c.args.n)) ((first 1 (words c.args.other.now)))) c.gcd-r.result
    (gcd-small ((part (words c.args.acc.now) 0 c.args.n)) ((first 1 (words c.args.other.now))) c.requires.canonical c.requires.canonical_2) ((rw (front-words c.args.acc.now c.args.n, first-whole c.requires.canonical) at c.gcd-r.ensures.value))

-- it has room
room : (c : After-gcd-r) → 4 * c.gcd-r.result ≤ length c.gcd-r.new.out
room c = omega (arith, (gcd-fits ((part (words c.args.acc.now) 0 c.args.n)) ((first 1 (words c.args.other.now))) c.requires.canonical c.requires.canonical_2), (rw (front-words c.args.acc.now c.args.n, first-whole c.requires.canonical) at c.gcd-r.ensures.value), c.gcd-r.auto.out)

pub gcd-r-requires : goal.gcd-r-requires
gcd-r-requires c =
    let ca = c.requires.canonical in record { starts = rw (front-words c.args.acc.now c.args.n) (starts-wide (starts-whole ca)); starts_2 = c.requires.starts; b_in_bounds = rw (front-words c.args.acc.now c.args.n) (rw (first-whole ca) (omega (arith, fits (goal.at.gcd-r-requires c).Start))) }

pub overflow_mul-f : goal.overflow_mul-f
overflow_mul-f c = omega (arith, fits (goal.at.overflow_mul-f c).Start, made-length (goal.at.overflow_mul-f c).After-gcd-r)

pub slice_bounds-made-end : goal.slice_bounds-made-end
slice_bounds-made-end c = omega (arith, room (goal.at.slice_bounds-made-end c).After-gcd-r)

pub slice_bounds-paste-end : goal.slice_bounds-paste-end
slice_bounds-paste-end c =
    let gcd = c.gcd-r in
    sym (length-take-le (4 * gcd.result) gcd.new.out (room (goal.at.slice_bounds-paste-end c).After-gcd-r))

pub returns : goal.returns
returns c = record { r_value = made-length (goal.at.returns c).After-gcd-r; acc_after = c.paste.ensures ∙ ap (paste_w c.args.acc.now 0) (made (goal.at.returns c).After-gcd-r) }
