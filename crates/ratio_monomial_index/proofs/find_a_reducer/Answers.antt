use Rattle.index_replies.proofs.Queries.{head_of, sound-of, ready, replied, small, reducer-none, query-laid, label-ready, query-kind, inside, told-regular, told-singular}
use Rattle.monomial.proofs.Firsts.{canonical-wide}
use native.Mathlib.Omega.{arith}
use Rattle.ratio_monomial_index.proofs.find_a_reducer.Goals as goal

pub invariant_of-sound : goal.invariant_of-sound
invariant_of-sound c = record { sound = ∣ sound-of _ _ c.requires.root ∣₁; head = head_of _ _ c.requires.root }

pub reducer-requires-clause-canonical : goal.reducer-requires-clause-canonical
reducer-requires-clause-canonical c = canonical-wide c.requires.canonical

pub find-requires : goal.find-requires
find-requires c = ready _ _ _ _ _ c.requires.root c.reducer.ensures

pub returns-in_default : goal.returns-in_default
returns-in_default c =
    replied _ _ _ _ _ c.requires.root c.reducer.ensures _ _ c.in_default.ensures _ (omega arith) (λ st I. reducer-none _ _)

pub overflow_cast-n : goal.overflow_cast-n
overflow_cast-n c = omega (arith, small _ _ _ _ _ c.requires.root c.reducer.ensures _ _ c.in-Some.ensures)

pub overflow_add-n : goal.overflow_add-n
overflow_add-n c = omega (arith, small _ _ _ _ _ c.requires.root c.reducer.ensures _ _ c.in-Some.ensures)

pub invariant_of-asked : goal.invariant_of-asked
invariant_of-asked c = record { laid = query-laid _ _ _ _ _ _ c.requires.root c.reducer.ensures _ _ c.in-Some.ensures }

pub label-requires : goal.label-requires
label-requires c = record {
  ready = label-ready _ _ _ _ _ _ c.requires.root c.reducer.ensures _ _ c.in-Some.ensures;
  labelled = (query-kind _ _ _ _ _ _ c.requires.root c.reducer.ensures _ _ c.in-Some.ensures, inside _ _ _ _ _ _ c.requires.root c.reducer.ensures _ _ c.in-Some.ensures);
}

pub returns-then-label-pair : goal.returns-then-label-pair
returns-then-label-pair c =
    replied _ _ _ _ _ c.requires.root c.reducer.ensures _ _ c.in-Some.ensures _ (omega (arith, small _ _ _ _ _ c.requires.root c.reducer.ensures _ _ c.in-Some.ensures))
    (told-regular _ _ _ _ _ _ c.requires.root c.reducer.ensures _ _ c.in-Some.ensures _ c.label.ensures.0 (rw c.pair.ensures at c.if-label-pair.true))

pub overflow_add-result : goal.overflow_add-result
overflow_add-result c = omega (arith, small _ _ _ _ _ c.requires.root c.reducer.ensures _ _ c.in-Some.ensures)

pub returns : goal.returns
returns c =
    replied _ _ _ _ _ c.requires.root c.reducer.ensures _ _ c.in-Some.ensures _ (omega (arith, small _ _ _ _ _ c.requires.root c.reducer.ensures _ _ c.in-Some.ensures))
    (told-singular _ _ _ _ _ _ c.requires.root c.reducer.ensures _ _ c.in-Some.ensures _ c.label.ensures.0 (rw c.pair.ensures at c.if-label-pair.false))
