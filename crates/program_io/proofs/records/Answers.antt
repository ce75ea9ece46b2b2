use Rattle.std.proofs.Common.{◌≡◌, ℕ, List, [], ◌∷◌, ◌++◌, map, ap, sym, ◌∙◌, append_assoc, Bor}
use Rattle.std.specs.List.{concat}
use Rattle.program_io.proofs.records.Goals as goal

-- one record more, and what stands behind it
joined : (xs : List (Bor (List ℕ))) (r : Bor (List ℕ)) (behind : List ℕ) → concat (map (λ (x : Bor (List ℕ)). x.now) (xs ++ r ∷ [])) ++ behind ≡ concat (map (λ (x : Bor (List ℕ)). x.now) xs) ++ (r.now ++ behind)
joined [] r behind = append_assoc r.now [] behind
joined (x ∷ xs) r behind = append_assoc x.now _ behind ∙ ap (λ l. x.now ++ l) (joined xs r behind) ∙ sym (append_assoc x.now _ _)

pub loop-record-preserved : goal.loop-record-preserved
loop-record-preserved c =
    let xs = c.loop-record.found.items in
    let behind = c.in-Some.behind.now in (
      c.loop-record.invariant.0,
      ap (λ items. concat (map (λ (x : Bor (List ℕ)). x.now) items) ++ behind) c.in_ok-push.ensures.items
          ∙ joined xs c.in-Some.record behind
          ∙ ap (λ l. concat (map (λ (x : Bor (List ℕ)). x.now) xs) ++ l) c.in-Some.ensures.parts.0
          ∙ c.loop-record.invariant.1,
    )
