use native.Mathlib.Omega.{arith}
use mathlib.Core.Path.{ap, ◌∙◌}
use Prim.Native.Nat.{ℕ}
use Rattle.words.specs.Words.{paste_w}
use Rattle.query_writing.specs.Written.{range_words}
use Rattle.query_writing.proofs.put_range.Goals as goal

pub returns-clause-q_after : goal.returns-clause-q_after
unfolding range_words
returns-clause-q_after c =
    c.put_pairs.ensures.q_after ∙ ap (λ (x : ℕ). paste_w c.args.q.now 72 (range_words c.args.labels.start x c.args.floor)) (omega arith)
