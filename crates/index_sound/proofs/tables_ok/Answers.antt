use mathlib.Core.Path.{◌≡◌, sym, ◌∙◌}
use mathlib.Core.Bool.{true}
use Rattle.words.specs.Words.{words}
use Rattle.words.proofs.Tables.{never}
use Rattle.index_image.specs.Door.{EntriesOk}
use Rattle.index_sound.specs.Checks.{MaximaOk, LabelsOk, PermutationOk}
use Rattle.index_sound.proofs.Steps.{tables_of, ready_of}
use Rattle.index_sound.proofs.tables_ok.Goals.{then-maxima_ok, else-maxima_ok, then-labels_ok, else-labels_ok, then-entries_ok, else-entries_ok, then-permutation_ok, else-permutation_ok}
use Rattle.index_sound.proofs.tables_ok.Goals as goal

-- where the tables hold an index, no earlier check answered no
pub returns-else-rows_named : goal.returns-else-rows_named
returns-else-rows_named c = (
  λ z. never (sym c.if-rows_named.false ∙ z),
  λ x.
      let two : c.if-maxima_ok.value ≡ true = elim c.if-maxima_ok.branch [
        | then-maxima_ok w ↦ w.value-is ∙ w.labels_ok.ensures.1 x.labels
        | else-maxima_ok w ↦ never (sym w.if-maxima_ok.false ∙ c.maxima_ok.ensures.1 x.maxima)
      ] in
      let three : c.if-labels_ok.value ≡ true = elim c.if-labels_ok.branch [
        | then-labels_ok w ↦ w.value-is ∙ w.entries_ok.ensures.1 x.entries
        | else-labels_ok w ↦ never (sym w.if-labels_ok.false ∙ two)
      ] in
      let four : c.if-entries_ok.value ≡ true = elim c.if-entries_ok.branch [
        | then-entries_ok w ↦ w.value-is ∙ w.permutation_ok.ensures.1 x.permutation
        | else-entries_ok w ↦ never (sym w.if-entries_ok.false ∙ three)
      ] in
      elim c.if-permutation_ok.branch [
        | then-permutation_ok w ↦ w.value-is ∙ w.rows_named.ensures.1 x.named
        | else-permutation_ok w ↦ never (sym w.if-permutation_ok.false ∙ four)
      ],
)

pub entries_ok-requires : goal.entries_ok-requires
entries_ok-requires c =
    let one : MaximaOk (words c.args.image.now.bytes.now) c.args.image.now.shape × LabelsOk c.args.image.now.bytes.now c.args.image.now.shape = elim c.if-maxima_ok.branch [
      | then-maxima_ok w ↦ (c.maxima_ok.ensures.0 w.if-maxima_ok.true, w.labels_ok.ensures.0 (sym w.value-is ∙ c.if-labels_ok.true))
      | else-maxima_ok w ↦ never (sym w.if-maxima_ok.false ∙ (sym w.value-is ∙ c.if-labels_ok.true))
    ] in
    tables_of c.args.image.now.bytes.now c.args.image.now.shape c.args.image.now.range c.args.image.now.room one.0 one.1

-- what the earlier checks tell, from the last one back
pub invariant_of-nodes_ok : goal.invariant_of-nodes_ok
invariant_of-nodes_ok c =
    let W = words c.args.image.now.bytes.now in
    let s = c.args.image.now.shape in
    let four : c.if-entries_ok.value ≡ true = elim c.if-permutation_ok.branch [
      | then-permutation_ok w ↦ w.if-permutation_ok.true
      | else-permutation_ok w ↦ never (sym w.if-permutation_ok.false ∙ (sym w.value-is ∙ c.if-rows_named.true))
    ] in
    let three : (c.if-labels_ok.value ≡ true) × PermutationOk W s = elim c.if-entries_ok.branch [
      | then-entries_ok w ↦ (w.if-entries_ok.true, w.permutation_ok.ensures.0 (sym w.value-is ∙ four))
      | else-entries_ok w ↦ never (sym w.if-entries_ok.false ∙ (sym w.value-is ∙ four))
    ] in
    let two : (c.if-maxima_ok.value ≡ true) × EntriesOk W s = elim c.if-labels_ok.branch [
      | then-labels_ok w ↦ (w.if-labels_ok.true, w.entries_ok.ensures.0 (sym w.value-is ∙ three.0))
      | else-labels_ok w ↦ never (sym w.if-labels_ok.false ∙ (sym w.value-is ∙ three.0))
    ] in
    let one : MaximaOk W s × LabelsOk c.args.image.now.bytes.now s = elim c.if-maxima_ok.branch [
      | then-maxima_ok w ↦ (c.maxima_ok.ensures.0 w.if-maxima_ok.true, w.labels_ok.ensures.0 (sym w.value-is ∙ two.0))
      | else-maxima_ok w ↦ never (sym w.if-maxima_ok.false ∙ (sym w.value-is ∙ two.0))
    ] in
    record {
      ready = ready_of c.args.image.now.bytes.now s c.args.image.now.range c.args.image.now.room
          (tables_of c.args.image.now.bytes.now s c.args.image.now.range c.args.image.now.room one.0 one.1) two.1 three.1;
    }
