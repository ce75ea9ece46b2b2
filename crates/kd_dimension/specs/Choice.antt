-- The numbers by which the entries of a leaf are parted, over the words of an image, and the dimension that is chosen. Assumes nothing.
use Rattle.std.specs.Prelude.{◌≡◌, Option, Some, None, unwrap_or, List, [], ◌∷◌, ℕ, zero, suc, ◌<◌}
use Rattle.std.proofs.Math.Option.{none, some}
use Rattle.index_image.specs.Walk.{power, label}
use Rattle.index_image.specs.declared.Shape.{Shape}
use Rattle.kd_theory.specs.Bifurcate.{cut, try_from, first_least}
use Rattle.kd_dimension.specs.declared.Average.{Average}

-- the number of entry e in dimension d, by the index kind: dimension 0 of a ratio index is the label of the ratio
unfoldable pub key_by : ℕ → (ℕ → ℕ → ℕ) → (ℕ → ℕ) → ℕ → ℕ → ℕ
key_by zero pw lb d e = pw d e
key_by (suc x) pw lb zero e = lb e
key_by (suc x) pw lb (suc v) e = pw v e

-- the first of least label, if there is any
unfoldable pub least_place : (ℕ → ℕ) → List ℕ → Option ℕ
least_place lb [] = None
least_place lb (y ∷ ys) = Some (first_least lb y ys)

-- the key of a branch whose average is m and whose other side is es: an entry in dimension 0 of a ratio index, else the average
unfoldable pub mark_by : ℕ → (ℕ → ℕ) → ℕ → ℕ → List ℕ → ℕ
mark_by zero lb d m es = m
mark_by (suc x) lb zero m es = unwrap_or (least_place lb es) 0
mark_by (suc x) lb (suc v) m es = m

unfoldable pub key_in : List ℕ → Shape → ℕ → ℕ → ℕ
key_in W s d e = key_by s.kind (power W s) (label W s) d e

unfoldable pub mark_in : List ℕ → Shape → ℕ → ℕ → List ℕ → ℕ
mark_in W s d m es = mark_by s.kind (label W s) d m es

-- the dimension that a leaf is split in, tried from n on, i of them left
unfoldable pub Chose : (ℕ → ℕ → ℕ) → (ℕ → ℕ → List ℕ → ℕ) → ℕ → ℕ → ℕ → List ℕ → Option Average → Type 0
Chose key mark D i n es None = try_from key mark D i n es ≡ none
Chose key mark D i n es (Some a) = (try_from key mark D i n es ≡ some (cut key mark a.dim a.value es)) × (a.dim < D)
