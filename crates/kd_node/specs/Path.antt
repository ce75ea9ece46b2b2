-- Which sides of a branch a search visits on each path. Assumes nothing.
use Rattle.std.specs.Prelude.{Bool, true, false}
use Rattle.kd_node.specs.declared.SearchPath.{SearchPath}
use Rattle.kd_node.specs.declared.SearchPath.TheVariants.{Neither, Less, Other, Both}

abbrev pub visits_less : SearchPath → Bool
visits_less Neither = false
visits_less Less = true
visits_less Other = false
visits_less Both = true

abbrev pub visits_other : SearchPath → Bool
visits_other Neither = false
visits_other Less = false
visits_other Other = true
visits_other Both = true
