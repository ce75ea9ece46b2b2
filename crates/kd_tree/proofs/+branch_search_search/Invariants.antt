use Prim.Native.Nat.{◌+◌, ◌*◌}
use lib.ListN.{get_or}
use Rattle.words.specs.Words.{words}
use Rattle.index_image.specs.Shape as at
use Rattle.query_words.specs.Asked.{shape_in}
use Rattle.kd_tree.proofs.+branch_search_search.Given as goal

-- Twice the entries of the tree at row k; a search of it, which opens its node first, comes before that of the branch.
abbrev pub decreases-branch_search : goal.decreases-branch_search
decreases-branch_search l = 2 * get_or (words l.image.now) (at.node_at (shape_in (words l.q.bytes.now)) l.k + 2) 0

abbrev pub decreases-search : goal.decreases-search
decreases-search l = 2 * get_or (words l.image.now) (at.node_at (shape_in (words l.q.bytes.now)) l.k + 2) 0 + 1
