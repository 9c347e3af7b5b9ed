-- Trees without loops.
use Rattle.std.specs.Prelude.{◌≡◌, [], All}
use Rattle.model.specs.sites.Sites.{SiteSet}
use Rattle.model.specs.trees.Trees.{Tree}
use Rattle.model.specs.trees.Best.{HasNoLoop, IsBestTree}

-- a best tree of a set whose rules go over no calls has no loop
abbrev pub TreesWithoutCallsHaveNoLoop : Type 0
TreesWithoutCallsHaveNoLoop = (set : SiteSet) (tree : Tree) → All (λ r. r.iterators ≡ []) set.rules → IsBestTree set tree → HasNoLoop tree
