-- What the best trees of built sets mean.
use Rattle.model.specs.sites.Sites.{SiteSet}
use Rattle.model.specs.trees.Trees.{Tree}
use Rattle.model.specs.trees.Best.{IsBestTree}
use Rattle.model.specs.claims.Layers.{MeansItsSet, IsBuiltForSome}

-- a best tree of a built set means what the set does
abbrev pub BestTreesMeanTheirSets : Type 0
BestTreesMeanTheirSets = (set : SiteSet) (tree : Tree) → IsBuiltForSome set → IsBestTree set tree → MeansItsSet set tree
