-- A set has one best tree.
use Rattle.std.specs.Prelude.{◌≡◌}
use Rattle.model.specs.lists.Names.{IsDistinct}
use Rattle.model.specs.sites.Sites.{SiteSet}
use Rattle.model.specs.trees.Trees.{Tree}
use Rattle.model.specs.trees.Best.{IsBestTree}
use Rattle.model.specs.rules.Program.{Program}
use Rattle.model.specs.claims.Layers.{IsBuiltForSome, LoweredTerm, IsLoweredTerm}

-- where each site stands once, two best trees of a set are one
abbrev pub BestTreesAreOne : Type 0
BestTreesAreOne = (set : SiteSet) (a b : Tree) → IsDistinct set.sites → IsBestTree set a → IsBestTree set b → a ≡ b

-- a tree is a best tree of its set, and no other one is
pub record IsOnlyBest (set : SiteSet) (tree : Tree) : Type 0 where
  pub best : IsBestTree set tree
  pub only : (other : Tree) → IsBestTree set other → other ≡ tree

-- a best tree of a built set is the only one
abbrev pub BuiltSetsHaveOneBestTree : Type 0
BuiltSetsHaveOneBestTree = (set : SiteSet) (tree : Tree) → IsBuiltForSome set → IsBestTree set tree → IsOnlyBest set tree

-- and so is the tree that a term is lowered to
abbrev pub LoweredTreesAreOnlyBest : Type 0
LoweredTreesAreOnlyBest = (p : Program) (l : LoweredTerm) → IsLoweredTerm p l → IsOnlyBest l.set l.tree
