-- Best trees of built sets.
use Rattle.std.specs.Prelude.{[], ◌≡◌, Bool, true, All}
use Rattle.model.specs.trees.Trees.{Tree}
use Rattle.model.specs.trees.Sound.{IsSound}
use Rattle.model.specs.trees.Best.{IsBestTree}
use Rattle.model.specs.trees.Collects.{CollectsTheBag}
use Rattle.model.specs.trees.WellBuilt.{HasOnePriority}
use Rattle.model.specs.claims.Layers.{BindsBeforeUse, IsCheckable}
use Rattle.laws_sites.specs.BuiltSets.{OfBuiltSets}

-- so its best trees are sound
abbrev pub BestTreesOfBuiltSetsAreSound : Type 0
BestTreesOfBuiltSetsAreSound =
    OfBuiltSets (λ p t set. (multi : Bool) (tree : Tree) → All (λ r. r.iterators ≡ []) set.rules → (multi ≡ true → HasOnePriority set.rules) → IsBestTree set tree → IsSound set multi tree)

-- they bind sites before they use them, in each step, whether a run reaches it or not
abbrev pub BestTreesBindBeforeUse : Type 0
BestTreesBindBeforeUse = OfBuiltSets (λ p t set. (multi : Bool) (tree : Tree) → IsBestTree set tree → BindsBeforeUse set multi tree)

-- those of a multi term whose rules can be told apart collect the bag of the rules' results
abbrev pub BestTreesCollectTheBag : Type 0
BestTreesCollectTheBag = OfBuiltSets (λ p t set. IsCheckable p → (tree : Tree) → IsBestTree set tree → CollectsTheBag p t set.sites tree)
