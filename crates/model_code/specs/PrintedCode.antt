-- The code of a best tree, with labels wherever they may stand, runs as the tree.
use Rattle.std.specs.Prelude.{◌≡◌, ℕ, suc, Bool, Some, None}
use Rattle.model.specs.sites.Sites.{SiteSet}
use Rattle.model.specs.trees.Trees.{Tree}
use Rattle.model.specs.trees.Run.{World, run}
use Rattle.model.specs.trees.Best.{IsBestTree}
use Rattle.model_code.specs.Code.{Block}
use Rattle.model_code.specs.CodeRuns.{code_run}
use Rattle.model_code.specs.TreeCode.{Passes, tree_code}
use Rattle.model_code.specs.CodeLaws.{IsCut}
use Rattle.model_code.specs.Flat.{flat}

-- without a bound of results the outcome is the tree's; with one it is the beginning of that, cut where the list is full
pub record RunsAsTree (code : Block) (tree : Tree) (w : World) : Type 0 where
  pub whole : code_run code w None ≡ run tree w
  pub cut : (most : ℕ) → IsCut (suc most) (run tree w) (code_run code w (Some (suc most)))

-- however values are handed on, and wherever bodies get labels
abbrev pub PrintedCodeRuns : Type 0
PrintedCodeRuns =
    (set : SiteSet) (tree : Tree) (w : World) (p : Passes) (deep : ℕ → Bool) (n : ℕ) → IsBestTree set tree → w.sites ≡ set.sites
    → RunsAsTree (flat (tree_code tree w.sites p) deep n) tree w
