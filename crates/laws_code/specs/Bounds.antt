-- What a bound of results does, as those who call the code of a multi term see it.
use Rattle.std.specs.Prelude.{◌≡◌, ◌≤◌, ◌<◌, ◌++◌, ℕ, suc, Bool, List, length, take, Some}
use Rattle.model.specs.rules.Meaning.{Content}
use Rattle.model.specs.rules.Outcome.{ended, Outcome}
use Rattle.model.specs.sites.Sites.{SiteSet}
use Rattle.model.specs.trees.Trees.{Tree}
use Rattle.model.specs.trees.Run.{World, run}
use Rattle.model.specs.trees.Best.{IsBestTree}
use Rattle.model_code.specs.CodeLaws.{IsBeginning}
use Rattle.model_code.specs.CodeRuns.{code_run}
use Rattle.model_code.specs.TreeCode.{Passes, tree_code}
use Rattle.model_code.specs.Flat.{flat}

-- below the bound the outcome of the tree: its results, its calls, its ending. At the bound so many results, the first ones of the tree,
-- and a return: no failure, and it isn't stuck. So always a part of the tree's results, and some first ones of its calls. How many of
-- these isn't said, since an outcome doesn't say which calls came before which result
pub record KeepsBound (most : ℕ) (tree code : Outcome) : Type 0 where
  pub below : length tree.results < most → code ≡ tree
  pub full : most ≤ length tree.results → (code.results ≡ take most tree.results) × (length code.results ≡ most)
  pub ending : most ≤ length tree.results → code.ending ≡ ended
  pub part : (left : List Content) × (tree.results ≡ code.results ++ left)
  pub calls : IsBeginning code.calls tree.calls

abbrev pub CodeKeepsBound : Type 0
CodeKeepsBound =
    (set : SiteSet) (tree : Tree) (w : World) (p : Passes) (deep : ℕ → Bool) (n most : ℕ) → IsBestTree set tree → w.sites ≡ set.sites
    → KeepsBound (suc most) (run tree w) (code_run (flat (tree_code tree w.sites p) deep n) w (Some (suc most)))
