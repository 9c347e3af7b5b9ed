-- The code of a tree runs as the tree.
use Rattle.std.specs.Prelude.{◌≡◌, ◌<◌, ◌≤◌, ◌&&◌, ◌++◌, length, take, ℕ, suc, Bool, true, false, List, [], ◌∷◌, Option, Some, None, slice_get, if◌then◌else◌}
use Rattle.model.specs.sites.Sites.{Site, SiteSet}
use Rattle.model.specs.trees.Trees.{Tree, no_step, step, Check, match_at, equal_at, loop_at, return_at, Arms, no_arm, arm}
use Rattle.model.specs.trees.Best.{IsBestTree}
use Rattle.model.specs.trees.Places.{is_in_place}
use Rattle.model.specs.trees.Run.{World, run}
use Rattle.model.specs.rules.Outcome.{ended, Outcome}
use Rattle.model_code.specs.Code.{Block}
use Rattle.model_code.specs.CodeRuns.{code_run}
use Rattle.model_code.specs.TreeCode.{Passes, tree_code}

abbrev pub not_in_place : List Site → ℕ → Bool
not_in_place sites s = if is_in_place (slice_get sites s) then false else true

abbrev pub none_in_place : List Site → List ℕ → Bool
none_in_place sites [] = true
none_in_place sites (s ∷ rest) = not_in_place sites s && none_in_place sites rest

abbrev pub no_field_in_place : List Site → List (Option ℕ) → Bool
no_field_in_place sites [] = true
no_field_in_place sites (None ∷ rest) = no_field_in_place sites rest
no_field_in_place sites (Some s ∷ rest) = not_in_place sites s && no_field_in_place sites rest

-- a tree binds no site that is written in place: so does each tree of a built set, whose bind orders leave them out
abbrev mutual
  pub binds_none_in_place : Tree → List Site → Bool
  binds_none_in_place no_step sites = true
  binds_none_in_place (step binds check rest) sites = none_in_place sites binds && (check_binds_none check sites && binds_none_in_place rest sites)

  pub check_binds_none : Check → List Site → Bool
  check_binds_none (match_at source arms) sites = arms_bind_none arms sites
  check_binds_none (equal_at a b body) sites = binds_none_in_place body sites
  check_binds_none (loop_at result body) sites = not_in_place sites result && binds_none_in_place body sites
  check_binds_none (return_at at result) sites = true

  pub arms_bind_none : Arms → List Site → Bool
  arms_bind_none no_arm sites = true
  arms_bind_none (arm constraint fields body rest) sites = no_field_in_place sites fields && (binds_none_in_place body sites && arms_bind_none rest sites)

-- however values are handed on, without a bound of results: one outcome, calls, results and all
abbrev pub CodeRunsAsTree : Type 0
CodeRunsAsTree =
    (tree : Tree) (w : World) (p : Passes) → binds_none_in_place tree w.sites ≡ true → code_run (tree_code tree w.sites p) w None ≡ run tree w

-- one list is the beginning of another
abbrev pub IsBeginning : {X : Type 0} → List X → List X → Type 0
IsBeginning {X} xs ys = (more : List X) × (ys ≡ xs ++ more)

-- a run that stopped where its list of results was full, beside the whole run: the first results, and a return; all of it
-- where there are fewer results. Of calls it made some first ones. How many isn't said here, since an outcome doesn't say which
-- calls came before which result: the run itself makes none after the last result that it gives
pub record IsCut (most : ℕ) (whole part : Outcome) : Type 0 where
  pub results : part.results ≡ take most whole.results
  pub calls : IsBeginning part.calls whole.calls
  pub below : length whole.results < most → part ≡ whole
  pub ending : most ≤ length whole.results → part.ending ≡ ended

-- with a bound of results the code of whatever function does what it does without one, cut there
abbrev pub CodeStopsAtBound : Type 0
CodeStopsAtBound = (body : Block) (w : World) (n : ℕ) → IsCut (suc n) (code_run body w None) (code_run body w (Some (suc n)))

-- best trees, so all trees of `serialize`, are such
abbrev pub BestTreesBindNoneInPlace : Type 0
BestTreesBindNoneInPlace = (set : SiteSet) (tree : Tree) → IsBestTree set tree → binds_none_in_place tree set.sites ≡ true

-- so the code of a best tree runs as the tree
abbrev pub CodeOfBestTreesRuns : Type 0
CodeOfBestTreesRuns = (set : SiteSet) (tree : Tree) (w : World) (p : Passes) → IsBestTree set tree → w.sites ≡ set.sites → code_run (tree_code tree w.sites p) w None ≡ run tree w
