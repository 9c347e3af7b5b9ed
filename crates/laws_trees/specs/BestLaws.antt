-- Laws of the judge, and of open tests.
use Rattle.std.specs.Prelude.{[], Bool, false, ◌&&◌, Contains, Decides, IsTrue}
use Rattle.model.specs.sites.Sites.{SiteSet}
use Rattle.model.specs.trees.Trees.{Tree, Marked, plain}
use Rattle.model.specs.trees.Places.{Around, nothing_around}
use Rattle.model.specs.trees.Sound.{ReturnsEach}
use Rattle.model.specs.trees.Tests.{Test, is_open, open_tests}
use Rattle.model.specs.trees.Best.{SharesMost, BestSteps, NoSiteTwice, HasFewSteps, IsBestTree}
use Rattle.model.specs.trees.Judge.{marking, marks_each, is_best, is_best_tree, returns_apart}
use Rattle.model.specs.claims.Layers.{binds_before_use, BindsBeforeUse}

-- the list of a place's open tests holds exactly these
abbrev pub OpenTestsAreListed : Type 0
OpenTestsAreListed = (set : SiteSet) (ar : Around) (t : Test) → Decides (is_open set ar t) (Contains (open_tests set ar) t)

-- a marked tree is a best tree of a set
pub record IsBestMarked (set : SiteSet) (m : Marked) : Type 0 where
  pub returns : ReturnsEach set (plain set.rules m) m
  pub steps : BestSteps set nothing_around false m
  pub no_site_twice : NoSiteTwice (plain set.rules m)
  pub few_steps : HasFewSteps set (plain set.rules m)

-- the judge of a marked tree says whether it is a best tree
abbrev pub JudgeIsExact : Type 0
JudgeIsExact = (set : SiteSet) (m : Marked) → Decides (is_best set m) (IsBestMarked set m)

-- where no two rules return at one position with one result, so does the judge of a tree
abbrev pub TreeJudgeIsExact : Type 0
TreeJudgeIsExact = (set : SiteSet) (tree : Tree) → IsTrue (returns_apart set.rules) → Decides (is_best_tree set tree) (IsBestTree set tree)

-- whether a tree returns for each rule and binds sites before it uses them, by the marks that are found from its returns
abbrev pub binds_as_marked : SiteSet → Bool → Tree → Bool
binds_as_marked set multi tree = marks_each set.rules (marking set.rules tree) && binds_before_use set multi [] [] (marking set.rules tree)

-- so does the judge of binding before use
abbrev pub BindingJudgeIsExact : Type 0
BindingJudgeIsExact =
    (set : SiteSet) (multi : Bool) (tree : Tree) → IsTrue (returns_apart set.rules) → Decides (binds_as_marked set multi tree) (BindsBeforeUse set multi tree)

-- where the greatest tests are made, nowhere would an open test cover more rules
abbrev pub BestTreesShareMost : Type 0
BestTreesShareMost = (set : SiteSet) (m : Marked) → BestSteps set nothing_around false m → SharesMost set nothing_around false m

-- two facts of best trees follow from the others
abbrev pub SitesAreTestedOnce : Type 0
SitesAreTestedOnce = (set : SiteSet) (m : Marked) → BestSteps set nothing_around false m → NoSiteTwice (plain set.rules m)

abbrev pub StepsAreFew : Type 0
StepsAreFew = (set : SiteSet) (m : Marked) → ReturnsEach set (plain set.rules m) m → BestSteps set nothing_around false m → HasFewSteps set (plain set.rules m)

-- so the facts of its steps are enough
abbrev pub StepsMakeBestTrees : Type 0
StepsMakeBestTrees = (set : SiteSet) (tree : Tree) (m : Marked) → ReturnsEach set tree m → BestSteps set nothing_around false m → IsBestTree set tree
