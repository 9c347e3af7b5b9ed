-- The claims on the stages of a sample: what its list of definitions becomes, what its set is built of, and what its tree is.
use Rattle.std.specs.Prelude.{◌≡◌, ℕ, Bool, true, false, List, [], ◌∷◌}
use Rattle.model.specs.lists.Syntax.{Definition}
use Rattle.model.specs.lists.Setting.{Setting}
use Rattle.model.specs.lists.TermTable.{IsValidTerms}
use Rattle.model.specs.lists.KnownTypes.{types_of}
use Rattle.model.specs.lists.Elaborated.{TypedRules}
use Rattle.model.specs.rules.Program.{Program}
use Rattle.model.specs.rules.Typed.{TypedRule}
use Rattle.model.specs.sites.Sites.{SiteSet}
use Rattle.model.specs.visits.Demands.{demands_of}
use Rattle.model.specs.sites.Closure.{Closed, closed}
use Rattle.model.specs.sites.RuleSets.{IsBuilt}
use Rattle.model.specs.sites.Overlap.{check_reports}
use Rattle.model.specs.trees.Trees.{Tree}
use Rattle.model.specs.trees.Best.{IsBestTree}
use Rattle.model.specs.trees.Judge.{is_best_tree}
use Rattle.model.specs.trees.Sound.{IsSound}
use Rattle.model.specs.trees.WellBuilt.{IsWellBuilt}
use Rattle.model.specs.claims.Environments.{types_read, setting_of, IsRead}
use Rattle.model.specs.claims.Layers.{own_program, IsAccepted, BindsBeforeUse}
use Rattle.model.specs.claims.SetMeanings.{CanBeServed}
use Rattle.model.specs.rules.Values.{Value}
use Rattle.model.specs.rules.Meaning.{Meaning}
use Rattle.model.specs.rules.Outcome.{Outcome}
use Rattle.model.specs.rules.Choice.{choice}
use Rattle.model.specs.trees.Run.{run, world_of}

-- the tables that the rules of a list are read with, internal extractors expanded or not
abbrev pub own_setting : List Definition → Bool → Setting
own_setting defs expand = setting_of (types_read defs) defs expand

-- a list becomes these typed rules, whether internal extractors are expanded or not
abbrev pub IsReadBoth : List Definition → TypedRules → Type 0
IsReadBoth defs rules = IsRead defs true rules × IsRead defs false rules

-- and they can be told apart: nothing is reported of them
abbrev pub IsAcceptedBoth : List Definition → TypedRules → Type 0
IsAcceptedBoth defs rules = IsAccepted defs true rules × IsAccepted defs false rules × (check_reports (own_program defs rules) ≡ [])

-- a list has no typed rules; it has some that can't be told apart
abbrev pub IsNotRead : List Definition → Type 0
IsNotRead defs = (expand : Bool) (rules : TypedRules) → IsRead defs expand rules → ⊥

-- a list has a term table, read with its own types
abbrev pub HasTerms : List Definition → Type 0
HasTerms defs = IsValidTerms (types_of defs) defs

-- a set is built of the rules of a term, and can be served
abbrev pub IsBuiltOf : List Definition → TypedRules → ℕ → SiteSet → Type 0
IsBuiltOf defs rules t set = IsBuilt (own_program defs rules) t set × CanBeServed (own_program defs rules) t set

-- a tree passes the judge; it is a best tree, and sound, in a term that is multi or that isn't; its set is well built, and
-- it binds sites before they are used
pub record IsJudged (set : SiteSet) (multi : Bool) (tree : Tree) : Type 0 where
  pub passes : is_best_tree set tree ≡ true
  pub best : IsBestTree set tree
  pub well_built : IsWellBuilt set
  pub sound : IsSound set multi tree
  pub binds : BindsBeforeUse set multi tree

-- the judge refuses each of these trees; however its returns are marked, it is no best tree
abbrev pub AreRefused : SiteSet → List Tree → Type 0
AreRefused set [] = Unit {0}
AreRefused set (tree ∷ trees) = ((is_best_tree set tree ≡ false) × (IsBestTree set tree → ⊥)) × AreRefused set trees

-- a rule's closed demands, before which no sites were made
abbrev pub closed_demands : Program → TypedRule → Closed
closed_demands p r = closed [] (demands_of p r)

-- a sample of trees: the set of a term that is multi or isn't, its tree, and trees near that one
pub record TreeSample : Type 0 where
  pub set : SiteSet
  pub multi : Bool
  pub tree : Tree
  pub near_trees : List Tree

-- the tree is the set's, and those near it are refused
abbrev pub OneIsBest : TreeSample → Type 0
OneIsBest s = IsJudged s.set s.multi s.tree × AreRefused s.set s.near_trees

-- a sample whose rules are accepted: its list, what that becomes, and the set and the tree of one of its terms, which is
-- multi or isn't; and trees near that one
pub record Sample : Type 0 where
  pub defs : List Definition
  pub rules : TypedRules
  pub term : ℕ
  pub multi : Bool
  pub set : SiteSet
  pub tree : Tree
  pub near_trees : List Tree

-- by a meaning, on these arguments, the choice of a sample's rules and the run of its tree end so
abbrev pub HasOutcome : Sample → Meaning → List Value → Outcome → Type 0
HasOutcome s m args o =
    (choice (own_program s.defs s.rules) m s.rules.rules args ≡ o)
    × (run s.tree (world_of (own_program s.defs s.rules) s.term s.set.sites m args) ≡ o)

-- each stage comes from the one before, and the near trees are refused
pub record HasStages (s : Sample) : Type 0 where
  pub accepted : IsAcceptedBoth s.defs s.rules
  pub built : IsBuiltOf s.defs s.rules s.term s.set
  pub judged : IsJudged s.set s.multi s.tree
  pub refused : AreRefused s.set s.near_trees
