-- The headline under finite maps, and by total functions.
use Rattle.std.specs.Prelude.{◌≡◌, ℕ, Bool, true, false, List, All, IsTrue}
use Rattle.model.specs.lists.Syntax.{Definition}
use Rattle.model.specs.lists.Elaborated.{TypedRules}
use Rattle.model.specs.rules.Values.{Value, args_well_typed}
use Rattle.model.specs.rules.Meaning.{Meaning, Maps, finite, TotalMeaning, total}
use Rattle.model.specs.rules.Picks.{bag}
use Rattle.model.specs.rules.Program.{Program, is_multi, arg_types, rules_of}
use Rattle.model.specs.sites.Sites.{Site}
use Rattle.model.specs.sites.Serves.{Serves, TellsConstantsApart}
use Rattle.model.specs.trees.Collects.{Collects, CollectsTheBag, HasCollectedResults}
use Rattle.model.specs.trees.Run.{run, world_of}
use Rattle.model.specs.trees.Trees.{Tree}
use Rattle.model.specs.claims.Headline.{RunsAsChosen}
use Rattle.model.specs.claims.Layers.{own_program, IsAccepted, LoweredTerm, IsLoweredTerm}
use Rattle.laws_trees.specs.TotalLaws.{IsTotalFor, ChoosesUnder}
use Rattle.laws_trees.specs.PatternConstants.{TellsPatternsApart}

-- under a meaning a tree's run collects the bag of the rules
abbrev pub CollectsUnder : Program → ℕ → List Site → Tree → Meaning → List Value → Type 0
CollectsUnder p t sites tree m args = Collects (run tree (world_of p t sites m args)) (bag p m (rules_of p t) args)

-- what maps must be on these arguments
abbrev pub MapsServe : Program → ℕ → Maps → List Value → Type 0
MapsServe p t maps args = IsTrue (args_well_typed p.types (arg_types p t) args) × Serves p (finite maps) args (rules_of p t) × TellsConstantsApart p (finite maps) (rules_of p t)

-- a tree that has the headline, or collects the bag, does so under all finite maps that serve and tell constants apart: these are
-- meanings
pub record KeepsTheHeadlineOfMaps (p : Program) (t : ℕ) (sites : List Site) (tree : Tree) : Type 0 where
  pub chooses : RunsAsChosen p t sites tree → is_multi p t ≡ false → (maps : Maps) (args : List Value) → MapsServe p t maps args → ChoosesUnder p t sites tree (finite maps) args
  pub collects : CollectsTheBag p t sites tree → is_multi p t ≡ true → All (HasCollectedResults p) (rules_of p t) → (maps : Maps) (args : List Value) → MapsServe p t maps args
      → CollectsUnder p t sites tree (finite maps) args

abbrev pub HeadlineIsOfMaps : Type 0
HeadlineIsOfMaps = (p : Program) (t : ℕ) (sites : List Site) (tree : Tree) → KeepsTheHeadlineOfMaps p t sites tree

-- by total functions a term that isn't multi chooses; a multi term whose rules make no impure call and leave no multi call of an
-- if-let unused collects the bag
pub record RunsByFunctions (p : Program) (l : LoweredTerm) (f : TotalMeaning) (args : List Value) : Type 0 where
  pub chooses : is_multi p l.term ≡ false → ChoosesUnder p l.term l.set.sites l.tree (total f) args
  pub collects : is_multi p l.term ≡ true → All (HasCollectedResults p) (rules_of p l.term) → CollectsUnder p l.term l.set.sites l.tree (total f) args

-- so does each term of accepted definitions, by all total functions that are well typed for what its rules use and tell the
-- constants of its patterns apart, on all well-typed arguments
abbrev pub LoweredTermsRunByFunctions : Type 0
LoweredTermsRunByFunctions =
    (defs : List Definition) (expand : Bool) (rules : TypedRules) (l : LoweredTerm) (f : TotalMeaning) (args : List Value)
    → IsAccepted defs expand rules → IsLoweredTerm (own_program defs rules) l
    → IsTotalFor (own_program defs rules) l.term f → TellsPatternsApart (own_program defs rules) (total f) (rules_of (own_program defs rules) l.term)
    → IsTrue (args_well_typed (own_program defs rules).types (arg_types (own_program defs rules) l.term) args)
    → RunsByFunctions (own_program defs rules) l f args
