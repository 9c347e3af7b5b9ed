-- The law of terms that answer lists: where each rule's condition is valid, each result that is collected is as the spec says.
use Rattle.std.specs.Prelude.{◌≡◌, ℕ, Bool, true, List, [], All, Contains}
use Rattle.model.specs.lists.Elaborated.{TypedRules}
use Rattle.model.specs.lists.Syntax.{Definition}
use Rattle.model.specs.rules.Values.{Value}
use Rattle.model.specs.rules.Meaning.{Meaning}
use Rattle.model.specs.rules.Program.{Program, is_multi, rules_of}
use Rattle.model.specs.rules.Picks.{bag}
use Rattle.model.specs.rules.Typed.{TypedRule}
use Rattle.model.specs.sites.Sites.{Site}
use Rattle.model.specs.sites.Serves.{TellsConstantsApart}
use Rattle.model.specs.visits.Demands.{demands_of}
use Rattle.model.specs.trees.Collects.{HasCollectedResults, CollectsTheBag}
use Rattle.model.specs.trees.Run.{run, world_of}
use Rattle.model.specs.trees.Trees.{Tree}
use Rattle.model.specs.claims.Layers.{own_program, IsAccepted, LoweredTerm, IsLoweredTerm}
use Rattle.laws_typing.specs.WellTypedPrograms.{IsWellTypedProgram}
use Rattle.laws_specs.specs.Specs.{Specs}
use Rattle.laws_specs.specs.Meets.{Atoms, IsResultAsSaid}
use Rattle.laws_specs.specs.ConditionLaws.{AreValid, IsCalled}

-- no rule of a term makes an impure call
abbrev pub MakesNoImpureCall : Program → ℕ → Type 0
MakesNoImpureCall p t = (r : TypedRule) → Contains (rules_of p t) r → (demands_of p r).impure ≡ []

-- then each result of the bag of its rules is a value that the term's spec provides
abbrev pub BagsAreAsSaid : Type 0
BagsAreAsSaid =
    (p : Program) (specs : Specs) (t : ℕ) (d : Atoms) (m : Meaning) (args : List Value)
    → IsWellTypedProgram p → MakesNoImpureCall p t → AreValid p specs t → IsCalled p specs t d m args []
    → All (IsResultAsSaid p specs t d args) (bag p m (rules_of p t) args)

-- so is each result of the run of a tree that collects the bag
abbrev pub CollectsAsSaid : Type 0
CollectsAsSaid =
    (p : Program) (specs : Specs) (t : ℕ) (d : Atoms) (m : Meaning) (args : List Value) (sites : List Site) (tree : Tree)
    → IsWellTypedProgram p → is_multi p t ≡ true → All (HasCollectedResults p) (rules_of p t) → AreValid p specs t → CollectsTheBag p t sites tree
    → IsCalled p specs t d m args [] → TellsConstantsApart p m (rules_of p t)
    → All (IsResultAsSaid p specs t d args) (run tree (world_of p t sites m args)).results

-- and of each tree that lowering gives of accepted definitions, in multi terms
abbrev pub LoweredTermsCollectAsSaid : Type 0
LoweredTermsCollectAsSaid =
    (defs : List Definition) (expand : Bool) (rules : TypedRules) (l : LoweredTerm) (specs : Specs) (d : Atoms) (m : Meaning) (args : List Value)
    → IsAccepted defs expand rules → IsLoweredTerm (own_program defs rules) l → is_multi (own_program defs rules) l.term ≡ true
    → All (HasCollectedResults (own_program defs rules)) (rules_of (own_program defs rules) l.term) → AreValid (own_program defs rules) specs l.term
    → IsCalled (own_program defs rules) specs l.term d m args [] → TellsConstantsApart (own_program defs rules) m (rules_of (own_program defs rules) l.term)
    → All (IsResultAsSaid (own_program defs rules) specs l.term d args) (run l.tree (world_of (own_program defs rules) l.term l.set.sites m args)).results
