-- The laws: where each rule's condition is valid, what a term answers is as its spec says.
use Rattle.std.specs.Prelude.{◌≡◌, ◌⊎◌, ℕ, Bool, false, List, Contains, IsTrue}
use Rattle.model.specs.lists.Elaborated.{TypedRules}
use Rattle.model.specs.lists.Syntax.{Definition}
use Rattle.model.specs.rules.Values.{Value, args_well_typed}
use Rattle.model.specs.rules.Meaning.{Meaning}
use Rattle.model.specs.rules.Outcome.{Call}
use Rattle.model.specs.rules.Program.{Program, is_multi, arg_types, rules_of}
use Rattle.model.specs.rules.Choice.{choice}
use Rattle.model.specs.rules.Typed.{TypedRule}
use Rattle.model.specs.sites.Sites.{Site}
use Rattle.model.specs.sites.Serves.{Serves, TellsConstantsApart}
use Rattle.model.specs.trees.Run.{run, world_of}
use Rattle.model.specs.trees.Trees.{Tree}
use Rattle.model.specs.claims.Headline.{RunsAsChosen}
use Rattle.model.specs.claims.Layers.{own_program, IsAccepted, LoweredTerm, IsLoweredTerm}
use Rattle.laws_typing.specs.WellTypedPrograms.{IsWellTypedProgram}
use Rattle.laws_specs.specs.Specs.{Specs}
use Rattle.laws_specs.specs.Conditions.{condition, IsValid, IsValidBelow}
use Rattle.laws_specs.specs.Meets.{Atoms, IsDenotation, AreNumbers, MeetsSpecs, IsCalledAsRequired, AnswersAsSaid}

-- the condition of each rule of a term is valid
abbrev pub AreValid : Program → Specs → ℕ → Type 0
AreValid p specs t = (r : TypedRule) → Contains (rules_of p t) r → IsValid p specs (condition p r)

-- well-typed arguments that meet the term's require, under a meaning that serves its rules and answers as specs say, also these
-- impure calls
pub record IsCalled (p : Program) (specs : Specs) (t : ℕ) (d : Atoms) (m : Meaning) (args : List Value) (calls : List Call) : Type 0 where
  pub denotes : IsDenotation p specs d
  pub typed : IsTrue (args_well_typed p.types (arg_types p t) args)
  pub serves : Serves p m args (rules_of p t)
  pub meets : MeetsSpecs specs d m calls
  pub required : IsCalledAsRequired specs t d args

-- then the choice among the source rules of a term that isn't multi answers as said
abbrev pub ChoosesAsSaid : Type 0
ChoosesAsSaid =
    (p : Program) (specs : Specs) (t : ℕ) (d : Atoms) (m : Meaning) (args : List Value)
    → IsWellTypedProgram p → is_multi p t ≡ false → AreValid p specs t → IsCalled p specs t d m args (choice p m (rules_of p t) args).calls
    → AnswersAsSaid p specs t d args (choice p m (rules_of p t) args)

-- so a tree that runs as chosen computes what the spec says
abbrev pub ComputesAsSaid : Type 0
ComputesAsSaid =
    (p : Program) (specs : Specs) (t : ℕ) (d : Atoms) (m : Meaning) (args : List Value) (sites : List Site) (tree : Tree)
    → IsWellTypedProgram p → is_multi p t ≡ false → AreValid p specs t → RunsAsChosen p t sites tree
    → IsCalled p specs t d m args (run tree (world_of p t sites m args)).calls → TellsConstantsApart p m (rules_of p t)
    → AnswersAsSaid p specs t d args (run tree (world_of p t sites m args))

-- the condition of each rule is valid where no rule of greater priority matches
abbrev pub AreValidBelow : Program → Specs → ℕ → Type 0
AreValidBelow p specs t = (r : TypedRule) → Contains (rules_of p t) r → IsValidBelow p specs r

-- that is enough where atoms stand for numbers: what is chosen is never below a rule that matches
abbrev pub ChoosesAsSaidByPriority : Type 0
ChoosesAsSaidByPriority =
    (p : Program) (specs : Specs) (t : ℕ) (d : Atoms) (m : Meaning) (args : List Value)
    → IsWellTypedProgram p → is_multi p t ≡ false → AreValidBelow p specs t → AreNumbers d → IsCalled p specs t d m args (choice p m (rules_of p t) args).calls
    → AnswersAsSaid p specs t d args (choice p m (rules_of p t) args)

abbrev pub ComputesAsSaidByPriority : Type 0
ComputesAsSaidByPriority =
    (p : Program) (specs : Specs) (t : ℕ) (d : Atoms) (m : Meaning) (args : List Value) (sites : List Site) (tree : Tree)
    → IsWellTypedProgram p → is_multi p t ≡ false → AreValidBelow p specs t → AreNumbers d → RunsAsChosen p t sites tree
    → IsCalled p specs t d m args (run tree (world_of p t sites m args)).calls → TellsConstantsApart p m (rules_of p t)
    → AnswersAsSaid p specs t d args (run tree (world_of p t sites m args))

-- what each tree that lowering gives of accepted definitions computes, in terms that aren't multi
abbrev pub LoweredTermsComputeAsSaid : Type 0
LoweredTermsComputeAsSaid =
    (defs : List Definition) (expand : Bool) (rules : TypedRules) (l : LoweredTerm) (specs : Specs) (d : Atoms) (m : Meaning) (args : List Value)
    → IsAccepted defs expand rules → IsLoweredTerm (own_program defs rules) l → is_multi (own_program defs rules) l.term ≡ false
    → AreValid (own_program defs rules) specs l.term ⊎ (AreValidBelow (own_program defs rules) specs l.term × AreNumbers d)
    → IsCalled (own_program defs rules) specs l.term d m args (run l.tree (world_of (own_program defs rules) l.term l.set.sites m args)).calls
    → TellsConstantsApart (own_program defs rules) m (rules_of (own_program defs rules) l.term)
    → AnswersAsSaid (own_program defs rules) specs l.term d args (run l.tree (world_of (own_program defs rules) l.term l.set.sites m args))
