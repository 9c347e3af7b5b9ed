-- The laws of specs in runs where multi terms with rules are called too.
use Rattle.std.specs.Prelude.{◌≡◌, ◌⊎◌, ℕ, Bool, true, List, Contains}
use Rattle.model.specs.lists.Elaborated.{TypedRules}
use Rattle.model.specs.lists.Syntax.{Definition}
use Rattle.model.specs.rules.Program.{Program, is_multi, terms_with_rules}
use Rattle.model.specs.claims.Layers.{own_program, IsAccepted, AreLowered, LoweredTerm}
use Rattle.laws_typing.specs.WellTypedPrograms.{IsWellTypedProgram}
use Rattle.laws_specs.specs.Specs.{Specs}
use Rattle.laws_specs.specs.Meets.{Atoms, IsDenotation}
use Rattle.laws_specs.specs.ConditionLaws.{AreValid}
use Rattle.laws_specs.specs.WholeRuns.{Functions}
use Rattle.laws_specs.specs.ProgramLaws.{RunTrees, RunCode, AllAreValid, AllAreAsSaid}
use Rattle.laws_specs.specs.ListRuns.{by_bags, ListRun}

-- the condition of each rule of each multi term is valid
abbrev pub AllListsAreValid : Program → Specs → Type 0
AllListsAreValid p specs = (t : ℕ) → Contains (terms_with_rules p) t → is_multi p t ≡ true → AreValid p specs t

abbrev pub AllListRunsAreAsSaid : Program → Specs → Atoms → Functions → Type 0
AllListRunsAreAsSaid p specs d f = AllAreAsSaid p specs d (ListRun f p)

-- a program whose rules are all valid answers as its specs say, each element of a list too
abbrev pub ListProgramsComputeAsSaid : Type 0
ListProgramsComputeAsSaid =
    (p : Program) (specs : Specs) (d : Atoms) → IsWellTypedProgram p → IsDenotation p specs d → AllAreValid p specs d → AllListsAreValid p specs → AllListRunsAreAsSaid p specs d (by_bags p)

-- and so do the trees that lowering gives of accepted definitions, or their code without a bound of results
abbrev pub LoweredListProgramsComputeAsSaid : Type 0
LoweredListProgramsComputeAsSaid =
    (defs : List Definition) (expand : Bool) (rules : TypedRules) (terms : List LoweredTerm) (f : Functions) (specs : Specs) (d : Atoms)
    → IsAccepted defs expand rules → AreLowered (own_program defs rules) terms → RunTrees (own_program defs rules) terms f ⊎ RunCode (own_program defs rules) terms f
    → IsDenotation (own_program defs rules) specs d → AllAreValid (own_program defs rules) specs d → AllListsAreValid (own_program defs rules) specs
    → AllListRunsAreAsSaid (own_program defs rules) specs d f
