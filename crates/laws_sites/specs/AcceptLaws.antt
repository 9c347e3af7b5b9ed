-- The judge of acceptance is exact.
use Rattle.std.specs.Prelude.{◌≡◌, ◌↔◌, Bool, List, Some, None, Decides}
use Rattle.model.specs.lists.Syntax.{Definition}
use Rattle.model.specs.lists.Elaborated.{TypedRules}
use Rattle.model.specs.rules.Program.{Program}
use Rattle.model.specs.claims.Layers.{IsCheckable, IsAccepted}
use Rattle.model.specs.claims.AcceptJudge.{is_checkable, accepted_list}
use Rattle.laws_typing.specs.WellTypedPrograms.{IsWellTypedProgram}
use Rattle.laws_sites.specs.ReportLaws.{RulesHaveTerms}

-- the term of each rule of a well-typed program is one of its terms
abbrev pub WellTypedRulesHaveTerms : Type 0
WellTypedRulesHaveTerms = (p : Program) → IsWellTypedProgram p → RulesHaveTerms p

-- the judge says so exactly where the rules of a program can be told apart
abbrev pub RulesAreJudged : Type 0
RulesAreJudged = (p : Program) → RulesHaveTerms p → Decides (is_checkable p) (IsCheckable p)

-- the judge gives the typed rules of a list that is accepted
abbrev pub ListsAreAccepted : Type 0
ListsAreAccepted = (defs : List Definition) (expand : Bool) (rules : TypedRules) → (accepted_list defs expand ≡ Some rules) ↔ IsAccepted defs expand rules

-- and gives nothing exactly where the list isn't accepted
abbrev pub ListsAreNotAccepted : Type 0
ListsAreNotAccepted = (defs : List Definition) (expand : Bool) → (accepted_list defs expand ≡ None) ↔ ((rules : TypedRules) → IsAccepted defs expand rules → ⊥)
