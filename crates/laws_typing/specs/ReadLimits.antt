-- What elaborates passes no limit while it is read.
use Rattle.std.specs.Prelude.{◌≡◌, ℕ, Bool, List, Some, None, slice_get}
use Rattle.model.specs.lists.Syntax.{Position, RuleTree, Definition}
use Rattle.model.specs.lists.TermTable.{rule_trees, term_names_met}
use Rattle.model.specs.lists.Elaborated.{TypedRules, typed_rule}
use Rattle.model.specs.claims.Environments.{TypesRead, setting_of, IsElaborated}
use Rattle.model.specs.claims.Refusals.{NamedLimit, PassedInReading}

-- no rule of a list passes a limit on expansions
abbrev pub NonePassedInReading : TypesRead → List Definition → Bool → Type 0
NonePassedInReading e defs expand = (l : NamedLimit) (at : Position) → PassedInReading e defs expand l at → ⊥

-- each rule of a list that elaborates has a typed rule within the limits on expansions, also from the names of the terms alone
abbrev pub ElaboratedRulesAreWithinLimits : Type 0
ElaboratedRulesAreWithinLimits =
    (e : TypesRead) (defs : List Definition) (expand : Bool) (rules : TypedRules) → IsElaborated e defs expand rules
    → (id : ℕ) (r : RuleTree) → slice_get (rule_trees defs) id ≡ Some r → typed_rule (setting_of e defs expand) id r (term_names_met e.known defs) ≡ None → ⊥

-- no rule of a list that elaborates passes a limit while it is read
abbrev pub ElaboratedListsPassNoLimit : Type 0
ElaboratedListsPassNoLimit =
    (e : TypesRead) (defs : List Definition) (expand : Bool) (rules : TypedRules) → IsElaborated e defs expand rules → NonePassedInReading e defs expand
