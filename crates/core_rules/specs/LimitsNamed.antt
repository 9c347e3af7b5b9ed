-- That limits are named: a rule that has a typed rule past the limits on expansions, and none within them, stands where an
-- error says that one is passed.
use Rattle.std.specs.Prelude.{◌≡◌, ◌⊎◌, ℕ, suc, Bool, List, [], ◌∷◌, ◌++◌, take, Option, Some, None, slice_get, Contains}
use Rattle.model.specs.lists.Syntax.{Position, RuleTree, Definition}
use Rattle.model.specs.lists.Names.{IsDistinct}
use Rattle.model.specs.lists.TermTable.{rule_trees, IsValidTerms, term_names_met}
use Rattle.model.specs.lists.Setting.{Setting}
use Rattle.model.specs.lists.Typings.{Typing}
use Rattle.model.specs.lists.Elaborated.{elaborated_rule, typed_rule, typed_rules, TypedRules, with_typed}
use Rattle.model.specs.rules.Outcome.{then_option}
use Rattle.model.specs.rules.Typed.{TypedRule}
use Rattle.model.specs.claims.Environments.{TypesRead, setting_of}
use Rattle.model.specs.claims.Refusals.{of_nesting, of_expansions, Refusal, past_limit}
use Rattle.core_rules.specs.RuleLists.{rule_from, rule_within}

-- an error says that the rule at a place passes a limit on expansions
abbrev pub NamesALimit : Position → List Refusal → Type 0
NamesALimit at errors = Contains errors (past_limit of_nesting at) ⊎ Contains errors (past_limit of_expansions at)

-- if a rule has a typed rule from these names where expansions may nest to some depth, however many there are, and none within
-- the limits, an error says so
abbrev pub IsNamedFrom : Setting → ℕ → RuleTree → List Refusal → List (List ℕ) → Type 0
IsNamedFrom e id r errors names = (d : ℕ) (a : Typing TypedRule) → rule_from e id r names d ≡ Some a → rule_within e id r names ≡ None → NamesALimit r.at errors

-- likewise from some names that go on from these
pub record IsNamedPastLimits (e : Setting) (names : List (List ℕ)) (errors : List Refusal) (r : RuleTree) : Type 0 where
  pub id : ℕ
  pub more : List (List ℕ)
  pub once : IsDistinct (names ++ more)
  pub named : IsNamedFrom e id r errors (names ++ more)

-- the terms are valid, and a rule has a typed rule where expansions may nest to some depth, however many there are, and none
-- within the limits: all that it lacks is the limits. As where a limit is passed, it is read from the names of the terms
pub record IsTypedPastLimits (e : TypesRead) (defs : List Definition) (expand : Bool) (id : ℕ) : Type 0 where
  pub terms : IsValidTerms e.known defs
  pub rule : RuleTree
  pub here : slice_get (rule_trees defs) id ≡ Some rule
  pub depth : ℕ
  pub typing : Typing TypedRule
  pub reached : elaborated_rule (setting_of e defs expand) depth id rule (term_names_met e.known defs) ≡ Some typing
  pub none : typed_rule (setting_of e defs expand) id rule (term_names_met e.known defs) ≡ None

-- each such rule of a list is named
abbrev pub NamesTypedPastLimits : TypesRead → List Definition → Bool → List Refusal → Type 0
NamesTypedPastLimits e defs expand errors = (id : ℕ) (h : IsTypedPastLimits e defs expand id) → NamesALimit h.rule.at errors

-- rules in order, the first of which has this id, each from the names met before it, where so many expansions may nest in one
-- another, however many there are
abbrev pub rules_reached : Setting → ℕ → ℕ → List RuleTree → List (List ℕ) → Option TypedRules
rules_reached e d id [] names = Some (record { rules = []; names = names })
rules_reached e d id (r ∷ rs) names = then_option (elaborated_rule e d id r names) (λ a. with_typed a.made (rules_reached e d (suc id) rs a.scope.names))

-- the terms are valid, and all that the rules of a list lack is the limits: past these each has a typed rule, and within them
-- not all have
pub record LackOnlyLimits (e : TypesRead) (defs : List Definition) (expand : Bool) : Type 0 where
  pub terms : IsValidTerms e.known defs
  pub depth : ℕ
  pub rules : TypedRules
  pub reached : rules_reached (setting_of e defs expand) depth 0 (rule_trees defs) (term_names_met e.known defs) ≡ Some rules
  pub none : typed_rules (setting_of e defs expand) 0 (rule_trees defs) (term_names_met e.known defs) ≡ None

-- the first rule that has no typed rule within the limits is named
pub record NamesFirst (e : TypesRead) (defs : List Definition) (expand : Bool) (errors : List Refusal) : Type 0 where
  pub id : ℕ
  pub rule : RuleTree
  pub here : slice_get (rule_trees defs) id ≡ Some rule
  pub before : TypedRules
  pub typed : typed_rules (setting_of e defs expand) 0 (take id (rule_trees defs)) (term_names_met e.known defs) ≡ Some before
  pub none : typed_rule (setting_of e defs expand) id rule before.names ≡ None
  pub named : NamesALimit rule.at errors

-- that is so of each list where only the limits are lacking
abbrev pub NamesFirstPastLimits : TypesRead → List Definition → Bool → List Refusal → Type 0
NamesFirstPastLimits e defs expand errors = LackOnlyLimits e defs expand → NamesFirst e defs expand errors
