-- Errors as they are told apart, by form, limit and positions; and which limit may be named: one that was passed.
use Rattle.std.specs.Prelude.{◌≡◌, ◌≢◌, ℕ, Bool, List, [], ◌∷◌, Some, slice_get, take, All, Contains}
use Rattle.std.specs.Bool.{◌==◌}
use Rattle.std.specs.List.{filter}
use Rattle.model.specs.lists.Syntax.{Position, Definition}
use Rattle.model.specs.lists.TypeTable.{IsValidTypes}
use Rattle.model.specs.lists.TermTable.{IsValidTerms}
use Rattle.model.specs.rules.Typed.{TypedRule}
use Rattle.model.specs.rules.Program.{Program}
use Rattle.model.specs.sites.Sites.{SiteTerm}
use Rattle.model.specs.sites.Limits.{RuleLimit, PassesLimit, sites_after_rules}
use Rattle.model.specs.sites.Overlap.{RuleReport, limit_passed, not_reached, rules_overlap, rule_shadows}
use Rattle.model.specs.claims.Environments.{TypesRead, HasTypedRules, PassesNesting, PassesExpansions}

-- the six limits: four on what a rule makes, and those on how expansions nest in a rule and how many it takes
pub data NamedLimit : Type 0 where
  of_rule : (limit : RuleLimit) → NamedLimit
  of_nesting : NamedLimit
  of_expansions : NamedLimit

-- an error, by its form and the positions that it names: where a definition isn't right; a rule that can't match; rules that
-- overlap wrongly, the first of which overlaps the others; rules that are shadowed, and their mask; a limit that a rule passes.
-- Texts are not in it
pub data Refusal : Type 0 where
  ill_typed : (at : Position) → Refusal
  unreachable : (at : Position) → Refusal
  overlapping : (rules : List Position) → Refusal
  shadowing : (shadowed : List Position) (mask : Position) → Refusal
  past_limit : (limit : NamedLimit) (at : Position) → Refusal

-- the error that a report is answered as
abbrev pub refusal_of : RuleReport → Refusal
refusal_of (limit_passed limit at) = past_limit (of_rule limit) at
refusal_of (not_reached why at) = unreachable at
refusal_of (rules_overlap r) = overlapping (r.first ∷ r.others)
refusal_of (rule_shadows r) = shadowing r.shadowed r.mask

-- each limit that errors name was passed by the rule at the position that they name
abbrev pub NamesOnlyPassed : (NamedLimit → Position → Type 0) → List Refusal → Type 0
NamesOnlyPassed Passed errors = (l : NamedLimit) (at : Position) → Contains errors (past_limit l at) → Passed l at

-- the sites that the rules of its term before the rule at a place have made
abbrev pub sites_before : Program → ℕ → TypedRule → List SiteTerm
sites_before p i r = sites_after_rules p [] (filter (λ q. q.root_term == r.root_term) (take i p.rules))

-- while rules are built: the rule at a place passes a limit after the sites of the rules before
pub data PassedInBuilding (p : Program) : NamedLimit → Position → Type 0 where
  rule_passes : (i : ℕ) (r : TypedRule) (l : RuleLimit) → slice_get p.rules i ≡ Some r → PassesLimit p (sites_before p i r) r l → PassedInBuilding p (of_rule l) r.at

-- while rules are read
pub data PassedInReading (e : TypesRead) (defs : List Definition) (expand : Bool) : NamedLimit → Position → Type 0 where
  nesting_passes : (id : ℕ) (h : PassesNesting e defs expand id) → PassedInReading e defs expand of_nesting h.rule.at
  expansions_pass : (id : ℕ) (h : PassesExpansions e defs expand id) → PassedInReading e defs expand of_expansions h.rule.at

-- an error of a list that has no table
abbrev pub IsIllTyped : Refusal → Type 0
IsIllTyped (ill_typed at) = Unit {0}
IsIllTyped _ = ⊥

-- an error of a list that has no typed rules: a limit is one of those on expansions
abbrev pub IsOfReading : Refusal → Type 0
IsOfReading (ill_typed at) = Unit {0}
IsOfReading (past_limit limit at) = Unit {0}
IsOfReading _ = ⊥

-- why reading types is refused, with these errors. No limit is named
pub record RefusesTypes (defs : List Definition) (errors : List Refusal) : Type 0 where
  pub some_error : errors ≢ []
  pub forms : All IsIllTyped errors
  pub not_valid : IsValidTypes defs → ⊥

-- why reading terms is refused, by types that are handed in. No limit is named
pub record RefusesTerms (e : TypesRead) (defs : List Definition) (errors : List Refusal) : Type 0 where
  pub some_error : errors ≢ []
  pub forms : All IsIllTyped errors
  pub not_valid : IsValidTerms e.known defs → ⊥

-- why reading rules is refused, by types that are handed in
pub record RefusesRules (e : TypesRead) (defs : List Definition) (expand : Bool) (errors : List Refusal) : Type 0 where
  pub some_error : errors ≢ []
  pub forms : All IsOfReading errors
  pub limits : NamesOnlyPassed (PassedInReading e defs expand) errors
  pub no_rules : HasTypedRules e defs expand → ⊥
