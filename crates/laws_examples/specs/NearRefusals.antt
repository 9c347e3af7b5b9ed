-- Answers near right ones, that statements of refusals don't allow.
use Rattle.std.specs.Prelude.{◌∷◌, [], ◌++◌, pos, Bool, List, codes}
use Rattle.model.specs.claims.Environments.{types_read}
use Rattle.model.specs.claims.Layers.{CheckReports, RefusedBy, own_program}
use Rattle.model.specs.claims.Refusals.{Refusal, RefusesTerms, ill_typed, of_nesting, past_limit}
use Rattle.model.specs.lists.Elaborated.{TypedRules}
use Rattle.model.specs.lists.Syntax.{Definition}
use Rattle.model.specs.rules.Program.{Program}
use Rattle.model.specs.sites.Overlap.{HasDistinctPositions, RuleReport, rules_overlap}
use Rattle.laws_examples.specs.Fall.{fall_any, fall_defs, fall_one}
use Rattle.laws_examples.specs.Refused.{unbound, term_twice}
use Rattle.laws_examples.specs.Stages.{IsAcceptedBoth}
use Rattle.laws_examples.specs.TypedForms.{rules_and_names}
use Rattle.laws_examples.specs.Written.{any, at, f_of_bytes, int, number, of_f, rule_first, rule_to, rule_to_one, var, variable}

-- 1. The rules of `fall`, both at one position.
abbrev pub one_place_defs : List Definition
one_place_defs =
    f_of_bytes 0 1 ∷ rule_first 1 (pos 1) (of_f 1 (int 1 (pos 1) ∷ [])) (number 1 (pos 10)) ∷ rule_to 1 (of_f 1 (var 1 (codes "x") ∷ [])) (variable 1 (codes "x")) ∷ []

abbrev pub one_place_rules : TypedRules
one_place_rules = rules_and_names (fall_one ∷ record fall_any { at = at 1 } ∷ []) (codes "f" ∷ codes "x" ∷ [])

abbrev pub one_place_program : Program
one_place_program = own_program one_place_defs one_place_rules

abbrev pub overlap_at_one_place : RuleReport
overlap_at_one_place = rules_overlap (record { first = at 1; others = at 1 ∷ [] })

-- they are accepted, so no overlap may be reported, though positions don't tell which rules a report would name
abbrev pub NoOverlapOfAcceptedRules : Type 0
NoOverlapOfAcceptedRules =
    IsAcceptedBoth one_place_defs one_place_rules
    × (HasDistinctPositions one_place_program → ⊥)
    × (CheckReports one_place_program (overlap_at_one_place ∷ []) → ⊥)

-- 2. (decl f (u8) u8) (rule (f 1) x) (rule (f _) 1): a rule with a variable that nothing binds, and one that has a typed rule
abbrev pub one_unbound : List Definition
one_unbound = unbound ++ rule_to_one 2 (of_f 2 (any 2 ∷ [])) ∷ []

-- the first rule is why the list is refused; that the second one passes a limit may not be said beside it
abbrev pub OnlyPassedLimitsAreNamed : Type 0
OnlyPassedLimitsAreNamed =
    ((expand : Bool) → RefusedBy one_unbound expand (ill_typed (at 1) ∷ []))
    × ((expand : Bool) → RefusedBy one_unbound expand (ill_typed (at 1) ∷ past_limit of_nesting (at 2) ∷ []) → ⊥)

-- 3. Terms are refused by errors of their definitions: of a term that is declared twice there is one, which names no limit;
-- the terms of `fall` aren't refused
abbrev pub TermsOf : List Definition → List Refusal → Type 0
TermsOf defs errors = RefusesTerms (types_read defs) defs errors

abbrev pub TermsAreRefused : Type 0
TermsAreRefused =
    TermsOf term_twice (ill_typed (at 1) ∷ [])
    × (TermsOf term_twice [] → ⊥)
    × (TermsOf term_twice (ill_typed (at 1) ∷ past_limit of_nesting (at 1) ∷ []) → ⊥)
    × ((errors : List Refusal) → TermsOf fall_defs errors → ⊥)
