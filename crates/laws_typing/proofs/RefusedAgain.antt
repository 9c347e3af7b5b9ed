-- More names leave which errors refuse the rules of a list.
use Rattle.std.proofs.Common.{◌≡◌, ◌↔◌, ℕ, List, Bool, Option, None, arith}
use Rattle.std.proofs.lemmas.Grind.{common_steps}
use Rattle.std.proofs.lemmas.Option.{none-some}
use Rattle.model.specs.lists.Syntax.{Position, Definition, RuleTree}
use Rattle.model.specs.lists.TermTable.{term_names_met}
use Rattle.model.specs.lists.Typings.{Typing}
use Rattle.model.specs.lists.Elaborated.{elaborated_rule, few_enough, most_nested}
use Rattle.model.specs.rules.Typed.{TypedRule}
use Rattle.model.specs.claims.Environments.{setting_of}
use Rattle.model.specs.claims.Refusals.{NamedLimit, Refusal, PassedInReading, nesting_passes, expansions_pass, RefusesRules}
use Rattle.laws_typing.proofs.TwoTables.{few_alike}
use Rattle.laws_typing.specs.AfterRefusals.{RulesAreRefusedAgain}
use Rattle.laws_typing.proofs.AfterRefusals.{TypesReadAgain, later, valid_alike, left_again}
use Rattle.laws_typing.proofs.RulesAgain.{rules_there, rules_again, rules_before}

module _ (a : TypesReadAgain) (defs : List Definition) (expand : Bool) where
  abbrev typing : ℕ → ℕ → RuleTree → Option (Typing TypedRule)
  typing d id q = elaborated_rule (setting_of a.types defs expand) d id q (term_names_met a.types.known defs)

  abbrev typing_again : ℕ → ℕ → RuleTree → Option (Typing TypedRule)
  typing_again d id q = elaborated_rule (setting_of (later a) defs expand) d id q (term_names_met (later a).known defs)

  -- a limit on nesting
  none_alike : (d id : ℕ) (q : RuleTree) → (typing d id q ≡ None) ↔ (typing_again d id q ≡ None)
  none_alike d id q = grind (arith, rules_there, none-some)

  -- and one on expansions
  few_none_alike : (d id : ℕ) (q : RuleTree) → (few_enough (typing d id q) ≡ None) ↔ (few_enough (typing_again d id q) ≡ None)
  few_none_alike d id q = grind (arith, few_alike, rules_there, none-some)

  passed_again : (l : NamedLimit) (at : Position) → PassedInReading a.types defs expand l at → PassedInReading (later a) defs expand l at
  passed_again l at (nesting_passes id h) =
      nesting_passes id (record { terms = (valid_alike a defs).0 h.terms; rule = h.rule; here = h.here; none = (none_alike most_nested id h.rule).0 h.none })
  passed_again l at (expansions_pass id h) =
      expansions_pass id (record { terms = (valid_alike a defs).0 h.terms; rule = h.rule; here = h.here; none = λ d. (few_none_alike d id h.rule).0 (h.none d) })

  passed_before : (l : NamedLimit) (at : Position) → PassedInReading (later a) defs expand l at → PassedInReading a.types defs expand l at
  passed_before l at (nesting_passes id h) =
      nesting_passes id (record { terms = (valid_alike a defs).1 h.terms; rule = h.rule; here = h.here; none = (none_alike most_nested id h.rule).1 h.none })
  passed_before l at (expansions_pass id h) =
      expansions_pass id (record { terms = (valid_alike a defs).1 h.terms; rule = h.rule; here = h.here; none = λ d. (few_none_alike d id h.rule).1 (h.none d) })

  refused_alike : (errors : List Refusal) → RefusesRules a.types defs expand errors ↔ RefusesRules (later a) defs expand errors
  refused_alike errors = grind (arith, common_steps, rules_before a defs expand, rules_again a defs expand, passed_again, rules_before, passed_before, rules_again)

pub rules_are_refused_again_lem : RulesAreRefusedAgain
rules_are_refused_again_lem e env r left defs expand errors = refused_alike (left_again e env r left) defs expand errors
