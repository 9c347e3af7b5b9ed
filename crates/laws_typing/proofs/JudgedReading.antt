-- The judge of reading gives a list's typed rules, and nothing where it has none.
use Rattle.std.proofs.Common.{◌≡◌, Bool, true, ◌&&◌, List, Option, Some, None, is_some, refl, sym, ap, ◌∙◌, arith}
use Rattle.std.proofs.lemmas.Grind.{common_steps}
use Rattle.std.proofs.lemmas.Bool.{false≢true, and_parts, and_from, cond-true}
use Rattle.std.proofs.lemmas.Option.{none-some, same_Some}
use Rattle.model.specs.lists.Syntax.{Definition}
use Rattle.model.specs.lists.TermTable.{rule_trees, term_names_met}
use Rattle.model.specs.lists.ListJudge.{has_valid_types, has_valid_terms, all_defined}
use Rattle.model.specs.lists.Elaborated.{TypedRules, rule_names, elaborated_rules}
use Rattle.model.specs.trees.Best.{are_distinct}
use Rattle.model.specs.claims.Environments.{TypesRead, types_read, setting_of, IsElaborated, HasTypedRules}
use Rattle.model.specs.claims.ReadJudge.{are_readable, named_apart, elaborated_list, read_list}
use Rattle.laws_typing.specs.JudgeLaws.{ListsAreElaborated, TypedRulesAreFound, ListsAreRead, ListsAreRefused}
use Rattle.laws_typing.proofs.Typings.{if_gives}
use Rattle.laws_typing.proofs.DistinctLists.{numbers_differ}
use Rattle.laws_typing.proofs.JudgedKnown.{read_types_are_judged_lem}
use Rattle.laws_typing.proofs.JudgedTypes.{types_are_judged_lem}
use Rattle.laws_typing.proofs.JudgedTerms.{terms_are_judged_lem, defined_are_judged_lem}

apart_gives : (o : Option TypedRules) (rules : TypedRules) → named_apart o ≡ Some rules → (o ≡ Some rules) × (are_distinct (rule_names rules.rules) ≡ true)
apart_gives o rules h = grind (arith, common_steps, none-some, if_gives, same_Some)

module _ (e : TypesRead) (defs : List Definition) (expand : Bool) (rules : TypedRules) where
  abbrev all_typed : Option TypedRules
  all_typed = elaborated_rules (setting_of e defs expand) (rule_trees defs) (term_names_met e.known defs)

  abbrev tables : Bool
  tables = are_readable e && has_valid_terms e.known defs && all_defined defs

  elaborated : elaborated_list e defs expand ≡ Some rules → IsElaborated e defs expand rules
  elaborated h =
      let p = if_gives tables (named_apart all_typed) h in
      let tests = and_parts (are_readable e && has_valid_terms e.known defs) (all_defined defs) p.0 in
      let first = and_parts (are_readable e) (has_valid_terms e.known defs) tests.0 in
      let typed = apart_gives all_typed rules p.1 in
      record {
        readable = (read_types_are_judged_lem e).0 first.0;
        terms = (terms_are_judged_lem e.known defs).0 first.1;
        defined = (defined_are_judged_lem defs).0 tests.1;
        elaborate = record { typed = typed.0; distinct = (numbers_differ (rule_names rules.rules)).0 typed.1 };
      }

  given : IsElaborated e defs expand rules → elaborated_list e defs expand ≡ Some rules
  given r = grind (arith, common_steps, and_from, read_types_are_judged_lem, terms_are_judged_lem, defined_are_judged_lem, numbers_differ)

pub lists_are_elaborated_lem : ListsAreElaborated
lists_are_elaborated_lem e defs expand rules = (elaborated e defs expand rules, given e defs expand rules)

pub typed_rules_are_found_lem : TypedRulesAreFound
typed_rules_are_found_lem e defs expand = (
  elim (elaborated_list e defs expand) as (λ o. elaborated_list e defs expand ≡ o → is_some o ≡ true → HasTypedRules e defs expand) [
    | None ↦ λ _ h. absurd (false≢true h)
    | Some rules ↦ λ q _. (rules, elaborated e defs expand rules q)
  ] refl,
  λ h. ap is_some (given e defs expand h.0 h.1),
)

pub lists_are_read_lem : ListsAreRead
lists_are_read_lem defs expand rules = (
  (λ h.
      let p = if_gives (has_valid_types defs) (elaborated_list (types_read defs) defs expand) h in
      record { types = (types_are_judged_lem defs).0 p.0; elaborated = elaborated (types_read defs) defs expand rules p.1 }),
  λ r. cond-true (has_valid_types defs) (elaborated_list (types_read defs) defs expand) None ((types_are_judged_lem defs).1 r.types)
      ∙ given (types_read defs) defs expand rules r.elaborated,
)

pub lists_are_refused_lem : ListsAreRefused
lists_are_refused_lem defs expand = (
  (λ h rules r. none-some rules (sym h ∙ (lists_are_read_lem defs expand rules).1 r)),
  λ h. elim (read_list defs expand) as (λ o. read_list defs expand ≡ o → o ≡ None) [
    | None ↦ λ _. refl
    | Some rules ↦ λ e. absurd (h rules ((lists_are_read_lem defs expand rules).0 e))
  ] refl,
)
