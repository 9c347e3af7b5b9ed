-- The errors of rules name a limit only where it was passed.
use Rattle.std.proofs.Common.{◌≡◌, ◌≢◌, ℕ, Bool, cond, All, List, [], ◌++◌, Option, Some, None, option_map, refl, sym, ap, subst, ◌∙◌, arith}
use Rattle.std.proofs.lemmas.List.Elements.{All-weaker, All-contains}
use Rattle.std.proofs.lemmas.Option.{none-some, same_Some}
use Rattle.std.proofs.lemmas.Grind.{common_steps}
use Rattle.core_syntax.specs.Answers.{limit_of}
use Rattle.core_syntax.specs.declared.syntax.Error.{Error}
use Rattle.model.specs.lists.Syntax.{Position, RuleTree, Definition}
use Rattle.model.specs.lists.Names.{IsDistinct}
use Rattle.model.specs.lists.Tables.{TermEntry}
use Rattle.model.specs.lists.TermTable.{rule_trees, IsValidTerms, term_names_met}
use Rattle.model.specs.lists.Setting.{Setting, Scope, new_scope}
use Rattle.model.specs.lists.Typings.{Typing}
use Rattle.model.specs.lists.Elaborated.{Sides, finished_rule, few_enough, most_nested, elaborated_rule, typed_rule}
use Rattle.model.specs.rules.Outcome.{then_option}
use Rattle.model.specs.rules.Typed.{TypedRule}
use Rattle.model.specs.claims.Environments.{TypesRead, AreReadable, HasTypedRules, setting_of, PassesNesting, PassesExpansions}
use Rattle.model.specs.claims.Refusals.{NamedLimit, of_rule, of_nesting, of_expansions, Refusal, past_limit, NamesOnlyPassed, PassedInReading, nesting_passes, expansions_pass, IsIllTyped, IsOfReading, RefusesRules}
use Rattle.model.proofs.Members.{get_from_member, from_map}
use Rattle.model.proofs.Positions.{get_front}
use Rattle.laws_typing.specs.FurtherNames.{AreThereAlike}
use Rattle.laws_typing.proofs.NamesOfTables.{names_of_rules_dont_matter_lem}
use Rattle.core_rules.specs.Constructors.{AreTermsNamed}
use Rattle.core_syntax.specs.ErrorViews.{error_view, error_views}
use Rattle.core_rules.specs.RuleErrors.{IsNestedDeeper, IsExpandedMore, IsOfRules}
use Rattle.core_rules.specs.RuleLists.{rule_from, rule_within}
use Rattle.core_rules.specs.RuleReadings.{rule_reading}
use Rattle.core_rules.proofs.ConstructorLaws.{rule_same, rule_uses}
use Rattle.core_rules.proofs.NamesKept.{Kept, kept_here}

-- 1. what isn't right
pub wrong_of_rules : (e : Setting) (trees : List RuleTree) (names : List (List ℕ)) (x : Refusal) → IsIllTyped x → IsOfRules e trees names x
wrong_of_rules e trees names x h = grind arith

-- 2. how many expansions a typing takes, where there is one
abbrev count : {X : Type 0} → Option (Typing X) → Option ℕ
count o = option_map (λ a. a.expansions) o

none_counted : {X Y : Type 0} (o : Option (Typing X)) (p : Option (Typing Y)) → count o ≡ count p → o ≡ None → p ≡ None
none_counted o p same none = grind (arith, common_steps, none-some)

some_counted : {X Y : Type 0} (o : Option (Typing X)) (p : Option (Typing Y)) → count o ≡ count p → (a : Typing X) → o ≡ Some a → (b : Typing Y) × (p ≡ Some b)
some_counted o None same a h = absurd (none-some a.expansions (sym same ∙ ap count h))
some_counted o (Some b) same a h = (b, refl)

past_counted : {X Y : Type 0} (o : Option (Typing X)) (p : Option (Typing Y)) → count o ≡ count p → few_enough o ≡ None → few_enough p ≡ None
past_counted o p same h = grind (arith, none-some, same_Some)

alike_counted : {X : Type 0} (o p : Option (Typing X)) → AreThereAlike o p → count o ≡ count p
alike_counted o p h = grind arith

-- a rule's id isn't asked
module _ (r : RuleTree) (id other : ℕ) where
  finished_counted : (t : TermEntry) (o : Option (Typing Sides)) → count (finished_rule id r t o) ≡ count (finished_rule other r t o)
  finished_counted t o = grind (arith, common_steps)

  then_counted : {X : Type 0} (o : Option X) (f g : X → Option (Typing TypedRule)) → ((x : X) → count (f x) ≡ count (g x)) → count (then_option o f) ≡ count (then_option o g)
  then_counted o f g h = grind (arith, common_steps)

  if_counted : (b : Bool) (o p : Option (Typing TypedRule)) → count o ≡ count p → count (cond b o None) ≡ count (cond b p None)
  if_counted b o p h = grind (arith, common_steps)

  id_counted : (e : Setting) (d : ℕ) (s : Scope) → count (rule_reading r id e d s) ≡ count (rule_reading r other e d s)
  id_counted e d s = grind (arith, common_steps, then_counted, if_counted, finished_counted)

-- 3. a limit that is passed from further names is passed from those of the terms
module _ (e : Setting) (names : List (List ℕ)) (k : AreTermsNamed e names) (r : RuleTree) (more : List (List ℕ)) (once : IsDistinct (names ++ more)) (id at : ℕ)
    (alike : (d : ℕ) → AreThereAlike (elaborated_rule e d at r names) (elaborated_rule e d at r (names ++ more))) where
  kept : Kept names (names ++ more)
  kept = record { at = λ i x h. get_front names more i x h; once = λ _. once }

  -- at any depth, where it has a typed rule at some depth
  read_alike : (c d : ℕ) (a : Typing TypedRule) → elaborated_rule e c at r names ≡ Some a → count (rule_from e id r (names ++ more) d) ≡ count (elaborated_rule e d at r names)
  read_alike c d a h =
      id_counted r id at e d (new_scope (names ++ more))
      ∙ ap count (rule_same e names k at d r (names ++ more) kept (rule_uses e names k at c r names a kept_here h))
      ∙ sym (alike_counted (elaborated_rule e d at r names) (elaborated_rule e d at r (names ++ more)) (alike d))

  pub nests_deeper : IsNestedDeeper (rule_from e id r (names ++ more)) → elaborated_rule e most_nested at r names ≡ None
  nests_deeper none =
      elim (elaborated_rule e most_nested at r names) as (λ o. elaborated_rule e most_nested at r names ≡ o → elaborated_rule e most_nested at r names ≡ None) [
        | None ↦ λ h. h
        | Some a ↦ λ h. none_counted (rule_from e id r (names ++ more) most_nested) (elaborated_rule e most_nested at r names) (read_alike most_nested most_nested a h) none
      ] refl

  pub expands_more : IsExpandedMore (rule_from e id r (names ++ more)) → (d : ℕ) → few_enough (elaborated_rule e d at r names) ≡ None
  expands_more none d = grind (arith, common_steps, past_counted (rule_from e id r (names ++ more) d) (elaborated_rule e d at r names), read_alike d d)

  -- and what it has from those of the terms it has from further ones
  pub reached_from : (d : ℕ) (a : Typing TypedRule) → elaborated_rule e d at r names ≡ Some a → (b : Typing TypedRule) × (rule_from e id r (names ++ more) d ≡ Some b)
  reached_from d a h = some_counted (elaborated_rule e d at r names) (rule_from e id r (names ++ more) d) (sym (read_alike d d a h)) a h

  pub past_limits_from : (d : ℕ) (a : Typing TypedRule) → elaborated_rule e d at r names ≡ Some a → typed_rule e at r names ≡ None → rule_within e id r (names ++ more) ≡ None
  past_limits_from d a h none = past_counted (elaborated_rule e most_nested at r names) (rule_from e id r (names ++ more) most_nested) (sym (read_alike d most_nested a h)) none

-- 4. the errors of a list
module _ (e : TypesRead) (defs : List Definition) (expand : Bool) (readable : AreReadable e) (valid : IsValidTerms e.known defs) (k : AreTermsNamed (setting_of e defs expand) (term_names_met e.known defs)) where
  abbrev OfList : Refusal → Type 0
  OfList = IsOfRules (setting_of e defs expand) (rule_trees defs) (term_names_met e.known defs)

  alike : (r : RuleTree) (more : List (List ℕ)) → IsDistinct (term_names_met e.known defs ++ more) → (at d : ℕ)
      → AreThereAlike (elaborated_rule (setting_of e defs expand) d at r (term_names_met e.known defs)) (elaborated_rule (setting_of e defs expand) d at r (term_names_met e.known defs ++ more))
  alike r more once at d = (names_of_rules_dont_matter_lem e defs expand d at r more readable once).0

  was_passed : (l : NamedLimit) (at : Position) → OfList (past_limit l at) → PassedInReading e defs expand l at
  was_passed (of_rule l) at p = absurd p
  was_passed of_nesting at p =
      let i = get_from_member (rule_trees defs) p.rule p.here in
      let h : PassesNesting e defs expand i.0 = grind (arith, common_steps, nests_deeper, alike) in
      subst (λ z. PassedInReading e defs expand of_nesting z) p.place (nesting_passes i.0 h)
  was_passed of_expansions at p =
      let i = get_from_member (rule_trees defs) p.rule p.here in
      let h : PassesExpansions e defs expand i.0 = record {
        terms = valid;
        rule = p.rule;
        here = i.1;
        none = expands_more (setting_of e defs expand) (term_names_met e.known defs) k p.rule p.more p.once p.id i.0 (alike p.rule p.more p.once i.0) p.passes;
      } in
      subst (λ z. PassedInReading e defs expand of_expansions z) p.place (expansions_pass i.0 h)

  of_reading : (x : Refusal) → OfList x → IsOfReading x
  of_reading x h = grind arith

  module _ (errors : List Refusal) (all : All OfList errors) where
    pub names_only_passed : NamesOnlyPassed (PassedInReading e defs expand) errors
    names_only_passed l at c = was_passed l at (All-contains OfList errors (past_limit l at) all c)

    pub refuses_rules : errors ≢ [] → (HasTypedRules e defs expand → ⊥) → RefusesRules e defs expand errors
    refuses_rules some none = record { some_error = some; forms = All-weaker OfList IsOfReading of_reading errors all; limits = names_only_passed; no_rules = none }

-- errors that name no limit
limit_named : (x : Error) (l : NamedLimit) (at : Position) → error_view x ≡ past_limit l at → limit_of x ≡ None → ⊥
limit_named x l at h none = grind (arith, common_steps)

pub no_limit_named : (Passed : NamedLimit → Position → Type 0) (es : List Error) → All (λ x. limit_of x ≡ None) es → NamesOnlyPassed Passed (error_views es)
no_limit_named Passed es all l at c = let m = from_map error_view es (past_limit l at) c in absurd (limit_named m.0 l at m.2 (All-contains (λ x. limit_of x ≡ None) es m.0 all m.1))
