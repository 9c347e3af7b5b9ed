-- Where the first error stands of all that are noted while rules are read, stage by stage.
use Rattle.std.proofs.Common.{◌≡◌, ◌≢◌, Bool, List, [], ◌∷◌, ◌++◌, Some, refl, sym, subst, ◌∙◌, inl, inr, ◌⊎◌, arith}
use Rattle.std.specs.List.{flat_map}
use Rattle.std.proofs.lemmas.Grind.{common_steps}
use Rattle.core_syntax.specs.declared.syntax.Error.{Error}
use Rattle.core_syntax.proofs.NotedErrors.{some_noted}
use Rattle.model.specs.lists.Syntax.{Position, RuleTree, Definition}
use Rattle.model.specs.lists.Names.{IsDistinct}
use Rattle.model.specs.lists.Setting.{Setting}
use Rattle.model.specs.lists.TermTable.{rule_trees, term_table, term_names_met, AllDefined}
use Rattle.model.specs.lists.Elaborated.{TypedRules, named_rules, rule_names}
use Rattle.model.specs.rules.Typed.{TypedRule}
use Rattle.model.specs.claims.Environments.{TypesRead, setting_of}
use Rattle.core_syntax.specs.Stable.{Entries}
use Rattle.core_types.specs.declared.ids.RuleId.{RuleId}
use Rattle.core_types.specs.declared.ids.Sym.{Sym}
use Rattle.core_types.specs.declared.type_env.TypeEnv.{TypeEnv}
use Rattle.core_types.specs.Envs.{names_of}
use Rattle.core_terms.specs.TermViews.{term_views}
use Rattle.core_typed.specs.declared.rules.Rule.{Rule}
use Rattle.core_typed.specs.RuleViews.{rule_views}
use Rattle.core_typed.specs.Elaborating.{Checks}
use Rattle.core_typed.specs.FirstErrors.{BeginsAt, MayBegin}
use Rattle.core_typed.specs.RuleNaming.{MapsNames, TakesName, AreDefined, IsLeftUndefined}
use Rattle.core_typed.proofs.FirstErrors.{GoesOn, begins_still, begins_as}
use Rattle.core_rules.specs.declared.term_env.TermEnv.{TermEnv}
use Rattle.core_rules.specs.Constructors.{AreMadeUses, AreFoundMade, AreTermsNamed, uses_of_rule}
use Rattle.core_rules.specs.RuleBreaches.{IsUntyped, UsesUnmade, uses_unmade, IsUndefined, BreaksReading, isnt_typed, takes_a_name, isnt_defined, uses_the_unmade}
use Rattle.core_rules.specs.RuleLists.{rules_within}
use Rattle.core_rules.specs.ShownSettings.{Keeps, IsSettingOf}
use Rattle.core_rules.proofs.DefinedTerms.{all_defined, undefined_declared}
use Rattle.core_rules.proofs.RulesTyped.{made_uses, found_uses}

-- 1. one stage after another
module _ (env : TermEnv) (old new : TypeEnv) (keeps : Keeps old new) (trees : List RuleTree) (typed : List Rule) (e : Setting) (is : IsSettingOf old env e) (k : AreTermsNamed e (names_of old)) where
  abbrev l : TypedRules
  l = record { rules = rule_views typed; names = names_of new }

  abbrev all_named : List TypedRule
  all_named = named_rules e.terms (rule_views typed)

  abbrev Wrong : List Position → Type 0
  Wrong = BreaksReading (AreDefined e.terms) (IsLeftUndefined e.terms) e trees (names_of old)

  abbrev Begins : List Error → Type 0
  Begins es = (es ≡ []) ⊎ BeginsAt Wrong es

  still : (old new : List Error) → Begins old → GoesOn old new → (old ≡ [] → Begins new) → Begins new
  still old new h on next = grind (arith, common_steps, begins_still)

  as_made : (ps : List Position) → UsesUnmade (AreFoundMade env new) trees ps → UsesUnmade (AreMadeUses e (names_of old)) trees ps
  as_made ps (uses_unmade before rule after split right wrong) =
      uses_unmade before rule after split (made_uses env old new keeps.inverse keeps e is k (flat_map uses_of_rule before) right) (λ h. wrong (found_uses env old new keeps.inverse keeps e is k (uses_of_rule rule) h))

  module _ (e1 e2 e3 e4 : List Error) (all : rules_within e 0 trees (names_of old) ≡ Some l) where
    last_stage : IsDistinct (rule_names all_named) → AreDefined e.terms → e3 ≡ [] → MayBegin (UsesUnmade (AreFoundMade env new) trees) e3 e4 → Begins e4
    last_stage once defined none m = elim (m none) [
      | inl g ↦ inl g
      | inr b ↦ inr (begins_as (UsesUnmade (AreFoundMade env new) trees) Wrong (λ ps w. uses_the_unmade l all once defined ps (as_made ps w)) e4 b)
    ]

    third_stage : IsDistinct (rule_names all_named) → e2 ≡ [] → MayBegin (IsLeftUndefined (term_views env.terms.items)) e2 e3 → Begins e3
    third_stage once none m = elim (m none) [
      | inl g ↦ inl g
      | inr b ↦ inr (begins_as (IsLeftUndefined (term_views env.terms.items)) Wrong (λ ps w. isnt_defined l all once ps (subst (λ ts. IsLeftUndefined ts ps) is.terms w)) e3 b)
    ]

    second_stage : e1 ≡ [] → MayBegin (TakesName all_named) e1 e2 → Begins e2
    second_stage none m = grind (arith, common_steps, begins_as (TakesName all_named) Wrong (λ ps w. takes_a_name l all ps w) e2)

  module _ (e1 e2 e3 e4 : List Error) (rules : rules_within e 0 trees (names_of old) ≡ Some l ⊎ (e1 ≢ [])) where
    pub stages : MayBegin (IsUntyped e trees (names_of old)) [] e1 → GoesOn e1 e2 → MayBegin (TakesName all_named) e1 e2 → (e2 ≡ [] → IsDistinct (rule_names all_named))
        → GoesOn e2 e3 → MayBegin (IsLeftUndefined (term_views env.terms.items)) e2 e3 → (e3 ≡ [] → AreDefined e.terms) → GoesOn e3 e4 → MayBegin (UsesUnmade (AreFoundMade env new) trees) e3 e4 → Begins e4
    stages first on2 second once on3 third defined on4 last =
        let typed_all : e1 ≡ [] → rules_within e 0 trees (names_of old) ≡ Some l = λ none. elim rules [ inl t ↦ t | inr some ↦ absurd (some none) ] in
        let b1 : Begins e1 = elim (first refl) [ inl g ↦ inl g | inr b ↦ inr (begins_as (IsUntyped e trees (names_of old)) Wrong (λ ps w. isnt_typed ps w) e1 b) ] in
        let n2 : e2 ≡ [] → e1 ≡ [] = nothing_before e1 e2 on2 in
        let n3 : e3 ≡ [] → e2 ≡ [] = nothing_before e2 e3 on3 in
        let b2 : Begins e2 = still e1 e2 b1 on2 (λ none. second_stage e1 e2 e3 e4 (typed_all none) none second) in
        let b3 : Begins e3 = still e2 e3 b2 on3 (λ none. third_stage e1 e2 e3 e4 (typed_all (n2 none)) (once none) none third) in
        still e3 e4 b3 on4 (λ none. last_stage e1 e2 e3 e4 (typed_all (n2 (n3 none))) (once (n3 none)) (defined none) none last)
      where
        nothing_before : (a b : List Error) → GoesOn a b → b ≡ [] → a ≡ []
        nothing_before [] b on none = refl
        nothing_before (x ∷ xs) b on none = absurd (let h : x ∷ (xs ++ on.0) ≡ [] = sym on.1 ∙ none in cc)

-- what a stage says where nothing was noted
pub once_mapped : (old new : List Error) (rules all : List TypedRule) (m : Entries Sym RuleId) → rules ≡ all → MapsNames old new rules m → new ≡ [] → IsDistinct (rule_names all)
once_mapped old new rules all m same (inl n) none = subst (λ rs. IsDistinct (rule_names rs)) same n.1
once_mapped old new rules all m same (inr n) none = absurd (some_noted n.0 none)

pub right_checked : {P : Type 0} (old new : List Error) → Checks old new P → new ≡ [] → P
right_checked old new (inl c) none = c.1
right_checked old new (inr c) none = absurd (some_noted c.0 none)

-- 2. what the tables say is so of the list
pub of_list : (e : TypesRead) (defs : List Definition) (expand : Bool) (ps : List Position)
    → BreaksReading (AreDefined (term_table e.known defs)) (IsLeftUndefined (term_table e.known defs)) (setting_of e defs expand) (rule_trees defs) (term_names_met e.known defs) ps
    → BreaksReading (AllDefined defs) (IsUndefined defs) (setting_of e defs expand) (rule_trees defs) (term_names_met e.known defs) ps
of_list e defs expand ps (isnt_typed qs w) = isnt_typed qs w
of_list e defs expand ps (takes_a_name l all qs w) = takes_a_name l all qs w
of_list e defs expand ps (isnt_defined l all once qs w) = isnt_defined l all once qs (undefined_declared e.known defs qs w)
of_list e defs expand ps (uses_the_unmade l all once defined qs w) = uses_the_unmade l all once (all_defined e.known defs defined) qs w
