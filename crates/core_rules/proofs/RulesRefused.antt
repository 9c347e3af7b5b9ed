-- Why reading the rules of a list is refused, and which limits its errors name: those that a rule passed.
use Rattle.std.proofs.Common.{◌≡◌, ◌≢◌, ℕ, All, Bool, List, [], None, refl, sym, subst, inl, inr, arith}
use Rattle.std.proofs.lemmas.List.Elements.{All-weaker}
use Rattle.std.specs.Prelude.{Result, Ok, Err, IsErr, IsErrAnd}
use Rattle.std.proofs.lemmas.Grind.{common_steps}
use Rattle.core_syntax.specs.Answers.{NoLimit, OnErrors, limit_of}
use Rattle.core_syntax.specs.declared.syntax.Fault.{Fault}
use Rattle.core_syntax.specs.declared.syntax.Error.{Error}
use Rattle.core_syntax.specs.Positions.{ErrorStandsAt, HasSingleSpans, NotesAt}
use Rattle.core_syntax.proofs.NotedErrors.{some_views}
use Rattle.core_syntax.proofs.Positioned.{all_stand}
use Rattle.model.specs.lists.Names.{IsDistinct}
use Rattle.core_syntax.specs.Stable.{Entries}
use Rattle.model.specs.lists.Syntax.{Position, Definition}
use Rattle.model.specs.lists.TermTable.{rule_trees, term_names_met, term_table}
use Rattle.model.specs.claims.Environments.{TypesRead, AreReadable, HasTypedRules, setting_of, AreTermsOf}
use Rattle.model.specs.claims.Refusals.{NamedLimit, Refusal, NamesOnlyPassed, PassedInReading, RefusesTerms, RefusesRules}
use Rattle.model.specs.rules.Typed.{TypedRule}
use Rattle.core_types.specs.declared.ids.RuleId.{RuleId}
use Rattle.core_types.specs.declared.ids.Sym.{Sym}
use Rattle.core_types.specs.declared.type_env.TypeEnv.{TypeEnv}
use Rattle.core_types.specs.Envs.{names_of, IsInterned}
use Rattle.core_types.specs.EnvViews.{environment_view}
use Rattle.core_terms.specs.declared.term_table.TermTable.{TermTable}
use Rattle.core_terms.specs.ShownTables.{shown_by}
use Rattle.core_terms.specs.TermErrors.{AreErrorsOfTerms}
use Rattle.laws_typing.proofs.TermLaws.{terms_stand_at_ids_lem}
use Rattle.core_rules.specs.declared.term_env.TermEnv.{TermEnv}
use Rattle.core_rules.specs.Constructors.{AreTermsNamed}
use Rattle.core_syntax.specs.ErrorViews.{error_views}
use Rattle.core_syntax.specs.NotedErrors.{MayNoteMore}
use Rattle.core_rules.specs.LimitsNamed.{NamesTypedPastLimits, NamesFirstPastLimits}
use Rattle.core_rules.specs.RuleErrors.{IsOfRules}
use Rattle.core_typed.specs.RuleNaming.{MapsNames, AreDefined, IsLeftUndefined}
use Rattle.core_typed.proofs.FirstErrors.{begins_as}
use Rattle.core_terms.specs.TermBreaches.{FirstBreaksTerms}
use Rattle.core_rules.specs.RuleBreaches.{BreaksReading, BeginsWrong, BreaksRules, of_terms, of_rules, FirstBreaksRules}
use Rattle.core_rules.proofs.RuleBreaches.{of_list}
use Rattle.core_rules.specs.RuleListTaking.{BeginsAsSteps, SaysSteps}
use Rattle.core_rules.specs.RulesTold.{TellsReading}
use Rattle.core_rules.specs.ShownEnvs.{terms_shown_by}
use Rattle.core_rules.specs.ShownSettings.{IsSettingOf}
use Rattle.core_rules.proofs.NamedLimits.{each_named}
use Rattle.core_rules.proofs.NamedTerms.{terms_named}
use Rattle.core_rules.proofs.RuleErrorSteps.{names_only_passed, refuses_rules, no_limit_named}
use Rattle.core_rules.proofs.StepErrors.{names_once, stages_noted, stages_named, stages_told}
use Rattle.core_rules.proofs.ShownSettings.{setting_shown, terms_once}

pub mapped_noted : (old new : List Error) (rules : List TypedRule) (m : Entries Sym RuleId) → MapsNames old new rules m → MayNoteMore old new
mapped_noted old new rules m h = grind (arith, common_steps)

-- the errors of the rules, by the tables of the terms
module _ (e : TypesRead) (r : AreReadable e) (defs : List Definition) (table : TermTable) (old : TypeEnv) (a : AreTermsOf e defs (shown_by table) (environment_view old))
    (env : TermEnv) (shown : terms_shown_by env ≡ shown_by table) (expand : Bool) (flag : env.expand_internal_extractors ≡ expand) (errors : List Error) where
  own : AreTermsOf e defs (terms_shown_by env) (environment_view old)
  own = subst (λ t. AreTermsOf e defs t (environment_view old)) (sym shown) a

  is : IsSettingOf old env (setting_of e defs expand)
  is = subst (λ b. IsSettingOf old env (setting_of e defs b)) flag (setting_shown e r defs env old own)

  inverse : IsInterned old
  inverse = record { numbered = a.types.inverse.numbered; named = a.types.inverse.named }

  terms : AreTermsNamed (setting_of e defs expand) (term_names_met e.known defs)
  terms = subst (AreTermsNamed (setting_of e defs expand)) a.types.names (terms_named env old (setting_of e defs expand) inverse is (terms_stand_at_ids_lem e.known defs) (terms_once e r defs a.valid))

  module _ (said : SaysSteps env old (rule_trees defs) errors) where
    steps : BeginsAsSteps (setting_of e defs expand) (rule_trees defs) (term_names_met e.known defs) (error_views errors)
    steps = subst (λ ns. BeginsAsSteps (setting_of e defs expand) (rule_trees defs) ns (error_views errors)) a.types.names (said (setting_of e defs expand) is)

    once : IsDistinct (term_names_met e.known defs)
    once = subst (λ (ns : List (List ℕ)). IsDistinct ns) a.types.names (names_once old inverse)

    all_of_list : All (IsOfRules (setting_of e defs expand) (rule_trees defs) (term_names_met e.known defs)) (error_views errors)
    all_of_list = stages_noted old env (setting_of e defs expand) is (rule_trees defs) (term_names_met e.known defs) once (error_views errors) steps

    pub limits_named : NamesOnlyPassed (PassedInReading e defs expand) (error_views errors)
    limits_named = names_only_passed e defs expand r a.valid terms (error_views errors) all_of_list

    pub refused_by_rules : errors ≢ [] → (HasTypedRules e defs expand → ⊥) → RefusesRules e defs expand (error_views errors)
    refused_by_rules some none = refuses_rules e defs expand r a.valid terms (error_views errors) all_of_list (some_views errors some) none

    pub past_limits_named : NamesTypedPastLimits e defs expand (error_views errors)
    past_limits_named =
        each_named e defs expand r terms (error_views errors) (stages_named old env (setting_of e defs expand) is (rule_trees defs) (term_names_met e.known defs) once (error_views errors) steps)

    -- what is said rule by rule
    pub all_said : (ps : List Position) → NotesAt ps [] errors → TellsReading e defs expand errors
    all_said ps placed = record {
      terms = λ no. absurd (no a.valid);
      rules = λ valid. stages_told old env (setting_of e defs expand) is (rule_trees defs) (term_names_met e.known defs) once errors steps (All-weaker (ErrorStandsAt ps) HasSingleSpans (λ x h. h.single) errors (all_stand ps errors placed));
      steps = λ valid. steps;
    }

  -- where there are errors the first stands at something that is broken
  pub first_broken : BeginsWrong env old (rule_trees defs) [] errors → errors ≢ [] → FirstBreaksRules e defs expand errors
  first_broken begins some =
      let s = setting_of e defs expand in
      let trees = rule_trees defs in
      let table = term_table e.known defs in
      let Tables : List (List ℕ) → List Position → Type 0 = λ ns. BreaksReading (AreDefined table) (IsLeftUndefined table) s trees ns in
      elim (begins s is (subst (AreTermsNamed s) (sym a.types.names) terms) refl) [
        | inl none ↦ absurd (some none)
        | inr b ↦ begins_as (Tables (names_of old)) (BreaksRules e defs expand) (λ ps w. of_rules a.valid ps (of_list e defs expand ps (subst (λ ns. Tables ns ps) a.types.names w))) errors b
      ]

-- what the errors of the terms say is passed on
pub passed_on : {X : Type 0} (P Q : List Error → Type 0) → ((es : List Error) → P es → Q es) → (r : Result X Fault) (f : Fault) → IsErr r × IsErrAnd r (λ y. y ≡ f) → OnErrors {A = TermTable} (Err f) P → OnErrors r Q
passed_on P Q same (Ok x) f h n = tt
passed_on {X} P Q same (Err y) f h n = grind (arith, common_steps)

-- they name no limit
pub named_by_none : {X : Type 0} (Passed : NamedLimit → Position → Type 0) (r : Result X Fault) (f : Fault) → IsErr r × IsErrAnd r (λ y. y ≡ f) → NoLimit {A = TermTable} (Err f) → OnErrors r (λ es. NamesOnlyPassed Passed (error_views es))
named_by_none Passed r f h n = passed_on (All (λ e. limit_of e ≡ None)) (λ es. NamesOnlyPassed Passed (error_views es)) (no_limit_named Passed) r f h n

-- where the terms aren't valid no rule has to be named
module _ {X : Type 0} (e : TypesRead) (defs : List Definition) (expand : Bool) (r : Result X Fault) (f : Fault) (h : IsErr r × IsErrAnd r (λ y. y ≡ f)) (n : OnErrors {A = TermTable} (Err f) (λ es. RefusesTerms e defs (error_views es))) where
  pub no_rule_to_name : OnErrors r (λ es. NamesTypedPastLimits e defs expand (error_views es))
  no_rule_to_name = passed_on (λ es. RefusesTerms e defs (error_views es)) (λ es. NamesTypedPastLimits e defs expand (error_views es)) (λ es t id p. absurd (t.not_valid p.terms)) r f h n

  pub no_first_to_name : OnErrors r (λ es. NamesFirstPastLimits e defs expand (error_views es))
  no_first_to_name = passed_on (λ es. RefusesTerms e defs (error_views es)) (λ es. NamesFirstPastLimits e defs expand (error_views es)) (λ es t p. absurd (t.not_valid p.terms)) r f h n

both_said : (P Q : List Error → Type 0) (f : Fault) → OnErrors {A = TermTable} (Err f) P → OnErrors {A = TermTable} (Err f) Q → OnErrors {A = TermTable} (Err f) (λ es. P es × Q es)
both_said P Q f p q = grind (arith, common_steps)

pub terms_said : {X : Type 0} (e : TypesRead) (defs : List Definition) (expand : Bool) (r : Result X Fault) (f : Fault) → IsErr r × IsErrAnd r (λ y. y ≡ f)
    → OnErrors {A = TermTable} (Err f) (λ es. RefusesTerms e defs (error_views es)) → OnErrors {A = TermTable} (Err f) (AreErrorsOfTerms e defs) → OnErrors r (TellsReading e defs expand)
terms_said e defs expand r f h refused told = grind (arith, common_steps, passed_on, terms, steps, both_said)

-- without terms there are no rules
refused_without_terms : (e : TypesRead) (defs : List Definition) (expand : Bool) (errors : List Refusal) → RefusesTerms e defs errors → RefusesRules e defs expand errors
refused_without_terms e defs expand errors t = grind (arith, common_steps)

pub refused_by_terms : {X : Type 0} (e : TypesRead) (defs : List Definition) (expand : Bool) (r : Result X Fault) (f : Fault) → IsErr r × IsErrAnd r (λ y. y ≡ f) → OnErrors {A = TermTable} (Err f) (λ es. RefusesTerms e defs (error_views es)) → OnErrors r (λ es. RefusesRules e defs expand (error_views es))
refused_by_terms e defs expand r f h n = passed_on (λ es. RefusesTerms e defs (error_views es)) (λ es. RefusesRules e defs expand (error_views es)) (λ es t. refused_without_terms e defs expand (error_views es) t) r f h n

pub broken_by_terms : {X : Type 0} (e : TypesRead) (defs : List Definition) (expand : Bool) (r : Result X Fault) (f : Fault) → IsErr r × IsErrAnd r (λ y. y ≡ f) → OnErrors {A = TermTable} (Err f) (FirstBreaksTerms e.known defs) → OnErrors r (FirstBreaksRules e defs expand)
broken_by_terms e defs expand r f h n =
    passed_on (FirstBreaksTerms e.known defs) (FirstBreaksRules e defs expand) (λ es t. record { first = t.first; rest = t.rest; is = t.is; positions = t.positions; wrong = of_terms t.positions t.breaks; stands = t.stands }) r f h n
