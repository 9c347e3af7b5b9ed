-- The trees of checked sets, and the errors that there are in place of them, as answers to definitions.
use Rattle.std.proofs.Common.{◌≡◌, Bool, List, [], ◌∷◌, map, option_map, Ok, Err, refl, sym, ap, ◌∙◌, subst}
use Rattle.std.specs.Prelude.{All, Result, slice_index_or}
use Rattle.std.specs.Global.{Vec}
use Rattle.std.proofs.lemmas.List.Elements.{All-nil, All-cons, All-head, All-tail}
use Rattle.core_syntax.specs.Answers.{Answers, OnErrors}
use Rattle.core_syntax.specs.Positions.{HasSingleSpans}
use Rattle.core_syntax.specs.declared.syntax.Error.{Error}
use Rattle.core_syntax.specs.declared.syntax.Fault.{Fault}
use Rattle.core_syntax.specs.declared.syntax.Fault.TheVariants.{Memory, Errors}
use Rattle.model.specs.lists.Syntax.{Definition}
use Rattle.model.specs.lists.TypeTable.{IsValidTypes}
use Rattle.model.specs.lists.Elaborated.{TypedRules, named}
use Rattle.model.specs.rules.Program.{Program}
use Rattle.model.specs.sites.RuleSets.{IsBuilt}
use Rattle.model.specs.trees.Best.{IsBestTree}
use Rattle.model.specs.claims.Environments.{TypesRead, types_read, setting_of, IsElaborated, IsRead, TypeEnvironment, AreRulesOf, program_of}
use Rattle.model.specs.claims.Layers.{own_program, IsAccepted, IsBuiltForSome, CheckAnswers, LoweredTerm, AreLowered, LoweringAnswers, RefusedBy, by_check, BestTreesKeepTheHeadline}
use Rattle.model.specs.claims.Refusals.{Refusal, refusal_of}
use Rattle.model.proofs.Elements.{none_some}
use Rattle.model.proofs.Mapped.{nothing_mapped}
use Rattle.laws_trees.specs.OneAnswer.{AreCheckErrors}
use Rattle.laws_trees.proofs.OneAnswer.{typed_one}
use Rattle.laws_typing.proofs.NoReadLimits.{elaborated_rules_are_within_limits_lem}
use Rattle.laws_sites.specs.ShadowLaws.{check_errors}
use Rattle.core_types.specs.declared.ids.TermId.{TermId}
use Rattle.core_syntax.specs.ErrorViews.{error_views}
use Rattle.core_rules.specs.ShownEnvs.{environment_shown_by}
use Rattle.core_rules.specs.declared.term_env.TermEnv.{TermEnv}
use Rattle.core_rule_sets.specs.declared.trie_again.RuleSet.{RuleSet}
use Rattle.cranelift_isle.specs.BuiltSets.{IsOfElaborated, ShowsElaborated, term_set_views}
use Rattle.cranelift_isle.specs.Checks.{IsChecked, NamesRules, OfErrors, ReportsAreErrors}
use Rattle.cranelift_isle.proofs.NamedPlaces.{rules_stand}
use Rattle.cranelift_isle.specs.declared.lower.Lowered.{Lowered}
use Rattle.cranelift_isle.specs.LoweringErrors.{AreErrorsOfLowering}
use Rattle.cranelift_isle.specs.Lowerings.{set_of_term, AreAccepted, IsLowered}
use Rattle.cranelift_isle.specs.Environments.{BreaksWhereRefused, NamesLackedLimits, TellsOfEach}

all_unmap : {X Y : Type 0} (P : Y → Type 0) (f : X → Y) (xs : List X) → All P (map f xs) → All (λ x. P (f x)) xs
all_unmap P f [] a = All-nil (λ x. P (f x))
all_unmap P f (x ∷ xs) a = All-cons (λ x. P (f x)) x xs (All-head P (f x) (map f xs) a) (all_unmap P f xs (All-tail P (f x) (map f xs) a))

terms_are : (ts : List LoweredTerm) → map (λ t. t.term) ts ≡ map (λ b. b.0) (map set_of_term ts)
terms_are [] = refl
terms_are (t ∷ ts) = ap (λ l. t.term ∷ l) (terms_are ts)

-- definitions were read: their types are valid, and an environment has their terms and their typed rules
pub record WereRead (defs : List Definition) (expand : Bool) (env : TermEnv) (types : TypeEnvironment) : Type 0 where
  pub valid : IsValidTypes defs
  pub rules : (rules : TypedRules) × AreRulesOf (types_read defs) defs expand rules (environment_shown_by env) types

pub were_read : (defs : List Definition) (expand : Bool) (env : TermEnv) (types : TypeEnvironment) → IsValidTypes defs
    → (rules : TypedRules) × AreRulesOf (types_read defs) defs expand rules (environment_shown_by env) types → WereRead defs expand env types
were_read defs expand env types v r = record { valid = v; rules = r }

-- what checking an environment answers of each list that the environment is of
abbrev pub AnswersCheck : TermEnv → Result (Vec (TermId × RuleSet)) Fault → Type 0
AnswersCheck env result =
    (e : TypesRead) (defs : List Definition) (expand : Bool) (rules : TypedRules) → IsElaborated e defs expand rules → ShowsElaborated e defs rules env → IsChecked (program_of e defs rules.rules) result

module _ {defs : List Definition} {expand : Bool} {env : TermEnv} {types : TypeEnvironment} (read : WereRead defs expand env types) where
  abbrev rules : TypedRules
  rules = read.rules.0

  abbrev p : Program
  p = own_program defs rules

  elaborated : IsElaborated (types_read defs) defs expand rules
  elaborated = read.rules.1.elaborated

  is_read : IsRead defs expand rules
  is_read = record { types = read.valid; elaborated = elaborated }

  shown : ShowsElaborated (types_read defs) defs rules env
  shown = record { terms = read.rules.1.rows.table; rules = read.rules.1.typed }

  pub of_elaborated : IsOfElaborated env
  of_elaborated = record {
    types = types_read defs;
    defs = defs;
    expand = expand;
    rules = rules;
    elaborated = elaborated;
    shown = shown;
  }

  checked_as : (result : Result (Vec (TermId × RuleSet)) Fault) → AnswersCheck env result → IsChecked p result
  checked_as result check = check (types_read defs) defs expand rules elaborated shown

  -- 1. with whatever typed rules the definitions are accepted, they are these
  same_typing : (other : TypedRules) → IsAccepted defs expand other → other ≡ rules
  same_typing other is = typed_one (types_read defs) defs expand other rules is.read.elaborated elaborated

  -- 2. sets that were checked
  module _ (sets : Vec (TermId × RuleSet)) (check : AnswersCheck env (Ok sets)) where
    checked : CheckAnswers p (term_set_views sets.items)
    checked = checked_as (Ok sets) check

    is_accepted : IsAccepted defs expand rules
    is_accepted = record { read = is_read; checkable = checked.checkable }

    pub accepted : AreAccepted defs expand
    accepted = (rules, is_accepted)

    pub built_for_some : All (λ b. IsBuiltForSome b.1) (term_set_views sets.items)
    built_for_some k d h = record {
      types = types_read defs;
      defs = defs;
      expand = expand;
      rules = rules;
      term = (slice_index_or (term_set_views sets.items) k d).0;
      elaborated = elaborated;
      built = checked.given.built k d h;
    }

    -- 3. their best trees
    module _ (law : BestTreesKeepTheHeadline) (ts : List LoweredTerm) (same : map set_of_term ts ≡ term_set_views sets.items) (best : All (λ t. IsBestTree t.set t.tree) ts) where
      built : All (λ t. IsBuilt p t.term t.set) ts
      built = all_unmap (λ b. IsBuilt p b.0 b.1) set_of_term ts (subst (All (λ b. IsBuilt p b.0 b.1)) (sym same) checked.given.built)

      lowered : AreLowered p ts
      lowered = record {
        each = terms_are ts ∙ ap (map (λ b. b.0)) same ∙ checked.given.terms;
        lowered = λ k d h. law defs expand rules (slice_index_or ts k d) is_accepted (built k d h) (best k d h);
      }

      pub answers : (rules : TypedRules) × LoweringAnswers defs expand types (environment_shown_by env) rules ts
      answers = (rules, record { accepted = is_accepted; environments = read.rules.1; trees = lowered })

  -- 4. errors of the check
  module _ (es : List Error) (wrong : ReportsAreErrors p es) where
    some_error : es ≡ [] → ⊥
    some_error e = wrong.reported.some_report (nothing_mapped refusal_of wrong.reports (sym wrong.are ∙ ap error_views e))

    not_accepted : AreAccepted defs expand → ⊥
    not_accepted a = wrong.reported.refused (subst (λ r. IsAccepted defs expand r) (same_typing a.0 a.1) a.1).checkable

  -- with whatever typed rules the definitions are read, they are these
  exactly : (es : List Error) → ReportsAreErrors p es → AreCheckErrors defs expand (error_views es)
  exactly es wrong other also =
      subst (λ (r : TypedRules). error_views es ≡ check_errors (own_program defs r)) (typed_one (types_read defs) defs expand rules other elaborated also.elaborated) wrong.exact

  -- no rule lacks the limits alone
  none_lacked : (errors : List Refusal) → NamesLackedLimits defs expand errors
  none_lacked errors = record {
    each_rule = λ valid id lacks. absurd (elaborated_rules_are_within_limits_lem (types_read defs) defs expand rules elaborated id lacks.rule lacks.here lacks.none);
    first_rule = λ valid lack. absurd (none_some rules (sym (ap (option_map (named (setting_of (types_read defs) defs expand))) lack.none) ∙ elaborated.elaborate.typed));
  }

  refused_as : (f : Fault) → IsChecked p (Err f) → Answers {A = Lowered} (Err f) (AreAccepted defs expand) (IsLowered defs expand)
  refused_as (Errors es) c = (some_error es.items c, not_accepted es.items c)
  refused_as (Memory m) c = tt

  -- and nothing lacks a type or a typed rule
  none_broken : (es : List Error) → BreaksWhereRefused defs expand es
  none_broken es = record { types = λ no. absurd (no read.valid); rules = λ valid no. absurd (no (rules, elaborated)) }

  none_told : (es : List Error) → TellsOfEach defs expand es
  none_told es = record { types = λ no. absurd (no read.valid); rules = λ valid no. absurd (no (rules, elaborated)) }

  errors_as : (f : Fault) → IsChecked p (Err f) → OnErrors {A = Vec (TermId × RuleSet)} (Err f) (λ es. NamesRules p (error_views es))
      → OnErrors {A = Vec (TermId × RuleSet)} (Err f) (λ es. All HasSingleSpans es) → OnErrors {A = Lowered} (Err f) (AreErrorsOfLowering defs expand)
  errors_as (Errors es) c names single = record {
    pass = subst (RefusedBy defs expand) (sym c.are) (by_check rules c.reports is_read c.reported);
    breach = none_broken es.items;
    told = none_told es.items;
    exact = exactly es.items c;
    named = none_lacked (error_views es.items);
    places = rules_stand (types_read defs) defs expand rules elaborated es.items single names;
  }
  errors_as (Memory m) c names single = tt

  module _ (r : Result Lowered Fault) (f : Fault) (is : r ≡ Err f) (check : AnswersCheck env (Err f)) where
    pub refused_by_check : Answers r (AreAccepted defs expand) (IsLowered defs expand)
    refused_by_check = subst (λ x. Answers x (AreAccepted defs expand) (IsLowered defs expand)) (sym is) (refused_as f (checked_as (Err f) check))

    pub errors_of_check : OfErrors env (Err f) NamesRules → OnErrors {A = Vec (TermId × RuleSet)} (Err f) (λ es. All HasSingleSpans es) → OnErrors r (AreErrorsOfLowering defs expand)
    errors_of_check names single =
        subst (λ x. OnErrors x (AreErrorsOfLowering defs expand)) (sym is)
        (errors_as f (checked_as (Err f) check) (names (types_read defs) defs expand rules elaborated shown) single)
