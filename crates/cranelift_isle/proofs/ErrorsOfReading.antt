-- Errors of reading types and rules, as errors of lowering.
use Rattle.std.proofs.Common.{◌≡◌, ◌++◌, Bool, List, Err, All, sym, subst}
use Rattle.std.specs.Prelude.{Result}
use Rattle.core_syntax.specs.Answers.{OnErrors}
use Rattle.core_syntax.specs.declared.syntax.Error.{Error}
use Rattle.core_syntax.specs.declared.syntax.Fault.{Fault}
use Rattle.core_syntax.specs.declared.syntax.Fault.TheVariants.{Memory, Errors}
use Rattle.core_syntax.specs.ErrorViews.{error_views}
use Rattle.core_syntax.specs.Positions.{ErrorStandsAt, positions_of}
use Rattle.model.specs.lists.Syntax.{Definition}
use Rattle.model.specs.lists.TypeTable.{type_table, IsValidTypes}
use Rattle.model.specs.claims.Environments.{types_read}
use Rattle.model.specs.claims.Layers.{by_types, by_rules}
use Rattle.model.specs.claims.Refusals.{RefusesTypes, RefusesRules}
use Rattle.core_types.specs.TypeBreaches.{FirstBreaksTypes}
use Rattle.core_types.specs.TypeErrors.{AreErrorsOfTypes}
use Rattle.core_types.specs.TypePositions.{types_positions}
use Rattle.core_types.specs.declared.type_env.TypeEnv.{TypeEnv}
use Rattle.core_rules.specs.LimitsNamed.{NamesTypedPastLimits, NamesFirstPastLimits}
use Rattle.core_rules.specs.RuleBreaches.{FirstBreaksRules}
use Rattle.core_rules.specs.RulesTold.{TellsReading}
use Rattle.core_rules.specs.declared.term_env.TermEnv.{TermEnv}
use Rattle.cranelift_isle.specs.LoweringErrors.{AreErrorsOfLowering}
use Rattle.cranelift_isle.specs.declared.environments.Environments.{Environments}
use Rattle.cranelift_isle.specs.declared.lower.Lowered.{Lowered}
use Rattle.cranelift_isle.proofs.NamedPlaces.{with_types_among}

module _ (defs : List Definition) (expand : Bool) where
  -- where types aren't valid, nothing is asked of rules, nor of their check
  of_types : (es : List Error) → RefusesTypes defs (error_views es) → FirstBreaksTypes defs es → AreErrorsOfTypes defs es → All (ErrorStandsAt (positions_of defs)) es
      → AreErrorsOfLowering defs expand es
  of_types es refused breaks told places = record {
    pass = by_types (error_views es) refused;
    breach = record { types = λ no. breaks; rules = λ valid no. absurd (refused.not_valid valid) };
    told = record { types = λ no. told; rules = λ valid no. absurd (refused.not_valid valid) };
    exact = λ rules read. absurd (refused.not_valid read.types);
    named = record { each_rule = λ valid. absurd (refused.not_valid valid); first_rule = λ valid. absurd (refused.not_valid valid) };
    places = places;
  }

  pub types_refused : (f : Fault) → OnErrors {A = TypeEnv} (Err f) (λ es. RefusesTypes defs (error_views es)) → OnErrors {A = TypeEnv} (Err f) (FirstBreaksTypes defs)
      → OnErrors {A = TypeEnv} (Err f) (AreErrorsOfTypes defs) → OnErrors {A = TypeEnv} (Err f) (All (ErrorStandsAt (positions_of defs)))
      → OnErrors {A = Environments} (Err f) (AreErrorsOfLowering defs expand)
  types_refused (Errors es) refused breaks told places = of_types es.items refused breaks told places
  types_refused (Memory m) refused breaks told places = tt

  -- where rules have no typed rules, nothing is asked of their check
  of_rules : IsValidTypes defs → (es : List Error) → RefusesRules (types_read defs) defs expand (error_views es) → FirstBreaksRules (types_read defs) defs expand es
      → TellsReading (types_read defs) defs expand es → NamesTypedPastLimits (types_read defs) defs expand (error_views es)
      → NamesFirstPastLimits (types_read defs) defs expand (error_views es) → All (ErrorStandsAt (positions_of defs ++ types_positions (type_table defs))) es
      → AreErrorsOfLowering defs expand es
  of_rules valid es refused breaks told each first places = record {
    pass = by_rules (error_views es) valid refused;
    breach = record { types = λ no. absurd (no valid); rules = λ also no. breaks };
    told = record { types = λ no. absurd (no valid); rules = λ also no. told };
    exact = λ rules read. absurd (refused.no_rules (rules, read.elaborated));
    named = record { each_rule = λ also. each; first_rule = λ also. first };
    places = with_types_among defs es places;
  }

  pub rules_refused : IsValidTypes defs → (f : Fault) → OnErrors {A = TermEnv} (Err f) (λ es. RefusesRules (types_read defs) defs expand (error_views es))
      → OnErrors {A = TermEnv} (Err f) (FirstBreaksRules (types_read defs) defs expand) → OnErrors {A = TermEnv} (Err f) (TellsReading (types_read defs) defs expand)
      → OnErrors {A = TermEnv} (Err f) (λ es. NamesTypedPastLimits (types_read defs) defs expand (error_views es))
      → OnErrors {A = TermEnv} (Err f) (λ es. NamesFirstPastLimits (types_read defs) defs expand (error_views es))
      → OnErrors {A = TermEnv} (Err f) (All (ErrorStandsAt (positions_of defs ++ types_positions (type_table defs))))
      → OnErrors {A = Environments} (Err f) (AreErrorsOfLowering defs expand)
  rules_refused valid (Errors es) refused breaks told each first places = of_rules valid es.items refused breaks told each first places
  rules_refused valid (Memory m) refused breaks told each first places = tt

  -- what holds of the errors of environments holds of those of lowering that are the same
  of_lowering : (f : Fault) → OnErrors {A = Environments} (Err f) (AreErrorsOfLowering defs expand) → OnErrors {A = Lowered} (Err f) (AreErrorsOfLowering defs expand)
  of_lowering (Errors es) h = h
  of_lowering (Memory m) h = tt

  pub handed_over : (f : Fault) (r : Result Lowered Fault) → r ≡ Err f → OnErrors {A = Environments} (Err f) (AreErrorsOfLowering defs expand)
      → OnErrors r (AreErrorsOfLowering defs expand)
  handed_over f r e h = subst (λ x. OnErrors x (AreErrorsOfLowering defs expand)) (sym e) (of_lowering f h)
