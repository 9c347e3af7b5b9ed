-- What is noted and made of the rules of a list, one after another, exactly as their steps say, and what the errors of a whole list
-- say then.
use Rattle.std.specs.Prelude.{◌≡◌, ℕ, Bool, List, ◌++◌, length, map, All, Option, None}
use Rattle.core_syntax.specs.declared.syntax.Error.{Error}
use Rattle.core_syntax.specs.ErrorViews.{error_views}
use Rattle.core_syntax.specs.Positions.{HasSingleSpans}
use Rattle.model.specs.lists.Syntax.{Position, RuleTree, Definition}
use Rattle.model.specs.lists.TermTable.{rule_trees, IsValidTerms, term_names_met}
use Rattle.model.specs.lists.Setting.{Setting}
use Rattle.model.specs.rules.Typed.{TypedRule}
use Rattle.model.specs.claims.Environments.{TypesRead, setting_of}
use Rattle.model.specs.claims.Refusals.{Refusal, IsIllTyped}
use Rattle.laws_errors.specs.Steps.{Step, went_on, stopped}
use Rattle.laws_errors.specs.NameLaws.{names_in}
use Rattle.laws_errors.specs.RuleSteps.{RuleError, errors_of, refusal_of_error, step_of_rule, RulesStep, rules_step}
use Rattle.core_types.specs.declared.type_env.TypeEnv.{TypeEnv}
use Rattle.core_types.specs.Envs.{names_of}
use Rattle.core_rules.specs.declared.term_env.TermEnv.{TermEnv}
use Rattle.core_rules.specs.ShownSettings.{IsSettingOf}

-- what a step makes: nothing where a limit stops it
abbrev pub made_in : {X : Type 0} → Step X → Option X
made_in (went_on m s k es) = m
made_in (stopped l s es) = None

-- behind the errors so far comes one for each of these errors of rules, in order, and says this; each of its spans is that of one
-- position
pub record NotesErrors (errors : List RuleError) (old new : List Error) : Type 0 where
  pub more : List Error
  pub added : new ≡ old ++ more
  pub views : error_views more ≡ map refusal_of_error errors
  pub single : All HasSingleSpans more

-- a rule at a place was read as a step says: its errors were noted, it was made if the step makes something, and the names met are
-- those after the step
pub record IsDoneAs (t : Step TypedRule) (at : Position) (after : List (List ℕ)) (o : Option TypedRule) (old new : List Error) : Type 0 where
  pub errors : NotesErrors (errors_of at t) old new
  pub made : o ≡ made_in t
  pub names : after ≡ names_in t

-- by the tables, a rule with an id from the names met before it, within the limits
abbrev pub DoesRule : TermEnv → TypeEnv → TypeEnv → RuleTree → ℕ → Option TypedRule → List Error → List Error → Type 0
DoesRule env old new r id made errors after = (e : Setting) → IsSettingOf old env e → IsDoneAs (step_of_rule e id r (names_of old)) r.at (names_of new) made errors after

-- rules were read one after another as their steps say: what these make comes behind the rules before
pub record AreDoneAs (l : RulesStep) (after : List (List ℕ)) (before rules : List TypedRule) (old new : List Error) : Type 0 where
  pub errors : NotesErrors l.errors old new
  pub made : rules ≡ before ++ l.rules
  pub names : after ≡ l.names

-- by the tables, rules behind others, from the names met before them
abbrev pub DoesRules : TermEnv → TypeEnv → TypeEnv → List RuleTree → List TypedRule → List TypedRule → List Error → List Error → Type 0
DoesRules env old new trees before rules errors after = (e : Setting) → IsSettingOf old env e → AreDoneAs (rules_step e trees (length before) (names_of old)) (names_of new) before rules errors after

-- what all errors say: what the steps of the rules say, in order, and behind this only that something isn't right, by later stages
pub record BeginsAsSteps (e : Setting) (trees : List RuleTree) (names : List (List ℕ)) (errors : List Refusal) : Type 0 where
  pub later : List Refusal
  pub stages : errors ≡ map refusal_of_error (rules_step e trees 0 names).errors ++ later
  pub forms : All IsIllTyped later

-- by the tables
abbrev pub SaysSteps : TermEnv → TypeEnv → List RuleTree → List Error → Type 0
SaysSteps env old trees errors = (e : Setting) → IsSettingOf old env e → BeginsAsSteps e trees (names_of old) (error_views errors)

-- what the errors of a whole list say of its rules, where its terms are valid
abbrev pub RulesErrAs : TypesRead → List Definition → Bool → List Refusal → Type 0
RulesErrAs e defs expand errors = IsValidTerms e.known defs → BeginsAsSteps (setting_of e defs expand) (rule_trees defs) (term_names_met e.known defs) errors
