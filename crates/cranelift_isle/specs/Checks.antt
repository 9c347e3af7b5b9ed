-- What checking answers of a program, and of sets that were built.
use Rattle.std.specs.Prelude.{◌≡◌, Bool, List, [], map, All, Contains, Result, Ok, Err, ⊤}
use Rattle.std.specs.Global.{Vec}
use Rattle.model.specs.rules.Program.{Program}
use Rattle.model.specs.lists.Syntax.{Definition, Position}
use Rattle.model.specs.lists.Elaborated.{TypedRules}
use Rattle.model.specs.claims.Environments.{TypesRead, IsElaborated, program_of}
use Rattle.model.specs.claims.Refusals.{Refusal}
use Rattle.laws_sites.specs.ShadowLaws.{check_errors}
use Rattle.core_syntax.specs.Answers.{OnErrors}
use Rattle.model.specs.sites.Overlap.{RuleReport}
use Rattle.model.specs.claims.Layers.{CheckAnswers, CheckReports}
use Rattle.core_syntax.specs.declared.syntax.Error.{Error}
use Rattle.core_syntax.specs.declared.syntax.Fault.{Fault}
use Rattle.core_syntax.specs.declared.syntax.Fault.TheVariants.{Memory, Errors}
use Rattle.core_types.specs.declared.ids.TermId.{TermId}
use Rattle.core_terms.specs.TermViews.{term_views}
use Rattle.core_typed.specs.RuleViews.{rule_views}
use Rattle.core_rules.specs.declared.term_env.TermEnv.{TermEnv}
use Rattle.core_rule_sets.specs.declared.trie_again.RuleSet.{RuleSet}
use Rattle.core_builder.specs.AddedRules.{report_views}
use Rattle.cranelift_isle.specs.BuiltSets.{ShowsElaborated, term_set_views}
use Rattle.core_syntax.specs.ErrorViews.{error_views}
use Rattle.core_syntax.specs.Positions.{positions_named}

-- the terms and rules of an environment, as a program; which terms are multi needs no more of it
abbrev pub env_program : TermEnv → Program
env_program env = record { types = []; constants = []; terms = term_views env.terms.items; rules = rule_views env.rules.items }

-- these errors are what is to be reported of a program, exactly and in order, whatever positions its rules have
pub record ReportsAreErrors (p : Program) (errors : List Error) : Type 0 where
  pub reports : List RuleReport
  pub are : error_views errors ≡ report_views reports
  pub reported : CheckReports p reports
  pub exact : error_views errors ≡ check_errors p

-- an answer of checking: the built sets, or the errors that there are; want of memory says nothing
abbrev pub IsChecked : Program → Result (Vec (TermId × RuleSet)) Fault → Type 0
IsChecked p (Ok sets) = CheckAnswers p (term_set_views sets.items)
IsChecked p (Err (Errors es)) = ReportsAreErrors p es.items
IsChecked p (Err (Memory e)) = ⊤

-- what holds of the program of each list that an environment is of
abbrev pub OfProgram : TermEnv → (Program → Type 0) → Type 0
OfProgram env P =
    (e : TypesRead) (defs : List Definition) (expand : Bool) (rules : TypedRules) → IsElaborated e defs expand rules → ShowsElaborated e defs rules env
    → P (program_of e defs rules.rules)

-- what holds of the errors that checking an environment answers
abbrev pub OfErrors : TermEnv → Result (Vec (TermId × RuleSet)) Fault → (Program → List Refusal → Type 0) → Type 0
OfErrors env result P = OfProgram env (λ p. OnErrors result (λ es. P p (error_views es)))

-- where the rules of a program stand
abbrev pub rule_places : Program → List Position
rule_places p = map (λ r. r.at) p.rules

-- each position that errors name is that of a rule
abbrev pub NamesRules : Program → List Refusal → Type 0
NamesRules p errors = All (λ x. All (Contains (rule_places p)) (positions_named x)) errors
