-- What building gives: sets and errors, for a term environment that shows a list of definitions which elaborates.
use Rattle.std.specs.Prelude.{◌≡◌, ℕ, Bool, List, map}
use Rattle.model.specs.lists.Syntax.{Definition}
use Rattle.model.specs.lists.Elaborated.{TypedRules}
use Rattle.model.specs.lists.TermTable.{term_table}
use Rattle.model.specs.rules.Program.{Program}
use Rattle.model.specs.sites.Overlap.{RuleReport}
use Rattle.model.specs.sites.Sites.{SiteSet}
use Rattle.model.specs.claims.Environments.{TypesRead, IsElaborated}
use Rattle.model.specs.claims.Layers.{BuildAnswers}
use Rattle.laws_sites.specs.ReportLaws.{RulesHaveTerms}
use Rattle.core_syntax.specs.declared.syntax.Error.{Error}
use Rattle.core_types.specs.declared.ids.TermId.{TermId}
use Rattle.core_terms.specs.TermViews.{term_views}
use Rattle.core_syntax.specs.ErrorViews.{error_views}
use Rattle.core_typed.specs.RuleViews.{rule_views}
use Rattle.core_rules.specs.declared.term_env.TermEnv.{TermEnv}
use Rattle.core_rule_sets.specs.SiteViews.{set_view}
use Rattle.core_builder.specs.AddedRules.{report_views}
use Rattle.core_rule_sets.specs.declared.trie_again.RuleSet.{RuleSet}

-- sets of terms, without where they lie in memory
abbrev pub term_set_view : TermId × RuleSet → ℕ × SiteSet
term_set_view s = (s.0.0, set_view s.1)

abbrev pub term_set_views : List (TermId × RuleSet) → List (ℕ × SiteSet)
term_set_views sets = map term_set_view sets

-- sets and errors that building gave for a program, whose terms are those of an environment
pub record WereBuilt (env : TermEnv) (p : Program) (sets : List (TermId × RuleSet)) (errors : List Error) (reports : List RuleReport) : Type 0 where
  pub terms : p.terms ≡ term_views env.terms.items
  pub known : RulesHaveTerms p
  pub answers : BuildAnswers p (term_set_views sets) reports
  pub errors_are : error_views errors ≡ report_views reports

-- an environment has the terms and the typed rules of a list of definitions
pub record ShowsElaborated (e : TypesRead) (defs : List Definition) (typed : TypedRules) (env : TermEnv) : Type 0 where
  pub terms : term_views env.terms.items ≡ term_table e.known defs
  pub rules : rule_views env.rules.items ≡ typed.rules

-- an environment is that of some list that elaborates
pub record IsOfElaborated (env : TermEnv) : Type 0 where
  pub types : TypesRead
  pub defs : List Definition
  pub expand : Bool
  pub rules : TypedRules
  pub elaborated : IsElaborated types defs expand rules
  pub shown : ShowsElaborated types defs rules env
