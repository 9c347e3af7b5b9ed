-- Built sets, their errors and what is found in them.
use Rattle.std.proofs.Common.{◌≡◌, ℕ, Bool, List, [], ◌++◌, map, slice_get, Some, None, sym, ap, subst, ◌∙◌}
use Rattle.std.specs.Prelude.{Result, Ok, Err, IfOk}
use Rattle.std.specs.Global.{Vec}
use Rattle.std.proofs.lemmas.List.{map-append}
use Rattle.core_syntax.specs.declared.syntax.Fault.{Fault}
use Rattle.laws_trees.specs.NoLimits.{BuildsWithinLimits}
use Rattle.model.specs.rules.Program.{Program, kind_of, flags_of, unknown, is_multi}
use Rattle.model.specs.lists.Tables.{TermEntry}
use Rattle.model.specs.sites.Overlap.{RuleReport, check_reports}
use Rattle.model.specs.sites.SetRules.{reports_of_sets}
use Rattle.model.specs.claims.Layers.{CheckAnswers, IsCheckable}
use Rattle.model.specs.claims.Refusals.{refusal_of}
use Rattle.laws_sites.specs.SetReportLaws.{all_reports}
use Rattle.model.proofs.Mapped.{nothing_mapped}
use Rattle.laws_sites.proofs.overlaps.SetChecks.{built_sets_are_checked_lem}
use Rattle.laws_sites.proofs.overlaps.SetReports.{built_sets_are_reported_lem}
use Rattle.core_syntax.specs.declared.syntax.Error.{Error}
use Rattle.core_types.specs.declared.ids.TermId.{TermId}
use Rattle.core_rules.specs.declared.term_env.TermEnv.{TermEnv}
use Rattle.core_rule_sets.specs.declared.trie_again.RuleSet.{RuleSet}
use Rattle.core_builder.specs.AddedRules.{report_views}
use Rattle.cranelift_isle.specs.BuiltSets.{term_set_views, WereBuilt}
use Rattle.cranelift_isle.specs.Checks.{env_program, IsChecked, NamesRules, ReportsAreErrors}
use Rattle.cranelift_isle.proofs.NamedPlaces.{reports_name_rules}
use Rattle.core_syntax.specs.ErrorViews.{error_view, error_views}

-- where the rules of a program can be told apart, what is so of all such programs is so of it
pub within : (p : Program) (result : Result (Vec (TermId × RuleSet)) Fault) → (IsCheckable p → BuildsWithinLimits p) → IsChecked p result → IfOk result (λ sets. BuildsWithinLimits p)
within p (Ok sets) law checked = law checked.checkable
within p (Err f) law checked = tt

abbrev multi_among : List TermEntry → ℕ → Bool
multi_among terms t = (flags_of (elim (slice_get terms t) [ None ↦ unknown | Some e ↦ kind_of e ])).multi

module _ (env : TermEnv) (p : Program) (sets : List (TermId × RuleSet)) (errors found all : List Error) (reports : List RuleReport) (built : WereBuilt env p sets errors reports)
    (is : error_views found ≡ report_views (reports_of_sets (is_multi (env_program env)) (term_set_views sets))) (joined : all ≡ errors ++ found) where
  same_multi : is_multi (env_program env) ≡ is_multi p
  same_multi = (λ k t. multi_among (sym built.terms k) t)

  views : error_views all ≡ report_views (all_reports p (term_set_views sets) reports)
  views =
      ap error_views joined
      ∙ map-append error_view errors found
      ∙ (λ k. built.errors_are k ++ (is ∙ ap (λ m. report_views (reports_of_sets m (term_set_views sets))) same_multi) k)
      ∙ sym (map-append refusal_of reports (reports_of_sets (is_multi p) (term_set_views sets)))

  pub nothing_found : all ≡ [] → CheckAnswers p (term_set_views sets)
  nothing_found e =
      (built_sets_are_checked_lem p (term_set_views sets) reports built.known built.answers).0
      (nothing_mapped refusal_of (all_reports p (term_set_views sets) reports) (sym views ∙ ap error_views e))

  exactly : error_views all ≡ map refusal_of (check_reports p)
  exactly =
      let later = built_sets_are_reported_lem p (term_set_views sets) built.answers.given.terms built.answers.given.built in
      views ∙ (λ k. report_views (built.answers.reported k ++ later k))

  pub something_found : (all ≡ [] → ⊥) → ReportsAreErrors p all
  something_found n = record {
    reports = all_reports p (term_set_views sets) reports;
    are = views;
    reported = (built_sets_are_checked_lem p (term_set_views sets) reports built.known built.answers).1 (λ e. n (nothing_mapped error_view all (views ∙ ap report_views e)));
    exact = exactly;
  }

  pub found_names_rules : NamesRules p (error_views all)
  found_names_rules = subst (NamesRules p) (sym exactly) (reports_name_rules p)
