-- What theory proves of the reports on the rules of built sets.
use Rattle.std.specs.Prelude.{◌≡◌, ◌≢◌, ℕ, List, [], ◌++◌, map, All}
use Rattle.model.specs.rules.Program.{Program, is_multi, terms_with_rules}
use Rattle.model.specs.sites.Sites.{SiteSet}
use Rattle.model.specs.sites.Overlap.{RuleReport, overlap_and_shadow_reports}
use Rattle.model.specs.sites.RuleSets.{IsBuilt}
use Rattle.model.specs.sites.SetRules.{reports_of_sets}
use Rattle.model.specs.claims.Layers.{BuildAnswers, CheckAnswers, CheckReports}
use Rattle.laws_sites.specs.ReportLaws.{RulesHaveTerms}

-- what is reported of the built sets of a program's terms is what is reported of the program
abbrev pub BuiltSetsAreReported : Type 0
BuiltSetsAreReported =
    (p : Program) (sets : List (ℕ × SiteSet)) → map (λ s. s.0) sets ≡ terms_with_rules p → All (λ s. IsBuilt p s.0 s.1) sets
    → reports_of_sets (is_multi p) sets ≡ overlap_and_shadow_reports p

-- what is reported of a program whose sets were built with these reports: these, then the reports of the sets
abbrev pub all_reports : Program → List (ℕ × SiteSet) → List RuleReport → List RuleReport
all_reports p sets reports = reports ++ reports_of_sets (is_multi p) sets

-- so where the rules of built sets have nothing to report either, checking gives the sets; else these reports
abbrev pub BuiltSetsAreChecked : Type 0
BuiltSetsAreChecked =
    (p : Program) (sets : List (ℕ × SiteSet)) (reports : List RuleReport) → RulesHaveTerms p → BuildAnswers p sets reports
    → (all_reports p sets reports ≡ [] → CheckAnswers p sets) × (all_reports p sets reports ≢ [] → CheckReports p (all_reports p sets reports))
