-- What checking answers of sets that were built: the sets, or what there is to report.
use Rattle.std.proofs.Common.{◌≡◌, false, List, [], ◌∷◌, ◌++◌, map, All, refl, sym, ◌∙◌, subst, arith}
use Rattle.std.proofs.lemmas.List.Elements.{All-nil, All-cons, All-head, All-tail, All-append}
use Rattle.std.proofs.lemmas.Grind.{common_steps}
use Rattle.model.specs.rules.Program.{Program}
use Rattle.model.specs.sites.Overlap.{RuleReport, OverlapReport, ShadowReport, rules_overlap, rule_shadows, with_report, by_position, overlap_reports, wrong_overlaps, shadow_reports, overlap_and_shadow_reports, check_reports}
use Rattle.model.specs.claims.Refusals.{refusal_of, NamesOnlyPassed, PassedInBuilding}
use Rattle.model.specs.claims.Layers.{is_left_out}
use Rattle.laws_sites.specs.SetReportLaws.{all_reports, BuiltSetsAreChecked}
use Rattle.laws_sites.proofs.LimitsReported.{reports_name_passed_limits_lem}
use Rattle.laws_sites.proofs.overlaps.CheckedPrograms.{check_is_exact_lem}
use Rattle.laws_sites.proofs.overlaps.SetReports.{built_sets_are_reported_lem}

-- no report of an overlap or a shadow is of a rule that is left out
abbrev IsOfBuilt : RuleReport → Type 0
IsOfBuilt r = is_left_out r ≡ false

all_with : (a : RuleReport) (bs : List RuleReport) → IsOfBuilt a → All IsOfBuilt bs → All IsOfBuilt (with_report a bs)
all_with a [] h k = All-cons IsOfBuilt a [] h (All-nil IsOfBuilt)
all_with a (b ∷ bs) h k = grind (arith, common_steps, all_with a bs h (All-tail IsOfBuilt b bs k), All-cons, All-head, All-tail)

all_by_position : (rs : List RuleReport) → All IsOfBuilt rs → All IsOfBuilt (by_position rs)
all_by_position [] h = h
all_by_position (r ∷ rs) h = all_with r (by_position rs) (All-head IsOfBuilt r rs h) (all_by_position rs (All-tail IsOfBuilt r rs h))

all_overlaps : (rs : List OverlapReport) → All IsOfBuilt (map rules_overlap rs)
all_overlaps [] = All-nil IsOfBuilt
all_overlaps (r ∷ rs) = All-cons IsOfBuilt (rules_overlap r) (map rules_overlap rs) refl (all_overlaps rs)

all_shadows : (rs : List ShadowReport) → All IsOfBuilt (map rule_shadows rs)
all_shadows [] = All-nil IsOfBuilt
all_shadows (r ∷ rs) = All-cons IsOfBuilt (rule_shadows r) (map rule_shadows rs) refl (all_shadows rs)

none_left_out : (p : Program) → All IsOfBuilt (overlap_and_shadow_reports p)
none_left_out p =
    let overlaps = map rules_overlap (overlap_reports (wrong_overlaps p)) in
    let shadows = map rule_shadows (shadow_reports p) in
    all_by_position (overlaps ++ shadows) (All-append IsOfBuilt overlaps shadows (all_overlaps (overlap_reports (wrong_overlaps p))) (all_shadows (shadow_reports p)))

pub built_sets_are_checked_lem : BuiltSetsAreChecked
built_sets_are_checked_lem p sets reports terms given = (
  λ none. record { checkable = (check_is_exact_lem p terms).0 (sym same ∙ none); given = given.given },
  λ some. record {
    refused = λ f. some (same ∙ (check_is_exact_lem p terms).1 f);
    later = overlap_and_shadow_reports p;
    all = same;
    others = none_left_out p;
    some_report = some;
    fixed = λ d. refl;
    limits = subst (λ rs. NamesOnlyPassed (PassedInBuilding p) (map refusal_of rs)) (sym same) ((reports_name_passed_limits_lem p).1 (overlap_and_shadow_reports p) (none_left_out p));
  },
)
  where
    same : all_reports p sets reports ≡ check_reports p
    same = (λ k. given.reported k ++ built_sets_are_reported_lem p sets given.given.terms given.given.built k)
