-- The rules of samples are passed one by one.
use Rattle.std.proofs.Common.{◌≡◌, ◌≢◌, ◌∷◌, [], ℕ, suc, ◌<◌, List, None, map, Contains, refl, sym, ◌∙◌, arith, eqb-true}
use Rattle.std.proofs.lemmas.Grind.{common_steps}
use Rattle.std.proofs.lemmas.Bool.{leb-true}
use Rattle.model.proofs.Members.{nothing_in}
use Rattle.model.specs.sites.Limits.{most_sites, arguments_limit, sites_after_rules}
use Rattle.model.specs.sites.Overlap.{built_rule}
use Rattle.model.specs.sites.Sites.{SiteSet, argument_site, sources_at}
use Rattle.model.specs.trees.Tests.{up_to}
use Rattle.laws_sites.proofs.building.RulesPassed.{sets_go_past_rules_lem, sets_start_empty_lem}
use Rattle.laws_sites.proofs.building.SetsSoFar.{building_goes_on_lem, building_starts_lem}
use Rattle.laws_sites.specs.RuleByRule.{BuildsRule, limit_met, rule_added, rule_unreachable}
use Rattle.laws_trees.proofs.JudgedSets.{only_sites, stand}
use Rattle.laws_trees.proofs.WellBuilt.{passes_well_built}
use Rattle.laws_examples.proofs.SetStages.{rule_stands}
use Rattle.laws_examples.specs.Answered.{one_or_two_asked}
use Rattle.laws_examples.specs.LeftoverSites.{any_rule, kept_rule, left_over_program, left_over_set, never_rule}
use Rattle.laws_examples.specs.RulesPassed.{LeftOverGoesOn, ReportsAreNotDropped, WideRuleIsPassed, after_never, arguments_made, set_of_f}

-- a term that isn't f has no set, whatever f's is
not_f : (set : SiteSet) (t : ℕ) → t ≢ 2 → set_of_f set t ≡ None
not_f set t n = grind (arith, common_steps, eqb-true t 2, eqb-true)

sources_stand : (s a : ℕ) → Contains (sources_at left_over_set.sites s) a → a < s
sources_stand = (passes_well_built (only_sites left_over_set) refl).sources

first_step : BuildsRule left_over_program [] never_rule (λ t. None) (set_of_f after_never) one_or_two_asked
first_step = record {
  set = after_never;
  here = refl;
  others = not_f after_never;
  goes = rule_unreachable (record { kept = λ s l. absurd (omega (arith, l)); longer = omega arith; few = leb-true 4 most_sites refl; sources = sources_stand }) refl refl (stand left_over_set.sites _ refl) refl;
}

second_step : BuildsRule left_over_program (never_rule ∷ []) any_rule (set_of_f after_never) (set_of_f left_over_set) []
second_step = record {
  set = left_over_set;
  here = refl;
  others = λ t n. not_f left_over_set t n ∙ sym (not_f after_never t n);
  goes = rule_added kept_rule (record { kept = λ s l. refl; longer = omega arith; few = leb-true 4 most_sites refl; sources = sources_stand }) refl refl (stand left_over_set.sites _ refl) refl
      (rule_stands left_over_program left_over_set.sites (built_rule left_over_program (sites_after_rules left_over_program [] (never_rule ∷ [])) any_rule) kept_rule refl refl);
}

pub left_over_goes_on : LeftOverGoesOn
left_over_goes_on = grind (arith, common_steps, first_step, second_step, building_goes_on_lem, building_starts_lem)

pub reports_are_not_dropped : ReportsAreNotDropped
reports_are_not_dropped b = grind (arith, common_steps, sets_go_past_rules_lem, sets_start_empty_lem)

-- arguments have no sources
no_sources : (xs : List ℕ) (s a : ℕ) → Contains (sources_at (map argument_site xs) s) a → a < s
no_sources (x ∷ xs) (suc s) a i = let l = no_sources xs s a i in omega (arith, l)
no_sources xs s a i = grind (arith, common_steps, nothing_in)

pub wide_rule_is_passed : WideRuleIsPassed
wide_rule_is_passed =
    limit_met arguments_limit
    (record { kept = λ s l. absurd (omega (arith, l)); longer = leb-true 0 256 refl; few = leb-true 256 most_sites refl; sources = no_sources (up_to 256) })
    refl (stand arguments_made.sites _ refl) refl
