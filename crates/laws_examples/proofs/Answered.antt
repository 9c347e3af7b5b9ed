-- What building gives of samples, by the law on built sets of lists that elaborate.
use Rattle.std.proofs.Common.{◌≡◌, ◌∷◌, [], ℕ, true, List, length, refl, ap, arith}
use Rattle.std.proofs.lemmas.List.Elements.{All-cons, All-nil}
use Rattle.model.specs.claims.Environments.{IsElaborated, types_read}
use Rattle.model.specs.claims.Layers.{BuildAnswers, own_program}
use Rattle.model.specs.lists.Elaborated.{TypedRules}
use Rattle.model.specs.lists.Syntax.{Definition}
use Rattle.model.specs.rules.Program.{terms_with_rules}
use Rattle.model.specs.sites.Overlap.{build_reports}
use Rattle.model.specs.sites.RuleSets.{IsBuilt}
use Rattle.model.specs.sites.Sites.{SiteSet}
use Rattle.laws_trees.proofs.SetsAnswered.{built_sets_are_answered_lem}
use Rattle.laws_trees.proofs.BuiltMatches.{built_sets_match_by_demands_lem}
use Rattle.laws_trees.proofs.DisjointRules.{built_rules_are_told_apart_lem}
use Rattle.laws_trees.proofs.outcomes.Outcomes.{taken_lem, taken_under_picks_lem}
use Rattle.laws_trees.proofs.results.Held.{results_are_held_lem}
use Rattle.laws_trees.proofs.taken.NumbersInRange.{built_sets_have_numbers_in_range_lem}
use Rattle.laws_typing.proofs.WellTypedRules.{elaborated_programs_are_well_typed_lem}
use Rattle.laws_sites.proofs.built.ServedSets.{can_be_served_lem}
use Rattle.laws_sites.proofs.built.WholeDemands.{built_demands_are_whole_lem}
use Rattle.laws_examples.proofs.ReadLists.{left_over_read}
use Rattle.laws_examples.proofs.LeftoverSites.{left_over_built}
use Rattle.laws_examples.proofs.SampleStages.{extract_stages}
use Rattle.laws_examples.specs.Answered.{ExtractIsAnswered, LeftOverIsAnswered}
use Rattle.laws_examples.specs.Extract.{extract_defs, extract_rules, extract_set}
use Rattle.laws_examples.specs.LeftoverSites.{left_over_defs, left_over_rules, left_over_set}

-- of a list with one term with rules
answered : (defs : List Definition) (rules : TypedRules) (t : ℕ) (set : SiteSet) → IsElaborated (types_read defs) defs true rules → t ∷ [] ≡ terms_with_rules (own_program defs rules)
    → IsBuilt (own_program defs rules) t set → BuildAnswers (own_program defs rules) ((t, set) ∷ []) (build_reports (own_program defs rules))
answered defs rules t set h terms built =
    built_sets_are_answered_lem built_demands_are_whole_lem can_be_served_lem built_sets_have_numbers_in_range_lem
    (λ p u s a b. record {
      match = built_sets_match_by_demands_lem built_demands_are_whole_lem p u s a b;
      outcome = taken_lem p u s a b;
      outcome_under_picks = taken_under_picks_lem p u s a b;
      results = results_are_held_lem p u s a b;
    })
    (built_rules_are_told_apart_lem built_demands_are_whole_lem) (own_program defs rules) ((t, set) ∷ []) (elaborated_programs_are_well_typed_lem (types_read defs) defs true rules h) terms
    (All-cons (λ (s : ℕ × SiteSet). IsBuilt (own_program defs rules) s.0 s.1) (t, set) [] built (All-nil (λ (s : ℕ × SiteSet). IsBuilt (own_program defs rules) s.0 s.1)))

pub extract_is_answered : ExtractIsAnswered
extract_is_answered = answered extract_defs extract_rules 1 extract_set extract_stages.accepted.0.read.elaborated refl extract_stages.built.0

pub left_over_is_answered : LeftOverIsAnswered
left_over_is_answered = record {
  answered = answered left_over_defs left_over_rules 2 left_over_set left_over_read.0.elaborated refl left_over_built.0;
  without_set = λ h. cc;
  other_term = λ h. cc;
  without_report = λ h. let e = ap length h.reported in let n : 0 ≡ 1 = e in omega (arith, n);
}
