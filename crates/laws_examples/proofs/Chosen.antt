-- The term of the sample with an extractor isn't multi, so the laws of choice apply.
use Rattle.std.proofs.Common.{refl, arith}
use Rattle.std.proofs.lemmas.Grind.{common_steps}
use Rattle.model.specs.claims.Headline.{RunsAsChosen}
use Rattle.model.specs.claims.Layers.{own_program}
use Rattle.laws_typing.proofs.WellTypedRules.{read_programs_are_well_typed}
use Rattle.laws_trees.proofs.BuiltMatches.{built_sets_match_by_demands_lem}
use Rattle.laws_trees.proofs.NoMulti.{rules_without_multi_go_over_no_calls_lem}
use Rattle.laws_trees.proofs.DisjointRules.{built_rules_are_told_apart_lem}
use Rattle.laws_trees.proofs.outcomes.Outcomes.{taken_lem}
use Rattle.laws_trees.proofs.taken.ServesRuns.{served_sets_serve_tests_lem}
use Rattle.laws_sites.proofs.built.WellBuiltSets.{built_sets_are_tested_lem, built_sets_are_well_built_lem}
use Rattle.laws_sites.proofs.built.WholeDemands.{built_demands_are_whole_lem}
use Rattle.laws_trees.proofs.Soundness.{best_trees_are_sound_lem}
use Rattle.laws_trees.proofs.headline.Choosing.{ChoosingLaws, best_trees_run_as_chosen_lem}
use Rattle.laws_examples.proofs.SampleStages.{extract_stages}
use Rattle.laws_examples.specs.Chosen.{ExtractIsChosen, ExtractIsWithoutMulti}
use Rattle.laws_examples.specs.Extract.{extract_defs, extract_program, extract_rules, extract_set, extract_tree}

pub extract_is_without_multi : ExtractIsWithoutMulti
extract_is_without_multi = (refl, refl)

pub laws : ChoosingLaws
laws =
    let whole = built_demands_are_whole_lem in
    record {
      tested = built_sets_are_tested_lem;
      serve = served_sets_serve_tests_lem;
      sound = λ p t set h b multi tree none one best. best_trees_are_sound_lem set multi tree (built_sets_are_well_built_lem p t set h b none) one best;
      match = built_sets_match_by_demands_lem whole;
      apart = built_rules_are_told_apart_lem whole;
      no_calls = rules_without_multi_go_over_no_calls_lem;
      taken = taken_lem;
    }

runs : RunsAsChosen extract_program 1 extract_set.sites extract_tree
runs =
    best_trees_run_as_chosen_lem laws (own_program extract_defs extract_rules) 1 extract_set (read_programs_are_well_typed extract_stages.accepted.0.read) extract_stages.built.0 extract_stages.accepted.0.checkable extract_tree
    extract_stages.judged.best

pub extract_is_chosen : ExtractIsChosen
extract_is_chosen = grind (arith, common_steps, rules_without_multi_go_over_no_calls_lem, read_programs_are_well_typed, runs)
