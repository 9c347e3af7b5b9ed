-- A rule that goes over a call and constrains its answers: it is served, and its tree collects the bag.
use Rattle.std.proofs.Common.{refl, arith}
use Rattle.std.proofs.lemmas.Grind.{common_steps}
use Rattle.model.specs.claims.Layers.{own_program}
use Rattle.laws_typing.proofs.WellTypedRules.{read_programs_are_well_typed}
use Rattle.laws_trees.proofs.BuiltMatches.{built_sets_match_by_demands_lem}
use Rattle.laws_sites.proofs.built.WholeDemands.{built_demands_are_whole_lem}
use Rattle.laws_trees.proofs.headline.Collecting.{best_trees_collect_the_bag_lem}
use Rattle.laws_examples.proofs.Multi.{laws}
use Rattle.laws_examples.proofs.SampleStages.{stages}
use Rattle.laws_examples.proofs.Served.{literals_apart, serves_from}
use Rattle.laws_examples.specs.PickedNumber.{FivesAreNotMatched, PickedNumberGives, PickedNumberIsServed, picked_number_defs, picked_number_rules, picked_number_sample, picked_number_set, picked_number_tree}
use Rattle.laws_examples.specs.Stages.{HasStages}

pub picked_number_stages : HasStages picked_number_sample
picked_number_stages = stages picked_number_sample refl refl refl refl refl refl refl refl refl refl

pub picked_number_is_served : PickedNumberIsServed
picked_number_is_served = grind (arith, common_steps, serves_from, literals_apart)

pub picked_number_gives : PickedNumberGives
picked_number_gives = (
  refl,
  refl,
  refl,
  best_trees_collect_the_bag_lem laws (own_program picked_number_defs picked_number_rules) 1 picked_number_set (read_programs_are_well_typed picked_number_stages.accepted.0.read) picked_number_stages.built.0
      picked_number_stages.accepted.0.checkable picked_number_tree picked_number_stages.judged.best,
)

pub fives_are_not_matched : FivesAreNotMatched
fives_are_not_matched = grind (arith, common_steps, built_sets_match_by_demands_lem, built_demands_are_whole_lem, read_programs_are_well_typed, picked_number_is_served)
