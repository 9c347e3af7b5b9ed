-- The two rules of `fall` are a subset pair: the set tells it, and so it holds of their closed demands.
use Rattle.std.proofs.Common.{arith}
use Rattle.std.proofs.lemmas.Grind.{common_steps}
use Rattle.laws_sites.proofs.overlaps.SetRules.{set_rules_overlap_as_their_demands_lem}
use Rattle.laws_examples.proofs.SampleStages.{fall_stages}
use Rattle.laws_examples.specs.Fall.{FallIsSubsetPair}

pub fall_is_subset_pair : FallIsSubsetPair
fall_is_subset_pair a b one other = grind (arith, common_steps, set_rules_overlap_as_their_demands_lem, fall_stages.built)
