-- The laws on rules that are told apart, on samples.
use Rattle.std.proofs.Common.{pos, refl, arith}
use Rattle.std.proofs.lemmas.Grind.{common_steps}
use Rattle.model.specs.claims.SetMeanings.{TellsRulesApart}
use Rattle.model.specs.claims.Layers.{own_program}
use Rattle.laws_typing.proofs.WellTypedRules.{read_programs_are_well_typed}
use Rattle.laws_trees.proofs.DisjointRules.{built_rules_are_told_apart_lem}
use Rattle.laws_sites.proofs.overlaps.ShadowTest.{shadows_decides}
use Rattle.laws_sites.proofs.built.WholeDemands.{built_demands_are_whole_lem}
use Rattle.laws_examples.proofs.ReadLists.{shadow_read}
use Rattle.laws_examples.proofs.Served.{literals_apart, serves_without_calls}
use Rattle.laws_examples.specs.MeaningForms.{given}
use Rattle.laws_examples.specs.Shadow.{shadow_defs, shadow_program, shadow_rules}
use Rattle.laws_examples.specs.ShadowedRules.{MasksMatchToo, ShadowIsServed, ShadowIsTold, mask, one_and_ten, shadowed}

pub shadow_is_told : ShadowIsTold
shadow_is_told = grind (arith, common_steps, shadows_decides mask shadowed, shadow_read, shadows_decides)

pub shadow_is_served : ShadowIsServed
shadow_is_served = grind (arith, common_steps, serves_without_calls, literals_apart)

shadow_apart : TellsRulesApart shadow_program 0
shadow_apart = built_rules_are_told_apart_lem built_demands_are_whole_lem (own_program shadow_defs shadow_rules) 0 (read_programs_are_well_typed shadow_is_told.0.0)

pub masks_match_too : MasksMatchToo
masks_match_too = (refl, shadow_apart.shadow one_and_ten (given (pos 1)) refl shadow_is_served.0 shadow_is_served.1 mask shadowed shadow_is_told.1 shadow_is_told.2 refl)
