-- The laws on demands that hold alike, and on rules that never match, on samples.
use Rattle.std.proofs.Common.{[], ℤ, pos, refl, arith}
use Rattle.std.proofs.lemmas.Grind.{common_steps}
use Rattle.std.proofs.lemmas.Bool.{false≢true}
use Rattle.model.specs.rules.Program.{rules_of}
use Rattle.model.specs.sites.Overlap.{built_rule}
use Rattle.laws_typing.proofs.WellTypedRules.{read_programs_are_well_typed}
use Rattle.model.specs.claims.Layers.{own_program}
use Rattle.laws_sites.proofs.Settled.{verdict_is_exact_lem}
use Rattle.laws_trees.proofs.BuiltMatches.{built_demands_hold_alike_lem}
use Rattle.laws_trees.proofs.NeverMatches.{unreachable_rules_never_match_lem}
use Rattle.laws_trees.proofs.Visits.{visits_match_lem}
use Rattle.laws_sites.proofs.built.WholeDemands.{built_demands_are_whole_lem}
use Rattle.laws_examples.proofs.ReadLists.{const_eq_read, one_step_read}
use Rattle.laws_examples.proofs.SampleStages.{variant_eq_stages}
use Rattle.laws_examples.proofs.Served.{literals_apart, serves_without_calls}
use Rattle.laws_examples.specs.ConstEq.{const_eq_defs, const_eq_program, const_eq_rule, const_eq_rules}
use Rattle.laws_examples.specs.MeaningForms.{blank}
use Rattle.laws_examples.specs.UnmatchedRules.{ConstEqHolds, ConstEqHoldsAlike, ConstEqIsTried, OneStepDoesNotMatch, OneStepIsTried, VariantEqHolds, VariantEqHoldsAlike, VariantEqIsTried, five_twice, just_this, two_and}
use Rattle.laws_examples.specs.VariantEq.{variant_eq_defs, variant_eq_program, variant_eq_rule, variant_eq_rules}

-- 1. a literal that stands again
pub two_is_tried : ConstEqIsTried (pos 2)
two_is_tried = record { typed = refl; served = serves_without_calls const_eq_program (just_this (pos 2)) (two_and (pos 2)) (rules_of const_eq_program 0) refl refl; rule = (0, omega arith, refl); pick = (0, omega arith, refl) }

pub three_is_tried : ConstEqIsTried (pos 3)
three_is_tried = record { typed = refl; served = serves_without_calls const_eq_program (just_this (pos 2)) (two_and (pos 3)) (rules_of const_eq_program 0) refl refl; rule = (0, omega arith, refl); pick = (0, omega arith, refl) }

pub two_holds : ConstEqHolds (pos 2)
two_holds = (visits_match_lem (own_program const_eq_defs const_eq_rules) 0 (just_this (pos 2)) (two_and (pos 2)) const_eq_rule [] (read_programs_are_well_typed const_eq_read.0) two_is_tried).matching.0 refl

pub three_does_not : ConstEqHolds (pos 3) → ⊥
three_does_not d =
    false≢true ((visits_match_lem (own_program const_eq_defs const_eq_rules) 0 (just_this (pos 2)) (two_and (pos 3)) const_eq_rule [] (read_programs_are_well_typed const_eq_read.0) three_is_tried).matching.1 d)

const_eq_alike : (z : ℤ) → ConstEqIsTried z → ConstEqHoldsAlike z
const_eq_alike z tried =
    let b = built_rule const_eq_program [] const_eq_rule in
    let h = read_programs_are_well_typed const_eq_read.0 in (
      built_demands_are_whole_lem (own_program const_eq_defs const_eq_rules) 0 h b (0, omega arith, refl),
      built_demands_hold_alike_lem built_demands_are_whole_lem (own_program const_eq_defs const_eq_rules) 0 (just_this (pos 2)) (two_and z) b [] h (0, omega arith, refl) tried,
    )

pub two_holds_alike : ConstEqHoldsAlike (pos 2)
two_holds_alike = const_eq_alike (pos 2) two_is_tried

pub three_holds_alike : ConstEqHoldsAlike (pos 3)
three_holds_alike = const_eq_alike (pos 3) three_is_tried

-- 2. a variant that stands again
pub variant_is_tried : VariantEqIsTried
variant_is_tried = record { typed = refl; served = serves_without_calls variant_eq_program blank five_twice (rules_of variant_eq_program 0) refl refl; rule = (0, omega arith, refl); pick = (0, omega arith, refl) }

pub variant_holds : VariantEqHolds
variant_holds = (visits_match_lem (own_program variant_eq_defs variant_eq_rules) 0 blank five_twice variant_eq_rule [] (read_programs_are_well_typed variant_eq_stages.accepted.0.read) variant_is_tried).matching.0 refl

pub variant_holds_alike : VariantEqHoldsAlike
variant_holds_alike =
    let b = built_rule variant_eq_program [] variant_eq_rule in
    let h = read_programs_are_well_typed variant_eq_stages.accepted.0.read in (
      built_demands_are_whole_lem (own_program variant_eq_defs variant_eq_rules) 0 h b (0, omega arith, refl),
      built_demands_hold_alike_lem built_demands_are_whole_lem (own_program variant_eq_defs variant_eq_rules) 0 blank five_twice b [] h (0, omega arith, refl) variant_is_tried,
    )

-- 3. a value that would be a part of itself
pub one_step_is_tried : OneStepIsTried
one_step_is_tried = grind (arith, common_steps, serves_without_calls, literals_apart)

pub one_step_does_not_match : OneStepDoesNotMatch
one_step_does_not_match = grind (arith, common_steps, unreachable_rules_never_match_lem, read_programs_are_well_typed, one_step_read, one_step_is_tried, verdict_is_exact_lem)
