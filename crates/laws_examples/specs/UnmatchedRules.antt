-- Rules that are tried on arguments: their demands have an equality, or no values meet them.
use Rattle.std.specs.Prelude.{◌∷◌, [], ◌↔◌, ℤ, pos, List, is_some, IsTrue}
use Rattle.model.specs.rules.Meaning.{Meaning}
use Rattle.model.specs.rules.Picks.{matches_under}
use Rattle.model.specs.rules.Program.{Program, rules_of}
use Rattle.model.specs.rules.Typed.{TypedRule}
use Rattle.model.specs.rules.Values.{Value, no_value, of_variant}
use Rattle.model.specs.sites.Closure.{ClosedDemandsHold, ClosedIsWhole, DemandsHold}
use Rattle.model.specs.visits.Demands.{demands_of}
use Rattle.model.specs.sites.Serves.{TellsConstantsApart}
use Rattle.laws_trees.specs.MatchLaws.{IsTried}
use Rattle.laws_examples.specs.ConstEq.{const_eq_program, const_eq_rule}
use Rattle.laws_examples.specs.Cycle.{one_step_program, one_step_rule}
use Rattle.laws_examples.specs.MeaningForms.{alone, blank, literal, mute, v}
use Rattle.laws_examples.specs.Stages.{closed_demands}
use Rattle.laws_examples.specs.TypedForms.{own}
use Rattle.laws_examples.specs.VariantEq.{variant_eq_program, variant_eq_rule}

-- a literal has its own value
abbrev pub just_this : ℤ → Meaning
just_this z = mute (literal z ∷ [])

-- the demands of a rule hold exactly where its closed demands do, which are all that follows
abbrev pub HoldAlike : Program → TypedRule → Meaning → List Value → Type 0
HoldAlike p r m args = ClosedIsWhole (demands_of p r) (closed_demands p r) × (DemandsHold m args [] (demands_of p r) ↔ ClosedDemandsHold m args [] (closed_demands p r))

-- 2 twice meets the demands of the rule for a literal that stands again, and 2 and 3 don't
abbrev pub two_and : ℤ → List Value
two_and z = v (pos 2) ∷ v z ∷ []

abbrev pub ConstEqIsTried : ℤ → Type 0
ConstEqIsTried z = IsTried const_eq_program 0 (just_this (pos 2)) (two_and z) const_eq_rule []

abbrev pub ConstEqHolds : ℤ → Type 0
ConstEqHolds z = DemandsHold (just_this (pos 2)) (two_and z) [] (demands_of const_eq_program const_eq_rule)

abbrev pub ConstEqHoldsAlike : ℤ → Type 0
ConstEqHoldsAlike z = HoldAlike const_eq_program const_eq_rule (just_this (pos 2)) (two_and z)

-- T.A of 5 twice meets the demands of the rule for a variant that stands again
abbrev pub five_twice : List Value
five_twice = of_variant own 0 (alone (pos 5)) ∷ of_variant own 0 (alone (pos 5)) ∷ []

abbrev pub VariantEqIsTried : Type 0
VariantEqIsTried = IsTried variant_eq_program 0 blank five_twice variant_eq_rule []

abbrev pub VariantEqHolds : Type 0
VariantEqHolds = DemandsHold blank five_twice [] (demands_of variant_eq_program variant_eq_rule)

abbrev pub VariantEqHoldsAlike : Type 0
VariantEqHoldsAlike = HoldAlike variant_eq_program variant_eq_rule blank five_twice

-- T.Z is a value on which a rule is tried that no values match
abbrev pub plain_variant : List Value
plain_variant = of_variant own 1 no_value ∷ []

abbrev pub OneStepIsTried : Type 0
OneStepIsTried = IsTried one_step_program 0 (just_this (pos 1)) plain_variant one_step_rule [] × TellsConstantsApart one_step_program (just_this (pos 1)) (rules_of one_step_program 0)

abbrev pub OneStepDoesNotMatch : Type 0
OneStepDoesNotMatch = IsTrue (is_some (matches_under one_step_program (just_this (pos 1)) [] one_step_rule plain_variant)) → ⊥
