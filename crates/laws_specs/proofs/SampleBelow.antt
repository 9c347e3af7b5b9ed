-- The premises of the law by priority hold together of the letters and their codes.
use Rattle.std.proofs.Common.{[], ◌∷◌, subst, inl, inr, arith}
use Rattle.std.proofs.lemmas.Grind.{common_steps}
use Rattle.model.proofs.Elements.{in_from_contains}
use Rattle.laws_specs.specs.Conditions.{IsValidBelow}
use Rattle.laws_specs.specs.ConditionLaws.{AreValidBelow, IsCalled}
use Rattle.laws_specs.specs.SampleBelow.{one_of_letter, PriorityPremisesHold}
use Rattle.laws_specs.specs.SampleCalls.{bytes_as, written}
use Rattle.laws_specs.specs.SamplePriorities.{for_a, for_others, codes, code_specs}
use Rattle.laws_specs.proofs.SamplePriorities.{a_right, others_right}

-- 1. the program
-- 2. its rules, and what is called
valid : AreValidBelow codes code_specs 2
valid r i =
    elim (in_from_contains (for_a ∷ (for_others ∷ [])) r i) [
      | inl e ↦ subst (IsValidBelow codes code_specs) e a_right
      | inr j ↦ elim j [ inl e ↦ subst (IsValidBelow codes code_specs) e others_right | inr n ↦ absurd n ]
    ]

called_b : IsCalled codes code_specs 2 bytes_as written (one_of_letter 1) []
called_b = grind (arith, common_steps)

pub priority_premises_hold_lem : PriorityPremisesHold
priority_premises_hold_lem = grind (arith, common_steps, valid, called_b)
