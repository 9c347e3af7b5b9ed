-- A rule that is wrong of a number is refuted by a run on another value that stands for the number too.
use Rattle.std.proofs.Common.{◌≡◌, pos, true, false, List, [], ◌∷◌, Some, None, Contains, refl, subst, inl, inr, arith}
use Rattle.std.proofs.lemmas.Grind.{common_steps}
use Rattle.std.specs.List.{AllByRecursion}
use Rattle.std.proofs.lemmas.Bool.{and_parts, false≢true}
use Rattle.std.proofs.lemmas.List.Elements.{All-nil}
use Rattle.model.specs.rules.Values.{Value, of_list}
use Rattle.model.specs.rules.Choice.{choice}
use Rattle.model.specs.rules.Program.{rules_of}
use Rattle.model.specs.sites.Sites.{Constraint, is_int, SiteTerm, int_term, argument}
use Rattle.model.proofs.Elements.{in_from_contains, contains_from_in, none_some}
use Rattle.laws_typing.specs.WellTypedPrograms.{IsWellTypedRule, IsWellTypedProgram}
use Rattle.laws_specs.specs.Words.{Denoted, DenotedList, no_denoted, denoted_and}
use Rattle.laws_specs.specs.Specs.{IsSaid, no_unknown}
use Rattle.laws_specs.specs.Conditions.{told, Valuation, condition, IsAssumed, IsValidBelow}
use Rattle.laws_specs.specs.Meets.{stand_for, IsDenotation, AnswersAsSaid}
use Rattle.laws_specs.specs.ConditionLaws.{AreValidBelow, IsCalled}
use Rattle.laws_specs.specs.Samples.{byte}
use Rattle.laws_specs.specs.SampleCalls.{bytes_as, a_byte, written}
use Rattle.laws_specs.specs.SamplePriorities.{ten_where}
use Rattle.laws_specs.specs.SampleNumbers.{for_five, for_rest, numbers, number_specs, NumbersExcludeNothing}
use Rattle.laws_specs.proofs.Answers.{chooses_as_said_by_priority_lem}
use Rattle.laws_specs.proofs.SampleAnswers.{byte_formed, byte_sorted, byte_numbered}
use Rattle.laws_specs.proofs.SampleConditions.{part_is, only_one, just_one, truths_same, none_first}
use Rattle.laws_specs.proofs.SamplePriorities.{given_is}
use Rattle.laws_specs.proofs.SampleWritten.{IsPlainSite, written_serves, written_meets}

-- 1. the rule above, of 5
abbrev one_number : Denoted → DenotedList
one_number b = denoted_and b no_denoted

abbrev asked_five : SiteTerm × Constraint
asked_five = (argument 0, is_int (pos 5) 1)

five_listed : Contains (asked_five ∷ []) asked_five
five_listed = contains_from_in (asked_five ∷ []) asked_five (inl refl)

is_five : (b : Denoted) (f : Valuation) → IsAssumed numbers number_specs (condition numbers for_five) (one_number b) f → b ≡ byte 5
is_five b f a = grind (arith, common_steps, part_is b, a.held (argument 0) (told (byte 5)), a.constraints (argument 0) (is_int (pos 5) 1) five_listed (byte 5) refl)

five_right : IsValidBelow numbers number_specs for_five
five_right (denoted_and b no_denoted) f a none = record {
  provides = λ h y made e q.
      just_one (IsSaid no_unknown (one_number b) (Some y)) (ten_where (byte 5))
      (grind (arith, common_steps, given_is 10 h y (a.held (int_term (pos 10) 1) h e) q, is_five b f a));
  requires = λ before after u t n ss xs split made e q. absurd (none_first before after u split);
}
five_right h f a none = grind (arith, common_steps, and_parts)

-- 2. a run on 261
abbrev odd : List Value
odd = a_byte 261 ∷ []

abbrev asked_sites : List SiteTerm
asked_sites = argument 0 ∷ (int_term (pos 10) 1 ∷ (int_term (pos 5) 1 ∷ (argument 0 ∷ (int_term (pos 20) 1 ∷ []))))

plain_sites : AllByRecursion IsPlainSite asked_sites
plain_sites = (inl refl, (inr (pos 10, refl), (inr (pos 5, refl), (inl refl, (inr (pos 20, refl), tt)))))

denotes : IsDenotation numbers number_specs bytes_as
denotes = grind (arith, common_steps, byte_formed, byte_sorted, byte_numbered, none_some)

-- 3. the program
rest_typed : IsWellTypedRule numbers for_rest
rest_typed = record { formed = refl; patterns = λ e. (tt, tt); conditions = tt; right = tt; no_priority = λ e. refl }

well_typed_program : IsWellTypedProgram numbers
well_typed_program = grind (arith, common_steps, in_from_contains, rest_typed)

-- 4. so the lower rule is wrong
rest_wrong : IsValidBelow numbers number_specs for_rest → ⊥
rest_wrong right = false≢true (truths_same false true (only_one (IsSaid no_unknown (one_number (byte 5)) (Some (byte 20))) (ten_where (byte 5)) (said.result (a_byte 20) refl)))
  where
    valid : AreValidBelow numbers number_specs 0
    valid r i =
        elim (in_from_contains (for_five ∷ (for_rest ∷ [])) r i) [
          | inl e ↦ subst (IsValidBelow numbers number_specs) e five_right
          | inr j ↦ elim j [ inl e ↦ subst (IsValidBelow numbers number_specs) e right | inr n ↦ absurd n ]
        ]

    is_called : IsCalled numbers number_specs 0 bytes_as written odd (choice numbers written (rules_of numbers 0) odd).calls
    is_called = record { denotes = denotes; typed = refl; serves = written_serves numbers 0 odd refl plain_sites; meets = written_meets number_specs (choice numbers written (rules_of numbers 0) odd).calls byte_numbered; required = All-nil (IsSaid no_unknown (stand_for bytes_as (of_list odd)) None) }

    said : AnswersAsSaid numbers number_specs 0 bytes_as odd (choice numbers written (rules_of numbers 0) odd)
    said = chooses_as_said_by_priority_lem numbers number_specs 0 bytes_as written odd well_typed_program refl valid (λ ty z. refl) is_called

pub numbers_exclude_nothing_lem : NumbersExcludeNothing
numbers_exclude_nothing_lem = (five_right, rest_wrong)
