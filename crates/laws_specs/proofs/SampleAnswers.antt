-- The premises of the law hold together of an example, and near misses don't.
use Rattle.std.proofs.Common.{◌≡◌, ℕ, ℤ, true, false, [], ◌∷◌, Some, None, nat_lt, refl, subst, inl, inr, arith}
use Rattle.std.proofs.lemmas.Grind.{common_steps}
use Rattle.std.proofs.lemmas.Bool.{false≢true}
use Rattle.std.proofs.lemmas.List.Elements.{All-nil}
use Rattle.model.specs.rules.Values.{Values, no_value, value_and, of_list}
use Rattle.model.specs.rules.Meaning.{one}
use Rattle.model.specs.rules.Choice.{choice}
use Rattle.model.specs.rules.Program.{rules_of}
use Rattle.model.specs.sites.Serves.{Serves}
use Rattle.model.specs.sites.Sites.{argument, constructor_call, SiteTerms}
use Rattle.model.proofs.Elements.{In, in_from_contains, some_is, none_some}
use Rattle.model.proofs.Members.{in_head, in_alone}
use Rattle.laws_typing.specs.WellTypedPrograms.{IsWellTypedProgram}
use Rattle.laws_specs.specs.Words.{Denoted, a_word, no_denoted, denoted_and}
use Rattle.laws_specs.specs.WordOperators.{word_of}
use Rattle.laws_specs.specs.Specs.{Sort, words, is_of_sort, sort_of, literal_of, IsSaid, its_argument, no_unknown}
use Rattle.laws_specs.specs.Conditions.{condition, IsValid}
use Rattle.laws_specs.specs.Meets.{stand_for, IsDenotation, MeetsSpecs, AnswersAsSaid}
use Rattle.laws_specs.specs.Samples.{two, byte, is_sum, doubled}
use Rattle.laws_specs.specs.SampleCalls.{sums, sum_specs, bytes_as, a_byte, hundred, adding_to, giving, PremisesHold, OthersAreRefused}
use Rattle.laws_specs.proofs.SampleConditions.{sum_args, sum_call, only_one, just_one, truths_same, sum_right}

-- 1. bytes
pub byte_formed : (z : ℤ) → nat_lt (word_of 8 z) 256 ≡ true
byte_formed z = grind (arith, common_steps)

pub byte_sorted : (ty : ℕ) (n : ℕ) (s : Sort) → sort_of sum_specs ty ≡ Some s → is_of_sort s (a_word 8 n) ≡ true
byte_sorted ty n s e = grind (arith, common_steps, some_is (words 8) s, none_some s, some_is, none_some)

pub byte_numbered : (ty : ℕ) (z : ℤ) (y : Denoted) → literal_of sum_specs z ty ≡ Some y → bytes_as ty z ≡ y
byte_numbered ty z y e = grind (arith, common_steps, some_is (a_word 8 (word_of 8 z)) y, none_some y, some_is, none_some)

denotes : IsDenotation sums sum_specs bytes_as
denotes = grind (arith, common_steps, byte_formed, byte_sorted, byte_numbered, none_some)

-- 2. the answers of `add`
abbrev hundreds : Values
hundreds = value_and (a_byte 100) (value_and (a_byte 100) no_value)

met : MeetsSpecs sum_specs bytes_as (adding_to 200) (choice sums (adding_to 200) (rules_of sums 0) hundred).calls
met = grind (arith, common_steps, none_some, in_alone)

-- 3. what is asked
one_call : (t n : ℕ) (ss : SiteTerms) → In (argument 0 ∷ (sum_call ∷ [])) (constructor_call t ss n) → sum_call ≡ constructor_call t ss n
one_call t n ss h = grind (arith, common_steps)

call_term : (t n : ℕ) (ss : SiteTerms) → sum_call ≡ constructor_call t ss n → (1 ≡ t) × (sum_args ≡ ss) × (0 ≡ n)
call_term t n ss e = (cc, cc, cc)

serves : Serves sums (adding_to 200) hundred (rules_of sums 0)
serves = grind (arith, common_steps, call_term, one_call, in_from_contains, sum_call, sum_args, some_is)

-- 4. the program
well_typed : IsWellTypedProgram sums
well_typed = grind (arith, common_steps, in_from_contains)

-- 5. the premises
pub premises_hold_lem : PremisesHold
premises_hold_lem = record {
  well_typed = well_typed;
  single = refl;
  valid = λ r i. elim (in_from_contains (rules_of sums 0) r i) [ inl e ↦ subst (λ q. IsValid sums sum_specs (condition sums q)) e sum_right | inr n ↦ absurd n ];
  is_called = record { denotes = denotes; typed = refl; serves = serves; meets = met; required = All-nil (IsSaid no_unknown (stand_for bytes_as (of_list hundred)) None) };
  chosen = refl;
}

-- 6. near misses
wrong_sum : MeetsSpecs sum_specs bytes_as (adding_to 201) (giving 201).calls → ⊥
wrong_sum h =
    false≢true (truths_same false true (only_one (IsSaid no_unknown (two (byte 100) (byte 100)) (Some (byte 201))) (is_sum (its_argument 0) (its_argument 1))
    (h.pures 1 hundreds (one (a_byte 201)) (one (a_byte 201)) refl (in_head (one (a_byte 201)) []) (All-nil (IsSaid no_unknown (two (byte 100) (byte 100)) None)) (byte 201) refl)))

wrong_answer : AnswersAsSaid sums sum_specs 0 bytes_as hundred (giving 201) → ⊥
wrong_answer h = false≢true (truths_same false true (only_one (IsSaid no_unknown (denoted_and (byte 100) no_denoted) (Some (byte 201))) doubled (h.result (a_byte 201) refl)))

pub others_are_refused_lem : OthersAreRefused
others_are_refused_lem = grind (arith, wrong_sum, wrong_answer, just_one, in_from_contains)
