-- What the law on texts asks of its user holds together, of the sample with an extractor: a meaning that serves its rules and says what
-- functions around the text answer, by their numbers.
use Rattle.std.specs.Prelude.{◌≡◌, ℤ, pos, false, Some}
use Rattle.model.specs.rules.Choice.{choice}
use Rattle.model.specs.rules.Meaning.{Content, nothing, one, just, Literal, bool_literal, int_literal, TotalMeaning, total}
use Rattle.model.specs.rules.Program.{is_multi, rules_of}
use Rattle.model.specs.rules.Values.{Value, truth, atom, Values, no_value, value_and}
use Rattle.model.specs.sites.Serves.{Serves, TellsConstantsApart}
use Rattle.model_code.specs.Notation.{Notation, gives_one}
use Rattle.model_code.specs.ProgramNotation.{notation_of}
use Rattle.model_code.specs.PureAlike.{is_impure_number}
use Rattle.laws_code.specs.CalledAlike.{AreCalledAlike}
use Rattle.laws_code.specs.ShownLaws.{SaysWhatIsAround}
use Rattle.laws_code.specs.ShownRuns.{ShownExterns}
use Rattle.laws_examples.specs.Extract.{extract_program}
use Rattle.laws_examples.specs.MeaningForms.{answers, given, v}

abbrev pub extract_notation : Notation
extract_notation = notation_of extract_program gives_one false

-- an integer by what stands behind its digits; and each function answers its first argument
abbrev pub shown_literal : Literal → Value
shown_literal (bool_literal b ty) = truth b
shown_literal (int_literal z ending) = atom ending z

abbrev pub literal_by_ending : Literal → Value
literal_by_ending (bool_literal b ty) = truth b
literal_by_ending (int_literal z ty) = atom (extract_notation.ending ty) z

abbrev pub first_of : Values → Content
first_of no_value = nothing
first_of (value_and x xs) = just (one x)

abbrev pub by_endings : TotalMeaning
by_endings = record { literals = literal_by_ending; constants = λ name. v (pos 0); extractors = λ t x. just (one x); pures = λ t xs. first_of xs; impures = λ t before. one (v (pos 0)) }

-- the same, around the text
abbrev pub around_extract : ShownExterns
around_extract = record {
  literals = λ l. Some (shown_literal l);
  constants = λ name. Some (v (pos 0));
  is_impure = is_impure_number extract_program;
  pures = λ f xs. Some (first_of xs);
  impures = λ before c. Some (one (v (pos 0)));
}

-- all premises, on each number; and on 1 the rules choose 10
pub record TextPremisesHold : Type 0 where
  pub single : is_multi extract_program 1 ≡ false
  pub called : AreCalledAlike extract_program extract_notation around_extract.is_impure
  pub serves : (z : ℤ) → Serves extract_program (total by_endings) (given z) (rules_of extract_program 1)
  pub apart : TellsConstantsApart extract_program (total by_endings) (rules_of extract_program 1)
  pub around : SaysWhatIsAround extract_notation (total by_endings) around_extract (choice extract_program (total by_endings) (rules_of extract_program 1) (given (pos 1))).calls
  pub ten : choice extract_program (total by_endings) (rules_of extract_program 1) (given (pos 1)) ≡ answers (pos 10)
