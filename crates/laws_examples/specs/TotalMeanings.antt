-- Total meanings of what the sample with an extractor calls: one whose extractor answers its argument, and one whose extractor
-- answers a boolean, which isn't well typed.
use Rattle.std.specs.Prelude.{◌≡◌, ◌∷◌, [], ℤ, pos, true}
use Rattle.model.specs.rules.Values.{Value, truth, atom}
use Rattle.model.specs.rules.Meaning.{Content, one, just, Literal, bool_literal, int_literal, TotalMeaning, total}
use Rattle.model.specs.rules.Choice.{choice}
use Rattle.model.specs.rules.Program.{Program, rules_of}
use Rattle.model.specs.sites.Serves.{Serves, TellsConstantsApart}
use Rattle.laws_trees.specs.TotalLaws.{IsTotalFor}
use Rattle.laws_examples.specs.Extract.{extract_program}
use Rattle.laws_examples.specs.MeaningForms.{answers, given, v}

-- the value that a literal writes
abbrev pub written : Literal → Value
written (bool_literal b ty) = truth b
written (int_literal z ty) = atom ty z

-- what the extractor answers to each value, and nothing else of note
abbrev pub extracting : (Value → Content) → TotalMeaning
extracting answer = record { literals = written; constants = λ name. v (pos 0); extractors = λ t x. answer x; pures = λ t xs. one (v (pos 0)); impures = λ t before. one (v (pos 0)) }

abbrev pub echo : TotalMeaning
echo = extracting (λ x. just (one x))

abbrev pub misfit : TotalMeaning
misfit = extracting (λ x. just (one (truth true)))

-- the echo is well typed and tells the constants apart, and the misfit isn't well typed
abbrev pub EchoIsTotal : Type 0
EchoIsTotal = IsTotalFor extract_program 1 echo × TellsConstantsApart extract_program (total echo) (rules_of extract_program 1)

abbrev pub MisfitIsNotTotal : Type 0
MisfitIsNotTotal = IsTotalFor extract_program 1 misfit → ⊥

-- so it is with a constant more, of a type that the program hasn't: no rule names it
abbrev pub with_a_constant : Program
with_a_constant = record extract_program { constants = (20, 99) ∷ [] }

abbrev pub EchoIsTotalWithAConstant : Type 0
EchoIsTotalWithAConstant = IsTotalFor with_a_constant 1 echo

-- the echo serves for each number
abbrev pub EchoServes : Type 0
EchoServes = (z : ℤ) → Serves extract_program (total echo) (given z) (rules_of extract_program 1)

-- and on 1 it gives 10, on 7 it gives 7
abbrev pub EchoGives : ℤ → ℤ → Type 0
EchoGives z result = choice extract_program (total echo) (rules_of extract_program 1) (given z) ≡ answers result
