-- What is made of texts whose definitions are accepted, and how it is written.
use Rattle.std.specs.Prelude.{ℕ, true, List, Option, ⊤, string_bytes}
use Rattle.cranelift_isle.specs.Lowerings.{AreAccepted}
use Rattle.cranelift_isle.specs.Syntax.{Definition}
use Rattle.app_command.specs.Outputs.{IsNothingWritten, IsWrittenOut}
use Rattle.app_command.specs.Readings.{none_without, AreOfTexts}
use Rattle.app_command.specs.declared.output.Ending.{Ending}
use Rattle.app_conditions.specs.declared.run.Made.{Made}
use Rattle.app_conditions.specs.declared.run.Made.TheVariants as M

-- the definitions of texts, one text after another, are accepted
abbrev pub AreAcceptedTexts : List (List ℕ) → Type 0
AreAcceptedTexts texts = (defs : List Definition) × AreOfTexts none_without 0 texts defs × AreAccepted defs true

-- what is wrong, and nothing else
abbrev pub IsRefusal : Made → Type 0
IsRefusal (M.Text text) = ⊥
IsRefusal (M.Unshown text) = ⊥
IsRefusal (M.Wrong text) = ⊤
IsRefusal (M.Deep text) = ⊥

-- questions, and what is said of a rule, are made of accepted definitions alone
abbrev pub IsMadeOf : List (List ℕ) → Made → Type 0
IsMadeOf texts (M.Text text) = AreAcceptedTexts texts
IsMadeOf texts (M.Unshown text) = AreAcceptedTexts texts
IsMadeOf texts (M.Wrong text) = ⊤
IsMadeOf texts (M.Deep text) = ⊤

-- what is made is written: its text is all of standard output, which gets nothing where something is wrong
abbrev pub IsMadeWritten : Made → (old new : Option (List ℕ)) → Ending → Type 0
IsMadeWritten (M.Text text) old new ending = IsWrittenOut old new (string_bytes text) 0 ending
IsMadeWritten (M.Unshown text) old new ending = IsWrittenOut old new (string_bytes text) 1 ending
IsMadeWritten (M.Wrong text) old new ending = IsNothingWritten old new 1 ending
IsMadeWritten (M.Deep text) old new ending = IsNothingWritten old new 3 ending
