-- The names of a function's code are read by themselves.
use Rattle.model_code.specs.Lexing.{AreWhole}
use Rattle.model_code.specs.Closed.{AreClosedNames}
use Rattle.rust_text.specs.ProgramNames.{NameSetting, names_of}

-- whatever texts names have: no quotes begin in what is written that don't end there, no comment begins, and places stay on their line
abbrev pub NamesAreClosed : Type 0
NamesAreClosed = (s : NameSetting) → AreClosedNames (names_of s)

abbrev pub NamesAreWhole : Type 0
NamesAreWhole = (s : NameSetting) → AreWhole (names_of s)
