-- Which places the report of what is wrong with a text names.
use Rattle.std.specs.Prelude.{◌≡◌, List, [], ◌∷◌, ◌++◌}
use Rattle.core_syntax.specs.declared.syntax.Pos.{Pos}
use Rattle.text_reader.specs.declared.errors.Problem.{Problem}
use Rattle.text_reader.specs.declared.errors.Problem.TheVariants as P
use Rattle.text_reader.specs.declared.errors.TextError.{TextError}
use Rattle.report_print.specs.declared.report.Label.{Label}
use Rattle.report_print.specs.declared.report.Report.{Report}
use Rattle.report_print.specs.Reports.{places_of}

-- where the list begins that isn't ended
abbrev pub begin_of : Problem → List Pos
begin_of (P.Expected mistake) = []
begin_of (P.Unclosed begin) = begin ∷ []
begin_of (P.UnknownDefinition word) = []

-- the places are where the list begins that isn't ended, and the error's. Others may follow
abbrev pub AreAtError : TextError → List Label → Type 0
AreAtError error labels = (others : List Pos) × (places_of labels ≡ begin_of error.problem ++ (error.pos ∷ others))

abbrev pub IsAtError : TextError → Report → Type 0
IsAtError error report = AreAtError error report.labels.items

-- where a mistake is told first: of a list that isn't ended where that begins
abbrev pub first_of : Problem → Pos → Pos
first_of (P.Expected mistake) pos = pos
first_of (P.Unclosed begin) pos = begin
first_of (P.UnknownDefinition word) pos = pos

abbrev pub BeginsAt : Pos → Report → Type 0
BeginsAt pos report = (others : List Pos) × (places_of report.labels.items ≡ pos ∷ others)

abbrev pub BeginsAtError : TextError → Report → Type 0
BeginsAtError error report = BeginsAt (first_of error.problem error.pos) report
