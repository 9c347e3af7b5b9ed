-- Where the report of a mistake is first.
use Rattle.std.proofs.Common.{◌≡◌, List, [], ◌∷◌, ◌++◌, drop, take, ap, ◌∙◌, sym, subst}
use Rattle.core_syntax.specs.declared.syntax.Pos.{Pos}
use Rattle.text_reader.specs.declared.errors.Problem.{Problem}
use Rattle.text_reader.specs.declared.errors.Problem.TheVariants as P
use Rattle.text_reader.specs.declared.errors.TextError.{TextError}
use Rattle.report_print.specs.declared.report.Label.{Label}
use Rattle.report_print.specs.declared.report.Report.{Report}
use Rattle.report_print.specs.Reports.{places_of}
use Rattle.report_errors.specs.Places.{begin_of, first_of, BeginsAtError, IsAtError}

-- places begin with this one
abbrev pub BeginWith : Pos → List Pos → Type 0
BeginWith pos ps = (others : List Pos) × (ps ≡ pos ∷ others)

first_told : (problem : Problem) (pos : Pos) (others ps : List Pos) → ps ≡ begin_of problem ++ (pos ∷ others) → BeginWith (first_of problem pos) ps
first_told (P.Expected mistake) pos others ps e = (others, e)
first_told (P.Unclosed begin) pos others ps e = (pos ∷ others, e)
first_told (P.UnknownDefinition word) pos others ps e = (others, e)

pub at_error : (error : TextError) (report : Report) → IsAtError error report → BeginsAtError error report
at_error error report h = first_told error.problem error.pos h.0 (places_of report.labels.items) h.1

first_same : (p q : Pos) (ps qs : List Pos) → p ∷ ps ≡ q ∷ qs → p ≡ q
first_same p q ps qs e = cc e

-- the second may go
pub second_gone : (labels kept : List Label) (pos : Pos) → kept ≡ take 1 labels ++ drop 2 labels → BeginWith pos (places_of labels) → BeginWith pos (places_of kept)
second_gone [] kept pos is h = absurd (cc h.1)
second_gone (l ∷ labels) kept pos is h =
    (places_of (drop 1 labels), ap places_of is ∙ ap (λ p. p ∷ places_of (drop 1 labels)) (first_same l.pos pos (places_of labels) h.0 h.1))
