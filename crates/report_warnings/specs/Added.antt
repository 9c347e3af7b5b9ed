-- Warnings that are added behind reports: of which kind they are, and which places they speak of.
use Rattle.std.specs.Prelude.{◌≡◌, ℕ, List, ◌++◌, map}
use Rattle.core_syntax.specs.SyntaxViews.{position}
use Rattle.model.specs.lists.Syntax.{Position}
use Rattle.report_print.specs.declared.report.Report.{Report}
use Rattle.report_print.specs.Reports.{places_of}

abbrev pub told_of : Report → List ℕ × List Position
told_of report = (report.kind.now, map position (places_of report.labels.items))

-- reports come behind those that were there, of which just this is told
abbrev pub AddsTold : List (List ℕ × List Position) → (before after : List Report) → Type 0
AddsTold told before after = (added : List Report) × (after ≡ before ++ added) × (map told_of added ≡ told)
