-- Of which kind a report is, and which places it speaks of.
use Rattle.std.specs.Prelude.{◌≡◌, List, [], ◌∷◌, ◌++◌, map}
use Rattle.core_syntax.specs.declared.syntax.Pos.{Pos}
use Rattle.report_print.specs.declared.report.Label.{Label}
use Rattle.report_print.specs.declared.report.Report.{Report}

abbrev pub places_of : List Label → List Pos
places_of labels = map (λ label. label.pos) labels

-- the same kind, and the same places
abbrev pub SpeaksAlike : (before after : Report) → Type 0
SpeaksAlike before after = (after.kind.now ≡ before.kind.now) × (places_of after.labels.items ≡ places_of before.labels.items)

-- the same kind, and one place more, behind the others
abbrev pub HasPlaceMore : Pos → (before after : Report) → Type 0
HasPlaceMore pos before after = (after.kind.now ≡ before.kind.now) × (places_of after.labels.items ≡ places_of before.labels.items ++ pos ∷ [])
