-- Reports of samples: a mask and a wrong overlap are each reported once; multi calls are gone over.
use Rattle.std.specs.Prelude.{◌∷◌, []}
use Rattle.model.specs.sites.DemandedGates.{GoesOverMultiCalls, HasNoPartialMulti}
use Rattle.model.specs.visits.Demands.{demands_of}
use Rattle.model.specs.sites.Overlap.{HasDistinctPositions, OverlapsWrongly, overlap_reports, shadow_reports, wrong_overlaps}
use Rattle.laws_sites.specs.ReportLaws.{IsListedOnce, IsOnlyOfMask}
use Rattle.laws_examples.specs.Multi.{each_m, multi_program}
use Rattle.laws_examples.specs.Overlap.{overlap_program}
use Rattle.laws_examples.specs.Shadow.{shadow_program}
use Rattle.laws_examples.specs.Written.{at}

-- the two rules of the shadow sample stand apart, and the mask has one report
abbrev pub ShadowIsReportedOnce : Type 0
ShadowIsReportedOnce = HasDistinctPositions shadow_program × IsOnlyOfMask (shadow_reports shadow_program) (record { mask = at 1; shadowed = at 2 ∷ [] })

-- those of the overlap sample overlap wrongly, and stand in one report
abbrev pub OverlapIsListedOnce : Type 0
OverlapIsListedOnce = OverlapsWrongly overlap_program 0 0 1 × IsListedOnce (overlap_reports (wrong_overlaps overlap_program)) (at 1) (at 2)

-- no term of the multi sample is multi and partial, so what its rule goes over are multi calls
abbrev pub MultiGoesOverMultiCalls : Type 0
MultiGoesOverMultiCalls = HasNoPartialMulti multi_program × GoesOverMultiCalls multi_program (demands_of multi_program each_m)
