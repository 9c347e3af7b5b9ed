-- That an error of building names a limit only where it was passed.
use Rattle.std.specs.Prelude.{◌≡◌, false, List, ◌++◌, map, All}
use Rattle.model.specs.rules.Program.{Program}
use Rattle.model.specs.sites.Overlap.{RuleReport, build_reports}
use Rattle.model.specs.claims.Refusals.{refusal_of, NamesOnlyPassed, PassedInBuilding}
use Rattle.model.specs.claims.Layers.{is_left_out}

-- what building reports of a program names only limits that were passed, and so it is with reports of overlaps and shadows
-- behind it
abbrev pub ReportsNamePassedLimits : Type 0
ReportsNamePassedLimits =
    (p : Program)
    → NamesOnlyPassed (PassedInBuilding p) (map refusal_of (build_reports p))
    × ((later : List RuleReport) → All (λ r. is_left_out r ≡ false) later → NamesOnlyPassed (PassedInBuilding p) (map refusal_of (build_reports p ++ later)))
