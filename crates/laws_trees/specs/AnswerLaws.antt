-- What building gives of a well-typed program, and that the numbers of its sets lie in their ranges.
use Rattle.std.specs.Prelude.{◌≡◌, ℕ, List, map, All}
use Rattle.model.specs.claims.SetMeanings.{HasNumbersInRange}
use Rattle.model.specs.rules.Program.{Program, terms_with_rules}
use Rattle.model.specs.sites.Sites.{SiteSet}
use Rattle.model.specs.sites.Overlap.{build_reports}
use Rattle.model.specs.sites.RuleSets.{IsBuilt}
use Rattle.model.specs.claims.Layers.{BuildAnswers}
use Rattle.laws_typing.specs.WellTypedPrograms.{IsWellTypedProgram}
use Rattle.laws_sites.specs.BuiltSets.{OfBuiltSets}

-- the integer literals of a built set lie in the ranges of their types
abbrev pub BuiltSetsHaveNumbersInRange : Type 0
BuiltSetsHaveNumbersInRange = OfBuiltSets (λ p t set. HasNumbersInRange p set)

-- built sets of all terms with rules, and these reports, are what building gives
abbrev pub BuiltSetsAreAnswered : Type 0
BuiltSetsAreAnswered =
    (p : Program) (sets : List (ℕ × SiteSet)) → IsWellTypedProgram p → map (λ s. s.0) sets ≡ terms_with_rules p
    → All (λ s. IsBuilt p s.0 s.1) sets
    → BuildAnswers p sets (build_reports p)
