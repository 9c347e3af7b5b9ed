-- What holds of built sets of well-typed programs.
use Rattle.std.specs.Prelude.{ℕ}
use Rattle.model.specs.rules.Program.{Program}
use Rattle.model.specs.sites.Sites.{SiteSet}
use Rattle.model.specs.sites.RuleSets.{IsBuilt}
use Rattle.laws_typing.specs.WellTypedPrograms.{IsWellTypedProgram}

-- what holds of every set that is built of a well-typed program's rules
abbrev pub OfBuiltSets : (Program → ℕ → SiteSet → Type 0) → Type 0
OfBuiltSets P = (p : Program) (t : ℕ) (set : SiteSet) → IsWellTypedProgram p → IsBuilt p t set → P p t set
