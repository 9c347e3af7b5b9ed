-- Sites that are listed.
use Rattle.std.specs.Prelude.{◌≡◌, ℕ, List, ◌++◌, map}
use Rattle.model.specs.sites.Sites.{SiteTerm}
use Rattle.spec_cases.specs.Namings.{Naming}

-- what numbers of a list stand for
abbrev pub sites : Naming → List ℕ → List SiteTerm
sites v ns = map v.site ns

-- numbers are added, of these sites
abbrev pub Lists : Naming → List ℕ → List ℕ → List SiteTerm → Type 0
Lists v old new added = sites v new ≡ sites v old ++ added
