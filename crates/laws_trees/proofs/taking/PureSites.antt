-- Whether binding a site makes no impure call, as a test.
use Rattle.std.proofs.Common.{◌≡◌, suc, Bool, true, false, Option, Some, arith}
use Rattle.std.proofs.lemmas.Grind.{common_steps}
use Rattle.model.specs.sites.Sites.{Site, constructor_site}
use Rattle.model.specs.trees.Collects.{IsPureSite}

abbrev pub calls_nothing : Option Site → Bool
calls_nothing (Some (constructor_site term sources (suc before))) = false
calls_nothing _ = true

pub pure_site : (b : Site) → calls_nothing (Some b) ≡ true → IsPureSite b
pure_site b h = grind (arith, common_steps)

pub nothing_called : (b : Site) → IsPureSite b → calls_nothing (Some b) ≡ true
nothing_called b h = grind (arith, common_steps)
