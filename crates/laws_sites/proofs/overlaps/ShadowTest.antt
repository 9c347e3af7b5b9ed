-- The test of shadows is exact.
use Rattle.std.proofs.Common.{◌≡◌, true, ℤ, ◌<ℤ◌, int_lt, arith}
use Rattle.std.proofs.lemmas.Bool.{and_parts, and_from}
use Rattle.std.specs.Bool.{Decides}
use Rattle.std.proofs.lemmas.Grind.{common_steps}
use Rattle.model.specs.sites.Overlap.{BuiltRule, Shadows, shadows}
use Rattle.laws_sites.proofs.overlaps.Overlaps.{subset_pair_decides}

above_from : (a b : ℤ) → a <ℤ b → int_lt a b ≡ true
above_from a b h = grind (arith, common_steps)

pub shadows_decides : (a b : BuiltRule) → Decides (shadows a b) (Shadows a b)
shadows_decides a b = grind (arith, common_steps, and_parts, subset_pair_decides, and_from, above_from)
